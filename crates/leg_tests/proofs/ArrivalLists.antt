-- The lists of the lines that arrive, one number more; and what they are for the map turned round.
use Prim.Native.Nat.{ℕ, ◌+◌, ◌-◌, ◌≤◌, ◌<◌}
use mathlib.Core.Path.{◌≡◌, sym, ◌∙◌, ap}
use mathlib.Core.List.{List}
use native.Mathlib.Decide.{dec_lt}
use native.Mathlib.Omega.{arith}
use lib.ListN.{length, get_or, set}
use lib.Seq.{get_or-set_same, get_or-set_other}
use Rattle.model.specs.Map.{Line, Map}
use Rattle.model.specs.Lines.{line_at}
use Rattle.buffers.proofs.Kept.{kept_none, kept_then, kept_set, kept_within}
use Rattle.work_area.specs.Mirror.{mirror}
use Rattle.search_cells.specs.Area.{latest}
use Rattle.turning.proofs.Straight.{mirrored_twice, line_alike}
use Rattle.sole_ways.specs.SoleWays.{Arriving}
use Rattle.leg_tests.specs.Arrivals.{arrivals_length, Firsts, Nexts}

module _ {m : Map} {lines : ℕ} {s : List ℕ} {a : List ℕ} where
  pub firsts_none : Firsts m lines s 0 a a
  firsts_none = record { firsts = λ j h l. absurd (omega arith); kept = kept_none }

  pub firsts_more : {b : List ℕ} (n x : ℕ) → n + 1 < length b → x ≡ latest (mirror m) (line_at m (get_or s n 0)).end lines → Firsts m lines s n a b →
      Firsts m lines s (n + 1) a (set b (n + 1) x)
  firsts_more {b} n x room e k =
      record {
        firsts = λ j h l. go j h l (dec_lt j (n + 1));
        kept = kept_then (kept_within (omega arith) (omega arith) k.kept) (kept_set (n + 1) x (omega arith) (omega arith));
      }
    where
      go : (j : ℕ) → 0 < j → j ≤ n + 1 → Dec (j < n + 1) → get_or (set b (n + 1) x) j 0 ≡ latest (mirror m) (line_at m (get_or s (j - 1) 0)).end lines
      go j h l (yes earlier) = get_or-set_other b (n + 1) j x 0 (λ z. omega arith) ∙ k.firsts j h (omega arith)
      go j h l (no last) =
          let here : j ≡ n + 1 = omega arith in
          let at : n + 1 - 1 ≡ n = omega arith in
          rw (here, at) (get_or-set_same b (n + 1) x 0 room ∙ e)

module _ {m : Map} {lines : ℕ} {a : List ℕ} where
  pub nexts_none : Nexts m lines 0 a a
  nexts_none = record { nexts = λ l h. absurd (omega arith); kept = kept_none }

  pub nexts_more : {b : List ℕ} (n x : ℕ) → 65 + n < length b → x ≡ latest (mirror m) (line_at (mirror m) n).start n → Nexts m lines n a b →
      Nexts m lines (n + 1) a (set b (65 + n) x)
  nexts_more {b} n x room e k =
      record {
        nexts = λ l h. go l h (dec_lt l n);
        kept = kept_then (kept_within (omega arith) (omega arith) k.kept) (kept_set (65 + n) x (omega arith) (omega arith));
      }
    where
      go : (l : ℕ) → l < n + 1 → Dec (l < n) → get_or (set b (65 + n) x) (65 + l) 0 ≡ latest (mirror m) (line_at (mirror m) l).start l
      go l h (yes earlier) = get_or-set_other b (65 + n) (65 + l) x 0 (λ z. omega arith) ∙ k.nexts l earlier
      go l h (no last) = let here : l ≡ n = omega arith in rw here (get_or-set_same b (65 + n) x 0 room ∙ e)

-- Both are the lists of the lines that arrive, for the map turned round.
pub arriving : {m : Map} {lines : ℕ} (s : List ℕ) {a b c : List ℕ} → length s ≤ 64 → length a ≡ arrivals_length → Firsts m lines s (length s) a b →
    Nexts m lines lines b c → Arriving (mirror m) lines s c
arriving {m} {lines} s few size f n =
    record {
      size = n.kept.same ∙ f.kept.same ∙ size;
      firsts = λ j h l.
          n.kept.below j (omega arith) ∙ f.firsts j h l
          ∙ ap (λ (x : Line). latest (mirror m) x.end lines) (sym (line_alike (mirrored_twice m) (get_or s (j - 1) 0)));
      nexts = λ l h. n.nexts l h;
    }
