-- One note more is stored.
use Rattle.std.proofs.Common.{ℕ, ◌+◌, ◌*◌, ◌<◌, ◌≡◌, refl, sym, subst, ◌∙◌, List, length, get_or, arith}
use native.Mathlib.Decide.{dec_lt}
use lib.ListN.{set}
use lib.Seq.{get_or-set_same, get_or-set_other}
use Rattle.sole_ways.specs.SoleWays.{Marks}
use Rattle.leg_tests.specs.LegTests.{Alone}
use Rattle.buffers.proofs.Kept.{kept_none, kept_then, kept_set}
use Rattle.leg_tests.proofs.note_alone.Goals as goal

note_more : (P : ℕ → ℕ → Type 0) (table : List ℕ) (i x : ℕ) → 65 * i < length table → ((k : ℕ) → k < i → P k (get_or table (65 * k) 0)) → P i x →
    (k : ℕ) → k < i + 1 → P k (get_or (set table (65 * i) x) (65 * k) 0)
note_more P table i x room before here k h = go (dec_lt k i)
  where
    go : Dec (k < i) → P k (get_or (set table (65 * i) x) (65 * k) 0)
    go (yes earlier) = subst (P k) (sym (get_or-set_other table (65 * i) (65 * k) x 0 (λ e. omega arith))) (before k earlier)
    go (no last) =
        let e : k ≡ i = omega arith in
        subst (λ (q : ℕ). P q (get_or (set table (65 * i) x) (65 * q) 0)) (sym e) (subst (P i) (sym (get_or-set_same table (65 * i) x 0 room)) here)

pub loop-i-init : goal.loop-i-init
loop-i-init c = record { kept = record { legs = λ i j h l. refl; kept = kept_none }; noted = λ m held lists k h. absurd (omega arith) }

pub loop-i-preserved : goal.loop-i-preserved
loop-i-preserved c =
    let a = c.args in
    let l = c.loop-i in
    record {
      kept = record {
        legs = λ k j h u. get_or-set_other l.table (65 * l.i) (65 * k + j) c.alone_mark.result 0 (λ e. omega arith) ∙ l.invariant.kept.legs k j h u;
        kept = kept_then l.invariant.kept.kept (kept_set (65 * l.i) c.alone_mark.result (omega arith) (omega arith));
      };
      noted = λ m held lists. note_more (λ k x. Marks (Alone m a.stretch.lines a.stretch.numbers.now k) x) l.table l.i c.alone_mark.result (omega arith)
          (l.invariant.noted m held lists) (c.alone_mark.ensures m held lists);
    }

pub returns : goal.returns
returns c = let l = c.loop-i in record { notes_kept = l.invariant.kept; noted = λ m held lists k h. l.invariant.noted m held lists k (omega arith) }
