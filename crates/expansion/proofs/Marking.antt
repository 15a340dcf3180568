-- Which lines are marked by which: how a line marks those that it may not turn into.
use Rattle.work_area.specs.Area.{next_from, last_barred_from, search_to, ban_chain, ban_second, ban_earlier}
use Rattle.search_cells.specs.Area.{Mirrored, list_weight, mark_weight, next_leaving, listed, marked}
use Rattle.expansion.specs.Steps.{Aside}
use Rattle.model.specs.Map.{greatest_line_count, Map}
use Rattle.model.specs.Lines.{turn_among}
use Prim.Native.Nat.{ℕ, ◌+◌, ◌-◌, ◌*◌, ◌/◌, ◌%◌, ◌≤◌, ◌<◌}
use mathlib.Core.Path.{◌≡◌, refl, sym, ◌∙◌, ap}
use mathlib.Core.Bool.{true}
use mathlib.Core.List.{List}
use mathlib.Core.Logic.{◌≢◌, ◌⊎◌, inr}
use native.Mathlib.Omega.{arith}
use lib.ListN.{length, get_or, set}
use lib.Seq.{get_or-set_same, get_or-set_other}
use Rattle.buffers.specs.Kept.{Kept}
use Rattle.buffers.proofs.Kept.{kept_none, kept_then, kept_within, kept_set}
use Rattle.buffers.proofs.Cases.{here_or}
use Rattle.banned_turns.proofs.Chains.{WalkAt, walk_start, walk_on, walk_less}
use Rattle.search_cells.proofs.Holding.{held_kept, few}
use Rattle.search_cells.proofs.Turns.{second_in, second_banned}
use Rattle.search_cells.proofs.Keeping.{marked_same}

-- ---- cells

-- A cell of the next lines that is marked by line `l`: the next line and the list stay.
mark_next : (x l : ℕ) → (x % mark_weight + mark_weight * l) % list_weight ≡ x % list_weight
mark_next x l = omega arith

mark_list : (x l : ℕ) → (x % mark_weight + mark_weight * l) / list_weight % list_weight ≡ x / list_weight % list_weight
mark_list x l = omega arith

mark_now : (x l : ℕ) → (x % mark_weight + mark_weight * l) / mark_weight ≡ l
mark_now x l = omega arith

-- ---- what is done aside

pub aside_none : {m : Map} {n : ℕ} {w : List ℕ} → Aside m n w w
aside_none = record { nexts = λ k k<. (refl, refl); marks = λ k. k; kept = kept_none }

pub aside_then : {m : Map} {n : ℕ} {u w v : List ℕ} → Aside m n u w → Aside m n w v → Aside m n u v
aside_then a b =
    record {
      nexts = λ k k<. ((b.nexts k k<).0 ∙ (a.nexts k k<).0, (b.nexts k k<).1 ∙ (a.nexts k k<).1);
      marks = λ k. b.marks (a.marks k);
      kept = kept_then a.kept b.kept;
    }

pub aside_last : {m : Map} {n : ℕ} {w v : List ℕ} → n ≤ greatest_line_count → Kept last_barred_from search_to w v → Aside m n w v
aside_last {m} {n} {w} {v} n≤ k =
    let same : (i : ℕ) → i < n → get_or v (next_from + i) 0 ≡ get_or w (next_from + i) 0 = λ i i<. k.below (next_from + i) (omega arith) in
    record {
      nexts = λ i i<. (ap (λ (x : ℕ). x % list_weight) (same i i<), ap (λ (x : ℕ). x / list_weight % list_weight) (same i i<));
      marks = marked_same m w v (λ i i<. ap (λ (x : ℕ). x / mark_weight) (same i i<));
      kept = kept_within (omega arith) (omega arith) k;
    }

-- ---- a line marks the lines that it may not turn into

-- The chain of line `l` is gone along up to `x`: those that are passed are marked.
pub record Marking (m : Map) (n l x : ℕ) (w v : List ℕ) : Type 0 where
  pub walk : WalkAt m.bans l greatest_line_count x
  pub told : (j : ℕ) → j < n → (WalkAt m.bans l j x → ⊥) → marked v j ≡ l
  pub aside : Aside m n w v

pub marking_start : {m : Map} {n l x : ℕ} {w : List ℕ} → Mirrored w n m → x ≡ ban_chain m.bans l → Marking m n l x w w
marking_start {l = l} {x = x} h e =
    record {
      walk = walk_start h.bans_held l greatest_line_count x e;
      told = λ j j< d. absurd (d (walk_start h.bans_held l j x e));
      aside = aside_none;
    }

module _ {m : Map} {n l x : ℕ} {w v : List ℕ} (h : Mirrored w n m) (l< : l < n) (k : Marking m n l x w v) (pos : 0 < x) where
  pub held : Mirrored v n m
  held = held_kept (omega arith) k.aside.kept h

  -- Line `s` is marked.
  module _ (s y : ℕ) (at : s ≡ get_or v (ban_second (x - 1)) 0) where
    abbrev v₁ : List ℕ
    v₁ = set v (next_from + s) y

    s< : s < n
    s< = omega (arith, at, second_in held k.walk pos)

    pub fits : next_from + s < length v
    fits = let n≤ = few h in let f = held.full in let t = s< in omega arith

    cell : (j : ℕ) → j ≢ s → get_or v₁ (next_from + j) 0 ≡ get_or v (next_from + j) 0
    cell j d = get_or-set_other v (next_from + s) (next_from + j) y 0 (λ e. d (omega arith))

    pub marking_less : {next : ℕ} → next ≡ get_or v₁ (ban_earlier (x - 1)) 0 → next < x
    marking_less e =
        let n≤ = few h in
        let t = s< in
        omega (arith, get_or-set_other v (next_from + s) (ban_earlier (x - 1)) y 0 (omega arith), walk_less held.bans_held l greatest_line_count x pos k.walk)

    module _ (is : y ≡ get_or v (next_from + s) 0 % mark_weight + mark_weight * l) where
      marked_now : marked v₁ s ≡ l
      marked_now = ap (λ (x : ℕ). x / mark_weight) (get_or-set_same v (next_from + s) y 0 fits) ∙ rw is (mark_now _ l)

      aside_one : Aside m n v v₁
      aside_one =
          let n≤ = few h in
          record {
            nexts = here_or (λ j. j < n → (next_leaving v₁ j ≡ next_leaving v j) × (listed v₁ j ≡ listed v j)) s
                (λ j<.
                let e = get_or-set_same v (next_from + s) y 0 fits in
                (ap (λ (x : ℕ). x % list_weight) e ∙ rw is (mark_next _ l), ap (λ (x : ℕ). x / list_weight % list_weight) e ∙ rw is (mark_list _ l)))
                (λ j d j<. (ap (λ (x : ℕ). x % list_weight) (cell j d), ap (λ (x : ℕ). x / list_weight % list_weight) (cell j d)));
            marks = λ marks. here_or (λ j. j < n → (marked v₁ j ≡ j) ⊎ (turn_among m.bans (marked v₁ j) j ≡ true)) s
                (λ j<. inr (rw (marked_now, at) (second_banned held k.walk pos)))
                (λ j d j<. rw (ap (λ (x : ℕ). x / mark_weight) (cell j d)) (marks j j<));
            kept = kept_set (next_from + s) y (omega arith) (let t = s< in omega arith);
          }

      pub marking_step : {next : ℕ} → next ≡ get_or v₁ (ban_earlier (x - 1)) 0 → Marking m n l next w v₁
      marking_step {next} e =
          let n≤ = few h in
          let t = s< in
          let z : next ≡ get_or v (ban_earlier (x - 1)) 0 = e ∙ get_or-set_other v (next_from + s) (ban_earlier (x - 1)) y 0 (omega arith) in
          record {
            walk = rw z (walk_on held.bans_held l greatest_line_count x pos k.walk (λ i. omega (arith, at, s<)));
            told = here_or (λ j. j < n → (WalkAt m.bans l j next → ⊥) → marked v₁ j ≡ l) s
                (λ j< d. marked_now)
                (λ j o j< d.
                ap (λ (x : ℕ). x / mark_weight) (cell j o)
                ∙ k.told j j< (λ a. d (rw z (walk_on held.bans_held l j x pos a (λ i. o (sym i ∙ sym at))))));
            aside = aside_then k.aside aside_one;
          }
