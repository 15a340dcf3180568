-- Bytes put into a list: at its start, and one place up.
use Prim.Native.Nat.{ℕ, ◌+◌, ◌-◌, ◌≤◌, ◌<◌}
use mathlib.Core.Path.{◌≡◌, refl, sym, ◌∙◌, ap}
use mathlib.Core.List.{List, [], ◌∷◌}
use mathlib.Core.Logic.{⊎_elim}
use native.Mathlib.Nat.{eq-or-lt_of_le}
use native.Mathlib.Omega.{arith}
use lib.ListN.{length, take, drop, set, get_or, length-take, length-drop, length-set}
use lib.Seq.{ext_get_or, get_or-set_same, get_or-set_other, get_or-take, get_or-drop}
use Rattle.model.specs.Work.{placed}

pub put_one : (x : ℕ) (l : List ℕ) → 1 ≤ length l → set l 0 x ≡ placed (x ∷ []) l
unfolding placed
put_one x [] h = absurd (omega arith)
put_one x (a ∷ l) h = refl

pub put_two : (x y : ℕ) (l : List ℕ) → 2 ≤ length l → set (set l 0 x) 1 y ≡ placed (x ∷ y ∷ []) l
unfolding placed
put_two x y [] h = absurd (omega arith)
put_two x y (a ∷ []) h = absurd (omega arith)
put_two x y (a ∷ b ∷ l) h = refl

-- `count` elements moved from place 1 to place 2, and all behind them kept.
module _ (count : ℕ) (p q : List ℕ) (long : count + 2 ≤ length p) (same : length q ≡ length p) where
  pub moved_up : ((k : ℕ) → 0 < k → k ≤ count → get_or q (k + 1) 0 ≡ get_or p k 0) → take count (drop 2 q) ≡ take count (drop 1 p)
  moved_up moved =
      ext_get_or 0 (take count (drop 2 q)) (take count (drop 1 p)) lengths λ i h.
      let below : i < count = omega (arith, length-take count (drop 2 q)) in
      get_or-take count (drop 2 q) i 0 below ∙ get_or-drop 2 q i 0 ∙ ap (λ (n : ℕ). get_or q n 0) (up i) ∙ moved (1 + i) (omega arith) (omega arith)
      ∙ sym (get_or-drop 1 p i 0) ∙ sym (get_or-take count (drop 1 p) i 0 below)
    where
      up : (i : ℕ) → 2 + i ≡ 1 + i + 1
      up i = omega arith

      lengths : length (take count (drop 2 q)) ≡ length (take count (drop 1 p))
      lengths = simp (length-take, length-drop) (omega arith)

  pub kept_behind : ((k : ℕ) → count + 1 < k → get_or q k 0 ≡ get_or p k 0) → drop (count + 2) q ≡ drop (count + 2) p
  kept_behind kept =
      ext_get_or 0 (drop (count + 2) q) (drop (count + 2) p) (simp length-drop (omega arith)) λ i h.
      get_or-drop (count + 2) q i 0 ∙ kept (count + 2 + i) (omega arith) ∙ sym (get_or-drop (count + 2) p i 0)

-- While they move, from the last one down: those up to place i + 1 stand where they stood.
pub record Moving (count : ℕ) (p q : List ℕ) (i : ℕ) : Type 0 where
  pub within : i ≤ count
  pub room : count + 2 ≤ length p
  pub same : length q ≡ length p
  pub before : (k : ℕ) → k ≤ i + 1 → get_or q k 0 ≡ get_or p k 0
  pub moved : (k : ℕ) → i < k → k ≤ count → get_or q (k + 1) 0 ≡ get_or p k 0
  pub behind : (k : ℕ) → count + 1 < k → get_or q k 0 ≡ get_or p k 0

pub moving_start : (count : ℕ) (p : List ℕ) → count + 2 ≤ length p → Moving count p p count
moving_start count p h =
    record {
      within = omega arith;
      room = h;
      same = refl;
      before = λ k l. refl;
      moved = λ k l m. absurd (omega arith);
      behind = λ k l. refl;
    }

pub moving_step : {count : ℕ} {p q : List ℕ} {i : ℕ} → Moving count p q i → 0 < i → Moving count p (set q (i + 1) (get_or q i 0)) (i - 1)
moving_step {count} {p} {q} {i} v h =
    record {
      within = omega (arith, v.within);
      room = v.room;
      same = length-set q (i + 1) (get_or q i 0) ∙ v.same;
      before = λ k l. get_or-set_other q (i + 1) k (get_or q i 0) 0 (λ e. omega arith) ∙ v.before k (omega arith);
      moved = λ k l m. ⊎_elim (λ e. here k (sym e)) (λ o. above k o m) (eq-or-lt_of_le {n = i} {m = k} (omega arith));
      behind = λ k l. get_or-set_other q (i + 1) k (get_or q i 0) 0 (λ e. omega (arith, v.within)) ∙ v.behind k l;
    }
  where
    there : i + 1 < length q
    there = omega (arith, v.within, v.room, v.same)

    here : (k : ℕ) → k ≡ i → get_or (set q (i + 1) (get_or q i 0)) (k + 1) 0 ≡ get_or p k 0
    here k e = rw e (get_or-set_same q (i + 1) (get_or q i 0) 0 there ∙ v.before i (omega arith))

    above : (k : ℕ) → i < k → k ≤ count → get_or (set q (i + 1) (get_or q i 0)) (k + 1) 0 ≡ get_or p k 0
    above k l m = get_or-set_other q (i + 1) (k + 1) (get_or q i 0) 0 (λ e. omega arith) ∙ v.moved k l m
