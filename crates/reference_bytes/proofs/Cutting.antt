-- The legs that the cuts of a table make, one by one.
use Prim.Native.Nat.{ℕ, zero, suc, ◌+◌, ◌-◌, ◌≤◌, ◌<◌}
use mathlib.Core.Path.{◌≡◌, refl, sym, ◌∙◌, ap}
use mathlib.Core.List.{List, [], ◌∷◌, ◌++◌}
use native.Mathlib.Numerals.{add-one}
use native.Mathlib.Omega.{arith}
use lib.ListN.{length, get_or, take, drop, length-take}
use lib.Seq.{slice, take-add, drop_at, length-take-le}
use lib.Dec.{eqb}
use Rattle.model.specs.Map.{Map}
use Rattle.model.specs.Choice.{Good}
use Rattle.point_choice.specs.Cuts.{Route, there, leg, cut_legs}
use Rattle.reference_bytes.specs.Put.{cut_at, cut_leg, CutInto}
use Rattle.point_choice.proofs.Routes.{short}

-- Leg `t` of a route.
route_at : {good : ℕ → ℕ → Type 0} {n i : ℕ} {cs : List ℕ} → Route good n i cs → (t : ℕ) → t < length cs →
    (get_or (i ∷ cs) t 0 < get_or cs t 0) × (get_or cs t 0 ≤ n) × good (get_or (i ∷ cs) t 0) (get_or cs t 0)
route_at there t h = absurd (omega arith)
route_at (leg l g r) zero h = (l, omega (arith, short r), g)
route_at (leg l g r) (suc t) h = route_at r t (omega arith)

-- A part of some lines, as it is lent.
pub lent_part : (from to : ℕ) (ls : List ℕ) → from ≤ to → to ≤ length ls → take (to - from) (drop from ls) ≡ slice from to ls
lent_part from to ls h k =
    let e : from + (to - from) ≡ to = omega arith in
    sym (ap (drop from) (ap (λ (n : ℕ). take n ls) (sym e) ∙ take-add from (to - from) ls)
    ∙ drop_at (take from ls) (take (to - from) (drop from ls)) from (length-take-le from ls (omega arith)))

module _ {m : Map} {lines table : List ℕ} {legs : ℕ} {cs : List ℕ} (k : CutInto m lines table legs cs) (t : ℕ) (h : t < legs) where
  here : (cut_at cs t < cut_at cs (t + 1)) × (cut_at cs (t + 1) ≤ length lines) × Good m (eqb (cut_at cs (t + 1)) (length lines)) (cut_leg lines cs t)
  here = rw add-one (route_at k.route t (omega (arith, k.count)))

  pub leg_good : Good m (eqb (cut_at cs (t + 1)) (length lines)) (cut_leg lines cs t)
  leg_good = here.2

  -- By the cuts as they are read from the table.
  module _ {from to : ℕ} (f : from ≡ get_or table t 0) (g : to ≡ get_or table (t + 1) 0) where
    start : from ≡ cut_at cs t
    start = f ∙ k.cuts t (omega arith)

    end : to ≡ cut_at cs (t + 1)
    end = g ∙ k.cuts (t + 1) (omega arith)

    pub ordered : from ≤ to
    ordered = omega (arith, start, end, here.0)

    pub inside : to ≤ length lines
    inside = omega (arith, end, here.1)

    pub part_is : take (to - from) (drop from lines) ≡ cut_leg lines cs t
    part_is = lent_part from to lines ordered inside ∙ rw (start, end)

  whole_part : take (cut_at cs (t + 1) - cut_at cs t) (drop (cut_at cs t) lines) ≡ cut_leg lines cs t
  whole_part = lent_part (cut_at cs t) (cut_at cs (t + 1)) lines (omega (arith, here.0)) here.1

  -- By the lines that are lent for the leg.
  module _ {ls : List ℕ} (e : ls ≡ cut_leg lines cs t) where
    pub part_good : Good m (eqb (cut_at cs (t + 1)) (length lines)) ls
    part_good = rw e leg_good

    pub part_few : length ls ≤ 64
    part_few =
        omega
        (arith, ap (λ (xs : List ℕ). length xs) (e ∙ sym whole_part), length-take (cut_at cs (t + 1) - cut_at cs t) (drop (cut_at cs t) lines), here.1, k.few)

-- One leg more.
legs_on : (lines : List ℕ) (i : ℕ) (cs : List ℕ) (t : ℕ) → t < length cs →
    cut_legs lines i (take (suc t) cs) ≡ cut_legs lines i (take t cs) ++ (slice (get_or (i ∷ cs) t 0) (get_or cs t 0) lines ∷ [])
unfolding cut_legs
legs_on lines i [] t h = absurd (omega arith)
legs_on lines i (c ∷ cs) zero h = refl
legs_on lines i (c ∷ cs) (suc t) h = ap (λ (lss : List (List ℕ)). slice i c lines ∷ lss) (legs_on lines c cs t (omega arith))

pub next_leg : (lines cs : List ℕ) (t : ℕ) → t < length cs →
    cut_legs lines 0 (take (t + 1) cs) ≡ cut_legs lines 0 (take t cs) ++ (cut_leg lines cs t ∷ [])
next_leg lines cs t h = rw add-one (legs_on lines 0 cs t h)
