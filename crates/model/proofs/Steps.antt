-- "Errors: 24 (in byte order with 2 to 5) a step out of range or both zero, the latter a fault of the north step" (paper 02, W3): said of all steps, and of
-- whatever stands behind the faulty one. A step whose number has no right form is refused with 2, in the same order.
use Prim.Native.Nat.{ℕ, ◌≤◌, ◌<◌, ◌^◌}
use mathlib.Core.Path.{◌≡◌, refl, sym, ap₂, ◌∙◌}
use mathlib.Core.Bool.{Bool, true, false, ◌&&◌, true≢false}
use mathlib.Core.List.{List, ◌++◌}
use native.Mathlib.Omega.{arith}
use lib.Dec.{eqb}
use borrow.Author.Tests.{eqb-true, eq-eqb}
use Rattle.model.specs.Refusal.{row}
use Rattle.model.specs.Number.{number_bytes, number, faulty}
use Rattle.model.specs.Sector.{step_added, greatest_step, sector}
use Rattle.model.specs.Map.{MapAnswer, refused, read_steps}
use Rattle.model.proofs.Tests.{both}
use Rattle.model.proofs.Numbers.{number_back}
use Rattle.model.proofs.Ranges.{field_faulty, field_in, field_high, stops, passes}

-- Whether both are 0, as the definition asks it.
abbrev zeros : ℕ → ℕ → Bool
zeros east north = eqb east step_added && eqb north step_added

pub not_both : (east north : ℕ) → zeros east north ≡ false → east ≡ step_added → north ≡ step_added → ⊥
not_both east north t e n = true≢false (sym (ap₂ ◌&&◌ (eq-eqb east step_added e) (eq-eqb north step_added n)) ∙ t)

module _ (rest : ℕ → List ℕ → MapAnswer) where
  -- An east step that is no number.
  pub east_faulty : (bs : List ℕ) → number bs ≡ faulty → read_steps bs rest ≡ refused (row 2)
  unfolding read_steps
  east_faulty bs none = field_faulty _ _ _ _ _ none

  -- An east step out of range, whatever comes next.
  pub east_refused : (east : ℕ) (bs : List ℕ) → greatest_step < east → east < 2 ^ 32 → read_steps (number_bytes east ++ bs) rest ≡ refused (row 24)
  unfolding read_steps
  east_refused east bs over small = field_high _ _ _ _ _ east bs (number_back east bs small) (omega arith) over

  -- A north step that is no number, behind an east step in its range: 0 as well, since both are asked for only once both are taken.
  pub north_faulty : (east : ℕ) (bs : List ℕ) → east ≤ greatest_step → number bs ≡ faulty → read_steps (number_bytes east ++ bs) rest ≡ refused (row 2)
  unfolding read_steps
  north_faulty east bs inside none =
      field_in _ _ _ _ _ east bs (number_back east bs (omega arith)) (omega arith) inside ∙ field_faulty _ _ _ _ _ none

  module _ (east north : ℕ) (bs : List ℕ) (inside : east ≤ greatest_step) where
    -- A north step out of range.
    pub north_refused : greatest_step < north → north < 2 ^ 32 → read_steps (number_bytes east ++ (number_bytes north ++ bs)) rest ≡ refused (row 24)
    unfolding read_steps
    north_refused over small =
        field_in _ _ _ _ _ east (number_bytes north ++ bs) (number_back east (number_bytes north ++ bs) (omega arith)) (omega arith) inside
        ∙ field_high _ _ _ _ _ north bs (number_back north bs small) (omega arith) over

    -- Both steps in their range are taken, and then asked whether they are both 0.
    both_taken : north ≤ greatest_step → read_steps (number_bytes east ++ (number_bytes north ++ bs)) rest ≡
        elim (zeros east north) [ true ↦ refused (row 24) | false ↦ rest (sector east north) bs ]
    unfolding read_steps
    both_taken h =
        field_in _ _ _ _ _ east (number_bytes north ++ bs) (number_back east (number_bytes north ++ bs) (omega arith)) (omega arith) inside
        ∙ field_in _ _ _ _ _ north bs (number_back north bs (omega arith)) (omega arith) h

    -- Both 0.
    pub zero_refused : east ≡ step_added → north ≡ step_added → read_steps (number_bytes east ++ (number_bytes north ++ bs)) rest ≡ refused (row 24)
    zero_refused e n =
        both_taken (omega (arith, n)) ∙ stops (zeros east north) 24 _ (ap₂ ◌&&◌ (eq-eqb east step_added e) (eq-eqb north step_added n))

    -- All others are taken, and their sector is handed on.
    pub steps_taken : north ≤ greatest_step → (east ≡ step_added → north ≡ step_added → ⊥) →
        read_steps (number_bytes east ++ (number_bytes north ++ bs)) rest ≡ rest (sector east north) bs
    steps_taken h some = both_taken h ∙ passes (zeros east north) 24 _ (go (zeros east north) refl)
      where
        go : (t : Bool) → zeros east north ≡ t → t ≡ false
        go true t =
            let b = both (eqb east step_added) (eqb north step_added) t in
            absurd (some (eqb-true east step_added b.0) (eqb-true north step_added b.1))
        go false t = refl
