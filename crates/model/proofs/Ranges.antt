-- A number of the map, held to its range: taken or refused; and a test of numbers that were taken.
use Prim.Native.Nat.{ℕ, ◌≤◌, ◌<◌}
use mathlib.Core.Path.{◌≡◌, refl}
use mathlib.Core.Bool.{Bool, true, false}
use mathlib.Core.List.{List}
use borrow.Author.Tests.{le-leb, lt-leb}
use Rattle.model.specs.Refusal.{Refused, row}
use Rattle.model.specs.Number.{got, faulty, number}
use Rattle.model.specs.Map.{MapAnswer, refused, field}

module _ (bs : List ℕ) (low high : ℕ) (n : Refused) (rest : ℕ → List ℕ → MapAnswer) where
  pub field_faulty : number bs ≡ faulty → field bs low high n rest ≡ refused (row 2)
  unfolding field
  field_faulty e = rw (field, e)

  module _ (x : ℕ) (after : List ℕ) (e : number bs ≡ got x after) where
    pub field_in : low ≤ x → x ≤ high → field bs low high n rest ≡ rest x after
    unfolding field
    field_in l h = rw (field, e, le-leb low x l, le-leb x high h)

    pub field_low : x < low → field bs low high n rest ≡ refused n
    unfolding field
    field_low l = rw (field, e, lt-leb low x l)

    pub field_high : low ≤ x → high < x → field bs low high n rest ≡ refused n
    unfolding field
    field_high l h = rw (field, e, le-leb low x l, lt-leb x high h)

-- A test of numbers that were taken stops, or passes.
module _ (test : Bool) (n : ℕ) (x : MapAnswer) where
  pub stops : test ≡ true → elim test [ true ↦ refused (row n) | false ↦ x ] ≡ refused (row n)
  stops e = rw e refl

  pub passes : test ≡ false → elim test [ true ↦ refused (row n) | false ↦ x ] ≡ x
  passes e = rw e refl
