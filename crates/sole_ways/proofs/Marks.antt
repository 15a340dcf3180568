-- Numbers of a table as answers: 1 where the answer is yes.
use Prim.Native.Nat.{ℕ}
use mathlib.Core.Path.{◌≡◌, refl, subst}
use mathlib.Core.Bool.{Bool, true, false}
use lib.Dec.{eqb}
use borrow.Author.Tests.{eq-eqb, eqb-true, eqb-false}
use Rattle.buffers.specs.Decides.{Decides}
use Rattle.sole_ways.specs.SoleWays.{Marks}

pub marks_yes : {P : Type 0} → P → Marks P 1
marks_yes p = p

pub marks_no : {P : Type 0} → (P → ⊥) → Marks P 0
marks_no never = never

pub mark_sound : {P : Type 0} (x : ℕ) → Marks P x → x ≡ 1 → P
mark_sound {P} x says e = subst (Decides P) (eq-eqb x 1 e) says

pub mark_complete : {P : Type 0} (x : ℕ) → Marks P x → P → x ≡ 1
mark_complete {P} x says p = go (eqb x 1) refl
  where
    go : (t : Bool) → eqb x 1 ≡ t → x ≡ 1
    go true e = eqb-true x 1 e
    go false e = absurd (subst (Decides P) e says p)

pub marks_both : {P : Type 0} (x : ℕ) → (x ≡ 1 → P) → (P → x ≡ 1) → Marks P x
marks_both {P} x sound complete = go (eqb x 1) refl
  where
    go : (t : Bool) → eqb x 1 ≡ t → Decides P t
    go true e = sound (eqb-true x 1 e)
    go false e = λ p. eqb-false x 1 e (complete p)
