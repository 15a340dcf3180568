-- `clear` meets its contract: as many numbers as a call uses are 0.
use Prim.Native.Nat.{ℕ, ◌≤◌}
use mathlib.Core.Path.{◌≡◌, sym, ap, ◌∙◌}
use mathlib.Core.Bool.{Bool, cond}
use mathlib.Core.List.{List, ◌++◌}
use native.Mathlib.Omega.{arith}
use lib.ListN.{length, replicate, take, drop, length-take}
use lib.Dec.{ltb}
use borrow.Author.Tests.{le-ltb}
use Rattle.model.specs.Work.{cleared, work_length}
use Rattle.work_area.proofs.clear.Goals as goal

-- Over any length of the part that is cleared, so that it is not written out.
filled : (n : ℕ) (w v : List ℕ) → n ≤ length w → v ≡ replicate (length (take n w)) 0 → v ++ drop n w ≡ cond (ltb (length w) n) w (replicate n 0 ++ drop n w)
filled n w v h e =
    let same : length (take n w) ≡ n = omega (arith, length-take n w) in
    ap (λ (l : List ℕ). l ++ drop n w) (e ∙ ap (λ (k : ℕ). replicate k 0) same) ∙ sym (ap (λ (b : Bool). cond b w (replicate n 0 ++ drop n w)) (le-ltb (length w) n h))

pub returns : goal.returns
unfolding cleared
returns c = filled work_length _ _ c.requires (c.fill.ensures.after (λ y e. e))
