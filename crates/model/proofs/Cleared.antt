-- What is cleared of a work area does not depend on what stood there.
use Prim.Native.Nat.{ℕ, ◌≤◌, ◌<◌}
use mathlib.Core.Path.{◌≡◌, sym, ap, ◌∙◌}
use mathlib.Core.Bool.{Bool, cond}
use mathlib.Core.List.{List, ◌++◌}
use native.Mathlib.Omega.{arith}
use lib.ListN.{length, take, drop, replicate, length-append}
use lib.Seq.{drop_at, length-take-le}
use lib.Dec.{ltb}
use borrow.Author.Tests.{lt-ltb, le-ltb}
use Rattle.model.specs.Work.{work_length, cleared}

-- A work area that is too short stays as it is.
pub cleared_short : (w : List ℕ) → length w < work_length → w ≡ cleared w
unfolding cleared
cleared_short w h = sym (ap (λ (t : Bool). cond t w (replicate work_length 0 ++ drop work_length w)) (lt-ltb (length w) work_length h))

-- A change within the first numbers does not matter to what is cleared. Over any length, so that the zeros are not written out.
front_cleared : (n : ℕ) (w front : List ℕ) → n ≤ length w → length front ≡ n →
    cond (ltb (length (front ++ drop n w)) n) (front ++ drop n w) (replicate n 0 ++ drop n (front ++ drop n w)) ≡
    cond (ltb (length w) n) w (replicate n 0 ++ drop n w)
front_cleared n w front h e =
    let long : n ≤ length (front ++ drop n w) = omega (arith, length-append front (drop n w)) in
    rw (le-ltb (length (front ++ drop n w)) n long, le-ltb (length w) n h, drop_at front (drop n w) n e)

pub cleared_same : (w front : List ℕ) → work_length ≤ length w → length front ≡ length (take work_length w) → cleared (front ++ drop work_length w) ≡ cleared w
unfolding cleared
cleared_same w front h e = front_cleared work_length w front h (e ∙ length-take-le work_length w h)
