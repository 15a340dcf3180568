-- When an open reference may have so many bytes.
use Prim.Native.Nat.{ℕ, ◌+◌, ◌≤◌, ◌<◌, min}
use mathlib.Core.Path.{◌≡◌, refl, sym}
use mathlib.Core.Bool.{Bool, true, false, ◌&&◌}
use native.Mathlib.Omega.{arith}
use lib.ListN.{length}
use lib.Dec.{leb}
use borrow.Author.Tests.{leb-true, leb-false, le-leb, lt-leb}
use Rattle.model.proofs.Tests.{both}
use Rattle.model.specs.Reference.{longest_reference}
use Rattle.model.specs.Message.{longest_message, length_bytes}
use Rattle.model.specs.MessageCall.{end_of, fits}

and-false : (t : Bool) → (t && false) ≡ false
and-false true = refl
and-false false = refl

pub behind_finished : (finished count : ℕ) → finished ≤ end_of finished count
unfolding end_of
behind_finished finished count = omega arith

pub end_is : (finished count : ℕ) → end_of finished count ≡ finished + (length (length_bytes count) + count)
unfolding end_of
end_is finished count = refl

pub long_reference : (finished count room : ℕ) → 459 < count → fits finished count room ≡ false
unfolding fits
long_reference finished count room h = rw (lt-leb count longest_reference h)

pub past_room : (finished count room : ℕ) → min room longest_message < end_of finished count → fits finished count room ≡ false
unfolding fits
past_room finished count room h = rw (lt-leb (end_of finished count) (min room longest_message) h) (and-false (leb count longest_reference))

pub fits_so : (finished count room : ℕ) → count ≤ 459 → end_of finished count ≤ room → end_of finished count ≤ longest_message → fits finished count room ≡ true
unfolding fits
fits_so finished count room h k l =
    let e : end_of finished count ≤ min room longest_message = omega arith in
    rw (le-leb count longest_reference h, le-leb (end_of finished count) (min room longest_message) e)

pub record Fit (finished count room : ℕ) : Type 0 where
  pub short : count ≤ 459
  pub in_room : end_of finished count ≤ room
  pub in_most : end_of finished count ≤ longest_message

pub fit_of : (finished count room : ℕ) → fits finished count room ≡ true → Fit finished count room
unfolding fits
fit_of finished count room e =
    let b = both (leb count longest_reference) (leb (end_of finished count) (min room longest_message)) e in
    let h = leb-true count longest_reference b.0 in
    let k = leb-true (end_of finished count) (min room longest_message) b.1 in
    record { short = h; in_room = omega arith; in_most = omega arith }

-- The last test: within the buffer, it is the 16,384 bytes that decide.
pub ends : (finished count room end : ℕ) → end ≡ end_of finished count → count ≤ 459 → end ≤ room → leb end 16_384 ≡ fits finished count room
ends finished count room end e h k = go (leb end 16_384) refl
  where
    go : (t : Bool) → leb end 16_384 ≡ t → t ≡ fits finished count room
    go true t = let l = leb-true end 16_384 t in sym (fits_so finished count room h (omega arith) (omega arith))
    go false t = let l = leb-false end 16_384 t in sym (past_room finished count room (omega arith))
