-- A byte that `get` finds, as the definitions have it.
use Prim.Native.Nat.{ℕ, ◌<◌}
use mathlib.Core.Path.{◌≡◌, sym, ◌∙◌}
use mathlib.Core.Bool.{true}
use mathlib.Core.List.{List}
use lib.Dec.{ltb}
use lib.ListN.{length, get_or}
use borrow.Author.Tests.{true-ltb}
use Rattle.std.proofs.lemmas.Grind.{get_or_default_zero}

pub byte_read : (bytes : List ℕ) (at x b : ℕ) → true ≡ ltb at (length bytes) → x ≡ get_or bytes at x → b ≡ x →
    (at < length bytes) × (get_or bytes at 0 ≡ b)
byte_read bytes at x b h e s =
    let here = true-ltb at (length bytes) h in
    (here, sym (get_or_default_zero bytes at x here) ∙ sym e ∙ sym s)
