-- What a writer wrote that answers a count of bytes, of stretches or of points: the bytes stand first in its buffer, and they fit it.
use Prim.Native.Nat.{ℕ, ◌≤◌}
use mathlib.Core.Path.{◌≡◌, sym, ap, ◌∙◌}
use mathlib.Core.List.{List}
use native.Mathlib.Omega.{arith}
use lib.ListN.{length, take, drop, length-append, length-drop}
use lib.Seq.{take_at, length-take-le}
use Rattle.model.specs.Work.{placed}

pub record WroteBytes (Writes : List ℕ → Type 0) (b b' : List ℕ) (count : ℕ) : Type 0 where
  pub list : List ℕ
  pub writes : Writes list
  pub size : length list ≡ count
  pub placed_so : b' ≡ placed list b

module _ {Writes : List ℕ → Type 0} {b b' : List ℕ} {count : ℕ} (k : WroteBytes Writes b b' count) where
  pub bytes_first : take count b' ≡ k.list
  unfolding placed
  bytes_first = rw k.placed_so (take_at k.list (drop (length k.list) b) count k.size)

  pub fit : length b' ≡ length b → count ≤ length b'
  unfolding placed
  fit same =
      omega (arith, same, k.size, ap (λ (l : List ℕ). length l) k.placed_so, length-append k.list (drop (length k.list) b), length-drop (length k.list) b)

-- Two equal prefixes are as long.
pub same_size : (count size : ℕ) (x y : List ℕ) → count ≤ length x → size ≤ length y → take count x ≡ take size y → size ≡ count
same_size count size x y f g e =
    sym (length-take-le size y g) ∙ ap (λ (l : List ℕ). length l) (sym e) ∙ length-take-le count x f
