-- The line numbers of a host's stretch.
use Prim.Native.Nat.{ℕ, ◌%◌}
use mathlib.Core.Path.{◌≡◌, refl}
use mathlib.Core.List.{List, []}
use borrow.Author.Tests.{eq-eqb, ne_eqb}
use lib.ListN.{length}
use Rattle.model.specs.Host.{words, host_stretch}
use Rattle.openlr.specs.Host.{stretch_lines}

pub no_stretch : (bs : List ℕ) → (length bs % 4 ≡ 0 → ⊥) → stretch_lines bs ≡ []
unfolding host_stretch
no_stretch bs h = rw (ne_eqb (length bs % 4) 0 h) refl

pub whole_stretch : (bs : List ℕ) → length bs % 4 ≡ 0 → stretch_lines bs ≡ words bs
unfolding host_stretch
whole_stretch bs h = rw (eq-eqb (length bs % 4) 0 h) refl
