-- `word_at` meets its contract, by whether four bytes are there.
use native.Mathlib.Omega.{arith}
use borrow.Author.Rules.{rules}
use Prim.Native.Nat.{ℕ, ◌+◌, ◌*◌, ◌≤◌, ◌<◌}
use mathlib.Core.Path.{◌≡◌, sym, ap, ◌∙◌}
use mathlib.Core.List.{List, [], ◌∷◌}
use lib.ListN.{length, get_or, take, drop}
use borrow.Author.Tests.{lt-ltb, le-ltb}
use Rattle.model.specs.Host.{words}
use Rattle.buffers.proofs.LineBytes.{word_of}
use Rattle.cases.specs.Part.{word_at}
use Rattle.cases.proofs.word_at.Statement.{statement}
use Rattle.cases.proofs.word_at.Tie as tie

module _ (bytes : List ℕ) (at : ℕ) where
  short : length bytes < at + 4 → 0 ≡ word_at bytes at
  unfolding word_at
  short h = simp (lt-ltb (length bytes) (at + 4) h)

  whole : (x : ℕ) → at + 4 ≤ length bytes → words (take 4 (drop at bytes)) ≡ x ∷ [] → x ≡ word_at bytes at
  unfolding word_at
  whole x h e =
      let same : x ≡ get_or bytes at 0 + 256 * get_or bytes (at + 1) 0 + 65_536 * get_or bytes (at + 2) 0 + 16_777_216 * get_or bytes (at + 3) 0 =
      ap (λ (l : List ℕ). get_or l 0 0) (sym e ∙ word_of bytes at h) in
      rw (le-ltb (length bytes) (at + 4) h) (omega (arith, same))

returns : tie.Need-returns-then-bytes-at
returns c = short _ _ (omega arith)

sub-if2 : tie.Need-overflow_sub-bytes
sub-if2 c = search rules

returns-2 : tie.Need-returns-then-bytes-at-lt4
returns-2 c = short _ _ (omega arith)

word-at-requires : tie.Need-word_at-requires
word-at-requires c κs = search rules

returns-3 : tie.Need-returns
returns-3 c = whole _ _ _ (omega arith) c.word_at.ensures

pub word_at_spec : {M : Type 1} → statement M
word_at_spec = tie.close (tie.spec returns sub-if2 returns-2 word-at-requires returns-3)
