-- `megabyte` meets its contract. The length is by a law over any n: to compute it at 1,048,576 is too deep for the checker.
use mathlib.Core.Path.{◌≡◌, sym}
use Prim.Native.Nat.{ℕ}
use lib.ListN.{length, replicate, length-replicate}
use Rattle.cases.proofs.megabyte.Statement.{statement}
use Rattle.cases.proofs.megabyte.Tie as tie

counted : (n : ℕ) → n ≡ length {0} {A = ℕ} (replicate {0} {A = ℕ} n 0)
counted n = sym (length-replicate n 0)

returns : tie.Need-returns
returns c = counted 1048576

pub megabyte_spec : {M : Type 1} → statement M
megabyte_spec = tie.close (tie.spec returns)
