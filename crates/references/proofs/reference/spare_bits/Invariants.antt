-- No P before point `k` has a spare bit set.
use Rattle.std.proofs.Common.{◌≡◌, ◌-◌}
use Rattle.model.specs.Reference.{spare_bits}
use Rattle.references.specs.Legs.{place_p}
use Rattle.references.proofs.reference.spare_bits.Given as goal

abbrev pub invariant-loop-k : goal.invariant-loop-k
invariant-loop-k l = spare_bits l.bytes 7 l.points ≡ spare_bits l.bytes (place_p l.k) (l.points - l.k)
