-- The answer of a test, for the same question asked otherwise.
use mathlib.Core.Bool.{Bool, true, false}
use Rattle.buffers.specs.Decides.{Decides}

pub decides_same : {P Q : Type 0} → (P → Q) → (Q → P) → (r : Bool) → Decides P r → Decides Q r
decides_same f g true p = f p
decides_same f g false never = λ q. never (g q)
