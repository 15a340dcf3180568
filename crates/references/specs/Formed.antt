-- What is promised of a reference that is made of bytes; and which reference, and which legs, of the definitions it is.
use Rattle.std.specs.Prelude.{ℕ, ◌≡◌, List, Result, Ok, Err}
use Rattle.model.specs.Reading.{Leg}
use Rattle.model.specs.declared.Refusal.{Refusal}
use Rattle.model.specs.Refusal.{refusal_of}
use Rattle.references.specs.Legs.{legs_at}
use Rattle.references.specs.declared.reference.Reference.{Reference}
use Rattle.model.specs.Reference as definitions

-- The bytes are refused with 12 to 15, or a reference holds them, whose bytes are sound by its type.
abbrev pub FormOf : List ℕ → Result Reference Refusal → Type 0
FormOf bytes (Ok r) = r.bytes.now ≡ bytes
FormOf bytes (Err why) = definitions.parse bytes ≡ definitions.refused (refusal_of why)

-- The reference of the definitions, and its legs between the nodes in `places`.
abbrev pub reference_in : Reference → definitions.Reference
reference_in r = definitions.reference_at r.bytes.now r.points

abbrev pub legs_in : Reference → List ℕ → List Leg
legs_in r places = legs_at r.bytes.now r.points places
