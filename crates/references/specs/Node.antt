-- What a search for a node finds: the first node of the map that passes a test.
use Rattle.std.specs.Prelude.{ℕ, ◌<◌, ◌≡◌, Bool, ◌&&◌, List, eqb, Option, Some, None}
use Rattle.model.specs.Map.{Node, Map}
use Rattle.model.specs.Difference.{moved}
use Rattle.work_area.specs.Area.{Holds}
use Rattle.references.specs.declared.node.Sought.{Sought}
use Rattle.references.specs.declared.node.Sought.TheVariants.{Codes, Moved}
use Rattle.model.specs.Locate as definitions

-- The test: "the node with its two codes", or "the node at the previous node's coordinates plus the differences", the longitude brought round (W2).
unfoldable pub passes : Sought → Node → Bool
passes (Codes lon lat) a = definitions.has_codes lon lat a
passes (Moved lon lat by-lat) a = eqb lon a.lon && moved lat by-lat a.lat

-- What was found, in the definitions.
abbrev pub found_in : Option ℕ → definitions.Found
found_in (Some v) = definitions.found v
found_in None = definitions.missing

-- A node that was found is one of so many.
abbrev pub Below : ℕ → Option ℕ → Type 0
Below nodes (Some v) = v < nodes
Below nodes None = Unit {0}

-- Of each map that the work area holds with so many nodes.
pub record Finds (work : List ℕ) (nodes : ℕ) (sought : Sought) (r : Option ℕ) : Type 0 where
  pub below : Below nodes r
  pub first : (m : Map) (lines : ℕ) → Holds work nodes lines m → definitions.seek (passes sought) 0 m.nodes ≡ found_in r
