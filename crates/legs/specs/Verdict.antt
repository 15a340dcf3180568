-- What a verdict says of line lists, and which leg of the definitions a leg of the code is.
use Rattle.work_area.specs.Area.{line_place, line_frc, line_fow, search_from, search_to, Held}
use Rattle.model.specs.Map.{Map}
use Rattle.model.specs.Reading.{greatest_leg_length}
use Rattle.std.specs.Prelude.{ℕ, ◌+◌, ◌≤◌, ◌≡◌, cond, List, length, get_or, eqb}
use Rattle.model.specs.Field.{distance}
use Rattle.model.specs.Lines.{LineAttributes, line_at, total, first_of, last_of, leaving, arriving}
use Rattle.buffers.specs.Kept.{Kept}
use Rattle.work_area.specs.Mirror.{mirror}
use Rattle.way_lengths.specs.declared.Terminus.{Terminus}
use Rattle.way_lengths.specs.declared.Terminus.TheVariants.{Line, Node}
use Rattle.way_lengths.specs.Ways.{Ends}
use Rattle.search_cells.specs.Area.{Searched, lines_from, Set}
use Rattle.ways.specs.declared.Ways.{Ways}
use Rattle.fields.specs.declared.leg.Leg.{Leg}
use Rattle.fields.specs.declared.leg.Reading.{Reading}
use Rattle.fields.specs.declared.leg.Verdict.{Verdict}
use Rattle.fields.specs.declared.leg.Verdict.TheVariants.{Unread, One, Several}
use Rattle.fields.specs.Leg.{leg_in}
use Rattle.model.specs.Reading as definitions
use Rattle.ways.specs.declared.Ways.TheVariants as found

-- The attributes of line `l` in a work area, by its number `side`: the sector out or back.
unfoldable pub attributes_at : List ℕ → ℕ → ℕ → LineAttributes
attributes_at w l side =
    record {
      frc = get_or w (line_place l + line_frc) 0;
      fow = get_or w (line_place l + line_fow) 0;
      sector = get_or w (line_place l + side) 0;
    }

-- Exactly one list has the property `P`: `ls`, of this first and last line, length and count.
pub record OneList (m : Map) (P : List ℕ → Type 0) (r : Reading) (ls : List ℕ) : Type 0 where
  pub holds : P ls
  pub only : (other : List ℕ) → P other → other ≡ ls
  pub first : first_of ls ≡ r.first
  pub last : last_of ls ≡ r.last
  pub sum : total m ls ≡ r.length
  pub count : length ls ≡ r.count

-- Two different lists have it.
pub record TwoLists (P : List ℕ → Type 0) : Type 0 where
  pub one : List ℕ
  pub other : List ℕ
  pub first : P one
  pub second : P other
  pub differ : one ≡ other → ⊥

-- What a verdict says of the lists that have the property `P`; and where it is one, what `Q` says of that.
pub data Says (m : Map) (P : List ℕ → Type 0) (Q : Reading → List ℕ → Type 0) : Verdict → Type 0 where
  unread : ((ls : List ℕ) → P ls → ⊥) → Says m P Q Unread
  one : {r : Reading} {ls : List ℕ} → OneList m P r ls → Q r ls → Says m P Q (One r)
  several : TwoLists P → Says m P Q Several

-- The lines of a reading stand in the work area, from its first line on; or nothing is said of them.
abbrev pub StandsIn : List ℕ → Reading → List ℕ → Type 0
StandsIn w r ls = ls ≡ lines_from w r.first r.count

abbrev pub Anywhere : Reading → List ℕ → Type 0
Anywhere r ls = Unit {0}

-- A terminus of a leg: its end node where any line may be the last; or a last line that arrives there as the leg says.
pub data TerminusOf (m : Map) (leg : definitions.Leg) : Terminus → Type 0 where
  at_node : leg.arrival ≡ definitions.any → TerminusOf m leg (Node leg.to)
  at_line : {last : ℕ} → leg.arrival ≡ definitions.matching (arriving m last) → (line_at m last).end ≡ leg.to → TerminusOf m leg (Line last)

-- The readings of a leg that end at a terminus; those of them with the first line `first`; those with a first line of the property `P`.
pub record ReadingTo (m : Map) (leg : definitions.Leg) (to : Terminus) (ls : List ℕ) : Type 0 where
  pub reading : definitions.Reading m leg ls
  pub ends : Ends m to (last_of ls)

pub record ReadingFrom (m : Map) (leg : definitions.Leg) (first : ℕ) (to : Terminus) (ls : List ℕ) : Type 0 where
  pub reading : definitions.Reading m leg ls
  pub starts : first_of ls ≡ first
  pub ends : Ends m to (last_of ls)

pub record ReadingAmong (m : Map) (leg : definitions.Leg) (P : ℕ → Type 0) (to : Terminus) (ls : List ℕ) : Type 0 where
  pub reading : definitions.Reading m leg ls
  pub starts : P (first_of ls)
  pub ends : Ends m to (last_of ls)

-- The readings of a leg with a last line from `at` on.
pub record ToLines (m : Map) (leg : definitions.Leg) (at : ℕ) (ls : List ℕ) : Type 0 where
  pub reading : definitions.Reading m leg ls
  pub ends : at ≤ last_of ls

-- A first line of a leg: it starts at the leg's node with the leg's attributes.
pub record FirstOf (m : Map) (leg : definitions.Leg) (first : ℕ) : Type 0 where
  pub from : (line_at m first).start ≡ leg.from
  pub leaves : leaving m first ≡ leg.leaves

-- A limit that a search for legs of byte D up to `d` can have: no length of a leg that gives such a byte is past it.
pub record LimitFor (d limit : ℕ) : Type 0 where
  pub within : limit ≤ greatest_leg_length
  pub holds : (length : ℕ) → length ≤ greatest_leg_length → distance length ≤ d → length ≤ limit

-- The search for a leg back from one of its termini is done: under the leg's lowest class, up to such a limit.
pub record Ready (m : Map) (lines : ℕ) (leg : Leg) (to : Terminus) (limit : ℕ) (w : List ℕ) : Type 0 where
  pub held : Held w lines m
  pub searched : Searched (mirror m) lines leg.lowest to limit w
  pub limited : LimitFor leg.distance limit
  pub terminus : TerminusOf m (leg_in leg) to

-- A verdict on readings, with what it leaves of the work area.
pub record Judged (m : Map) (lines : ℕ) (P : List ℕ → Type 0) (Q : Reading → List ℕ → Type 0) (w v : List ℕ) (r : Verdict) : Type 0 where
  pub says : Says m P Q r
  pub set : Set m lines v
  pub kept : Kept search_from search_to w v

-- The verdict on ways from line `first`: readings where their length gives D.
unfoldable pub judge_of : Ways → ℕ → ℕ → Verdict
judge_of found.Nothing first d = Unread
judge_of (found.Several length) first d = cond (eqb (distance length) d) Several Unread
judge_of (found.One last length count) first d =
    cond (eqb (distance length) d) (One (record { first = first; last = last; length = length; count = count })) Unread

-- The verdict on lists of two kinds, by the verdicts on each.
unfoldable pub both_of : Verdict → Verdict → Verdict
both_of Unread b = b
both_of (One r) Unread = One r
both_of (One r) (One q) = Several
both_of (One r) Several = Several
both_of Several b = Several
