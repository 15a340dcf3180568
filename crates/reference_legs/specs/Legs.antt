-- What is promised of the legs that are read one after another, and of the lines that are written.
use Rattle.std.specs.Prelude.{ℕ, ◌+◌, ◌≤◌, ◌<◌, ◌≡◌, Bool, false, cond, ◌||◌, List, ◌++◌, length, get_or, take, drop, eqb, Result, Ok, Err}
use Rattle.model.specs.Map.{Map}
use Rattle.model.specs.Lines.{total, banned, last_of}
use Rattle.model.specs.Choice.{first_leg, last_leg}
use Rattle.model.specs.Reading.{Leg, joined, banned_meeting}
use Rattle.model.specs.Outcome.{LegsRead, every, failed}
use Rattle.model.specs.Work.{placed}
use Rattle.search_cells.specs.Area.{lines_from, Set}
use Rattle.fields.specs.declared.leg.Reading.{Reading}
use Rattle.fields.specs.declared.leg.Verdict.{Verdict}
use Rattle.reference_legs.specs.declared.Sums.{Sums}
use Rattle.model.specs.declared.Refusal.{Refusal}
use Rattle.model.specs.declared.Refusal.TheVariants.{NoReading, SeveralReadings}
use Rattle.fields.specs.declared.leg.Verdict.TheVariants as verdict

-- Whether a banned turn stands where two legs meet, with one leg more, which is leg `k`: nothing stands before the first.
unfoldable pub barred_with : Map → Sums → ℕ → Reading → Bool
barred_with m s k r = s.barred || cond (eqb k 0) false (banned m s.arrives r.first)

-- The sums with one leg more, which is leg `k`.
unfoldable pub sums_with : Sums → ℕ → Reading → Bool → Sums
sums_with s k r barred =
    record {
      count = s.count + r.count;
      length = s.length + r.length;
      first = cond (eqb k 0) r.length s.first;
      last = r.length;
      arrives = r.last;
      barred = barred;
    }

-- The lines of one reading, from number `from` of the buffer on, where there is room.
pub record PutOne (w : List ℕ) (from : ℕ) (before after : List ℕ) (r : Reading) : Type 0 where
  pub fits : from + r.count ≤ length before →
      after ≡ take from before ++ (lines_from w r.first r.count ++ drop (from + r.count) before)
  pub short : length before < from + r.count → after ≡ before

-- What a verdict puts there: its one reading, or else nothing.
pub record Put (w : List ℕ) (from : ℕ) (before after : List ℕ) (v : Verdict) : Type 0 where
  pub one : (r : Reading) → v ≡ verdict.One r → PutOne w from before after r
  pub unread : v ≡ verdict.Unread → after ≡ before
  pub several : v ≡ verdict.Several → after ≡ before

-- Some lines stand in a buffer from number `from` on, where there is room for them.
abbrev pub Inserted : ℕ → List ℕ → List ℕ → List ℕ → Type 0
Inserted from ls before after = from + length ls ≤ length before → after ≡ take from before ++ (ls ++ drop (from + length ls) before)

-- The nodes of the points are nodes of the map.
abbrev pub PlacesIn : Map → ℕ → List ℕ → Type 0
PlacesIn m points places = (k : ℕ) → k ≤ points → get_or places k 0 < length m.nodes

-- What the sums are of.
pub record SumsOf (m : Map) (lss : List (List ℕ)) (s : Sums) : Type 0 where
  pub count : length (joined lss) ≡ s.count
  pub sum : total m (joined lss) ≡ s.length
  pub first : total m (first_leg lss) ≡ s.first
  pub last : total m (last_leg lss) ≡ s.last
  pub arrives : last_of (last_leg lss) ≡ s.arrives
  pub barred : banned_meeting m lss ≡ s.barred

-- Some lines stand first in a buffer where there is room for them.
abbrev pub Laid : List ℕ → List ℕ → List ℕ → Type 0
Laid ls before after = length ls ≤ length before → after ≡ placed ls before

-- Every leg is read.
pub record AllRead (m : Map) (legs : List Leg) (before after : List ℕ) (s : Sums) : Type 0 where
  pub lists : List (List ℕ)
  pub read : LegsRead m 0 legs (every lists)
  pub sums : SumsOf m lists s
  pub laid : Laid (joined lists) before after

-- The first leg without exactly one reading has none, or several.
pub data LegFails (m : Map) (legs : List Leg) : Refusal → Type 0 where
  unread : {k : ℕ} → LegsRead m 0 legs (failed 17 k) → LegFails m legs (NoReading k)
  several : {k : ℕ} → LegsRead m 0 legs (failed 18 k) → LegFails m legs (SeveralReadings k)

-- What an answer says of the legs, and of the buffer. Where a leg fails, nothing is said of the buffer.
abbrev pub LegsTell : Map → List Leg → List ℕ → List ℕ → Result Sums Refusal → Type 0
LegsTell m legs before after (Ok s) = AllRead m legs before after s
LegsTell m legs before after (Err why) = LegFails m legs why

pub record LegsDone (m : Map) (lines : ℕ) (legs : List Leg) (w before after : List ℕ) (r : Result Sums Refusal) : Type 0 where
  pub tells : LegsTell m legs before after r
  pub set : Set m lines w
