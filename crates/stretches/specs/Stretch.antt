-- What is said of a stretch as it is given, on a map that the work area holds (paper 01, "A stretch"; refusals 7 to 9).
use Rattle.std.specs.Prelude.{ℕ, ◌-◌, ◌≤◌, ◌<◌, ◌≡◌, List, length, take, drop, Result, Ok, Err}
use Rattle.model.specs.declared.Refusal.{Refusal}
use Rattle.model.specs.Refusal.{refusal_of}
use Rattle.model.specs.Map.{Map}
use Rattle.model.specs.Stretch.{Stretch, skip, remaining, remains, refused, check_stretch, stretch_of}
use Rattle.stretches.specs.declared.stretch.Remaining.{Remaining}

-- An offset drops these lines down to `left`, and so much is left of it.
abbrev pub Skips : Map → ℕ → List ℕ → List ℕ → ℕ → Type 0
Skips m offset ls left rest = skip m offset ls ≡ record { lines = left; offset = rest }

-- The part of a stretch that an answer names.
abbrev pub part_of : Stretch → Remaining → Stretch
part_of s r = stretch_of (take (r.to - r.from) (drop r.from s.lines)) r.pos r.neg

-- That part is what remains of the stretch.
pub record Leaves (m : Map) (s : Stretch) (r : Remaining) : Type 0 where
  pub ordered : r.from ≤ r.to
  pub inside : r.to ≤ length s.lines
  pub same : remaining m s ≡ part_of s r

-- The stretch is not refused, and that part is what remains of it. It is not empty.
pub record Passes (m : Map) (s : Stretch) (r : Remaining) : Type 0 where
  pub ordered : r.from < r.to
  pub inside : r.to ≤ length s.lines
  pub checked : check_stretch m s ≡ remains (part_of s r)

-- What an answer says of a stretch.
abbrev pub Checks : Map → Stretch → Result Remaining Refusal → Type 0
Checks m s (Ok r) = Passes m s r
Checks m s (Err why) = check_stretch m s ≡ refused (refusal_of why)
