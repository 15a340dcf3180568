-- A stretch as it is given, in the definitions.
use Rattle.std.specs.Prelude.{ℕ}
use Rattle.model.specs.Stretch.{Stretch, stretch_of}
use Rattle.round_trip.specs.declared.Given.{Given}

abbrev pub stretch_in : Given ℕ → Stretch
stretch_in given = stretch_of given.stretch.now given.pos given.neg
