-- The C functions' structs as the records of the definitions, and the lines of a host's stretch.
use Rattle.std.specs.Prelude.{ℕ, List}
use Rattle.model.specs.Host.{HostRead, HostWritten, host_stretch, HostPoint, HostPointWritten}
use Rattle.openlr.specs.declared.Lines.{Lines}
use Rattle.openlr.specs.declared.Written.{Written}
use Rattle.openlr.specs.declared.point.Point.{Point}
use Rattle.openlr.specs.declared.point.PointWritten.{PointWritten}

-- `struct openlr_reading`.
unfoldable pub as_read : Lines → HostRead
as_read r =
    record {
      refusal = r.refusal;
      place = r.place;
      lines = r.lines;
      pos_least = r.pos_least;
      pos_greatest = r.pos_greatest;
      neg_least = r.neg_least;
      neg_greatest = r.neg_greatest;
    }

-- `struct openlr_point`.
unfoldable pub as_point : Point → HostPoint
as_point r =
    record {
      refusal = r.refusal;
      place = r.place;
      lines = r.lines;
      least = r.least;
      greatest = r.greatest;
      orientation = r.orientation;
      side = r.side;
    }

-- `struct openlr_written`.
unfoldable pub as_written : Written → HostWritten
as_written r = record { refusal = r.refusal; bytes = r.bytes; tests = r.tests; excess = r.excess }

-- `struct openlr_point_written`.
unfoldable pub as_point_written : PointWritten → HostPointWritten
as_point_written r = record { refusal = r.refusal; bytes = r.bytes }

-- The line numbers of a stretch that is given as bytes.
abbrev pub stretch_lines : List ℕ → List ℕ
stretch_lines bytes = (host_stretch bytes 0 0).lines
