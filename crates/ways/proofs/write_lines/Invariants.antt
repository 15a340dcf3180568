-- What is written, and then what is still to be, make up the whole.
use Rattle.std.proofs.Common.{◌≡◌, ◌-◌, ◌++◌, length, take}
use Rattle.search_cells.specs.Area.{lines_from}
use Rattle.ways.proofs.Written.{Numbers}
use Rattle.ways.proofs.write_lines.Given as goal

abbrev pub invariant-loop-number : goal.invariant-loop-number
invariant-loop-number l = record {
  numbers : Numbers (lines_from l.work l.at (length l.fn.out - l.number-index));
  written : lines_from l.work l.first (length l.fn.out) ≡ take l.number-index l.out ++ lines_from l.work l.at (length l.fn.out - l.number-index);
}
