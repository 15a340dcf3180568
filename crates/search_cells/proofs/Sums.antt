-- "Hold it in 32 bits; whatever the map, no sum overflows" (W4): a length that a search finds, with a note in a cell, and with its line in a key of the queue.
use Rattle.model.specs.Map.{greatest_line_count, greatest_number}
use Rattle.search_cells.specs.Area.{far, several, note_weight, key_of}
use Prim.Native.Nat.{ℕ, ◌+◌, ◌*◌, ◌≤◌, ◌<◌}
use native.Mathlib.Omega.{arith}

-- No length that is found, nor that of a line which is not reached, is more than `far`: the greatest length of a leg, and one.
pub cell_fits : {length note : ℕ} → length ≤ far → note ≤ several → length * note_weight + note ≤ greatest_number
cell_fits short small = omega arith

pub key_fits : {length l : ℕ} → length ≤ far → l < greatest_line_count → key_of length l ≤ greatest_number
key_fits short l< = omega arith
