-- What a C program's writing of a stretch and reading of the bytes comes to (paper 01, "The product", second paragraph; "The words of demand 3").
use Rattle.std.specs.Prelude.{ℕ, ◌*◌, ◌≤◌, ◌≡◌, ◌≢◌, List, length, take, Option, Some, None, Result, Ok, Err}
use Rattle.model.specs.Stretch.{Stretch}
use Rattle.model.specs.Outcome.{read}
use Rattle.model.specs.Work.{placed}
use Rattle.model.specs.Host.{word_bytes, host_stretch, HostRead, host_read, HostReadCall, HostWriteCall}
use Rattle.model.specs.Demand3.{ReadBack, Alike}
use Rattle.openlr.specs.Host.{as_read}
use Rattle.round_trip.specs.Trip.{left_of}
use Rattle.openlr.specs.declared.Lines.{Lines}
use Rattle.openlr.specs.declared.Written.{Written}
use Rattle.round_trip.specs.declared.Back.{Back}
use Rattle.round_trip.specs.declared.Which.{Which}
use Rattle.round_trip.specs.declared.Which.TheVariants.{First, Second}

-- What was written is read. Demand 3 over the definitions holds of the bytes; the reader's call is one of the definitions; and with a long enough buffer,
-- four bytes a line, it answers the lines left, in order, and the spans of demand 3.
pub record HandedBack (mb : List ℕ) (s : Stretch) (tests : ℕ) (bs lines lines' : List ℕ) (a : HostRead) : Type 0 where
  pub back : ReadBack mb s tests bs
  pub call : HostReadCall mb bs lines a lines'
  pub accepts : 4 * length (left_of mb s tests bs back) ≤ length lines →
      (a ≡ host_read (read (left_of mb s tests bs back) back.pos back.neg)) × (lines' ≡ placed (word_bytes (left_of mb s tests bs back)) lines)

-- The writer's call, with a number of leg tests (W7), is one of the definitions, and wrote this many bytes with so many tests made and this excess;
-- or it wrote this many bytes; or it refused with this number, and the byte buffer is as it was.
abbrev pub WroteSo : List ℕ → List ℕ → ℕ → ℕ → ℕ → List ℕ → List ℕ → ℕ → ℕ → ℕ → Type 0
WroteSo mb stretch pos neg tests b b' count made excess =
    HostWriteCall mb stretch pos neg tests b (record { refusal = 0; bytes = count; tests = made; excess = excess }) b'

abbrev pub Wrote : List ℕ → List ℕ → ℕ → ℕ → ℕ → List ℕ → List ℕ → ℕ → Type 0
Wrote mb stretch pos neg tests b b' count = (made : ℕ) × (excess : ℕ) × WroteSo mb stretch pos neg tests b b' count made excess

abbrev pub NotWritten : List ℕ → List ℕ → ℕ → ℕ → ℕ → List ℕ → List ℕ → ℕ → Type 0
NotWritten mb stretch pos neg tests b b' why =
    HostWriteCall mb stretch pos neg tests b (record { refusal = why; bytes = 0; tests = 0; excess = 0 }) b' × (why ≢ 0) × (b' ≡ b)

-- Where the writer refuses nothing is changed; where it accepts, the first bytes, as many as it wrote, are read.
abbrev pub TripTells : List ℕ → List ℕ → ℕ → ℕ → ℕ → List ℕ → List ℕ → List ℕ → List ℕ →
    Result (Back Written Lines) ℕ → Type 0
TripTells mb stretch pos neg tests b b' l l' (Err why) = NotWritten mb stretch pos neg tests b b' why × (l' ≡ l)
TripTells mb stretch pos neg tests b b' l l' (Ok back) =
    let w = back.written in
    (w.refusal ≡ 0) × WroteSo mb stretch pos neg tests b b' w.bytes w.tests w.excess ×
    HandedBack mb (host_stretch stretch pos neg) tests (take w.bytes b') l l' (as_read back.answer)

-- Where two stretches are accepted with the same bytes, the lines left are the same and what is left of the offsets is no further apart than the ends of
-- the span that reading the bytes gives, which is less than three 512ths of the leg: demand 3, for both stretches. Otherwise nothing is read.
abbrev pub PairTells : List ℕ → List ℕ → ℕ → ℕ → ℕ → List ℕ → ℕ → ℕ → ℕ → List ℕ → List ℕ → List ℕ → List ℕ → List ℕ → List ℕ →
    Result (Option (Back ℕ Lines)) (Which ℕ) → Type 0
PairTells mb s pos neg tests t pos' neg' tests' b b' o o' l l' (Err (First why)) = NotWritten mb s pos neg tests b b' why × (o' ≡ o) × (l' ≡ l)
PairTells mb s pos neg tests t pos' neg' tests' b b' o o' l l' (Err (Second why)) =
    ((count : ℕ) × Wrote mb s pos neg tests b b' count) × NotWritten mb t pos' neg' tests' o o' why × (l' ≡ l)
PairTells mb s pos neg tests t pos' neg' tests' b b' o o' l l' (Ok None) =
    ((count : ℕ) × (size : ℕ) × Wrote mb s pos neg tests b b' count × Wrote mb t pos' neg' tests' o o' size × (take count b' ≡ take size o' → ⊥)) × (l' ≡ l)
PairTells mb s pos neg tests t pos' neg' tests' b b' o o' l l' (Ok (Some back)) =
    let count = back.written in
    Wrote mb s pos neg tests b b' count × Wrote mb t pos' neg' tests' o o' count × (take count b' ≡ take count o') ×
    Alike mb (take count b') (host_stretch s pos neg) (host_stretch t pos' neg') tests tests' ×
    HandedBack mb (host_stretch s pos neg) tests (take count b') l l' (as_read back.answer) ×
    HandedBack mb (host_stretch t pos' neg') tests' (take count b') l l' (as_read back.answer)
