-- What writing a stretch and then reading the bytes comes to (paper 01, "The words of demand 3").
-- "Full work area" and "long enough buffer" are the paper's words.
use Rattle.std.specs.Prelude.{ℕ, ◌≤◌, ◌≡◌, List, length, take, Option, Some, None, Result, Ok, Err}
use Rattle.model.specs.Stretch.{Stretch, remaining}
use Rattle.model.specs.Work.{work_length, placed}
use Rattle.model.specs.Call.{ReadCall, WriteCall}
use Rattle.model.specs.Demand3.{ReadBack, Alike}
use Rattle.model.specs.Answer.{ReadAnswer, lines_read, bytes_written}
use Rattle.model.specs.declared.Refusal.{Refusal}
use Rattle.model.specs.declared.WrittenBytes.{WrittenBytes}
use Rattle.round_trip.specs.declared.Back.{Back}
use Rattle.round_trip.specs.declared.Which.{Which}
use Rattle.round_trip.specs.declared.Which.TheVariants.{First, Second}

-- The lines that are left of a stretch, as demand 3 names them.
abbrev pub left_of : (mb : List ℕ) (s : Stretch) (tests : ℕ) (bs : List ℕ) → ReadBack mb s tests bs → List ℕ
left_of mb s tests bs back = (remaining back.map s).lines

-- What was written is read. Demand 3 over the definitions holds of the bytes; the reader's call is one of the definitions; and with a full work area
-- and a long enough buffer it answers the lines left, in order, and the spans of demand 3.
pub record HandedBack (mb : List ℕ) (s : Stretch) (tests : ℕ) (bs work work' lines lines' : List ℕ) (a : ReadAnswer) : Type 0 where
  pub back : ReadBack mb s tests bs
  pub call : ReadCall mb bs work lines a work' lines'
  pub accepts : work_length ≤ length work → length (left_of mb s tests bs back) ≤ length lines →
      (a ≡ Ok (lines_read (length (left_of mb s tests bs back)) back.pos back.neg)) × (lines' ≡ placed (left_of mb s tests bs back) lines)

-- The writer's call, with a number of leg tests (W7), is one of the definitions. Where it refuses nothing else is changed; where it accepts, the first
-- bytes, as many as it wrote, are read.
abbrev pub TripTells : List ℕ → Stretch → ℕ → List ℕ → List ℕ → List ℕ → List ℕ → List ℕ → List ℕ → List ℕ → List ℕ → Result (Back WrittenBytes ReadAnswer) Refusal → Type 0
TripTells mb s tests w w' b b' v v' l l' (Err why) = WriteCall mb s tests w b (Err why) w' b' × (v' ≡ v) × (l' ≡ l)
TripTells mb s tests w w' b b' v v' l l' (Ok back) =
    WriteCall mb s tests w b (Ok back.written) w' b' × HandedBack mb s tests (take back.written.bytes b') v v' l l' back.answer

-- A writer's call that answers a count of bytes, whatever the tests made and the excess.
abbrev pub WritesCount : List ℕ → Stretch → ℕ → List ℕ → List ℕ → ℕ → List ℕ → List ℕ → Type 0
WritesCount mb s tests w b count w' b' = (made : ℕ) × (excess : ℕ) × WriteCall mb s tests w b (Ok (bytes_written count made excess)) w' b'

-- Two stretches are written one after the other, the second with the work area that the first call left. Each has its own number of leg tests.
pub record BothWritten (mb : List ℕ) (s : Stretch) (tests : ℕ) (t : Stretch) (tests' : ℕ) (w w' b b' o o' : List ℕ) (count size : ℕ) : Type 0 where
  pub between : List ℕ
  pub first : WritesCount mb s tests w b count between b'
  pub second : WritesCount mb t tests' between o size w' o'

-- Where both are accepted with the same bytes, the lines left are the same and what is left of the offsets is no further apart than the ends of the
-- span that reading the bytes gives, which is less than three 512ths of the leg: demand 3, for both stretches. Otherwise nothing is read.
abbrev pub PairTells : List ℕ → Stretch → ℕ → Stretch → ℕ → List ℕ → List ℕ → List ℕ → List ℕ → List ℕ → List ℕ → List ℕ → List ℕ → List ℕ → List ℕ →
    Result (Option (Back ℕ ReadAnswer)) (Which Refusal) → Type 0
PairTells mb s tests t tests' w w' b b' o o' v v' l l' (Err (First why)) =
    WriteCall mb s tests w b (Err why) w' b' × (o' ≡ o) × (v' ≡ v) × (l' ≡ l)
PairTells mb s tests t tests' w w' b b' o o' v v' l l' (Err (Second why)) =
    ((between : List ℕ) × (count : ℕ) × WritesCount mb s tests w b count between b' × WriteCall mb t tests' between o (Err why) w' o') ×
    (v' ≡ v) × (l' ≡ l)
PairTells mb s tests t tests' w w' b b' o o' v v' l l' (Ok None) =
    ((count : ℕ) × (size : ℕ) × BothWritten mb s tests t tests' w w' b b' o o' count size × (take count b' ≡ take size o' → ⊥)) × (v' ≡ v) × (l' ≡ l)
PairTells mb s tests t tests' w w' b b' o o' v v' l l' (Ok (Some back)) =
    let count = back.written in
    BothWritten mb s tests t tests' w w' b b' o o' count count × (take count b' ≡ take count o') × Alike mb (take count b') s t tests tests' ×
    HandedBack mb s tests (take count b') v v' l l' back.answer × HandedBack mb t tests' (take count b') v v' l l' back.answer
