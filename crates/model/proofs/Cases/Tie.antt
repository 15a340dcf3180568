-- The tie at the ridge (paper 01): stretch 0, 1 is written with three points, and two points are refused as having several readings.
use Prim.Native.Nat.{ℕ, ◌≤◌}
use mathlib.Core.Path.{◌≡◌, refl}
use mathlib.Core.Bool.{true, false}
use mathlib.Core.List.{[], ◌∷◌}
use native.Mathlib.Omega.{arith}
use Rattle.model.specs.declared.Span.{Span}
use Rattle.model.specs.Reference.{byte}
use Rattle.model.specs.Reading.{any, matching, Only, Several}
use Rattle.model.specs.Choice.{Good, good, final, before, Preferred, Chosen}
use Rattle.model.specs.LegTests.{tested_good}
use Rattle.model.specs.Refusal.{row, row_at}
use Rattle.model.specs.Outcome.{every, LegsRead, SpansRead, ReadOutcome, read, ReadEnd, ReadOn, Reads, written, WriteOutcome, WriteBy, WriteOn, Writes}
use Rattle.model.specs.Span.{unflagged}
use Rattle.model.proofs.Cases.Computing.{computing}
use Rattle.model.proofs.Cases.Edges.{byte_80_on_the_ridge}
use Rattle.model.proofs.Cases.Ways.{finding, connects}
use Rattle.model.proofs.Legs.{not_several}
use Rattle.model.proofs.LegTests.{good_filled, tested_filled, good_as_untested}
use Rattle.model.proofs.BestFound.{short_of_all, best_of_all}
use Rattle.model.proofs.Cases.Legs.{reading, only, sole, sectors}
use Rattle.model.proofs.Cases.Cuts.{cutting, chosen, no_choice_by, passed, second_passed}
use Rattle.model.proofs.Cases.Ridge.{map_bytes, ridge, three_points, three_from5000, two_points, road, three, stretch, cuts, leg, three_legs, tie, on_the_ridge}

-- From node 0 to node 1 there is line 0 alone; from node 1 to node 3 lines 2, 3 leave in another sector than line 1.
first_only : Only ridge (leg 0 1 1 any) (0 ∷ [])
unfolding computing finding
first_only = sole ridge (leg 0 1 1 any) refl (0 ∷ []) (search (connects, arith)) refl refl

last_only : Only ridge (leg 1 3 1 (matching (road 24))) (1 ∷ [])
unfolding computing finding
last_only =
    only ridge (leg 1 3 1 (matching (road 24))) refl (1 ∷ [])
    (reading ridge (leg 1 3 1 (matching (road 24))) refl (1 ∷ []) (search (connects, arith)) refl (omega arith))
    (λ r. absurd (omega (arith, sectors r.allowed.leaves)), (λ r. refl, tt))

-- "From node 0 with two points both 0,1 and 0,2,3 fit."
pub tie_several : Several ridge tie
unfolding computing finding
tie_several =
    record {
      one = 0 ∷ 1 ∷ [];
      other = 0 ∷ 2 ∷ 3 ∷ [];
      first = reading ridge tie refl (0 ∷ 1 ∷ []) (search (connects, arith)) refl (omega arith);
      second = reading ridge tie refl (0 ∷ 2 ∷ 3 ∷ []) (search (connects, arith)) refl (omega arith);
      differ = λ e. let z : ◌≡◌ {A = ℕ} 0 1 = cc in omega arith;
    }

-- So stretch 0, 1 takes three points.
first_good : Good ridge false (0 ∷ [])
unfolding computing
first_good = record { fit = omega arith; only = first_only }

last_good : Good ridge true (1 ∷ [])
unfolding computing
last_good = record { fit = omega arith; only = last_only }

pub cut_in_two : Chosen (good ridge) (0 ∷ 1 ∷ []) cuts
unfolding computing cutting
cut_in_two =
    chosen ridge (0 ∷ 1 ∷ []) cuts (record { usable = before first_good (final last_good); whole = refl })
    (λ c. Preferred.same, (λ c. absurd (not_several (passed c.usable).only tie_several), tt))

-- The stretch is written so with a full work area, a test for each of its three legs and a byte buffer that is just long enough; in a shorter one it is
-- refusal 11. A fourth test is not made (W7).
pub writes : Writes map_bytes (stretch 0) 3 14_336 23 (written three_points 3 0)
unfolding computing
writes = best_of_all (good_filled ridge) cut_in_two (omega arith)

pub writes_from_5000 : Writes map_bytes (stretch 5_000) 4 14_336 24 (written three_from5000 3 0)
unfolding computing
writes_from_5000 = best_of_all (good_filled ridge) cut_in_two (omega arith)

pub too_few_bytes : Writes map_bytes (stretch 0) 3 14_336 22 (WriteOutcome.refused (row 11))
unfolding computing
too_few_bytes = short_of_all (good_filled ridge) cut_in_two (omega arith)

-- The leg of line 1 has the third turn. With two tests or fewer it is not tested, and so nothing is written yet: refusal 26 (W7).
pub line_1_untested : (made room : ℕ) → made ≤ 2 → WriteOn ridge (stretch 0) made room (WriteOutcome.refused (row 26))
unfolding computing cutting
line_1_untested made room few =
    WriteBy.unfinished
    (no_choice_by (tested_good (good ridge) (0 ∷ 1 ∷ []) made) (tested_filled (good_filled ridge) (0 ∷ 1 ∷ []) made) (0 ∷ 1 ∷ []) (
      λ c. omega (arith, few, (second_passed c.usable).tested),
      (λ c. not_several (passed c.usable).good.only tie_several, tt),
    ))
    (good_as_untested cut_in_two.choice)

pub two_tests : Writes map_bytes (stretch 0) 2 14_336 23 (WriteOutcome.refused (row 26))
unfolding computing
two_tests = line_1_untested 2 23 (omega arith)

pub zero_tests : Writes map_bytes (stretch 0) 0 14_336 23 (WriteOutcome.refused (row 26))
unfolding computing
zero_tests = line_1_untested 0 23 (omega arith)

-- And it is read so, with a line buffer of 1,024 numbers or of 2; one of 1 is refusal 20.
abbrev pub none : Span
none = record { least = 0; greatest = 0 }

abbrev pub from_5000 : Span
from_5000 = record { least = 4_981; greatest = 5_019 }

pub legs_read : LegsRead ridge 0 three_legs (every cuts)
legs_read = LegsRead.only first_only (LegsRead.only last_only LegsRead.none)

pub spans_from_5000 : SpansRead ridge (three (byte 0x80)) cuts from_5000 none
unfolding computing
spans_from_5000 = record { pos_read = byte_80_on_the_ridge; neg_read = unflagged }

pub reads : Reads map_bytes three_points 14_336 1_024 (read (0 ∷ 1 ∷ []) none none)
unfolding computing
reads =
    ReadOn.every_leg on_the_ridge.three_located legs_read
    (ReadEnd.accepted (record { pos_read = unflagged; neg_read = unflagged }) (omega arith) (omega arith))

pub reads_from_5000 : Reads map_bytes three_from5000 14_336 2 (read (0 ∷ 1 ∷ []) from_5000 none)
unfolding computing
reads_from_5000 =
    ReadOn.every_leg on_the_ridge.three_from_5000_located legs_read (ReadEnd.accepted spans_from_5000 (omega arith) (omega arith))

pub too_few_lines : Reads map_bytes three_from5000 14_336 1 (ReadOutcome.refused (row 20))
unfolding computing
too_few_lines =
    ReadOn.every_leg on_the_ridge.three_from_5000_located legs_read (ReadEnd.no_room spans_from_5000 (omega arith) (omega arith))

-- Two points fit both ways: refusal 18 at leg 0.
pub refuses : Reads map_bytes two_points 14_336 1_024 (ReadOutcome.refused (row_at 18 0))
unfolding computing
refuses = ReadOn.no_leg on_the_ridge.two_located (LegsRead.several tie_several)
