-- The writer's choice of points on small maps, and what it writes (paper 01, "What counts as a reading", last paragraph; refusals 10 and 11).
use Prim.Native.Nat.{ℕ}
use mathlib.Core.Path.{◌≡◌, refl, ap}
use mathlib.Core.Bool.{true, false}
use mathlib.Core.List.{List, [], ◌∷◌}
use native.Mathlib.Omega.{arith}
use lib.ListN.{length}
use Rattle.model.specs.Map.{Map}
use Rattle.model.specs.Reading.{Leg, Several}
use Rattle.model.specs.Choice.{leg_of, Good, good, Usable, final, before, MoreFirst, Preferred, Chosen, first_leg}
use Rattle.model.specs.Outcome.{written, WriteOn}
use Rattle.model.proofs.LegTests.{good_filled}
use Rattle.model.proofs.BestFound.{best_of_all}
use Rattle.model.proofs.Cases.Computing.{computing}
use Rattle.model.proofs.Cases.Ways.{finding, connects}
use Rattle.model.proofs.Legs.{not_several}
use Rattle.model.proofs.Cases.Legs.{reading, only, sole, sectors}
use Rattle.model.proofs.Cases.Cuts.{cutting, chosen, passed}

-- Lines 0, 1, 2 and a way of the same length from line 0 on, which arrives as line 2 does. Node 0 stands at (100,000, -100,000).
abbrev pub bypass : Map
bypass =
    record {
      nodes =
          record { lon = 18_100_000; lat = 8_900_000 }
          ∷ record { lon = 18_101_000; lat = 8_900_000 }
          ∷ record { lon = 18_102_000; lat = 8_899_500 }
          ∷ record { lon = 18_101_000; lat = 8_901_000 }
          ∷ record { lon = 18_102_500; lat = 8_899_000 }
          ∷ [];
      lines =
          record { start = 0; end = 1; length = 10_000; frc = 2; fow = 5; out = 8; back = 24 }
          ∷ record { start = 1; end = 2; length = 10_000; frc = 4; fow = 1; out = 8; back = 24 }
          ∷ record { start = 2; end = 4; length = 5_000; frc = 3; fow = 6; out = 12; back = 26 }
          ∷ record { start = 1; end = 3; length = 7_500; frc = 4; fow = 1; out = 0; back = 16 }
          ∷ record { start = 3; end = 4; length = 7_500; frc = 3; fow = 6; out = 16; back = 26 }
          ∷ [];
      bans = [];
    }

two_lines : Good bypass false (0 ∷ 1 ∷ [])
unfolding computing finding
two_lines =
    record { fit = omega arith; only = sole bypass (leg_of bypass false (0 ∷ 1 ∷ [])) refl (0 ∷ 1 ∷ []) (search (connects, arith)) refl refl }

last_line : Good bypass true (2 ∷ [])
unfolding computing finding
last_line =
    record { fit = omega arith; only = sole bypass (leg_of bypass true (2 ∷ [])) refl (2 ∷ []) (search (connects, arith)) refl refl }

-- With two points 0, 1, 2 and 0, 3, 4 both fit.
abbrev through : Leg
through = leg_of bypass true (0 ∷ 1 ∷ 2 ∷ [])

tied : Several bypass through
unfolding computing finding
tied =
    record {
      one = 0 ∷ 1 ∷ 2 ∷ [];
      other = 0 ∷ 3 ∷ 4 ∷ [];
      first = reading bypass through refl (0 ∷ 1 ∷ 2 ∷ []) (search (connects, arith)) refl (omega arith);
      second = reading bypass through refl (0 ∷ 3 ∷ 4 ∷ []) (search (connects, arith)) refl (omega arith);
      differ = λ e. let z : ◌≡◌ {A = ℕ} 1 3 = cc in omega arith;
    }

-- Three points: "the one whose first leg has most lines". Four are more.
pub most_lines_first : Chosen (good bypass) (0 ∷ 1 ∷ 2 ∷ []) ((0 ∷ 1 ∷ []) ∷ (2 ∷ []) ∷ [])
unfolding computing cutting
most_lines_first =
    chosen bypass (0 ∷ 1 ∷ 2 ∷ []) ((0 ∷ 1 ∷ []) ∷ (2 ∷ []) ∷ []) (record { usable = before two_lines (final last_line); whole = refl }) (
      λ c. Preferred.fewer (omega arith),
      (
        λ c. Preferred.same,
        (
          λ c. Preferred.more_first refl (MoreFirst.more (omega arith)),
          (λ c. absurd (not_several (passed c.usable).only tied), tt),
        ),
      ),
    )

-- The other cut into two legs is usable as well, but is not what the writer takes.
first_line : Good bypass false (0 ∷ [])
unfolding computing finding
first_line =
    record { fit = omega arith; only = sole bypass (leg_of bypass false (0 ∷ [])) refl (0 ∷ []) (search (connects, arith)) refl refl }

last_lines : Good bypass true (1 ∷ 2 ∷ [])
unfolding computing finding
last_lines =
    record {
      fit = omega arith;
      only = only bypass (leg_of bypass true (1 ∷ 2 ∷ [])) refl (1 ∷ 2 ∷ [])
          (reading bypass (leg_of bypass true (1 ∷ 2 ∷ [])) refl (1 ∷ 2 ∷ []) (search (connects, arith)) refl (omega arith))
          (λ r. absurd (omega (arith, sectors r.allowed.leaves)), (λ r. refl, tt));
    }

first_lines : {a b : List (List ℕ)} → a ≡ b → length (first_leg a) ≡ length (first_leg b)
first_lines e = ap (λ (l : List (List ℕ)). length (first_leg l)) e

not_preferred : {a b : List (List ℕ)} → Preferred a b → a ≡ (0 ∷ []) ∷ (1 ∷ 2 ∷ []) ∷ [] → b ≡ (0 ∷ 1 ∷ []) ∷ (2 ∷ []) ∷ [] → ⊥
unfolding computing
not_preferred Preferred.same e f = omega (arith, first_lines e, first_lines f)
not_preferred (Preferred.fewer h) e f = omega (arith, ap length e, ap length f)
not_preferred (Preferred.more_first h (MoreFirst.more k)) e f = omega (arith, first_lines e, first_lines f)
not_preferred (Preferred.more_first h (MoreFirst.later k o)) e f = omega (arith, first_lines e, first_lines f)

pub not_fewest_first : Chosen (good bypass) (0 ∷ 1 ∷ 2 ∷ []) ((0 ∷ []) ∷ (1 ∷ 2 ∷ []) ∷ []) → ⊥
not_fewest_first c = not_preferred (c.preferred ((0 ∷ 1 ∷ []) ∷ (2 ∷ []) ∷ []) most_lines_first.choice) refl refl

pub also_usable : Usable (good bypass) 0 ((0 ∷ []) ∷ (1 ∷ 2 ∷ []) ∷ [])
also_usable = before first_line (final last_lines)

-- The bytes of the first cut. Codes 46,603 and -46,603; P 2 × 8 + 5, Q 4 × 32 + 8, D 20,000 ÷ 5,860; 2000 east and 500 south.
-- P 3 × 8 + 6, Q 3 × 32 + 12, D 0; 500 east and 500 south. P as before, R 64 + 32 + 26.
-- Positive offset 5,000 is a quarter of the first leg, negative offset 2,500 is half of the last.
abbrev pub bypass_bytes : List ℕ
bypass_bytes =
    0x0B ∷ 0x00 ∷ 0xB6 ∷ 0x0B ∷ 0xFF ∷ 0x49 ∷ 0xF5 ∷ 0x15 ∷ 0x88 ∷ 0x03 ∷ 0x07 ∷ 0xD0 ∷ 0xFE ∷ 0x0C ∷ 0x1E ∷ 0x6C ∷ 0x00 ∷ 0x01 ∷ 0xF4 ∷ 0xFE ∷ 0x0C ∷ 0x1E
    ∷ 0x7A ∷ 0x40 ∷ 0x80 ∷ []

pub bypass_written : WriteOn bypass (record { lines = 0 ∷ 1 ∷ 2 ∷ []; pos = 5_000; neg = 2_500 }) 6 25 (written bypass_bytes 6 0)
unfolding computing
bypass_written = best_of_all (good_filled bypass) most_lines_first (omega arith)

-- "The fewest points": 0, 1 alone takes two.
both_lines : Good bypass true (0 ∷ 1 ∷ [])
unfolding computing finding
both_lines =
    record { fit = omega arith; only = sole bypass (leg_of bypass true (0 ∷ 1 ∷ [])) refl (0 ∷ 1 ∷ []) (search (connects, arith)) refl refl }

pub fewest_points : Chosen (good bypass) (0 ∷ 1 ∷ []) ((0 ∷ 1 ∷ []) ∷ [])
unfolding computing cutting
fewest_points =
    chosen bypass (0 ∷ 1 ∷ []) ((0 ∷ 1 ∷ []) ∷ []) (record { usable = final both_lines; whole = refl })
    (λ c. Preferred.fewer (omega arith), (λ c. Preferred.same, tt))

-- Then the second leg, "and so on".
pub second_leg : Preferred ((0 ∷ []) ∷ (1 ∷ 2 ∷ []) ∷ (3 ∷ []) ∷ []) ((0 ∷ []) ∷ (1 ∷ []) ∷ (2 ∷ 3 ∷ []) ∷ [])
second_leg = Preferred.more_first refl (MoreFirst.later refl (MoreFirst.more {a = 1 ∷ 2 ∷ []} {b = 1 ∷ []} (omega arith)))
