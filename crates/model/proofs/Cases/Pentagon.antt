-- "By how many points at most that exceeds the fewest" (W7): on the smallest stretch where it is not 0. Four lines in a row, one out of each node, so that only
-- differences decide which legs are good. By the places where they start and end these are 0-1, 0-3, 1-2, 2-4, and 3-4 unless the last node is too far away.
use Prim.Native.Nat.{ℕ, ◌≤◌}
use mathlib.Core.Path.{refl}
use mathlib.Core.Bool.{true, false}
use mathlib.Core.List.{List, [], ◌∷◌}
use native.Mathlib.Omega.{arith}
use lib.ListN.{length}
use Rattle.model.specs.Map.{Map}
use Rattle.model.specs.Stretch.{Stretch, stretch_of}
use Rattle.model.specs.Choice.{leg_of, Good, good, final, before, Choice, Preferred, Chosen, stretch_bytes}
use Rattle.model.specs.LegTests.{tested_good, good_or_untested, GoodOrUntested, Fewest}
use Rattle.model.specs.Refusal.{row}
use Rattle.model.specs.Work.{work_length}
use Rattle.model.specs.Outcome.{WriteOutcome, written, WriteBy, WriteOn, Writes}
use Rattle.model.proofs.LegTests.{good_filled, tested_filled, untested_filled, good_as_untested, tests_within}
use Rattle.model.proofs.Outcomes.{on_writes}
use Rattle.model.proofs.BestFound.{best_of_all, on_all_tests}
use Rattle.model.proofs.Cases.Computing.{computing}
use Rattle.model.proofs.Cases.Encoded.{encoded, encoding}
use Rattle.model.proofs.Cases.Ways.{finding, connects}
use Rattle.model.proofs.Cases.Legs.{sole}
use Rattle.model.proofs.Cases.Cuts.{cutting, each_cut, chosen, chosen_by, no_choice_by, passed, first_passed, second_passed, third_passed, fourth_passed}
use Rattle.model.proofs.Cases.Ridge.{node, line}

-- The last node stands so far east. Node 3 stands at (-10,000, 30,000).
abbrev pub ring : ℕ → Map
ring east =
    record {
      nodes = node 0 0 ∷ node 30_000 0 ∷ node 40_000 30_000 ∷ record { lon = 17_990_000; lat = 9_030_000 } ∷ node east 50_000 ∷ [];
      lines = line 0 1 10_000 8 24 ∷ line 1 2 10_000 8 24 ∷ line 2 3 10_000 8 24 ∷ line 3 4 10_000 8 24 ∷ [];
      bans = [];
    }

-- All four lines.
abbrev pub four : List ℕ
four = 0 ∷ 1 ∷ 2 ∷ 3 ∷ []

abbrev pub ring_stretch : Stretch
ring_stretch = stretch_of four 0 0

-- 0-1, 1-2, 2-4, and 0-3, 3-4.
abbrev pub three_legs : List (List ℕ)
three_legs = (0 ∷ []) ∷ (1 ∷ []) ∷ (2 ∷ 3 ∷ []) ∷ []

abbrev pub two_legs : List (List ℕ)
two_legs = (0 ∷ 1 ∷ 2 ∷ []) ∷ (3 ∷ []) ∷ []

-- The good legs but the last one of all.
module _ (east : ℕ) where
  leg_0_1 : Good (ring east) false (0 ∷ [])
  unfolding computing finding
  leg_0_1 = record { fit = omega arith; only = sole (ring east) (leg_of (ring east) false (0 ∷ [])) refl (0 ∷ []) (search (connects, arith)) refl refl }

  leg_0_3 : Good (ring east) false (0 ∷ 1 ∷ 2 ∷ [])
  unfolding computing finding
  leg_0_3 =
      record {
        fit = omega arith;
        only = sole (ring east) (leg_of (ring east) false (0 ∷ 1 ∷ 2 ∷ [])) refl (0 ∷ 1 ∷ 2 ∷ []) (search (connects, arith)) refl refl;
      }

  leg_1_2 : Good (ring east) false (1 ∷ [])
  unfolding computing finding
  leg_1_2 = record { fit = omega arith; only = sole (ring east) (leg_of (ring east) false (1 ∷ [])) refl (1 ∷ []) (search (connects, arith)) refl refl }

  leg_2_4 : 10_000 ≤ east → east ≤ 70_000 → Good (ring east) true (2 ∷ 3 ∷ [])
  unfolding computing finding
  leg_2_4 from to =
      record {
        fit = omega (arith, from, to);
        only = sole (ring east) (leg_of (ring east) true (2 ∷ 3 ∷ [])) refl (2 ∷ 3 ∷ []) (search (connects, arith)) refl refl;
      }

  -- Legs that are not good: their ends are too far apart.
  not_0_2 : Good (ring east) false (0 ∷ 1 ∷ []) → ⊥
  unfolding computing
  not_0_2 g = omega (arith, g.fit.lon.on)

  not_1_4 : Good (ring east) true (1 ∷ 2 ∷ 3 ∷ []) → ⊥
  unfolding computing
  not_1_4 g = omega (arith, g.fit.lat.on)

  not_0_4 : Good (ring east) true four → ⊥
  unfolding computing
  not_0_4 g = omega (arith, g.fit.lat.on)

-- ---- the writer with some of ten tests: leg 2-4 has the ninth turn, and leg 3-4 the tenth

module _ (east : ℕ) (from : 10_000 ≤ east) (to : east ≤ 70_000) where
  three_good : Choice (good (ring east)) four three_legs
  unfolding computing
  three_good = record { usable = before (leg_0_1 east) (before (leg_1_2 east) (final (leg_2_4 east from to))); whole = refl }

  -- Up to eight tests no leg to the last node is tested good: refusal 26.
  pub eight_tests : (made room : ℕ) → made ≤ 8 → WriteOn (ring east) ring_stretch made room (WriteOutcome.refused (row 26))
  unfolding computing cutting
  eight_tests made room few =
      WriteBy.unfinished
      (no_choice_by (tested_good (good (ring east)) four made) (tested_filled (good_filled (ring east)) four made) four (
        λ c. omega (arith, few, (fourth_passed c.usable).tested),
        (
          λ c. omega (arith, few, (third_passed c.usable).tested),
          (
            λ c. omega (arith, few, (third_passed c.usable).tested),
            (
              λ c. omega (arith, few, (second_passed c.usable).tested),
              (
                λ c. omega (arith, few, (third_passed c.usable).tested),
                (
                  λ c. omega (arith, few, (second_passed c.usable).tested),
                  (λ c. not_1_4 east (second_passed c.usable).good, (λ c. not_0_4 east (passed c.usable).good, tt)),
                ),
              ),
            ),
          ),
        ),
      ))
      (good_as_untested three_good)

  -- With nine tests 0-1, 1-2, 2-4 is found; no other choice is of legs tested good.
  three_found : Chosen (tested_good (good (ring east)) four 9) four three_legs
  unfolding computing cutting
  three_found =
      chosen_by (tested_good (good (ring east)) four 9) (tested_filled (good_filled (ring east)) four 9) four three_legs
      (record {
        usable = before (record { tested = omega arith; good = leg_0_1 east })
            (before (record { tested = omega arith; good = leg_1_2 east }) (final (record { tested = omega arith; good = leg_2_4 east from to })));
        whole = refl;
      }) (
        λ c. absurd (omega (arith, (fourth_passed c.usable).tested)),
        (
          λ c. absurd (omega (arith, (third_passed c.usable).tested)),
          (
            λ c. absurd (omega (arith, (third_passed c.usable).tested)),
            (
              λ c. absurd (omega (arith, (second_passed c.usable).tested)),
              (
                λ c. Preferred.same,
                (
                  λ c. absurd (not_0_2 east (first_passed c.usable).good),
                  (λ c. absurd (not_1_4 east (second_passed c.usable).good), (λ c. absurd (not_0_4 east (passed c.usable).good), tt)),
                ),
              ),
            ),
          ),
        ),
      )

  -- While 3-4 is untested, 0-3, 3-4 may be the fewest, good or not. The whole stretch is tested, and not one good leg.
  two_untested : Choice (good_or_untested (good (ring east)) four 9) four two_legs
  unfolding computing
  two_untested =
      record {
        usable = before (GoodOrUntested.good (leg_0_3 east)) (final {at = 3} {ls = 3 ∷ []} (GoodOrUntested.untested (omega arith) (omega arith)));
        whole = refl;
      }

  not_one_leg : GoodOrUntested (good (ring east)) 4 9 0 true four → ⊥
  unfolding computing
  not_one_leg (GoodOrUntested.good g) = not_0_4 east g
  not_one_leg (GoodOrUntested.untested some late) = omega (arith, late)

  fewest_two : Fewest (good_or_untested (good (ring east)) four 9) four 2
  unfolding computing cutting
  fewest_two =
      record {
        legs = two_legs;
        choice = two_untested;
        counted = refl;
        fewest = λ others d.
            each_cut (good_or_untested (good (ring east)) four 9) (untested_filled (good_filled (ring east)) four 9) four
            (λ others. Choice (good_or_untested (good (ring east)) four 9) four others → 2 ≤ length others) (
              λ c. omega arith,
              (
                λ c. omega arith,
                (
                  λ c. omega arith,
                  (λ c. omega arith, (λ c. omega arith, (λ c. omega arith, (λ c. omega arith, (λ c. absurd (not_one_leg (passed c.usable)), tt))))),
                ),
              ),
            )
            others d d;
      }

  -- So the four points of these legs exceed the fewest by one at most.
  pub nine_tests : (room : ℕ) → length (stretch_bytes (ring east) three_legs ring_stretch) ≤ room →
      WriteOn (ring east) ring_stretch 9 room (written (stretch_bytes (ring east) three_legs ring_stretch) 9 1)
  nine_tests room fits = WriteBy.accepted three_found fewest_two fits

-- ---- with the last node near node 3

-- Neighbours in the ring of nodes 0, 1, 2, 4, 3 differ by 30,000 at most, east and north, and others by 40,000 at least.
abbrev pub pentagon : Map
pentagon = ring 20_000

-- Legs of 1000, 1000 and 2000: D is 1, 1 and 3. Differences: 30,000 and 0; 10,000 and 30,000; -20,000 and 20,000.
abbrev pub four_points : List ℕ
four_points =
    0x0B ∷ 0 ∷ 0 ∷ 0 ∷ 0 ∷ 0 ∷ 0 ∷ 0x1B ∷ 0x68 ∷ 0x01 ∷ 0x75 ∷ 0x30 ∷ 0 ∷ 0 ∷ 0x1B ∷ 0x68 ∷ 0x01 ∷ 0x27 ∷ 0x10 ∷ 0x75 ∷ 0x30 ∷ 0x1B ∷ 0x68 ∷ 0x03 ∷ 0xB1
    ∷ 0xE0 ∷ 0x4E ∷ 0x20 ∷ 0x1B ∷ 0x18 ∷ []

-- Legs of 3000 and 1000: D is 5 and 1. Differences: -10,000 and 30,000; 30,000 and 20,000.
abbrev pub three_points : List ℕ
three_points =
    0x0B ∷ 0 ∷ 0 ∷ 0 ∷ 0 ∷ 0 ∷ 0 ∷ 0x1B ∷ 0x68 ∷ 0x05 ∷ 0xD8 ∷ 0xF0 ∷ 0x75 ∷ 0x30 ∷ 0x1B ∷ 0x68 ∷ 0x01 ∷ 0x75 ∷ 0x30 ∷ 0x4E ∷ 0x20 ∷ 0x1B ∷ 0x18 ∷ []

leg_3_4 : Good pentagon true (3 ∷ [])
unfolding computing finding
leg_3_4 = record { fit = omega arith; only = sole pentagon (leg_of pentagon true (3 ∷ [])) refl (3 ∷ []) (search (connects, arith)) refl refl }

two_chosen : Chosen (good pentagon) four two_legs
unfolding computing cutting
two_chosen =
    chosen pentagon four two_legs (record { usable = before (leg_0_3 20_000) (final leg_3_4); whole = refl }) (
      λ c. Preferred.fewer (omega arith),
      (
        λ c. Preferred.fewer (omega arith),
        (
          λ c. Preferred.fewer (omega arith),
          (
            λ c. Preferred.same,
            (
              λ c. Preferred.fewer (omega arith),
              (
                λ c. absurd (not_0_2 20_000 (first_passed c.usable)),
                (λ c. absurd (not_1_4 20_000 (second_passed c.usable)), (λ c. absurd (not_0_4 20_000 (passed c.usable)), tt)),
              ),
            ),
          ),
        ),
      ),
    )

-- ---- and too far from it

-- Node 4 is 60,000 east of node 3. While the leg between them is untested it counts as good all the same: the excess is 1, and in truth 0.
abbrev pub open_pentagon : Map
open_pentagon = ring 50_000

abbrev pub four_open : List ℕ
four_open =
    0x0B ∷ 0 ∷ 0 ∷ 0 ∷ 0 ∷ 0 ∷ 0 ∷ 0x1B ∷ 0x68 ∷ 0x01 ∷ 0x75 ∷ 0x30 ∷ 0 ∷ 0 ∷ 0x1B ∷ 0x68 ∷ 0x01 ∷ 0x27 ∷ 0x10 ∷ 0x75 ∷ 0x30 ∷ 0x1B ∷ 0x68 ∷ 0x03 ∷ 0x27
    ∷ 0x10 ∷ 0x4E ∷ 0x20 ∷ 0x1B ∷ 0x18 ∷ []

not_3_4 : Good open_pentagon true (3 ∷ []) → ⊥
unfolding computing
not_3_4 g = omega (arith, g.fit.lon.on)

three_chosen : Chosen (good open_pentagon) four three_legs
unfolding computing cutting
three_chosen =
    chosen open_pentagon four three_legs (three_good 50_000 (omega arith) (omega arith)) (
      λ c. absurd (not_3_4 (fourth_passed c.usable)),
      (
        λ c. absurd (not_3_4 (third_passed c.usable)),
        (
          λ c. absurd (not_3_4 (third_passed c.usable)),
          (
            λ c. absurd (not_3_4 (second_passed c.usable)),
            (
              λ c. Preferred.same,
              (
                λ c. absurd (not_0_2 50_000 (first_passed c.usable)),
                (λ c. absurd (not_1_4 50_000 (second_passed c.usable)), (λ c. absurd (not_0_4 50_000 (passed c.usable)), tt)),
              ),
            ),
          ),
        ),
      ),
    )

-- ---- whole calls, with a full work area

module _ (work room : ℕ) (full : work_length ≤ work) where
  module _ (tests : ℕ) where
    pub up_to_eight : tests ≤ 8 → Writes (encoded pentagon) ring_stretch tests work room (WriteOutcome.refused (row 26))
    unfolding computing encoding
    up_to_eight few =
        on_writes (encoded pentagon) ring_stretch {m = pentagon} {r = ring_stretch} tests work room _ full refl refl
        (eight_tests 20_000 (omega arith) (omega arith) _ room (omega (arith, few, tests_within 4 tests)))

    pub with_ten : 10 ≤ tests → 23 ≤ room → Writes (encoded pentagon) ring_stretch tests work room (written three_points 10 0)
    unfolding computing encoding
    with_ten all fits =
        on_all_tests (encoded pentagon) ring_stretch {m = pentagon} {r = ring_stretch} tests work room _ full refl refl all
        (best_of_all (good_filled pentagon) two_chosen (omega arith))

    pub open_with_ten : 10 ≤ tests → 30 ≤ room → Writes (encoded open_pentagon) ring_stretch tests work room (written four_open 10 0)
    unfolding computing encoding
    open_with_ten all fits =
        on_all_tests (encoded open_pentagon) ring_stretch {m = open_pentagon} {r = ring_stretch} tests work room _ full refl refl all
        (best_of_all (good_filled open_pentagon) three_chosen (omega arith))

  pub with_nine : 30 ≤ room → Writes (encoded pentagon) ring_stretch 9 work room (written four_points 9 1)
  unfolding computing encoding
  with_nine fits =
      on_writes (encoded pentagon) ring_stretch {m = pentagon} {r = ring_stretch} 9 work room _ full refl refl
      (nine_tests 20_000 (omega arith) (omega arith) room (omega arith))

  pub open_with_nine : 30 ≤ room → Writes (encoded open_pentagon) ring_stretch 9 work room (written four_open 9 1)
  unfolding computing encoding
  open_with_nine fits =
      on_writes (encoded open_pentagon) ring_stretch {m = open_pentagon} {r = ring_stretch} 9 work room _ full refl refl
      (nine_tests 50_000 (omega arith) (omega arith) room (omega arith))

  -- The byte buffer is measured on what is found: with nine tests it may be too short, and with ten long enough.
  pub nine_too_long : room ≤ 29 → Writes (encoded pentagon) ring_stretch 9 work room (WriteOutcome.refused (row 11))
  unfolding computing encoding
  nine_too_long short =
      on_writes (encoded pentagon) ring_stretch {m = pentagon} {r = ring_stretch} 9 work room _ full refl refl
      (WriteBy.no_room (three_found 20_000 (omega arith) (omega arith)) (omega arith))
