-- "26 (before 10) when tested legs allow no reference but one exists once untested legs count as good" (W7): 26 where in truth there is none, and 10 before all
-- legs are tested.
use Prim.Native.Nat.{ℕ, ◌≤◌}
use mathlib.Core.Path.{◌≡◌, refl}
use mathlib.Core.Bool.{true, false}
use mathlib.Core.List.{[], ◌∷◌}
use native.Mathlib.Omega.{arith}
use Rattle.model.specs.Map.{Map}
use Rattle.model.specs.Stretch.{Stretch, stretch_of}
use Rattle.model.specs.Reading.{Several}
use Rattle.model.specs.Choice.{leg_of, Good, good, final, before}
use Rattle.model.specs.LegTests.{tested_good, good_or_untested, GoodOrUntested}
use Rattle.model.specs.Refusal.{row}
use Rattle.model.specs.Work.{work_length}
use Rattle.model.specs.Outcome.{WriteOutcome, WriteBy, WriteOn, Writes}
use Rattle.model.proofs.Legs.{not_several}
use Rattle.model.proofs.LegTests.{good_filled, tested_filled, untested_filled, tests_within}
use Rattle.model.proofs.Outcomes.{on_writes}
use Rattle.model.proofs.BestFound.{none_of_all, on_all_tests}
use Rattle.model.proofs.Cases.Computing.{computing}
use Rattle.model.proofs.Cases.Encoded.{encoded, encoding}
use Rattle.model.proofs.Cases.Ways.{finding, connects}
use Rattle.model.proofs.Cases.Legs.{reading, sole}
use Rattle.model.proofs.Cases.Cuts.{cutting, no_choice, no_choice_by, passed, first_passed, second_passed}
use Rattle.model.proofs.Cases.Ridge.{node, line}

-- ---- two lines, the second of which ends too far away from both nodes

abbrev pub far_last : Map
far_last =
    record {
      nodes = node 0 0 ∷ node 30_000 0 ∷ node 70_000 0 ∷ [];
      lines = line 0 1 10_000 8 24 ∷ line 1 2 10_000 8 24 ∷ [];
      bans = [];
    }

abbrev pub both_lines : Stretch
both_lines = stretch_of (0 ∷ 1 ∷ []) 0 0

near : Good far_last false (0 ∷ [])
unfolding computing finding
near = record { fit = omega arith; only = sole far_last (leg_of far_last false (0 ∷ [])) refl (0 ∷ []) (search (connects, arith)) refl refl }

far : Good far_last true (1 ∷ []) → ⊥
unfolding computing
far g = omega (arith, g.fit.lon.on)

farther : Good far_last true (0 ∷ 1 ∷ []) → ⊥
unfolding computing
farther g = omega (arith, g.fit.lon.on)

-- While the leg of line 1 is untested it counts as good, though its differences do not fit.
far_untested : (made room : ℕ) → made ≤ 2 → WriteOn far_last both_lines made room (WriteOutcome.refused (row 26))
unfolding computing cutting
far_untested made room few =
    WriteBy.unfinished
    (no_choice_by (tested_good (good far_last) (0 ∷ 1 ∷ []) made) (tested_filled (good_filled far_last) (0 ∷ 1 ∷ []) made) (0 ∷ 1 ∷ [])
    (λ c. omega (arith, few, (second_passed c.usable).tested), (λ c. farther (passed c.usable).good, tt)))
    (record {
      usable = before (GoodOrUntested.good near) (final {at = 1} {ls = 1 ∷ []} (GoodOrUntested.untested (omega arith) (omega (arith, few))));
      whole = refl;
    })

-- ---- a line with another just like it, and a line behind

abbrev pub twins_first : Map
twins_first =
    record {
      nodes = node 0 0 ∷ node 30_000 0 ∷ node 40_000 30_000 ∷ [];
      lines = line 0 1 10_000 8 24 ∷ line 0 1 10_000 8 24 ∷ line 1 2 10_000 8 24 ∷ [];
      bans = [];
    }

abbrev pub twin_and_on : Stretch
twin_and_on = stretch_of (0 ∷ 2 ∷ []) 0 0

twins : Several twins_first (leg_of twins_first false (0 ∷ []))
unfolding computing finding
twins =
    record {
      one = 0 ∷ [];
      other = 1 ∷ [];
      first = reading twins_first (leg_of twins_first false (0 ∷ [])) refl (0 ∷ []) (search (connects, arith)) refl (omega arith);
      second = reading twins_first (leg_of twins_first false (0 ∷ [])) refl (1 ∷ []) (search (connects, arith)) refl (omega arith);
      differ = λ e. let z : ◌≡◌ {A = ℕ} 0 1 = cc in omega arith;
    }

twins_on : Several twins_first (leg_of twins_first true (0 ∷ 2 ∷ []))
unfolding computing finding
twins_on =
    record {
      one = 0 ∷ 2 ∷ [];
      other = 1 ∷ 2 ∷ [];
      first = reading twins_first (leg_of twins_first true (0 ∷ 2 ∷ [])) refl (0 ∷ 2 ∷ []) (search (connects, arith)) refl (omega arith);
      second = reading twins_first (leg_of twins_first true (0 ∷ 2 ∷ [])) refl (1 ∷ 2 ∷ []) (search (connects, arith)) refl (omega arith);
      differ = λ e. let z : ◌≡◌ {A = ℕ} 0 1 = cc in omega arith;
    }

-- Both legs from the start are tested with two tests, and neither is good; so the leg of line 2 need not be tested.
module _ (made : ℕ) (most : 2 ≤ made) where
  not_twin : GoodOrUntested (good twins_first) 2 made 0 false (0 ∷ []) → ⊥
  unfolding computing
  not_twin (GoodOrUntested.good g) = not_several g.only twins
  not_twin (GoodOrUntested.untested some late) = omega (arith, most, late)

  not_twin_on : GoodOrUntested (good twins_first) 2 made 0 true (0 ∷ 2 ∷ []) → ⊥
  unfolding computing
  not_twin_on (GoodOrUntested.good g) = not_several g.only twins_on
  not_twin_on (GoodOrUntested.untested some late) = omega (arith, most, late)

  none_even_so : (room : ℕ) → WriteOn twins_first twin_and_on made room (WriteOutcome.refused (row 10))
  unfolding computing cutting
  none_even_so room =
      WriteBy.no_choice
      (no_choice_by (good_or_untested (good twins_first) (0 ∷ 2 ∷ []) made) (untested_filled (good_filled twins_first) (0 ∷ 2 ∷ []) made) (0 ∷ 2 ∷ [])
      (λ c. not_twin (first_passed c.usable), (λ c. not_twin_on (passed c.usable), tt)))

-- ---- whole calls, with a full work area and any byte buffer

module _ (work room : ℕ) (full : work_length ≤ work) where
  pub far_unfinished : (tests : ℕ) → tests ≤ 2 → Writes (encoded far_last) both_lines tests work room (WriteOutcome.refused (row 26))
  unfolding computing encoding
  far_unfinished tests few =
      on_writes (encoded far_last) both_lines {m = far_last} {r = both_lines} tests work room _ full refl refl
      (far_untested _ room (omega (arith, few, tests_within 2 tests)))

  pub far_refused : (tests : ℕ) → 3 ≤ tests → Writes (encoded far_last) both_lines tests work room (WriteOutcome.refused (row 10))
  unfolding computing encoding cutting
  far_refused tests all =
      on_all_tests (encoded far_last) both_lines {m = far_last} {r = both_lines} tests work room _ full refl refl all
      (none_of_all (good_filled far_last)
      (no_choice far_last (0 ∷ 1 ∷ []) (λ c. far (second_passed c.usable), (λ c. farther (passed c.usable), tt))))

  pub twins_refused : Writes (encoded twins_first) twin_and_on 2 work room (WriteOutcome.refused (row 10))
  unfolding computing encoding
  twins_refused =
      on_writes (encoded twins_first) twin_and_on {m = twins_first} {r = twin_and_on} 2 work room _ full refl refl (none_even_so 2 (omega arith) room)
