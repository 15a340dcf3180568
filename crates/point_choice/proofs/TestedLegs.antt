-- Over a table that answers for the legs tested good: the route to take is the choice of points by these legs, and over the legs that are good or not tested
-- it has the fewest legs of a choice "when untested legs count as good" (paper 02, W7). For any test of legs that no empty list of lines passes.
use Prim.Native.Nat.{ℕ, ◌+◌, ◌*◌, ◌-◌, ◌≤◌, ◌<◌}
use mathlib.Core.Path.{◌≡◌, refl, sym, ◌∙◌, ap, subst}
use mathlib.Core.Bool.{Bool, true, false}
use mathlib.Core.List.{List}
use Rattle.std.proofs.Common.{Option, None, Some}
use Rattle.std.specs.Option.{IsSomeAnd}
use native.Mathlib.Decide.{dec_lt}
use native.Mathlib.Omega.{arith}
use borrow.Author.Tests.{eq-eqb, eqb-true}
use lib.ListN.{length, get_or}
use lib.Seq.{slice, length-slice}
use lib.Dec.{eqb}
use Rattle.model.specs.Choice.{LegTest, Chosen}
use Rattle.model.specs.LegTests.{turn, GoodOrUntested, tested_good, good_or_untested, NoChoice, Fewest}
use Rattle.model.proofs.LegTests.{Filled, tested_filled, untested_filled}
use Rattle.buffers.specs.Decides.{Decides}
use Rattle.point_choice.specs.Cuts.{GoodIn, Best, NoRoute, FewestAnswers, cut_legs, Tested, Sound, Complete}
use Rattle.point_choice.specs.NotTested.{GoodOrNotTested}
use Rattle.point_choice.proofs.Routes.{wider}
use Rattle.point_choice.proofs.Choosing.{legs_count, choice, routed, no_choice, chosen}

-- The number of each leg is 1 where it is tested good after so many tests.
abbrev pub AllSaid : LegTest → List ℕ → ℕ → List ℕ → Type 0
AllSaid test lines made table =
    (i j : ℕ) → i < j → j ≤ length lines → Decides (Tested (tested_good test lines made) lines i j) (eqb (get_or table (65 * i + j) 0) 1)

module _ (test : LegTest) (lines : List ℕ) (made : ℕ) (table : List ℕ) (said : AllSaid test lines made table) where
  -- Lines of a leg, by its ends.
  size : (i j : ℕ) → j ≤ length lines → length (slice i j lines) ≡ j - i
  size i j l = length-slice i j lines l

  pub tested_sound : Sound (tested_good test lines made) lines (GoodIn table)
  tested_sound i j h l one = subst (Decides (Tested (tested_good test lines made) lines i j)) (eq-eqb _ 1 one) (said i j h l)

  pub tested_complete : Complete (tested_good test lines made) lines (GoodIn table)
  tested_complete i j h l t = go (eqb (get_or table (65 * i + j) 0) 1) refl
    where
      go : (r : Bool) → eqb (get_or table (65 * i + j) 0) 1 ≡ r → GoodIn table i j
      go true e = eqb-true _ 1 e
      go false e = absurd (subst (Decides (Tested (tested_good test lines made) lines i j)) e (said i j h l) t)

  pub untested_sound : Sound (good_or_untested test lines made) lines (GoodOrNotTested (length lines) made table)
  untested_sound i j h l (GoodOrNotTested.good one) = GoodOrUntested.good (tested_sound i j h l one).good
  untested_sound i j h l (GoodOrNotTested.not_tested late) = GoodOrUntested.untested (omega (arith, size i j l)) (rw (size i j l) late)

  pub untested_complete : Complete (good_or_untested test lines made) lines (GoodOrNotTested (length lines) made table)
  untested_complete i j h l (GoodOrUntested.good t) = go (dec_lt made (turn (length lines) i (j - i)))
    where
      go : Dec (made < turn (length lines) i (j - i)) → GoodOrNotTested (length lines) made table i j
      go (yes late) = GoodOrNotTested.not_tested late
      go (no early) = GoodOrNotTested.good (tested_complete i j h l (record { tested = rw (size i j l) (omega (arith, early)); good = t }))
  untested_complete i j h l (GoodOrUntested.untested has late) = GoodOrNotTested.not_tested (rw (size i j l) at late)

module _ (test : LegTest) (some : Filled test) (lines : List ℕ) (made : ℕ) (table : List ℕ) (said : AllSaid test lines made table) where
  -- The choice of points over legs tested good, or that there is none.
  pub tested_chosen : {cs : List ℕ} → 0 < length lines → Best (GoodIn table) (length lines) 0 cs →
      Chosen (tested_good test lines made) lines (cut_legs lines 0 cs)
  tested_chosen l b =
      chosen (tested_good test lines made) lines (tested_filled some lines made) (tested_sound test lines made table said)
      (tested_complete test lines made table said) l b

  pub none_tested : NoRoute (GoodIn table) (length lines) 0 → NoChoice (tested_good test lines made) lines
  none_tested none = no_choice (tested_good test lines made) lines (tested_filled some lines made) (tested_complete test lines made table said) none

  -- The fewest legs when untested legs count as good, or that there is no choice even so.
  pub untested_fewest : {legs : ℕ} → 0 < length lines → FewestAnswers (GoodOrNotTested (length lines) made table) (length lines) (Some legs) →
      Fewest (good_or_untested test lines made) lines legs
  untested_fewest l (cs, b, e) =
      record {
        legs = cut_legs lines 0 cs;
        choice = choice (good_or_untested test lines made) lines (untested_sound test lines made table said) l b.route;
        counted = legs_count lines 0 cs ∙ e;
        fewest = λ others c.
            let r = routed (good_or_untested test lines made) lines (untested_filled some lines made) (untested_complete test lines made table said) c in
            omega (arith, e, b.fewest r.0 r.1, sym (legs_count lines 0 r.0) ∙ ap length r.2);
      }

  pub none_untested : FewestAnswers (GoodOrNotTested (length lines) made table) (length lines) None → NoChoice (good_or_untested test lines made) lines
  none_untested none =
      no_choice (good_or_untested test lines made) lines (untested_filled some lines made) (untested_complete test lines made table said) none

-- A route of legs tested good is one of legs that are good or not tested: there is one then, of no more legs.
pub no_fewer : {n : ℕ} {cs : List ℕ} (made : ℕ) (table : List ℕ) (hoped : Option ℕ) → Best (GoodIn table) n 0 cs → FewestAnswers (GoodOrNotTested n made table) n hoped →
    IsSomeAnd hoped (λ legs. legs ≤ length cs)
no_fewer {cs = cs} made table (Some legs) b (os, best, e) =
    let fewer = best.fewest cs (wider (λ i j h l one. GoodOrNotTested.good one) b.route) in
    omega (arith, e, fewer)
no_fewer {cs = cs} made table None b none = none cs (wider (λ i j h l one. GoodOrNotTested.good one) b.route)
