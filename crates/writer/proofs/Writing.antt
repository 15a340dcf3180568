-- The parts put together: what the leg tests find, and the bytes put, make an outcome of the writer.
use Prim.Native.Nat.{ℕ, zero, suc, ◌+◌, ◌-◌, ◌≤◌}
use mathlib.Core.Path.{◌≡◌, refl, ◌∙◌, ap}
use mathlib.Core.Logic.{◌≢◌}
use mathlib.Core.List.{List, ◌∷◌}
use native.Mathlib.Omega.{arith}
use lib.ListN.{length, get_or, drop, replicate, get_or-append}
use Rattle.std.specs.Prelude.{Some, None, Ok, Err}
use Rattle.std.proofs.Common.{inl, inr}
use Rattle.model.specs.Answer.{bytes_written}
use Rattle.model.specs.Map.{Map}
use Rattle.model.specs.Lines.{Connected}
use Rattle.model.specs.Refusal.{row, refusal_of}
use Rattle.model.specs.Stretch.{Stretch, stretch_of}
use Rattle.model.specs.Choice.{good, Choice, stretch_bytes}
use Rattle.model.specs.LegTests.{tests_made, tested_good, good_or_untested, NoChoice, Fewest}
use Rattle.model.specs.Outcome.{WriteOutcome, written, WriteOn, unfinished, no_choice, no_room, accepted}
use Rattle.model.specs.Call.{bytes_after, WriteAnswers, WriteAnswered}
use Rattle.model.proofs.Answering.{refused_write}
use Rattle.model.proofs.Joining.{filled}
use Rattle.model.proofs.LegTests.{good_filled, count_more, most_legs}
use Rattle.model.proofs.Skipping.{Left}
use Rattle.point_choice.specs.Cuts.{GoodIn, NoRoute, FewestAnswers, CutAnswers, cut_legs}
use Rattle.point_choice.specs.NotTested.{GoodOrNotTested}
use Rattle.point_choice.proofs.Routes.{wider}
use Rattle.point_choice.proofs.Choosing.{legs_count}
use Rattle.point_choice.proofs.TestedLegs.{AllSaid, tested_sound, tested_chosen, none_tested, untested_fewest, none_untested, no_fewer}
use Rattle.reference_bytes.specs.Put.{CutInto, Inside, Puts}
use Rattle.leg_tests.proofs.Trials.{connected_lines}
use Rattle.writer.specs.Found.{FoundLegs, Finds}
use Rattle.model.specs.declared.Refusal.{Refusal}
use Rattle.model.specs.declared.Refusal.TheVariants as why

-- The offsets that are left end on the first and on the last line.
pub left_inside : {m : Map} {s : Stretch} → Left m s → Inside m s
left_inside l = record { pos = l.first; neg = l.last }

-- The table starts with zeros. Over any length, so that it is not written out.
pub zeros : (n k : ℕ) → get_or {0} {A = ℕ} (replicate {0} {A = ℕ} n 0) k 0 ≡ 0
zeros zero k = refl
zeros (suc n) zero = refl
zeros (suc n) (suc k) = zeros n k

-- No stretch has more than 2,080 legs to test.
pub few_tests : (n tests : ℕ) → n ≤ 64 → tests_made n tests ≤ 2_080
unfolding tests_made
few_tests n tests h = omega (arith, count_more n 64 h, most_legs)

-- ---- what the leg tests find, by a table that answers for the legs tested good and by the fewest legs when the others count as good

module _ (m : Map) (ls : List ℕ) (made : ℕ) (table : List ℕ) (joint : Connected m ls) (few : length ls ≤ 64) (said : AllSaid (good m) ls made table) where
  pub finds_nowhere : FewestAnswers (GoodOrNotTested (length ls) made table) (length ls) None → NoChoice (good_or_untested (good m) ls made) ls
  finds_nowhere none = none_untested (good m) (good_filled m) ls made table said none

  module _ {hoped : ℕ} (fewest : FewestAnswers (GoodOrNotTested (length ls) made table) (length ls) (Some hoped)) where
    least : Fewest (good_or_untested (good m) ls made) ls hoped
    least = untested_fewest (good m) (good_filled m) ls made table said (filled joint) fewest

    pub finds_unfinished : NoRoute (GoodIn table) (length ls) 0 →
        NoChoice (tested_good (good m) ls made) ls × ((lss : List (List ℕ)) × Choice (good_or_untested (good m) ls made) ls lss)
    finds_unfinished none = (none_tested (good m) (good_filled m) ls made table said none, (least.legs, least.choice))

    module _ {k : ℕ} (before : List ℕ) {after : List ℕ} (a : CutAnswers (GoodIn table) (length ls) (Some k) before after) where
      -- The table of cuts that the choice leaves.
      cut_into : CutInto m ls after k a.0
      cut_into =
          record {
            known = connected_lines joint;
            some = filled joint;
            few = few;
            route = wider (λ i j h l one. (tested_sound (good m) ls made table said i j h l one).good) a.1.route;
            count = a.2;
            cuts = λ t h. ap (λ (l : List ℕ). get_or l t 0) a.3 ∙ get_or-append (0 ∷ a.0) (drop (k + 1) before) 0 t (omega (arith, a.2));
          }

      pub finds_legs : FoundLegs m ls made after k made (k - hoped)
      finds_legs =
          record {
            ends = a.0;
            cut = cut_into;
            chosen = tested_chosen (good m) (good_filled m) ls made table said (filled joint) a.1;
            fewest = hoped;
            least = least;
            told = refl;
            over = refl;
          }

      pub fewer : hoped ≤ k
      fewer = omega (arith, no_fewer made table (Some hoped) a.1 fewest, a.2)

-- ---- the outcome

module _ {m : Map} {ls : List ℕ} {made : ℕ} (pos neg : ℕ) (before : List ℕ) where
  pub none_written : (table : List ℕ) {r : Refusal} → Finds m ls made table (Err r) →
      WriteAnswered (WriteOn m (stretch_of ls pos neg) made (length before)) before before (Err r)
  unfolding refusal_of
  none_written _ (inl (e, none)) = rw e (refused_write why.NoChoice (no_choice none))
  none_written _ (inr (e, none, (_, later))) = rw e (refused_write why.Unfinished (unfinished none later))

  module _ {table : List ℕ} {legs tests excess : ℕ} (f : FoundLegs m ls made table legs tests excess) {after : List ℕ} where
    pub put_written : {n : ℕ} → Puts (stretch_bytes m (cut_legs ls 0 f.ends) (stretch_of ls pos neg)) before after (Some n) →
        WriteAnswered (WriteOn m (stretch_of ls pos neg) made (length before)) before after (Ok (bytes_written n tests excess))
    unfolding bytes_after
    put_written {n} (size, room, e) =
        let lss = cut_legs ls 0 f.ends in
        let over : excess ≡ length lss - f.fewest = omega (arith, f.over, legs_count ls 0 f.ends, f.cut.count) in
        record {
          outcome = written (stretch_bytes m lss (stretch_of ls pos neg)) made (length lss - f.fewest);
          asked = accepted f.chosen f.least (omega (arith, size, room));
          answers = rw (size, f.told, over) WriteAnswers.bytes;
          buffer_after = e;
        }

    pub short_written : Puts (stretch_bytes m (cut_legs ls 0 f.ends) (stretch_of ls pos neg)) before after None →
        WriteAnswered (WriteOn m (stretch_of ls pos neg) made (length before)) before after (Err why.BytesShort)
    unfolding bytes_after refusal_of
    short_written (room, e) =
        record { outcome = WriteOutcome.refused (row 11); asked = no_room f.chosen room; answers = WriteAnswers.refusal; buffer_after = e }
