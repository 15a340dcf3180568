-- Wrong choices of points and wrong bytes that the writer's promise shuts out: no call on these small maps, whatever its buffers hold, can be answered so.
use Prim.Native.Nat.{ℕ, ◌≤◌}
use mathlib.Core.Path.{◌≡◌, refl, sym, ap, ◌∙◌}
use mathlib.Core.Bool.{true}
use mathlib.Core.List.{List, [], ◌∷◌, ◌++◌}
use native.Mathlib.Omega.{arith}
use lib.ListN.{length, drop}
use borrow.Author.Tests.{le-ltb}
use Rattle.model.specs.Map.{Node, Map, whole, decode}
use Rattle.model.specs.Stretch.{Stretch, remains, check_stretch}
use Rattle.model.specs.Reading.{Allowed}
use Rattle.model.specs.Choice.{leg_of, Good, good, final, Choice, Preferred, Chosen, stretch_bytes}
use Rattle.model.specs.LegTests.{leg_count, tests_made, tested_good}
use Rattle.model.specs.Work.{work_length, placed}
use Rattle.model.specs.Outcome.{WriteOutcome, written, WriteOn}
use Rattle.model.specs.Call.{bytes_after, WriteAnswers, WriteCall}
use Rattle.model.specs.Demand3.{ChosenBy}
use Rattle.model.proofs.Once.{chosen_same}
use Rattle.model.proofs.Outcomes.{WrittenBy, written_on}
use Rattle.model.proofs.LegTests.{tests_all, good_filled, tested_good_lem}
use Rattle.model.proofs.BestFound.{chosen_good}
use Rattle.model.proofs.Cases.Computing.{computing}
use Rattle.model.proofs.Cases.Ways.{Every, finding, connects}
use Rattle.model.proofs.Cases.Legs.{sole}
use Rattle.model.proofs.Cases.Cuts.{cuts, cutting, each_choice, chosen, passed}
use Rattle.model.proofs.Cases.Ridge.{node, line}
use Rattle.model.proofs.Cases.Encoded.{encoded, encoding}
use Rattle.model.proofs.Cases.Choices.{bypass, most_lines_first, bypass_bytes}
use Rattle.model.proofs.Cases.Conditions.{detour}
use Rattle.std.specs.Prelude.{Ok}
use Rattle.model.specs.Answer.{bytes_written}

counted : {n made excess : ℕ} {o : WriteOutcome} → WriteAnswers (Ok (bytes_written n made excess)) o →
    (bs : List ℕ) × (o ≡ written bs made excess) × (length bs ≡ n)
counted (WriteAnswers.bytes {bs = bs}) = (bs, refl, refl)

-- A call that answers a count, on a map and for a stretch that are not refused.
module _ {m : Map} {mb work bytes work' bytes' : List ℕ} {s : Stretch} {tests n made excess : ℕ} (full : work_length ≤ length work) (d : decode mb ≡ whole m)
    (k : check_stretch m s ≡ remains s) (c : WriteCall mb s tests work bytes (Ok (bytes_written n made excess)) work' bytes') where
  bytes_of : (bs : List ℕ) × (c.called.answered.outcome ≡ written bs made excess) × (length bs ≡ n)
  bytes_of = counted c.called.answered.answers

  by_legs : WrittenBy (good m) (λ lss. stretch_bytes m lss s) s.lines (tests_made (length s.lines) tests) bytes_of.0 made excess
  by_legs =
      let on : WriteOn m s (tests_made (length s.lines) tests) (length bytes) (written bytes_of.0 made excess) =
      rw (bytes_of.1, le-ltb (length work) work_length full, d, k) at c.called.answered.asked in
      written_on on

  -- The count is of the bytes of legs that are chosen, which stand first in the buffer.
  written_legs : (legs : List (List ℕ)) × ChosenBy m s.lines tests legs × (n ≡ length (stretch_bytes m legs s))
      × (bytes' ≡ stretch_bytes m legs s ++ drop (length (stretch_bytes m legs s)) bytes)
  unfolding bytes_after placed
  written_legs =
      let after : bytes' ≡ bytes_of.0 ++ drop (length bytes_of.0) bytes = rw bytes_of.1 at c.called.answered.buffer_after in
      (by_legs.legs, by_legs.chosen, sym bytes_of.2 ∙ ap length by_legs.same, rw by_legs.same at after)

  -- Where the choice is known, and there are tests for all legs, it is that one.
  only_legs : leg_count (length s.lines) ≤ tests → (legs : List (List ℕ)) → Chosen (good m) s.lines legs → (n ≡ length (stretch_bytes m legs s))
      × (bytes' ≡ stretch_bytes m legs s ++ drop (length (stretch_bytes m legs s)) bytes)
  only_legs all legs h =
      let by : Chosen (tested_good (good m) s.lines (leg_count (length s.lines))) s.lines written_legs.0 =
      rw (tests_all _ tests all) at written_legs.1 in
      let same = chosen_same (chosen_good (good_filled m) by) h in
      (rw same at written_legs.2, rw same at written_legs.3)

  -- No count that no usable cut has, whatever the number of tests.
  no_count : Every (λ lss. Choice (good m) s.lines lss → n ≡ length (stretch_bytes m lss s) → ⊥) (cuts s.lines) → ⊥
  no_count each =
      let choice = tested_good_lem written_legs.1.choice in
      each_choice m s.lines (λ lss. Choice (good m) s.lines lss → n ≡ length (stretch_bytes m lss s) → ⊥) each written_legs.0 choice choice
      written_legs.2

abbrev pub all_of : List ℕ → Stretch
all_of lines = record { lines = lines; pos = 0; neg = 0 }

abbrev bypassed : Stretch
bypassed = record { lines = 0 ∷ 1 ∷ 2 ∷ []; pos = 5_000; neg = 2_500 }

-- Two lines in a row, to nodes 32,768 apart: "differences fit 16 bits", and this one does not.
abbrev pub apart : Node → Node → Map
apart middle end = record { nodes = node 0 0 ∷ middle ∷ end ∷ []; lines = line 0 1 10_000 8 24 ∷ line 1 2 10_000 8 24 ∷ []; bans = [] }

abbrev pub eastwards : Map
eastwards = apart (node 1_000 0) (node 32_768 0)

abbrev pub northwards : Map
northwards = apart (node 0 1_000) (node 0 32_768)

not_eastwards : Good eastwards true (0 ∷ 1 ∷ []) → ⊥
unfolding computing
not_eastwards g = omega (arith, g.fit.lon.on)

not_northwards : Good northwards true (0 ∷ 1 ∷ []) → ⊥
unfolding computing
not_northwards g = omega (arith, g.fit.lat.on)

-- Lines 0 and 2 of the detour are one leg, of the second line's class.
detour_good : Good detour true (0 ∷ 2 ∷ [])
unfolding computing finding
detour_good =
    record { fit = omega arith; only = sole detour (leg_of detour true (0 ∷ 2 ∷ [])) refl (0 ∷ 2 ∷ []) (search (connects, arith)) refl refl }

detour_uncut : Chosen (good detour) (0 ∷ 2 ∷ []) ((0 ∷ 2 ∷ []) ∷ [])
unfolding computing cutting
detour_uncut =
    chosen detour (0 ∷ 2 ∷ []) ((0 ∷ 2 ∷ []) ∷ []) (record { usable = final detour_good; whole = refl })
    (λ c. Preferred.fewer (omega arith), (λ c. Preferred.same, tt))

-- Lines of 90,000, 50,000 and 50,000 in a row are one leg.
abbrev pub straight : Map
straight =
    record {
      nodes = node 0 0 ∷ node 1_000 0 ∷ node 2_000 0 ∷ node 3_000 0 ∷ [];
      lines = line 0 1 90_000 8 24 ∷ line 1 2 50_000 8 24 ∷ line 2 3 50_000 8 24 ∷ [];
      bans = [];
    }

straight_good : Good straight true (0 ∷ 1 ∷ 2 ∷ [])
unfolding computing finding
straight_good =
    record {
      fit = omega arith;
      only = sole straight (leg_of straight true (0 ∷ 1 ∷ 2 ∷ [])) refl (0 ∷ 1 ∷ 2 ∷ []) (search (connects, arith)) refl refl;
    }

straight_uncut : Chosen (good straight) (0 ∷ 1 ∷ 2 ∷ []) ((0 ∷ 1 ∷ 2 ∷ []) ∷ [])
unfolding computing cutting
straight_uncut =
    chosen straight (0 ∷ 1 ∷ 2 ∷ []) ((0 ∷ 1 ∷ 2 ∷ []) ∷ []) (record { usable = final straight_good; whole = refl })
    (λ c. Preferred.fewer (omega arith), (λ c. Preferred.fewer (omega arith), (λ c. Preferred.fewer (omega arith), (λ c. Preferred.same, tt))))

-- Lines 0, 1, 2 are 20,000 long, but 3 is shorter than 1; and 0, 4 is 20,000 long, ends at the same node, and arrives as line 2 does.
abbrev pub sideways : Map
sideways =
    record {
      nodes = node 0 0 ∷ node 1_000 0 ∷ node 2_000 0 ∷ node 3_000 0 ∷ [];
      lines =
          line 0 1 1_000 8 24 ∷ line 1 2 18_000 8 24 ∷ line 2 3 1_000 8 24 ∷ line 1 2 1_000 8 24 ∷ line 1 3 19_000 8 24 ∷ [];
      bans = [];
    }

by_3 : Allowed sideways (leg_of sideways true (0 ∷ 1 ∷ 2 ∷ [])) (0 ∷ 3 ∷ 2 ∷ [])
unfolding computing finding
by_3 = search (connects, arith)

not_sideways : Good sideways true (0 ∷ 1 ∷ 2 ∷ []) → ⊥
unfolding computing
not_sideways g = omega (arith, g.only.reading.least (0 ∷ 3 ∷ 2 ∷ []) by_3 (refl, refl))

-- Lines 0, 1, 2 are 4,000 long and give D 0, as do 0, 3, 2, which are 3,000 long.
abbrev pub shortcut : Map
shortcut =
    record {
      nodes = node 0 0 ∷ node 1_000 0 ∷ node 2_000 0 ∷ node 3_000 0 ∷ [];
      lines = line 0 1 1_000 8 24 ∷ line 1 2 2_000 8 24 ∷ line 2 3 1_000 8 24 ∷ line 1 2 1_000 8 24 ∷ [];
      bans = [];
    }

by_shortcut : Allowed shortcut (leg_of shortcut true (0 ∷ 1 ∷ 2 ∷ [])) (0 ∷ 3 ∷ 2 ∷ [])
unfolding computing finding
by_shortcut = search (connects, arith)

not_shortest : Good shortcut true (0 ∷ 1 ∷ 2 ∷ []) → ⊥
unfolding computing
not_shortest g = omega (arith, g.only.reading.least (0 ∷ 3 ∷ 2 ∷ []) by_shortcut (refl, refl))

-- Calls with a full work area. With two points there are 16 bytes, with three 23.
module _ (tests : ℕ) (work bytes : List ℕ) (full : work_length ≤ length work) {n made excess : ℕ} {work' bytes' : List ℕ} where
  -- Two or three lines that are not good as one leg are not written with two points.
  no_two_points_of_two : {m : Map} → decode (encoded m) ≡ whole m → check_stretch m (all_of (0 ∷ 1 ∷ [])) ≡ remains (all_of (0 ∷ 1 ∷ [])) →
      (Good m true (0 ∷ 1 ∷ []) → ⊥) → WriteCall (encoded m) (all_of (0 ∷ 1 ∷ [])) tests work bytes (Ok (bytes_written n made excess)) work' bytes' → n ≡ 16 → ⊥
  unfolding computing cutting
  no_two_points_of_two {m} d k not_good c e =
      no_count {m = m} full d k c (λ h f. omega (arith, e, f), (λ h f. not_good (passed h.usable), tt))

  no_two_points_of_three : {m : Map} → decode (encoded m) ≡ whole m → check_stretch m (all_of (0 ∷ 1 ∷ 2 ∷ [])) ≡ remains (all_of (0 ∷ 1 ∷ 2 ∷ [])) →
      (Good m true (0 ∷ 1 ∷ 2 ∷ []) → ⊥) →
      WriteCall (encoded m) (all_of (0 ∷ 1 ∷ 2 ∷ [])) tests work bytes (Ok (bytes_written n made excess)) work' bytes' → n ≡ 16 → ⊥
  unfolding computing cutting
  no_two_points_of_three {m} d k not_good c e =
      no_count {m = m} full d k c (
        λ h f. omega (arith, e, f),
        (λ h f. omega (arith, e, f), (λ h f. omega (arith, e, f), (λ h f. not_good (passed h.usable), tt))),
      )

  -- On the bypass: a writer that takes the shortest first leg; one that gives the class of a leg's first line for the leg's (48 for 88);
  -- "measuring the negative offset against the first leg" (20 for 80).
  pub no_other_bytes : 6 ≤ tests → WriteCall (encoded bypass) bypassed tests work bytes (Ok (bytes_written n made excess)) work' bytes' →
      (bytes' ≡ bypass_bytes ++ drop 25 bytes → ⊥) → ⊥
  unfolding computing encoding
  no_other_bytes all c other = other (only_legs full refl refl c all ((0 ∷ 1 ∷ []) ∷ (2 ∷ []) ∷ []) most_lines_first).1

  -- One that takes a difference of longitudes of 32,768.
  pub no_far_longitude : WriteCall (encoded eastwards) (all_of (0 ∷ 1 ∷ [])) tests work bytes (Ok (bytes_written n made excess)) work' bytes' → n ≡ 16 → ⊥
  unfolding computing encoding
  no_far_longitude c e = no_two_points_of_two {m = eastwards} refl refl not_eastwards c e

  -- One that asks only the longitudes.
  pub no_far_latitude : WriteCall (encoded northwards) (all_of (0 ∷ 1 ∷ [])) tests work bytes (Ok (bytes_written n made excess)) work' bytes' → n ≡ 16 → ⊥
  unfolding computing encoding
  no_far_latitude c e = no_two_points_of_two {m = northwards} refl refl not_northwards c e

  -- One that does not search again for the leg's lower class: it would cut the detour between its lines.
  pub no_cut_for_a_class : 3 ≤ tests → WriteCall (encoded detour) (all_of (0 ∷ 2 ∷ [])) tests work bytes (Ok (bytes_written n made excess)) work' bytes' →
      (n ≡ 16 → ⊥) → ⊥
  unfolding computing encoding
  no_cut_for_a_class all c other = other (only_legs full refl refl c all ((0 ∷ 2 ∷ []) ∷ []) detour_uncut).0

  -- One that keeps a search that went up to 14,063 for a leg of 19,000: it would cut before the third line.
  pub no_cut_for_length : 6 ≤ tests → WriteCall (encoded straight) (all_of (0 ∷ 1 ∷ 2 ∷ [])) tests work bytes (Ok (bytes_written n made excess)) work' bytes' →
      (n ≡ 16 → ⊥) → ⊥
  unfolding computing encoding
  no_cut_for_length all c other = other (only_legs full refl refl c all ((0 ∷ 1 ∷ 2 ∷ []) ∷ []) straight_uncut).0

  -- One that takes the leg's one reading, 0, 4, for the stretch's own lines since it is as long.
  pub no_other_last_line : WriteCall (encoded sideways) (all_of (0 ∷ 1 ∷ 2 ∷ [])) tests work bytes (Ok (bytes_written n made excess)) work' bytes' → n ≡ 16 → ⊥
  unfolding computing encoding
  no_other_last_line c e = no_two_points_of_three {m = sideways} refl refl not_sideways c e

  -- One that takes the leg's one reading, 0, 3, 2, for the stretch's own lines since it ends with the same line.
  pub no_shorter_reading : WriteCall (encoded shortcut) (all_of (0 ∷ 1 ∷ 2 ∷ [])) tests work bytes (Ok (bytes_written n made excess)) work' bytes' → n ≡ 16 → ⊥
  unfolding computing encoding
  no_shorter_reading c e = no_two_points_of_three {m = shortcut} refl refl not_shortest c e
