-- "It answers the fewest-point reference over legs tested good, the tests made, and by how many points at most that exceeds the fewest. [..] With tests for all
-- legs the answer is the ordinary one. More tests never give more points" (paper 02, W7), proved.
use Prim.Native.Nat.{ℕ, ◌-◌, ◌≤◌, ◌<◌}
use mathlib.Core.Path.{◌≡◌, refl, sym, ◌∙◌, ap, subst}
use mathlib.Core.Bool.{Bool, true, false, cond}
use mathlib.Core.List.{List, [], ◌∷◌, append-nil}
use native.Mathlib.Omega.{arith}
use lib.ListN.{length}
use lib.Dec.{eqb}
use Rattle.model.specs.Field.{offset_byte}
use Rattle.model.specs.Refusal.{Refused, row}
use Rattle.model.specs.Map.{Map, whole, decode}
use Rattle.model.specs.Lines.{total}
use Rattle.model.specs.Reference.{absent, byte, offset_bytes, point_count}
use Rattle.model.specs.Reading.{joined}
use Rattle.model.specs.Stretch.{Stretch, remaining, StretchAnswer, remains, check_stretch}
use Rattle.model.specs.Choice.{LegTest, good, Usable, final, before, Choice, Preferred, same, fewer, more_first, Chosen, first_leg, last_leg, offset_of, reference_of, stretch_bytes}
use Rattle.model.specs.LegTests.{leg_count, tests_made, GoodOrUntested, tested_good, good_or_untested, NoChoice, Fewest}
use Rattle.model.specs.Work.{work_length}
use Rattle.model.specs.Outcome.{WriteOutcome, written, WriteBy, WriteOn, WriteStretch, Writes}
use Rattle.model.specs.BestFound.{Ordinary, OrdinaryStretch, TestsForAll, NoWorse, no_worse, Between, BestFound}
use Rattle.model.proofs.Skipping.{taken, filled}
use Rattle.model.proofs.LegTests.{Filled, good_filled, turn_first, tests_more, tests_within, tests_all, count_more, most_legs, tested_good_lem, good_as_untested, tested_more, untested_fewer, all_tested, all_untested}
use Rattle.model.proofs.Bytes.{offsets_length, bytes_length, count}
use Rattle.model.proofs.Composed.{points_count}
use Rattle.model.proofs.Opened.{opens_by, opened, both_opened}
use Rattle.model.proofs.Outcomes.{Written, written_of, not_refused, on_writes}
use Rattle.model.proofs.Once.{writes_once}

-- ---- bytes by the number of legs

-- What is preferred has no more legs.
no_more_legs : {a b : List (List ℕ)} → Preferred a b → length a ≤ length b
no_more_legs same = omega arith
no_more_legs (fewer h) = omega arith
no_more_legs (more_first e h) = omega arith

-- Bytes count the legs, which are the points but the last.
points_are : (m : Map) (lss : List (List ℕ)) (s : Stretch) → point_count (stretch_bytes m lss s) ≡ length lss
unfolding stretch_bytes reference_of
points_are m lss s = count (reference_of m lss s.pos s.neg) ∙ points_count m lss

-- An offset has its byte whatever the leg.
offset_length : (leg leg' o : ℕ) → length (offset_bytes (offset_of leg o)) ≡ length (offset_bytes (offset_of leg' o))
unfolding offset_of offset_bytes
offset_length leg leg' o = go (eqb o 0)
  where
    go : (t : Bool) → length (offset_bytes (cond t absent (byte (offset_byte leg o)))) ≡ length (offset_bytes (cond t absent (byte (offset_byte leg' o))))
    go true = refl
    go false = refl

-- Fewer legs have no more bytes.
bytes_by_legs : (m : Map) (a b : List (List ℕ)) (s : Stretch) → length a ≤ length b → length (stretch_bytes m a s) ≤ length (stretch_bytes m b s)
unfolding stretch_bytes reference_of
bytes_by_legs m a b s h =
    let x = reference_of m a s.pos s.neg in
    let y = reference_of m b s.pos s.neg in
    let pos = offset_length (total m (first_leg a)) (total m (first_leg b)) s.pos in
    let neg = offset_length (total m (last_leg a)) (total m (last_leg b)) s.neg in
    omega (arith, bytes_length x, bytes_length y, offsets_length x, offsets_length y, points_count m a, points_count m b, pos, neg)

-- ---- tests for all legs, by any test that no empty list of lines passes

module _ {test : LegTest} (some : Filled test) {lines : List ℕ} where
  pub chosen_good : {lss : List (List ℕ)} → Chosen (tested_good test lines (leg_count (length lines))) lines lss → Chosen test lines lss
  chosen_good c = record { choice = tested_good_lem c.choice; preferred = λ others d. c.preferred others (all_tested some d) }

  good_chosen : {lss : List (List ℕ)} → Chosen test lines lss → Chosen (tested_good test lines (leg_count (length lines))) lines lss
  good_chosen c = record { choice = all_tested some c.choice; preferred = λ others d. c.preferred others (tested_good_lem d) }

  good_fewest : {lss : List (List ℕ)} → Chosen test lines lss → Fewest (good_or_untested test lines (leg_count (length lines))) lines (length lss)
  good_fewest {lss} c =
      record {
        legs = lss;
        choice = good_as_untested c.choice;
        counted = refl;
        fewest = λ others d. no_more_legs (c.preferred others (all_untested d));
      }

  excess_0 : {lss : List (List ℕ)} {n : ℕ} → Chosen test lines lss → Fewest (good_or_untested test lines (leg_count (length lines))) lines n →
      length lss - n ≡ 0
  excess_0 c f = omega (arith, f.counted, no_more_legs (c.preferred f.legs (all_untested f.choice)))

  -- 10, 11, or accepted with excess 0, as if nothing were said of tests.
  module _ {bytes : List (List ℕ) → List ℕ} {room : ℕ} where
    pub none_of_all : NoChoice test lines → WriteBy test bytes lines (leg_count (length lines)) room (WriteOutcome.refused (row 10))
    none_of_all none = WriteBy.no_choice λ lss c. none lss (all_untested c)

    pub short_of_all : {lss : List (List ℕ)} → Chosen test lines lss → room < length (bytes lss) →
        WriteBy test bytes lines (leg_count (length lines)) room (WriteOutcome.refused (row 11))
    short_of_all c h = WriteBy.no_room (good_chosen c) h

    pub best_of_all : {lss : List (List ℕ)} → Chosen test lines lss → length (bytes lss) ≤ room →
        WriteBy test bytes lines (leg_count (length lines)) room (written (bytes lss) (leg_count (length lines)) 0)
    best_of_all {lss} c h =
        let made = leg_count (length lines) in
        let none : length lss - length lss ≡ 0 = omega arith in
        subst (λ (excess : ℕ). WriteBy test bytes lines made room (written (bytes lss) made excess)) none (WriteBy.accepted (good_chosen c) (good_fewest c) h)

-- ---- "with tests for all legs the answer is the ordinary one"

pub ordinary_on : (m : Map) (s : Stretch) (room : ℕ) (o : WriteOutcome) → WriteOn m s (leg_count (length s.lines)) room o → Ordinary m s room o
ordinary_on m s room o (WriteBy.unfinished n c) = absurd (n _ (all_tested (good_filled m) (all_untested c)))
ordinary_on m s room o (WriteBy.no_choice n) = Ordinary.no_choice λ lss c. n lss (good_as_untested c)
ordinary_on m s room o (WriteBy.no_room c h) = Ordinary.no_room (chosen_good (good_filled m) c) h
ordinary_on m s room o (WriteBy.accepted c f h) =
    let d = chosen_good (good_filled m) c in
    rw (excess_0 (good_filled m) d f) (Ordinary.accepted d h)

as_ordinary_on : (m : Map) (s : Stretch) (room : ℕ) (o : WriteOutcome) → Ordinary m s room o → WriteOn m s (leg_count (length s.lines)) room o
as_ordinary_on m s room o (Ordinary.no_choice n) = none_of_all (good_filled m) n
as_ordinary_on m s room o (Ordinary.no_room c h) = short_of_all (good_filled m) c h
as_ordinary_on m s room o (Ordinary.accepted c h) = best_of_all (good_filled m) c h

module _ (m : Map) (tests room : ℕ) (o : WriteOutcome) where
  abbrev Enough : StretchAnswer → Type 0
  Enough a = (r : Stretch) → a ≡ remains r → leg_count (length r.lines) ≤ tests

  ordinary_stretch : (a : StretchAnswer) → Enough a → WriteStretch m a tests room o → OrdinaryStretch m a room o
  ordinary_stretch (remains r) all h = ordinary_on m r room o (subst (λ (made : ℕ). WriteOn m r made room o) (tests_all _ tests (all r refl)) h)
  ordinary_stretch (StretchAnswer.refused n) all h = h

  as_ordinary_stretch : (a : StretchAnswer) → Enough a → OrdinaryStretch m a room o → WriteStretch m a tests room o
  as_ordinary_stretch (remains r) all h =
      subst (λ (made : ℕ). WriteOn m r made room o) (sym (tests_all _ tests (all r refl))) (as_ordinary_on m r room o h)
  as_ordinary_stretch (StretchAnswer.refused n) all h = h

-- So the writer comes to what remains of the stretch, with tests for all its legs.
pub on_all_tests : (mb : List ℕ) (s : Stretch) {m : Map} {r : Stretch} (tests work room : ℕ) (o : WriteOutcome) → work_length ≤ work → decode mb ≡ whole m →
    check_stretch m s ≡ remains r → leg_count (length r.lines) ≤ tests → WriteOn m r (leg_count (length r.lines)) room o → Writes mb s tests work room o
on_all_tests mb s {m} {r} tests work room o full d e all h =
    on_writes mb s tests work room o full d e (subst (λ (made : ℕ). WriteOn m r made room o) (sym (tests_all _ tests all)) h)

-- ---- "more tests never give more points"

module _ (m : Map) (s : Stretch) {made more room : ℕ} (h : made ≤ more) where
  no_worse_on : {bytes : List ℕ} {told excess : ℕ} {o : WriteOutcome} → WriteOn m s made room (written bytes told excess) → WriteOn m s more room o →
      NoWorse bytes excess o
  no_worse_on (WriteBy.accepted c f fits) (WriteBy.unfinished n d) = absurd (n _ (tested_more h c.choice))
  no_worse_on (WriteBy.accepted c f fits) (WriteBy.no_choice n) = absurd (n _ (good_as_untested (tested_good_lem c.choice)))
  no_worse_on (WriteBy.accepted {lss = lss} c f fits) (WriteBy.no_room {lss = lss'} d short) =
      let legs = no_more_legs (d.preferred lss (tested_more h c.choice)) in
      absurd (omega (arith, bytes_by_legs m lss' lss s legs))
  no_worse_on (WriteBy.accepted {lss = lss} c f fits) (WriteBy.accepted {lss = lss'} {fewest = n'} d g fits') =
      let legs = no_more_legs (d.preferred lss (tested_more h c.choice)) in
      let further = f.fewest g.legs (untested_fewer h g.choice) in
      no_worse {bytes' = stretch_bytes m lss' s} {excess' = length lss' - n'} (omega (arith, points_are m lss s, points_are m lss' s, legs))
      (omega (arith, further, g.counted, legs))

module _ (bytes : List ℕ) (tests more room made excess : ℕ) (o : WriteOutcome) (h : tests ≤ more) where
  no_worse_stretch : (m : Map) (a : StretchAnswer) → WriteStretch m a tests room (written bytes made excess) → WriteStretch m a more room o →
      NoWorse bytes excess o
  no_worse_stretch m (remains r) w w' = no_worse_on m r (tests_more (length r.lines) tests more h) w w'
  no_worse_stretch m (StretchAnswer.refused n) w w' = absurd (not_refused w)

-- ---- "by how many points at most that exceeds the fewest"

points_between : {m : Map} {mb bytes : List ℕ} {s : Stretch} {tests made excess fewest : ℕ} → Written m mb s tests bytes made excess →
    Fewest (good m) (remaining m s).lines fewest → Between bytes excess fewest
points_between {m} {s = s} k f =
    let points : point_count _ ≡ length k.on.legs = ap point_count k.on.same ∙ points_are m k.on.legs (remaining m s) in
    let least = k.on.untested.fewest f.legs (good_as_untested f.choice) in
    record {
      from = omega (arith, points, f.fewest k.on.legs (tested_good_lem k.on.chosen.choice));
      to = omega (arith, points, k.on.exceeds, least, f.counted);
    }

-- What was written on some map was written on the map that the bytes are.
on_that_map : (mb bytes : List ℕ) (s : Stretch) (tests work room made excess : ℕ) (m : Map) → Writes mb s tests work room (written bytes made excess) →
    decode mb ≡ whole m → Written m mb s tests bytes made excess
on_that_map mb bytes s tests work room made excess m w d =
    let k = written_of mb s tests bytes made excess room work w in
    let same_map : k.0 ≡ m = cc (k.1.decodes, d) in
    subst (λ (m : Map). Written m mb s tests bytes made excess) same_map k.1

-- ---- the claim

pub best_found : BestFound
best_found =
    record {
      ordinary = λ mb s tests work room o all w.
          opens_by WriteOutcome.refused (λ m. WriteStretch m (check_stretch m s) tests room) (λ m. OrdinaryStretch m (check_stretch m s) room) mb
          (λ m d. ordinary_stretch m tests room o (check_stretch m s) (λ r e. all m r d e)) work w;
      as_ordinary = λ mb s tests work room o all w.
          opens_by WriteOutcome.refused (λ m. OrdinaryStretch m (check_stretch m s) room) (λ m. WriteStretch m (check_stretch m s) tests room) mb
          (λ m d. as_ordinary_stretch m tests room o (check_stretch m s) (λ r e. all m r d e)) work w;
      more_tests = λ mb bytes s tests more work room made excess o h w w'.
          let g = both_opened WriteOutcome.refused (λ m. WriteStretch m (check_stretch m s) tests room) (λ m. WriteStretch m (check_stretch m s) more room) mb
          (λ r. not_refused) work w w' in
          no_worse_stretch bytes tests more room made excess o h g.0 (check_stretch g.0 s) g.2 g.3;
      between = λ mb bytes s tests work room made excess m fewest w d f.
          points_between (on_that_map mb bytes s tests work room made excess m w d) f;
    }

-- ---- its sentences one by one

-- "Tests for all legs": 2,080 are enough for every stretch, since one that is not refused has at most 64 lines, and what remains has no more.
pub enough_tests : (mb : List ℕ) (s : Stretch) (tests : ℕ) → 2_080 ≤ tests → TestsForAll mb s tests
enough_tests mb s tests h m r d e = omega (arith, count_more (length r.lines) 64 (taken m s r e).1.few, most_legs)

-- "It makes that many, or one for each leg if that is fewer": what it answers.
pub tests_told : (mb bytes : List ℕ) (s : Stretch) (tests work room made excess : ℕ) (m : Map) → Writes mb s tests work room (written bytes made excess) →
    decode mb ≡ whole m → made ≡ tests_made (length (remaining m s).lines) tests
tests_told mb bytes s tests work room made excess m w d = (on_that_map mb bytes s tests work room made excess m w d).on.tests

-- "With tests for all legs the answer is the ordinary one": it has no excess.
not_excess : {m : Map} {s : Stretch} {room : ℕ} {bytes : List ℕ} {made excess : ℕ} → Ordinary m s room (written bytes made excess) → excess ≡ 0
not_excess (Ordinary.accepted c h) = refl

pub no_excess : (mb bytes : List ℕ) (s : Stretch) (tests work room made excess : ℕ) → TestsForAll mb s tests →
    Writes mb s tests work room (written bytes made excess) → excess ≡ 0
no_excess mb bytes s tests work room made excess all w =
    let g = opened WriteOutcome.refused (λ m. OrdinaryStretch m (check_stretch m s) room) mb (λ r. not_refused) work
    (best_found.ordinary mb s tests work room (written bytes made excess) all w) in
    left g.0 (check_stretch g.0 s) g.2
  where
    left : (m : Map) (a : StretchAnswer) → OrdinaryStretch m a room (written bytes made excess) → excess ≡ 0
    left m (remains r) h = not_excess h
    left m (StretchAnswer.refused n) h = absurd (not_refused h)

module _ (mb bytes : List ℕ) (s : Stretch) (tests more work room made excess : ℕ) (h : tests ≤ more)
    (w : Writes mb s tests work room (written bytes made excess)) where
  -- More tests never take a reference away: none of the refusals comes.
  pub never_taken_away : (r : Refused) → Writes mb s more work room (WriteOutcome.refused r) → ⊥
  never_taken_away r w' = accepted refl (best_found.more_tests mb bytes s tests more work room made excess _ h w w')
    where
      accepted : {o : WriteOutcome} → o ≡ WriteOutcome.refused r → NoWorse bytes excess o → ⊥
      accepted e (no_worse p q) = not_refused e

  module _ (bytes' : List ℕ) (made' excess' : ℕ) (w' : Writes mb s more work room (written bytes' made' excess')) where
    both : (point_count bytes' ≤ point_count bytes) × (excess' ≤ excess)
    both = parts (best_found.more_tests mb bytes s tests more work room made excess (written bytes' made' excess') h w w')
      where
        parts : NoWorse bytes excess (written bytes' made' excess') → (point_count bytes' ≤ point_count bytes) × (excess' ≤ excess)
        parts (no_worse p q) = (p, q)

    -- "More tests never give more points."
    pub never_more_points : point_count bytes' ≤ point_count bytes
    never_more_points = both.0

    -- Nor more excess.
    pub excess_never_grows : excess' ≤ excess
    excess_never_grows = both.1

-- "By how many points at most that exceeds the fewest": the true fewest lies between the points less the excess and the points.
pub true_fewest : (mb bytes : List ℕ) (s : Stretch) (tests work room made excess : ℕ) (m : Map) (fewest : ℕ) →
    Writes mb s tests work room (written bytes made excess) → decode mb ≡ whole m → Fewest (good m) (remaining m s).lines fewest →
    (point_count bytes - excess ≤ fewest) × (fewest ≤ point_count bytes)
true_fewest mb bytes s tests work room made excess m fewest w d f =
    let k = best_found.between mb bytes s tests work room made excess m fewest w d f in
    (omega (arith, k.to), k.from)

-- 10 is given where there is none even when untested legs count as good: more tests leave it.
module _ (tests more room : ℕ) (h : tests ≤ more) where
  ten_on : (m : Map) (s : Stretch) (o : WriteOutcome) → o ≡ WriteOutcome.refused (row 10) → WriteStretch m (remains s) tests room o →
      WriteStretch m (remains s) more room o
  ten_on m s o e (WriteBy.unfinished n c) = absurd (let z : ◌≡◌ {A = ℕ} 26 10 = cc in omega arith)
  ten_on m s o e (WriteBy.no_choice n) = WriteBy.no_choice λ lss c. n lss (untested_fewer (tests_more (length s.lines) tests more h) c)
  ten_on m s o e (WriteBy.no_room c k) = absurd (let z : ◌≡◌ {A = ℕ} 11 10 = cc in omega arith)
  ten_on m s o e (WriteBy.accepted c f k) = absurd (not_refused e)

  ten_stretch : (m : Map) (a : StretchAnswer) → WriteStretch m a tests room (WriteOutcome.refused (row 10)) →
      WriteStretch m a more room (WriteOutcome.refused (row 10))
  ten_stretch m (remains s) w = ten_on m s _ refl w
  ten_stretch m (StretchAnswer.refused r) w = w

  pub ten_stays : (mb : List ℕ) (s : Stretch) (work : ℕ) → Writes mb s tests work room (WriteOutcome.refused (row 10)) →
      Writes mb s more work room (WriteOutcome.refused (row 10))
  ten_stays mb s work w =
      opens_by WriteOutcome.refused (λ m. WriteStretch m (check_stretch m s) tests room) (λ m. WriteStretch m (check_stretch m s) more room) mb
      (λ m d. ten_stretch m (check_stretch m s)) work w

-- ---- no tests at all

module _ (m : Map) (lines : List ℕ) (some : 0 < length lines) (tests : ℕ) (none : tests ≡ 0) where
  -- Nothing is tested good, and the whole stretch as one leg is untested.
  untested_first : {lss : List (List ℕ)} {at : ℕ} → Usable (tested_good (good m) lines tests) at lss → ⊥
  untested_first (final {at = at} {ls = ls} t) = omega (arith, none, t.tested, turn_first (length lines) at (length ls) (good_filled m at true ls t.good))
  untested_first (before {at = at} {ls = ls} t u) =
      omega (arith, none, t.tested, turn_first (length lines) at (length ls) (good_filled m at false ls t.good))

  one_untested : Choice (good_or_untested (good m) lines tests) lines (lines ∷ [])
  unfolding joined
  one_untested =
      record {
        usable = final {at = 0} {ls = lines} (GoodOrUntested.untested some (omega (arith, none, turn_first (length lines) 0 (length lines) some)));
        whole = append-nil lines;
      }

-- "26 when tested legs allow no reference but one exists once untested legs count as good": so 0 tests give 26 for every stretch that is not refused as given.
pub no_tests : (mb : List ℕ) (s : Stretch) (work room : ℕ) (m : Map) (r : Stretch) (o : WriteOutcome) → work_length ≤ work → decode mb ≡ whole m →
    check_stretch m s ≡ remains r → Writes mb s 0 work room o → o ≡ WriteOutcome.refused (row 26)
no_tests mb s work room m r o full d e w =
    let n = length r.lines in
    let some : 0 < n = filled m r.lines (omega (arith, (taken m s r e).1.below)) in
    let none : tests_made n 0 ≡ 0 = omega (arith, tests_within n 0) in
    let given : WriteOn m r (tests_made n 0) room (WriteOutcome.refused (row 26)) =
    WriteBy.unfinished (λ lss c. untested_first m r.lines some (tests_made n 0) none c.usable) (one_untested m r.lines some (tests_made n 0) none) in
    writes_once mb s 0 room work w (on_writes mb s 0 work room _ full d e given)
