-- Demand 3, proved: what is written is read back, and nothing else fits the bytes.
use Prim.Native.Nat.{ℕ, ◌+◌, ◌≤◌, ◌<◌}
use mathlib.Core.Path.{◌≡◌, sym, ◌∙◌, ap, subst}
use mathlib.Core.Bool.{false}
use mathlib.Core.List.{List}
use native.Mathlib.Omega.{arith}
use lib.ListN.{length}
use Rattle.model.specs.declared.Span.{Span}
use Rattle.model.specs.Map.{Map}
use Rattle.model.specs.Lines.{total}
use Rattle.model.specs.Reference.{Reference, bytes_of, parsed, parse, shortest_reference, longest_reference}
use Rattle.model.specs.Reading.{Readings, joined, banned_meeting}
use Rattle.model.specs.Stretch.{Stretch, remaining}
use Rattle.model.specs.Choice.{good, Usable, first_leg, last_leg, reference_of, stretch_bytes}
use Rattle.model.specs.Locate.{located, locate}
use Rattle.model.specs.Outcome.{SpansRead, read, ReadEnd, ReadJoined, ReadOn, Reads, written, Writes}
use Rattle.model.specs.Work.{work_length}
use Rattle.model.specs.Demand3.{Fits, Within, ReadAs, ChosenBy, ReadBack, Apart, Alike, Demand3}
use Rattle.model.proofs.Every.{Every, Byte}
use Rattle.model.specs.WellFormed.{WellFormed}
use Rattle.model.proofs.Decoded.{well_formed}
use Rattle.model.proofs.Joining.{first_leg_lem, last_leg_lem, each_leg, first_length, last_length, as_many, first_joined, last_joined}
use Rattle.model.proofs.Bans.{meetings}
use Rattle.model.proofs.LegTests.{tested_good_lem}
use Rattle.model.proofs.Legs.{legs_of, sole, readings, readings_only, legs_read}
use Rattle.model.proofs.Spans.{stated, within}
use Rattle.model.proofs.Bytes.{Fitting, parse_back, bytes_small, length_fits}
use Rattle.model.proofs.Points.{locate_back}
use Rattle.model.proofs.Composed.{fitting, spans}
use Rattle.model.proofs.Outcomes.{Written, written_of, on_reads}
use Rattle.model.proofs.Once.{reads_once}

module _ (m : Map) (mb : List ℕ) (s : Stretch) (tests : ℕ) (bytes : List ℕ) {made excess : ℕ} (k : Written m mb s tests bytes made excess) where
  usable : Usable (good m) 0 k.on.legs
  usable = (tested_good_lem k.on.chosen.choice).usable

  lines_are : joined k.on.legs ≡ (remaining m s).lines
  lines_are = k.on.chosen.choice.whole

  formed : WellFormed m
  formed = well_formed m mb k.decodes

  pos_inside : (remaining m s).pos < total m (first_leg k.on.legs)
  pos_inside = omega (arith, rw (← lines_are, first_joined usable) at k.left.first, first_length (first_leg_lem usable))

  neg_inside : (remaining m s).neg < total m (last_leg k.on.legs)
  neg_inside = omega (arith, rw (← lines_are, last_joined usable) at k.left.last, last_length (last_leg_lem usable))

  abbrev reference : Reference
  reference = reference_of m k.on.legs (remaining m s).pos (remaining m s).neg

  fitted : Fitting reference
  fitted =
      let few : length k.on.legs ≤ 64 = omega (arith, as_many usable, ap length lines_are, k.left.few) in
      fitting formed k.on.legs usable _ _ pos_inside neg_inside few

  bytes_are : bytes ≡ bytes_of reference
  unfolding stretch_bytes
  bytes_are = k.on.same

  parses : parse bytes ≡ parsed reference
  parses = rw bytes_are (parse_back reference fitted)

  locates : locate m reference ≡ located (legs_of m k.on.legs)
  locates = locate_back formed k.on.legs _ _ usable (rw lines_are k.left.joint)

  no_ban : banned_meeting m k.on.legs ≡ false
  no_ban = sym (meetings (each_leg usable)) ∙ rw lines_are k.left.free

  fits : Fits m bytes k.on.legs
  fits = record { reference = reference; legs = legs_of m k.on.legs; parses = parses; locates = locates; readings = readings (sole usable) }

  only : (others : List (List ℕ)) → Fits m bytes others → others ≡ k.on.legs
  only others f =
      let same : f.reference ≡ reference = cc (parses, f.parses) in
      let legs : f.legs ≡ legs_of m k.on.legs = cc (locates, f.locates) in
      readings_only (sole usable) (subst (λ l. Readings m l others) legs f.readings)

  some_spans : (pos neg : Span) × SpansRead m reference k.on.legs pos neg × (pos.least + neg.least < total m (joined k.on.legs))
  some_spans = spans formed k.on.legs usable _ _ pos_inside neg_inside (rw (← lines_are) at k.left.below)

  read_as : ReadAs mb bytes (remaining m s).lines some_spans.0 some_spans.1
  read_as =
      let take : (work room : ℕ) → work_length ≤ work → length (remaining m s).lines ≤ room →
      Reads mb bytes work room (read (remaining m s).lines some_spans.0 some_spans.1) =
      λ work room full enough.
      let room_left : length (joined k.on.legs) ≤ room = rw lines_are enough in
      let end : ReadJoined (banned_meeting m k.on.legs) m reference room k.on.legs (read (joined k.on.legs) some_spans.0 some_spans.1) =
      rw no_ban (ReadEnd.accepted some_spans.2 some_spans.3 room_left) in
      rw (← lines_are) (on_reads mb bytes work room _ full k.decodes parses (ReadOn.every_leg locates (legs_read (sole usable)) end)) in
      record {
        accepts = take;
        nothing_else = λ work room o full enough h. reads_once mb bytes room work h (take work room full enough);
      }

  holds_pos : Within (remaining m s).pos some_spans.0 (total m (first_leg k.on.legs))
  unfolding reference_of
  holds_pos = within pos_inside (stated _ _ pos_inside) some_spans.2.pos_read

  holds_neg : Within (remaining m s).neg some_spans.1 (total m (last_leg k.on.legs))
  unfolding reference_of
  holds_neg = within neg_inside (stated _ _ neg_inside) some_spans.2.neg_read

  read_back : ReadBack mb s tests bytes
  read_back =
      record {
        map = m;
        decodes = k.decodes;
        legs = k.on.legs;
        chosen = k.on.chosen;
        pos = some_spans.0;
        neg = some_spans.1;
        reads = read_as;
        holds_pos = holds_pos;
        holds_neg = holds_neg;
        fits = fits;
        only = only;
        unbanned = k.left.free;
      }

-- Two offsets in one span.
pub apart : {a b leg leg' : ℕ} {s : Span} → Within a s leg → Within b s leg' → Apart a b s leg
apart w w' = record { up = omega arith; down = omega arith; close = record { up = omega (arith, w.ends.up); down = omega (arith, w.ends.up) } }

module _ (m : Map) (mb bytes : List ℕ) (s t : Stretch) {tests tests' made made' excess excess' : ℕ} (k : Written m mb s tests bytes made excess)
    (k' : Written m mb t tests' bytes made' excess') where
  same_legs : k'.on.legs ≡ k.on.legs
  same_legs = only m mb s tests bytes k _ (fits m mb t tests' bytes k')

  same_lines : (remaining m s).lines ≡ (remaining m t).lines
  same_lines = sym (lines_are m mb s tests bytes k) ∙ ap joined (sym same_legs) ∙ lines_are m mb t tests' bytes k'

  both_alike : Alike mb bytes s t tests tests'
  both_alike =
      let a = read_as m mb s tests bytes k in
      let b = read_as m mb t tests' bytes k' in
      let enough : length (remaining m t).lines ≤ length (remaining m s).lines = rw same_lines (omega arith) in
      let n = length (remaining m s).lines in
      let same = b.nothing_else work_length n _ (omega arith) enough (a.accepts work_length n (omega arith) (omega arith)) in
      let same_pos : (some_spans m mb t tests' bytes k').0 ≡ (some_spans m mb s tests bytes k).0 = cc in
      let same_neg : (some_spans m mb t tests' bytes k').1 ≡ (some_spans m mb s tests bytes k).1 = cc in
      record {
        map = m;
        decodes = k.decodes;
        lines = same_lines;
        legs = k.on.legs;
        chosen = k.on.chosen;
        chosen_too = subst (ChosenBy m (remaining m t).lines tests') same_legs k'.on.chosen;
        pos = (some_spans m mb s tests bytes k).0;
        neg = (some_spans m mb s tests bytes k).1;
        reads = a;
        near_pos = apart (holds_pos m mb s tests bytes k) (rw same_pos at (holds_pos m mb t tests' bytes k'));
        near_neg = apart (holds_neg m mb s tests bytes k) (rw same_neg at (holds_neg m mb t tests' bytes k'));
      }

pub demand3 : Demand3
demand3 =
    record {
      back = λ mb bytes s tests work room made excess writes.
          let k = written_of mb s tests bytes made excess room work writes in
          read_back k.0 mb s tests bytes k.1;
      alike = λ mb bytes s t tests tests' work work' room room' made made' excess excess' writes writes'.
          let k = written_of mb s tests bytes made excess room work writes in
          let k' = written_of mb t tests' bytes made' excess' room' work' writes' in
          let same : k'.0 ≡ k.0 = cc (k.1.decodes, k'.1.decodes) in
          both_alike k.0 mb bytes s t k.1 (subst (λ m. Written m mb t tests' bytes made' excess') same k'.1);
    }

-- What is written are bytes, 16 to 459 of them.
pub written_bytes : (mb bytes : List ℕ) (s : Stretch) (tests work room made excess : ℕ) → Writes mb s tests work room (written bytes made excess) →
    Every Byte bytes × (shortest_reference ≤ length bytes) × (length bytes ≤ longest_reference)
written_bytes mb bytes s tests work room made excess writes =
    let k = written_of mb s tests bytes made excess room work writes in
    let f = fitted k.0 mb s tests bytes k.1 in
    rw (bytes_are k.0 mb s tests bytes k.1) (bytes_small _ f, (length_fits _ f).0, (length_fits _ f).1)
