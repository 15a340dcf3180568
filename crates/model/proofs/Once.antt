-- The reader's call has one outcome at most, and so has the writer's: a promise that names the outcome pins the answer.
use Prim.Native.Nat.{ℕ}
use mathlib.Core.Path.{◌≡◌, refl}
use mathlib.Core.Bool.{Bool, true, false}
use mathlib.Core.List.{List}
use native.Mathlib.Omega.{arith}
use Rattle.model.specs.declared.Span.{Span}
use Rattle.model.specs.Map.{Map}
use Rattle.model.specs.Reference.{Reference, ParseAnswer, parsed, parse}
use Rattle.model.specs.Reading.{Leg, banned_meeting}
use Rattle.model.specs.Stretch.{Stretch, StretchAnswer, remains, check_stretch}
use Rattle.model.specs.Choice.{LegTest, MoreFirst, more, later, Preferred, same, fewer, more_first, Chosen}
use Rattle.model.specs.LegTests.{Fewest}
use Rattle.model.specs.Locate.{located, locate}
use Rattle.model.specs.Outcome.{LegsAnswer, LegsRead, SpansRead, ReadOutcome, ReadEnd, ReadJoined, ReadOn, ReadParsed, Reads, WriteOutcome, WriteBy, WriteStretch, Writes}
use Rattle.model.proofs.Opened.{opens_once}
use Rattle.model.proofs.LegTests.{tested_good_lem, good_as_untested}
use Rattle.model.proofs.Legs.{legs_same}
use Rattle.model.proofs.Spans.{span_same, no_span}

-- Two choices that are each preferred to the other are the same.
not_both_more : {a b : List (List ℕ)} → MoreFirst a b → MoreFirst b a → ⊥
not_both_more (more h) (more k) = omega arith
not_both_more (more h) (later e k) = omega arith
not_both_more (later e h) (more k) = omega arith
not_both_more (later e h) (later e' k) = not_both_more h k

preferred_same : {a b : List (List ℕ)} → Preferred a b → Preferred b a → a ≡ b
preferred_same same k = refl
preferred_same (fewer h) same = refl
preferred_same (fewer h) (fewer k) = absurd (omega arith)
preferred_same (fewer h) (more_first e k) = absurd (omega arith)
preferred_same (more_first e h) same = refl
preferred_same (more_first e h) (fewer k) = absurd (omega arith)
preferred_same (more_first e h) (more_first e' k) = absurd (not_both_more h k)

pub chosen_same : {test : LegTest} {lines : List ℕ} {a b : List (List ℕ)} → Chosen test lines a → Chosen test lines b → a ≡ b
chosen_same c d = preferred_same (c.preferred _ d.choice) (d.preferred _ c.choice)

-- There is one fewest number of legs.
pub fewest_same : {test : LegTest} {lines : List ℕ} {a b : ℕ} → Fewest test lines a → Fewest test lines b → a ≡ b
fewest_same f g = omega (arith, f.fewest g.legs g.choice, g.fewest f.legs f.choice, f.counted, g.counted)

module _ {test : LegTest} {bytes : List (List ℕ) → List ℕ} {lines : List ℕ} {made room : ℕ} where
  pub write_on_same : {o o' : WriteOutcome} → WriteBy test bytes lines made room o → WriteBy test bytes lines made room o' → o ≡ o'
  write_on_same (WriteBy.unfinished n c) (WriteBy.unfinished n' c') = refl
  write_on_same (WriteBy.unfinished n c) (WriteBy.no_choice n') = absurd (n' _ c)
  write_on_same (WriteBy.unfinished n c) (WriteBy.no_room c' h) = absurd (n _ c'.choice)
  write_on_same (WriteBy.unfinished n c) (WriteBy.accepted c' f h) = absurd (n _ c'.choice)
  write_on_same (WriteBy.no_choice n) (WriteBy.unfinished n' c) = absurd (n _ c)
  write_on_same (WriteBy.no_choice n) (WriteBy.no_choice n') = refl
  write_on_same (WriteBy.no_choice n) (WriteBy.no_room c h) = absurd (n _ (good_as_untested (tested_good_lem c.choice)))
  write_on_same (WriteBy.no_choice n) (WriteBy.accepted c f h) = absurd (n _ f.choice)
  write_on_same (WriteBy.no_room c h) (WriteBy.unfinished n c') = absurd (n _ c.choice)
  write_on_same (WriteBy.no_room c h) (WriteBy.no_choice n) = absurd (n _ (good_as_untested (tested_good_lem c.choice)))
  write_on_same (WriteBy.no_room c h) (WriteBy.no_room c' h') = refl
  write_on_same (WriteBy.no_room c h) (WriteBy.accepted c' f h') = absurd (omega (arith, rw (chosen_same c c') at h))
  write_on_same (WriteBy.accepted c f h) (WriteBy.unfinished n c') = absurd (n _ c.choice)
  write_on_same (WriteBy.accepted c f h) (WriteBy.no_choice n) = absurd (n _ f.choice)
  write_on_same (WriteBy.accepted c f h) (WriteBy.no_room c' h') = absurd (omega (arith, rw (chosen_same c c') at h))
  write_on_same (WriteBy.accepted c f h) (WriteBy.accepted c' f' h') = rw (chosen_same c c', fewest_same f f')

module _ (mb : List ℕ) (s : Stretch) (tests room : ℕ) {o o' : WriteOutcome} where
  write_stretch_same : (m : Map) (a : StretchAnswer) → WriteStretch m a tests room o → WriteStretch m a tests room o' → o ≡ o'
  write_stretch_same m (remains r) h h' = write_on_same h h'
  write_stretch_same m (StretchAnswer.refused n) h h' = cc

  pub writes_once : (work : ℕ) → Writes mb s tests work room o → Writes mb s tests work room o' → o ≡ o'
  writes_once work h h' =
      opens_once WriteOutcome.refused (λ m. WriteStretch m (check_stretch m s) tests room) (λ m. write_stretch_same m (check_stretch m s)) mb work h h'

module _ (m : Map) (r : Reference) (room : ℕ) where
  module _ {lss : List (List ℕ)} {p p' n n' : Span} (a : SpansRead m r lss p n) (b : SpansRead m r lss p' n') where
    same_pos : p ≡ p'
    same_pos = span_same a.pos_read b.pos_read

    same_neg : n ≡ n'
    same_neg = span_same a.neg_read b.neg_read

  end_same : {lss : List (List ℕ)} {o o' : ReadOutcome} → ReadEnd m r room lss o → ReadEnd m r room lss o' → o ≡ o'
  end_same (ReadEnd.no_pos x) (ReadEnd.no_pos x') = refl
  end_same (ReadEnd.no_pos x) (ReadEnd.no_neg x') = refl
  end_same (ReadEnd.no_pos x) (ReadEnd.too_far b h) = refl
  end_same (ReadEnd.no_pos x) (ReadEnd.no_room b h k) = absurd (no_span x b.pos_read)
  end_same (ReadEnd.no_pos x) (ReadEnd.accepted b h k) = absurd (no_span x b.pos_read)
  end_same (ReadEnd.no_neg x) (ReadEnd.no_pos x') = refl
  end_same (ReadEnd.no_neg x) (ReadEnd.no_neg x') = refl
  end_same (ReadEnd.no_neg x) (ReadEnd.too_far b h) = refl
  end_same (ReadEnd.no_neg x) (ReadEnd.no_room b h k) = absurd (no_span x b.neg_read)
  end_same (ReadEnd.no_neg x) (ReadEnd.accepted b h k) = absurd (no_span x b.neg_read)
  end_same (ReadEnd.too_far a g) (ReadEnd.no_pos x) = refl
  end_same (ReadEnd.too_far a g) (ReadEnd.no_neg x) = refl
  end_same (ReadEnd.too_far a g) (ReadEnd.too_far b h) = refl
  end_same (ReadEnd.too_far a g) (ReadEnd.no_room b h k) = absurd (omega (arith, rw (same_pos a b, same_neg a b) at g))
  end_same (ReadEnd.too_far a g) (ReadEnd.accepted b h k) = absurd (omega (arith, rw (same_pos a b, same_neg a b) at g))
  end_same (ReadEnd.no_room a g h) (ReadEnd.no_pos x) = absurd (no_span x a.pos_read)
  end_same (ReadEnd.no_room a g h) (ReadEnd.no_neg x) = absurd (no_span x a.neg_read)
  end_same (ReadEnd.no_room a g h) (ReadEnd.too_far b k) = absurd (omega (arith, rw (same_pos a b, same_neg a b) at g))
  end_same (ReadEnd.no_room a g h) (ReadEnd.no_room b k l) = refl
  end_same (ReadEnd.no_room a g h) (ReadEnd.accepted b k l) = absurd (omega arith)
  end_same (ReadEnd.accepted a g h) (ReadEnd.no_pos x) = absurd (no_span x a.pos_read)
  end_same (ReadEnd.accepted a g h) (ReadEnd.no_neg x) = absurd (no_span x a.neg_read)
  end_same (ReadEnd.accepted a g h) (ReadEnd.too_far b k) = absurd (omega (arith, rw (same_pos a b, same_neg a b) at g))
  end_same (ReadEnd.accepted a g h) (ReadEnd.no_room b k l) = absurd (omega arith)
  end_same (ReadEnd.accepted a g h) (ReadEnd.accepted b k l) = let e = same_pos a b in let e' = same_neg a b in cc

  joined_same : (lss : List (List ℕ)) {o o' : ReadOutcome} (t : Bool) → ReadJoined t m r room lss o → ReadJoined t m r room lss o' → o ≡ o'
  joined_same lss true h h' = cc
  joined_same lss false h h' = end_same h h'

  found_same : {legs legs' : List Leg} {a b : LegsAnswer} → locate m r ≡ located legs → locate m r ≡ located legs' → LegsRead m 0 legs a →
      LegsRead m 0 legs' b → a ≡ b
  found_same {legs} {legs'} e e' h h' = let same : legs ≡ legs' = cc in legs_same (rw same at h) h'

  pub read_on_same : {o o' : ReadOutcome} → ReadOn m r room o → ReadOn m r room o' → o ≡ o'
  read_on_same (ReadOn.no_point e) (ReadOn.no_point e') = cc
  read_on_same (ReadOn.no_point e) (ReadOn.no_leg e' h) = cc
  read_on_same (ReadOn.no_point e) (ReadOn.every_leg e' h end) = cc
  read_on_same (ReadOn.no_leg e h) (ReadOn.no_point e') = cc
  read_on_same (ReadOn.no_leg e h) (ReadOn.no_leg e' h') = let same = found_same e e' h h' in cc
  read_on_same (ReadOn.no_leg e h) (ReadOn.every_leg e' h' end) = let same = found_same e e' h h' in cc
  read_on_same (ReadOn.every_leg e h end) (ReadOn.no_point e') = cc
  read_on_same (ReadOn.every_leg e h end) (ReadOn.no_leg e' h') = let same = found_same e e' h h' in cc
  read_on_same (ReadOn.every_leg {lss = lss} e h end) (ReadOn.every_leg {lss = lss'} e' h' end') =
      let same = found_same e e' h h' in
      let same_lists : lss ≡ lss' = cc in
      joined_same lss' (banned_meeting m lss') (rw same_lists at end) end'

module _ (mb ref : List ℕ) (room : ℕ) {o o' : ReadOutcome} where
  pub read_parsed_same : (m : Map) (a : ParseAnswer) → ReadParsed m a room o → ReadParsed m a room o' → o ≡ o'
  read_parsed_same m (parsed r) h h' = read_on_same m r room h h'
  read_parsed_same m (ParseAnswer.refused n) h h' = cc

  pub reads_once : (work : ℕ) → Reads mb ref work room o → Reads mb ref work room o' → o ≡ o'
  reads_once work h h' = opens_once ReadOutcome.refused (λ m. ReadParsed m (parse ref) room) (λ m. read_parsed_same m (parse ref)) mb work h h'
