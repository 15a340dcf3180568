-- The answer once every leg is read: a banned turn where two meet, or from the spans of the two offsets.
use Prim.Native.Nat.{ℕ, ◌+◌, ◌≤◌, ◌<◌}
use mathlib.Core.Path.{◌≡◌, refl, sym, subst, ◌∙◌}
use mathlib.Core.Bool.{Bool, true, false}
use mathlib.Core.List.{List}
use Rattle.std.proofs.Common.{Ok, Err}
use native.Mathlib.Omega.{arith}
use Rattle.model.specs.Map.{Map}
use Rattle.model.specs.Refusal.{row, refusal_of}
use Rattle.model.specs.Reference.{Reference}
use Rattle.model.specs.Reading.{joined, banned_meeting}
use Rattle.model.specs.Span.{SpanRead, NoOffset}
use Rattle.model.specs.Outcome.{SpansRead, ReadOutcome, read, ReadEnd, ReadJoined}
use Rattle.model.specs.Call.{lines, refusal}
use Rattle.model.specs.declared.Span.{Span}
use Rattle.model.specs.Answer.{lines_read}
use Rattle.reference_legs.specs.declared.Sums.{Sums}
use Rattle.reference_legs.specs.Legs.{SumsOf}
use Rattle.reader.specs.Ending.{Ended}
use Rattle.model.specs.declared.Refusal.TheVariants as why

abbrev zeros : Span
zeros = record { least = 0; greatest = 0 }

spans : {m : Map} {r : Reference} {lists : List (List ℕ)} {s : Sums} {pos neg : Span} → SumsOf m lists s → SpanRead s.first r.pos pos → SpanRead s.last r.neg neg →
    SpansRead m r lists pos neg
spans of first last = record { pos_read = rw of.first first; neg_read = rw of.last last }

-- Where no banned turn stands, the rest is asked.
not_barred : {m : Map} {r : Reference} {room : ℕ} {lists : List (List ℕ)} {s : Sums} (o : ReadOutcome) → SumsOf m lists s → s.barred ≡ false →
    ReadEnd m r room lists o → ReadJoined (banned_meeting m lists) m r room lists o
not_barred {m} {r} {room} {lists} o of free end = subst (λ (t : Bool). ReadJoined t m r room lists o) (sym (of.barred ∙ free)) end

module _ {m : Map} {r : Reference} {room : ℕ} {lists : List (List ℕ)} {s : Sums} (of : SumsOf m lists s) where
  pub banned_meeting_lem : s.barred ≡ true → Ended m r room lists (Err why.JoinedBan)
  unfolding refusal_of
  banned_meeting_lem e =
      record {
        outcome = ReadOutcome.refused (row 22);
        ends = subst (λ (t : Bool). ReadJoined t m r room lists (ReadOutcome.refused (row 22))) (sym (of.barred ∙ e)) refl;
        answers = refusal {why = why.JoinedBan};
      }

module _ {m : Map} {r : Reference} {room : ℕ} {lists : List (List ℕ)} {s : Sums} (of : SumsOf m lists s) (free : s.barred ≡ false) where
  pub no_positive : NoOffset s.first r.pos → Ended m r room lists (Err why.NoOffset)
  unfolding refusal_of
  no_positive none =
      record { outcome = ReadOutcome.refused (row 19); ends = not_barred _ of free (ReadEnd.no_pos (rw of.first none)); answers = refusal {why = why.NoOffset} }

  pub no_negative : NoOffset s.last r.neg → Ended m r room lists (Err why.NoOffset)
  unfolding refusal_of
  no_negative none =
      record { outcome = ReadOutcome.refused (row 19); ends = not_barred _ of free (ReadEnd.no_neg (rw of.last none)); answers = refusal {why = why.NoOffset} }

  module _ {pos neg : Span} (first : SpanRead s.first r.pos pos) (last : SpanRead s.last r.neg neg) where
    pub too_far : s.length ≤ pos.least + neg.least → Ended m r room lists (Err why.NoOffset)
    unfolding refusal_of
    too_far h =
        record {
          outcome = ReadOutcome.refused (row 19);
          ends = not_barred _ of free (ReadEnd.too_far (spans of first last) (omega (arith, of.sum)));
          answers = refusal {why = why.NoOffset};
        }

    pub no_room : pos.least + neg.least < s.length → room < s.count → Ended m r room lists (Err why.LinesShort)
    unfolding refusal_of
    no_room h k =
        record {
          outcome = ReadOutcome.refused (row 20);
          ends = not_barred _ of free (ReadEnd.no_room (spans of first last) (omega (arith, of.sum)) (omega (arith, of.count)));
          answers = refusal {why = why.LinesShort};
        }

    pub accepted : pos.least + neg.least < s.length → s.count ≤ room → Ended m r room lists (Ok (lines_read s.count pos neg))
    accepted h k =
        record {
          outcome = read (joined lists) pos neg;
          ends = not_barred _ of free (ReadEnd.accepted (spans of first last) (omega (arith, of.sum)) (omega (arith, of.count)));
          answers = rw (sym of.count) lines;
        }
