-- What is promised once every leg is read.
use Rattle.std.specs.Prelude.{ℕ, ◌≡◌, List, Result, Ok, Err}
use Rattle.model.specs.Map.{Map}
use Rattle.model.specs.Reference.{Offset, Reference}
use Rattle.model.specs.Span.{SpanRead, NoOffset}
use Rattle.model.specs.Reading.{banned_meeting}
use Rattle.model.specs.Outcome.{ReadOutcome, ReadJoined}
use Rattle.model.specs.Call.{ReadAnswers}
use Rattle.model.specs.declared.Span.{Span}
use Rattle.model.specs.declared.Refusal.{Refusal}
use Rattle.model.specs.Answer.{ReadAnswer}
use Rattle.model.specs.declared.Refusal.TheVariants as why

-- The span of an offset on a leg; or 19, since no offset gives its byte.
abbrev pub SpansOf : ℕ → Offset → Result Span Refusal → Type 0
SpansOf leg offset (Ok s) = SpanRead leg offset s
SpansOf leg offset (Err r) = NoOffset leg offset × (r ≡ why.NoOffset)

-- The answer for these legs is that of the definitions: 22, 19, 20, or accepted.
pub record Ended (m : Map) (r : Reference) (room : ℕ) (lists : List (List ℕ)) (a : ReadAnswer) : Type 0 where
  pub outcome : ReadOutcome
  pub ends : ReadJoined (banned_meeting m lists) m r room lists outcome
  pub answers : ReadAnswers a outcome
