-- Answers to the definitions' questions for a reference out of a message (W10), put together from those of the parts.
use Prim.Native.Nat.{ℕ, ◌≤◌, ◌<◌}
use mathlib.Core.Path.{◌≡◌, refl}
use mathlib.Core.Bool.{false}
use mathlib.Core.List.{List}
use lib.ListN.{length}
use Rattle.model.specs.declared.Refusal.{Refusal}
use Rattle.std.proofs.Common.{Err}
use Rattle.model.specs.Answer.{ReadAnswer}
use Rattle.model.specs.Refusal.{refusal_of}
use Rattle.model.specs.Map.{Map, MapAnswer, decode}
use Rattle.model.specs.Work.{work_length, cleared}
use Rattle.model.specs.Opening.{OnMap}
use Rattle.model.specs.Reference.{parse}
use Rattle.model.specs.Outcome.{ReadOutcome, ReadParsed}
use Rattle.model.specs.Call.{ReadAnswered}
use Rattle.model.specs.Front.{same_map}
use Rattle.model.specs.OfMessage.{OnFront, ReadOfMessageCall}
use Rattle.model.proofs.Answering.{refused_read}
use Rattle.front.proofs.OnFront.{other_map}
use Rattle.model.proofs.Answering as Answering
use Rattle.model.specs.declared.Refusal.TheVariants as why

-- The message is of another map.
pub front_refused : (mb message : List ℕ) (Asks : ReadOutcome → Type 0) {lines : List ℕ} → same_map mb message ≡ false →
    ReadAnswered (OnFront ReadOutcome.refused Asks (same_map mb message)) lines lines (Err why.OtherMap)
unfolding refusal_of
front_refused mb message Asks e = other_map ReadOutcome.refused Asks mb message e (refused_read why.OtherMap refl)

module _ (mb message ref lines : List ℕ) where
  -- What is asked on a map.
  abbrev Asks : Map → ReadOutcome → Type 0
  Asks m = OnFront ReadOutcome.refused (ReadParsed m (parse ref) (length lines)) (same_map mb message)

  -- The bytes are no map.
  pub map_refused_lem : (r : Refusal) → decode mb ≡ MapAnswer.refused (refusal_of r) →
      ReadAnswered (OnMap ReadOutcome.refused Asks (decode mb)) lines lines (Err r)
  map_refused_lem r e = refused_read r (rw e refl)

  -- The whole call.
  pub called : {after work work' : List ℕ} {a : ReadAnswer} → (length work < work_length → (a ≡ Err why.WorkAreaShort) × (after ≡ lines)) →
      (work_length ≤ length work → ReadAnswered (OnMap ReadOutcome.refused Asks (decode mb)) lines after a) → work' ≡ cleared work →
      ReadOfMessageCall mb message ref work lines a work' after
  unfolding refusal_of
  called short ran e = record { called = Answering.stepped ReadOutcome.refused Asks mb (refused_read why.WorkAreaShort refl) short ran e }
