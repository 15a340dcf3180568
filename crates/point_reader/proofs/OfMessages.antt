-- Answers to the definitions' questions for a reference out of a message (W10), put together from those of the parts.
use Prim.Native.Nat.{ℕ, ◌≤◌, ◌<◌}
use mathlib.Core.Path.{◌≡◌, refl}
use mathlib.Core.Bool.{false}
use mathlib.Core.List.{List}
use lib.ListN.{length}
use Rattle.model.specs.declared.Refusal.{Refusal}
use Rattle.std.proofs.Common.{Err}
use Rattle.model.specs.Answer.{PointReadAnswer}
use Rattle.model.specs.Refusal.{refusal_of}
use Rattle.model.specs.Map.{Map, MapAnswer, decode}
use Rattle.model.specs.Work.{work_length, cleared}
use Rattle.model.specs.Opening.{OnMap}
use Rattle.model.specs.PointAlong.{parse_point, PointReadOutcome, PointReadParsed, PointReadAnswered}
use Rattle.model.specs.Front.{same_map}
use Rattle.model.specs.OfMessage.{OnFront, PointReadOfMessageCall}
use Rattle.point_reader.proofs.Answers.{refused_point}
use Rattle.front.proofs.OnFront.{other_map}
use Rattle.model.proofs.Answering as Answering
use Rattle.model.specs.declared.Refusal.TheVariants as why

-- The message is of another map.
pub front_refused : (mb message : List ℕ) (Asks : PointReadOutcome → Type 0) {lines : List ℕ} → same_map mb message ≡ false →
    PointReadAnswered (OnFront PointReadOutcome.refused Asks (same_map mb message)) lines lines (Err why.OtherMap)
unfolding refusal_of
front_refused mb message Asks e = other_map PointReadOutcome.refused Asks mb message e (refused_point why.OtherMap refl)

module _ (mb message ref lines : List ℕ) where
  -- What is asked on a map.
  abbrev Asks : Map → PointReadOutcome → Type 0
  Asks m = OnFront PointReadOutcome.refused (PointReadParsed m (parse_point ref) (length lines)) (same_map mb message)

  -- The bytes are no map.
  pub map_refused_lem : (r : Refusal) → decode mb ≡ MapAnswer.refused (refusal_of r) →
      PointReadAnswered (OnMap PointReadOutcome.refused Asks (decode mb)) lines lines (Err r)
  map_refused_lem r e = refused_point r (rw e refl)

  -- The whole call.
  pub called : {after work work' : List ℕ} {a : PointReadAnswer} → (length work < work_length → (a ≡ Err why.WorkAreaShort) × (after ≡ lines)) →
      (work_length ≤ length work → PointReadAnswered (OnMap PointReadOutcome.refused Asks (decode mb)) lines after a) → work' ≡ cleared work →
      PointReadOfMessageCall mb message ref work lines a work' after
  unfolding refusal_of
  called short ran e = record { called = Answering.stepped PointReadOutcome.refused Asks mb (refused_point why.WorkAreaShort refl) short ran e }
