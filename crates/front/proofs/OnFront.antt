-- An answer to what any reader asks of a message's front first (W10): 30, or the answer to what it asks of the reference.
use Prim.Native.Nat.{ℕ}
use mathlib.Core.Path.{◌≡◌, sym, subst}
use mathlib.Core.Bool.{Bool, true, false}
use mathlib.Core.List.{List}
use Rattle.model.specs.Refusal.{Refused, row}
use Rattle.model.specs.Call.{Answered}
use Rattle.model.specs.Front.{same_map}
use Rattle.model.specs.OfMessage.{OnFront}
use Rattle.model.proofs.Answering.{answered_by}

module _ {Outcome Answer : Type 0} {Tells : Answer → Outcome → Type 0} {left : Outcome → List ℕ → List ℕ} (refused : Refused → Outcome)
    (Asks : Outcome → Type 0) (mb message : List ℕ) {before after : List ℕ} {a : Answer} where
  pub other_map : same_map mb message ≡ false → Answered Tells left (λ o. o ≡ refused (row 30)) before after a →
      Answered Tells left (OnFront refused Asks (same_map mb message)) before after a
  other_map e d = answered_by (λ o h. subst (λ (t : Bool). OnFront refused Asks t o) (sym e) h) d

  pub own_map : same_map mb message ≡ true → Answered Tells left Asks before after a → Answered Tells left (OnFront refused Asks (same_map mb message)) before after a
  own_map e d = answered_by (λ o h. subst (λ (t : Bool). OnFront refused Asks t o) (sym e) h) d
