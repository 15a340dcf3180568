-- A call on a message whose numbers have 32 bits answers one whose numbers have 32 bits.
use Prim.Native.Nat.{ℕ, ◌+◌}
use mathlib.Core.Path.{◌≡◌, refl}
use mathlib.Core.Bool.{Bool, true, false, cond}
use mathlib.Core.List.{List}
use native.Mathlib.Omega.{arith}
use lib.ListN.{length}
use lib.Dec.{eqb}
use Rattle.model.specs.declared.Refusal.TheVariants.{MessageOrder, MessageFull}
use Rattle.model.specs.declared.Message.{Message}
use Rattle.model.specs.declared.Message.TheVariants.{Closed, Open}
use Rattle.std.specs.Prelude.{Ok, Err}
use Rattle.model.specs.Message.{longest_message}
use Rattle.model.specs.MessageCall.{end_of, fits, opening, closing, adding}
use Rattle.message_laws.proofs.Fitting.{fit_of}
use Rattle.host_message.specs.Held.{Narrow, NarrowAnswer}

pub narrow_opening : (m : Message) → Narrow m → NarrowAnswer (opening m)
unfolding opening
narrow_opening (Closed finished) h = (h, omega arith)
narrow_opening (Open finished added) h = tt

pub narrow_closing : (m : Message) → Narrow m → NarrowAnswer (closing m)
unfolding closing
narrow_closing (Closed finished) h = tt
narrow_closing (Open finished added) h = go (eqb added 0) (fits finished added longest_message) refl
  where
    go : (t u : Bool) → fits finished added longest_message ≡ u →
        NarrowAnswer (cond t (Err MessageOrder) (cond u (Ok (Closed (end_of finished added))) (Err MessageFull)))
    go true u e = tt
    go false true e = omega (arith, (fit_of finished added longest_message e).in_most)
    go false false e = tt

pub narrow_adding : (m : Message) (room : ℕ) (portion : List ℕ) → Narrow m → NarrowAnswer (adding m room portion)
unfolding adding
narrow_adding (Closed finished) room portion h = tt
narrow_adding (Open finished added) room portion h =
    go (eqb (length portion) 0) (fits finished (added + length portion) room) refl
  where
    go : (t u : Bool) → fits finished (added + length portion) room ≡ u →
        NarrowAnswer
        (cond t (Ok (Open finished added)) (cond u (Ok (Open finished (added + length portion))) (Err MessageFull)))
    go true u e = h
    go false true e = (h.0, omega (arith, (fit_of finished (added + length portion) room e).short))
    go false false e = tt
