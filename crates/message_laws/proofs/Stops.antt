-- "In a received message a faulty length, 0, one over 459 or an early end stops the list" (W9): behind any front that can be read and any references, which stay
-- listed. "A received front that cannot be read makes the list empty" (W10).
use Prim.Native.Nat.{ℕ, ◌≤◌, ◌<◌}
use mathlib.Core.Path.{◌≡◌, ◌∙◌, ap}
use mathlib.Core.List.{List, [], ◌++◌}
use native.Mathlib.Omega.{arith}
use lib.ListN.{length, take}
use lib.Seq.{take-take}
use Rattle.model.specs.Number.{number, got, faulty}
use Rattle.model.specs.Front.{front, unreadable, front_of}
use Rattle.model.specs.Message.{longest_message, framed_all, listed_behind, listed}
use Rattle.model.proofs.Every.{Every}
use Rattle.message_laws.proofs.Nexts.{no_number, next_is, no_byte, too_long, early_end}
use Rattle.message_laws.proofs.Framing.{Proper, listed_until}

module _ (message : List ℕ) (count sum : ℕ) (rs : List (List ℕ)) (bs : List ℕ) (starts : front_of message ≡ front count sum (framed_all rs ++ bs))
    (short : length message ≤ longest_message) (proper : Every Proper rs) where
  pub faulty_length_stops : number bs ≡ faulty → listed message ≡ rs
  faulty_length_stops e = listed_until message count sum rs bs starts short proper (no_number bs e)

  pub length_0_stops : (rest : List ℕ) → number bs ≡ got 0 rest → listed message ≡ rs
  length_0_stops rest e = listed_until message count sum rs bs starts short proper (next_is bs 0 rest e ∙ no_byte 0 rest (omega arith))

  pub over_459_stops : (n : ℕ) (rest : List ℕ) → number bs ≡ got n rest → 459 < n → listed message ≡ rs
  over_459_stops n rest e h = listed_until message count sum rs bs starts short proper (next_is bs n rest e ∙ too_long n rest h)

  pub early_end_stops : (n : ℕ) (rest : List ℕ) → number bs ≡ got n rest → length rest < n → listed message ≡ rs
  early_end_stops n rest e h = listed_until message count sum rs bs starts short proper (next_is bs n rest e ∙ early_end n rest h)

pub unreadable_front_empty : (message : List ℕ) → front_of (take longest_message message) ≡ unreadable → listed message ≡ []
unfolding listed listed_behind
unreadable_front_empty message e = ap listed_behind e

-- "At most the first 16,384 bytes are used": what stands behind them is not listed, and ends the message early.
pub listed_cut : (message : List ℕ) → listed (take longest_message message) ≡ listed message
unfolding listed
listed_cut message = ap (λ (l : List ℕ). listed_behind (front_of l)) (take-take longest_message longest_message message (omega arith))
