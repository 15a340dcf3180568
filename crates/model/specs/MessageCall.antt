-- What each call on a message promises, for every message that it can be given, also one that no calls made (paper 02, W9). Starting one is in MessageStart;
-- what all this comes to over several calls is in MessageHistory.
use Rattle.std.specs.Prelude.{ℕ, ◌+◌, min, ◌≡◌, Bool, cond, ◌&&◌, List, ◌++◌, length, take, drop, leb, eqb, Err, Ok}
use Rattle.model.specs.declared.Refusal.TheVariants.{MessageOrder, MessageFull}
use Rattle.model.specs.declared.Message.{Message}
use Rattle.model.specs.declared.Message.TheVariants.{Closed, Open}
use Rattle.model.specs.Answer.{MessageAnswer}
use Rattle.model.specs.Work.{placed}
use Rattle.model.specs.Reference.{longest_reference}
use Rattle.model.specs.Message.{longest_message, length_bytes, framed, reference_number}

-- How many bytes the front and the finished references have, lengths counted. They are the first of the buffer.
abbrev pub finished_bytes : Message → ℕ
finished_bytes (Closed finished) = finished
finished_bytes (Open finished added) = finished

-- Where a message ends whose open reference has `count` bytes behind `finished` finished ones.
unfoldable pub end_of : ℕ → ℕ → ℕ
end_of finished count = finished + (length (length_bytes count) + count)

-- It does not go "past the buffer or 16,384 bytes, or a reference past 459".
unfoldable pub fits : ℕ → ℕ → ℕ → Bool
fits finished count room = leb count longest_reference && leb (end_of finished count) (min room longest_message)

-- Refusal 27: "opening when one is open".
unfoldable pub opening : Message → MessageAnswer
opening (Closed finished) = Ok (Open finished 0)
opening (Open finished added) = Err MessageOrder

-- "Closing answers the message's byte count." Refusal 27: "closing when none is, closing with nothing added". 28 is for numbers that no calls give.
unfoldable pub closing : Message → MessageAnswer
closing (Closed finished) = Err MessageOrder
closing (Open finished added) =
    cond (eqb added 0) (Err MessageOrder)
    (cond (fits finished added longest_message) (Ok (Closed (end_of finished added))) (Err MessageFull))

-- Adding `portion` in a buffer of `room` bytes. Refusal 27: "adding when none is". 28 (after 27): "an addition would take the message, lengths counted, past
-- the buffer or 16,384 bytes, or a reference past 459".
unfoldable pub adding : Message → ℕ → List ℕ → MessageAnswer
adding (Closed finished) room portion = Err MessageOrder
adding (Open finished added) room portion =
    cond (eqb (length portion) 0) (Ok (Open finished added))
    (cond (fits finished (added + length portion) room) (Ok (Open finished (added + length portion))) (Err MessageFull))

-- The bytes that an open reference has so far, in the part of the buffer that starts where its length stands.
unfoldable pub so_far : ℕ → List ℕ → List ℕ
so_far added part = take added (drop (length (length_bytes added)) part)

-- That part with `portion` behind those bytes: "the open one's length so far and its bytes stand right behind the last finished one".
unfoldable pub extended : ℕ → List ℕ → List ℕ → List ℕ
extended added part portion = placed (framed (so_far added part ++ portion)) part

-- The buffer after adding. "An empty addition to an open one and a refusal change nothing."
unfoldable pub buffer_added : Message → List ℕ → List ℕ → List ℕ
buffer_added (Closed finished) buffer portion = buffer
buffer_added (Open finished added) buffer portion =
    cond (eqb (length portion) 0) buffer
    (cond (fits finished (added + length portion) (length buffer)) (take finished buffer ++ extended added (drop finished buffer) portion) buffer)

-- A call that adds: its answer, and the buffer before and after it. The calls that open and close get no buffer, and so write nothing.
pub record Adds (m : Message) (buffer portion : List ℕ) (a : MessageAnswer) (buffer' : List ℕ) : Type 0 where
  pub answers : a ≡ adding m (length buffer) portion
  pub buffer_after : buffer' ≡ buffer_added m buffer portion

-- Asking while a message is written. "While one is open, any finished one may be read, and the open one is not there yet."
unfoldable pub finished_number : Message → List ℕ → ℕ → List ℕ
finished_number m buffer n = reference_number n (take (finished_bytes m) buffer)
