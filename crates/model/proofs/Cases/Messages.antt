-- Messages in worked cases, by computation (paper 02, W9): bytes, refusals in their order, lengths of one and of two bytes, lists that stop, and places.
use Prim.Native.Nat.{ℕ}
use mathlib.Core.Path.{◌≡◌, refl}
use mathlib.Core.List.{List, [], ◌∷◌, ◌++◌}
use lib.ListN.{replicate}
use Rattle.model.specs.declared.Refusal.TheVariants.{MessageOrder, MessageFull}
use Rattle.model.specs.declared.Message.TheVariants.{Closed, Open}
use Rattle.model.specs.Refusal.{number_of, refusal_of}
use Rattle.model.specs.Number.{groups, number, group_bytes, number_bytes}
use Rattle.model.specs.Work.{placed}
use Rattle.model.specs.Front.{summed, map_sum, front_bytes, front_of}
use Rattle.model.specs.Message.{length_bytes, framed, framed_all, of_length, next, references, listed_behind, listed, reference_number, behind, left_behind, left_of, end_of_number, start_of_number}
use Rattle.model.specs.MessageCall.{end_of, fits, opening, closing, adding, so_far, extended, buffer_added, finished_number}
use Rattle.model.specs.MessageHistory.{whole, partial, finished_of, content_bytes, Call, opens, adds, closes, done, refused, lengthened, outcome, left, after, state_of}
use Rattle.model.specs.HostMessage.{message_of, host_message, host_part}
use Rattle.std.specs.Prelude.{Err, Ok}

-- Bytes as of a map, whose front is 02 83 02: two bytes, and a sum of 259.
abbrev mb : List ℕ
mb = 1 ∷ 2 ∷ []

-- A finished reference 01 02 03, added in two portions, and an open one that has 09 so far. The latest call stands first.
abbrev calls : List Call
calls = adds (9 ∷ []) ∷ opens ∷ closes ∷ adds (3 ∷ []) ∷ adds (1 ∷ 2 ∷ []) ∷ opens ∷ []

pub record Written : Type 0 where
  pub bytes : content_bytes mb (after mb 100 calls) ≡ 2 ∷ 131 ∷ 2 ∷ 3 ∷ 1 ∷ 2 ∷ 3 ∷ 1 ∷ 9 ∷ []
  pub state : state_of mb (after mb 100 calls) ≡ Open 7 1
  -- Refusals change nothing: adding with none open, closing with nothing added, opening twice, an addition past the room of 6, front counted.
  pub refusals : after mb 6 (adds (4 ∷ []) ∷ adds (7 ∷ 8 ∷ []) ∷ opens ∷ closes ∷ opens ∷ adds (5 ∷ []) ∷ []) ≡ partial [] (7 ∷ 8 ∷ [])
  pub order : outcome mb 0 (whole []) (adds (5 ∷ [])) ≡ refused 27
  pub empty_to_none : outcome mb 100 (whole []) (adds []) ≡ refused 27
  pub empty_in_no_room : outcome mb 3 (partial [] []) (adds []) ≡ done (partial [] [])
  pub past_the_room : outcome mb 5 (partial [] (7 ∷ [])) (adds (8 ∷ [])) ≡ refused 28
  pub to_the_room : outcome mb 6 (partial [] (7 ∷ [])) (adds (8 ∷ [])) ≡ done (partial [] (7 ∷ 8 ∷ []))

written : Written
unfolding finished_of content_bytes front_bytes map_sum summed framed_all framed length_bytes number_bytes group_bytes lengthened outcome left after state_of
written =
    record {
      bytes = refl;
      state = refl;
      refusals = refl;
      order = refl;
      empty_to_none = refl;
      empty_in_no_room = refl;
      past_the_room = refl;
      to_the_room = refl;
    }

-- Each call by itself. 127 bytes take a length of one byte, 128 one of two; a reference has 459 bytes at most, a message 16,384.
pub record Called : Type 0 where
  pub opened : opening (Closed 7) ≡ Ok (Open 7 0)
  pub opened_twice : opening (Open 7 0) ≡ Err MessageOrder
  pub closed : closing (Open 4 2) ≡ Ok (Closed 7)
  pub closed_127 : closing (Open 0 127) ≡ Ok (Closed 128)
  pub closed_128 : closing (Open 0 128) ≡ Ok (Closed 130)
  pub closed_none : closing (Closed 7) ≡ Err MessageOrder
  pub closed_empty : closing (Open 7 0) ≡ Err MessageOrder
  pub added_none : adding (Closed 7) 0 (1 ∷ []) ≡ Err MessageOrder
  pub added_nothing : adding (Open 7 2) 0 [] ≡ Ok (Open 7 2)
  pub reference_of_459 : adding (Open 0 458) 500 (1 ∷ []) ≡ Ok (Open 0 459)
  pub reference_of_460 : adding (Open 0 459) 500 (1 ∷ []) ≡ Err MessageFull
  pub message_of_16384 : adding (Open 16_380 0) 20_000 (1 ∷ 2 ∷ 3 ∷ []) ≡ Ok (Open 16_380 3)
  pub message_of_16385 : adding (Open 16_381 0) 20_000 (1 ∷ 2 ∷ 3 ∷ []) ≡ Err MessageFull
  pub buffer_of_9 : adding (Open 4 3) 9 (1 ∷ []) ≡ Ok (Open 4 4)
  pub buffer_of_8 : adding (Open 4 3) 8 (1 ∷ []) ≡ Err MessageFull
  -- The second byte of the length moves the bytes that stand there already.
  pub moved : buffer_added (Open 0 127) (127 ∷ replicate 127 7 ++ 1 ∷ 2 ∷ 3 ∷ []) (9 ∷ []) ≡ 128 ∷ 1 ∷ replicate 127 7 ++ 9 ∷ 3 ∷ []
  pub behind_finished : buffer_added (Open 2 1) (1 ∷ 7 ∷ 1 ∷ 8 ∷ 5 ∷ 6 ∷ []) (9 ∷ []) ≡ 1 ∷ 7 ∷ 2 ∷ 8 ∷ 9 ∷ 6 ∷ []
  -- The open one, 08, is not there yet.
  pub finished : finished_number (Open 5 1) (2 ∷ 131 ∷ 2 ∷ 1 ∷ 7 ∷ 1 ∷ 8 ∷ []) 0 ≡ 7 ∷ []
  pub not_yet : finished_number (Open 5 1) (2 ∷ 131 ∷ 2 ∷ 1 ∷ 7 ∷ 1 ∷ 8 ∷ []) 1 ≡ []

called : Called
unfolding length_bytes framed number_bytes group_bytes end_of fits opening closing adding so_far extended placed buffer_added finished_number reference_number front_of listed_behind listed references next of_length number groups
called =
    record {
      opened = refl;
      opened_twice = refl;
      closed = refl;
      closed_127 = refl;
      closed_128 = refl;
      closed_none = refl;
      closed_empty = refl;
      added_none = refl;
      added_nothing = refl;
      reference_of_459 = refl;
      reference_of_460 = refl;
      message_of_16384 = refl;
      message_of_16385 = refl;
      buffer_of_9 = refl;
      buffer_of_8 = refl;
      moved = refl;
      behind_finished = refl;
      finished = refl;
      not_yet = refl;
    }

-- A received message behind a front: 07 08, then 09, then a length of 0.
abbrev stopped : List ℕ
stopped = 2 ∷ 131 ∷ 2 ∷ 2 ∷ 7 ∷ 8 ∷ 1 ∷ 9 ∷ 0 ∷ 1 ∷ 5 ∷ []

pub record Received : Type 0 where
  pub at_zero : listed stopped ≡ (7 ∷ 8 ∷ []) ∷ (9 ∷ []) ∷ []
  pub early : listed (6 ∷ 5 ∷ 2 ∷ 7 ∷ 8 ∷ 3 ∷ 9 ∷ []) ≡ (7 ∷ 8 ∷ []) ∷ []
  pub not_shortest : listed (6 ∷ 5 ∷ 1 ∷ 7 ∷ 129 ∷ 0 ∷ 9 ∷ []) ≡ (7 ∷ []) ∷ []
  -- 4,294,967,297 in five bytes.
  pub too_large : listed (6 ∷ 5 ∷ 1 ∷ 7 ∷ 129 ∷ 128 ∷ 128 ∷ 128 ∷ 16 ∷ 9 ∷ []) ≡ (7 ∷ []) ∷ []
  pub of_459 : listed (6 ∷ 5 ∷ 203 ∷ 3 ∷ replicate 459 7) ≡ replicate 459 7 ∷ []
  pub of_460 : listed (6 ∷ 5 ∷ 204 ∷ 3 ∷ replicate 460 7) ≡ []
  pub second : reference_number 1 stopped ≡ 9 ∷ []
  pub third : reference_number 2 stopped ≡ []
  -- From byte 7 up to byte 8; where there is none, at byte 8, where the list stops.
  pub second_starts : start_of_number 1 stopped ≡ 7
  pub second_ends : end_of_number 1 stopped ≡ 8
  pub stops_at : start_of_number 2 stopped ≡ 8
  pub still_stops : end_of_number 7 stopped ≡ 8

received : Received
unfolding front_of listed_behind left_behind left_of listed references next of_length number groups reference_number behind end_of_number start_of_number
received =
    record {
      at_zero = refl;
      early = refl;
      not_shortest = refl;
      too_large = refl;
      of_459 = refl;
      of_460 = refl;
      second = refl;
      third = refl;
      second_starts = refl;
      second_ends = refl;
      stops_at = refl;
      still_stops = refl;
    }

-- A host's numbers: any `is_open` but 0 is open, and a refusal leaves all but its own number.
pub record Hosted : Type 0 where
  pub means_closed : message_of (record { refusal = 28; bytes = 4; is_open = 0; added = 3 }) ≡ Closed 4
  pub means_open : message_of (record { refusal = 0; bytes = 4; is_open = 7; added = 3 }) ≡ Open 4 3
  pub refused : host_message (record { refusal = 0; bytes = 4; is_open = 7; added = 3 }) (Err MessageFull)
      ≡ record { refusal = 28; bytes = 4; is_open = 7; added = 3 }
  pub done : host_message (record { refusal = 27; bytes = 4; is_open = 7; added = 3 }) (Ok (Closed 8)) ≡ record { refusal = 0; bytes = 8; is_open = 0; added = 0 }
  pub part : host_part 1 stopped ≡ record { start = 7; bytes = 1 }

hosted : Hosted
unfolding message_of host_message number_of refusal_of host_part front_of listed_behind left_behind left_of listed references next of_length number groups reference_number behind end_of_number start_of_number
hosted = record { means_closed = refl; means_open = refl; refused = refl; done = refl; part = refl }
