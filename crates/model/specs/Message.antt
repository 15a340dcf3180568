-- The bytes of a message behind its front: "references in order, each behind its length as a seven-bit number"; and the references of a received one (paper
-- 02, W9; the front: W10).
use Rattle.std.specs.Prelude.{ℕ, zero, suc, ◌-◌, true, false, ◌&&◌, List, [], ◌∷◌, ◌++◌, length, take, drop, get_or, leb}
use Rattle.model.specs.Number.{got, faulty, number, number_bytes}
use Rattle.model.specs.Reference.{longest_reference}
use Rattle.model.specs.Front.{FrontRead, front, unreadable, front_of}

-- "At most the first 16,384 bytes are used."
abbrev pub longest_message : ℕ
longest_message = 16_384

-- The length of a reference, as it stands before it. Before one that has no byte yet nothing stands: "Opening writes nothing."
unfoldable pub length_bytes : ℕ → List ℕ
length_bytes zero = []
length_bytes (suc n) = number_bytes (suc n)

-- A reference behind its length, and references one after another.
unfoldable pub framed : List ℕ → List ℕ
framed reference = length_bytes (length reference) ++ reference

unfoldable pub framed_all : List (List ℕ) → List ℕ
framed_all [] = []
framed_all (r ∷ rs) = framed r ++ framed_all rs

-- What stands at the front of some bytes: a reference and the bytes behind it, or nothing that counts.
pub data Next : Type 0 where
  reference : List ℕ → List ℕ → Next
  stop : Next

-- "A faulty length, 0, one over 459 or an early end stops the list."
unfoldable pub of_length : ℕ → List ℕ → Next
of_length n bs =
    elim (leb 1 n && (leb n longest_reference && leb n (length bs))) [ true ↦ reference (take n bs) (drop n bs) | false ↦ stop ]

unfoldable pub next : List ℕ → Next
next bs = elim (number bs) [ got n rest ↦ of_length n rest | faulty ↦ stop ]

-- The references of some bytes, up to `most`.
unfoldable pub references : ℕ → List ℕ → List (List ℕ)
references zero bs = []
references (suc most) bs = elim (next bs) [ reference r rest ↦ r ∷ references most rest | stop ↦ [] ]

-- Those of a received message stand behind its front, and are no more than its bytes. "A received front that cannot be read makes the list empty" (W10).
unfoldable pub listed_behind : FrontRead → List (List ℕ)
listed_behind (front count sum rest) = references longest_message rest
listed_behind unreadable = []

unfoldable pub listed : List ℕ → List (List ℕ)
listed message = listed_behind (front_of (take longest_message message))

-- "Asking for number n gives back that part of the message itself, without its length number, or an empty part if there is no finished n, counted from 0":
-- the bytes of the part.
unfoldable pub reference_number : ℕ → List ℕ → List ℕ
reference_number n message = get_or (listed message) n []

-- What is left of some bytes behind their first n references. Where the list stops before that, it is all from there on.
unfoldable pub behind : ℕ → List ℕ → List ℕ
behind zero bs = bs
behind (suc n) bs = elim (next bs) [ reference r rest ↦ behind n rest | stop ↦ bs ]

-- What is left of a message behind its front and its first n references. Where the front cannot be read, it is the whole message.
unfoldable pub left_behind : ℕ → FrontRead → List ℕ → List ℕ
left_behind n (front count sum rest) message = behind n rest
left_behind n unreadable message = message

unfoldable pub left_of : ℕ → List ℕ → List ℕ
left_of n message = left_behind n (front_of message) message

-- Where the part ends in the message, and where it starts. An empty one lies where the list stops.
unfoldable pub end_of_number : ℕ → List ℕ → ℕ
end_of_number n message = length (take longest_message message) - length (left_of (suc n) (take longest_message message))

unfoldable pub start_of_number : ℕ → List ℕ → ℕ
start_of_number n message = end_of_number n message - length (reference_number n message)
