-- Wrong additions that the promise of `add_bytes` shuts out (W9): 08 added to an open reference that has 07, in a buffer of four bytes, can be answered in one
-- way only.
use mathlib.Core.Path.{◌≡◌}
use mathlib.Core.List.{List, [], ◌∷◌}
use Prim.Native.Nat.{ℕ}
use native.Mathlib.Omega.{arith}
use Rattle.model.specs.declared.Refusal.{Refusal}
use Rattle.model.specs.declared.Message.TheVariants.{Closed, Open}
use Rattle.model.specs.Answer.{MessageAnswer}
use Rattle.model.specs.Number.{group_bytes, number_bytes}
use Rattle.model.specs.Work.{placed}
use Rattle.model.specs.Message.{length_bytes, framed}
use Rattle.model.specs.MessageCall.{end_of, fits, adding, so_far, extended, buffer_added, Adds}
use Rattle.std.specs.Prelude.{Err, Ok}

abbrev pub buffer : List ℕ
buffer = 1 ∷ 7 ∷ 5 ∷ 6 ∷ []

abbrev pub Answered : MessageAnswer → List ℕ → Type 0
Answered a buffer' = Adds (Open 0 1) buffer (8 ∷ []) a buffer'

answer_is : {a : MessageAnswer} {buffer' : List ℕ} → Answered a buffer' → a ≡ Ok (Open 0 2)
unfolding length_bytes number_bytes group_bytes end_of fits adding
answer_is c = c.answers

buffer_is : {a : MessageAnswer} {buffer' : List ℕ} → Answered a buffer' → buffer' ≡ 2 ∷ 7 ∷ 8 ∷ 6 ∷ []
unfolding length_bytes number_bytes group_bytes end_of fits framed so_far extended placed buffer_added
buffer_is c = c.buffer_after

-- A message that takes nothing, whatever the refusal.
pub not_refused : {why : Refusal} {buffer' : List ℕ} → Answered (Err why) buffer' → ⊥
not_refused c = let e = answer_is c in let z : ◌≡◌ {A = ℕ} 0 1 = cc in omega arith

-- A count of bytes with nothing written.
pub something_written : {a : MessageAnswer} → Answered a buffer → ⊥
something_written c = let e = buffer_is c in let z : ◌≡◌ {A = ℕ} 1 2 = cc in omega arith

-- The length as it was.
pub length_follows : {a : MessageAnswer} → Answered a (1 ∷ 7 ∷ 8 ∷ 6 ∷ []) → ⊥
length_follows c = let e = buffer_is c in let z : ◌≡◌ {A = ℕ} 1 2 = cc in omega arith

-- The portion in place of the bytes so far.
pub bytes_so_far_stay : {a : MessageAnswer} → Answered a (1 ∷ 8 ∷ 5 ∷ 6 ∷ []) → ⊥
bytes_so_far_stay c = let e = buffer_is c in let z : ◌≡◌ {A = ℕ} 7 8 = cc in omega arith

-- Something written behind the reference, such as the 0 that would stop a list.
pub nothing_behind : {a : MessageAnswer} → Answered a (2 ∷ 7 ∷ 8 ∷ 0 ∷ []) → ⊥
nothing_behind c = let e = buffer_is c in let z : ◌≡◌ {A = ℕ} 0 6 = cc in omega arith

-- A made-up count of bytes.
pub counted : {finished count : ℕ} {buffer' : List ℕ} → Answered (Ok (Open finished count)) buffer' → (finished ≡ 0) × (count ≡ 2)
counted c = let e = answer_is c in (cc, cc)

-- A reference that the addition closes.
pub stays_open : {finished : ℕ} {buffer' : List ℕ} → Answered (Ok (Closed finished)) buffer' → ⊥
stays_open c = let e = answer_is c in let z : ◌≡◌ {A = ℕ} 0 1 = cc in omega arith
