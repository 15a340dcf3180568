-- "27 (first) opening when one is open, adding or closing when none is, closing with nothing added; 28 (after 27) an addition would take the message, lengths
-- counted, past the buffer or 16,384 bytes, or a reference past 459" (W9): when each is given, and only then.
use Prim.Native.Nat.{ℕ, ◌<◌}
use mathlib.Core.Path.{◌≡◌, refl}
use mathlib.Core.Bool.{Bool, true, false, cond, ◌&&◌}
use mathlib.Core.Logic.{◌⊎◌, inl, inr, ⊎_elim}
use mathlib.Core.List.{List, [], ◌∷◌, ◌++◌}
use native.Mathlib.Omega.{arith}
use lib.ListN.{length}
use lib.Dec.{leb}
use borrow.Author.Tests.{leb-true, leb-false}
use Rattle.model.specs.Reference.{longest_reference}
use Rattle.model.specs.MessageHistory.{Content, whole, partial, content_bytes, Call, opens, adds, closes, CallOutcome, done, refused, lengthened, outcome}

-- 27: the call is out of order.
abbrev pub OutOfOrder : Content → Call → Type 0
OutOfOrder (whole rs) opens = ⊥
OutOfOrder (whole rs) (adds portion) = Unit {0}
OutOfOrder (whole rs) closes = Unit {0}
OutOfOrder (partial rs bs) opens = Unit {0}
OutOfOrder (partial rs bs) (adds portion) = ⊥
OutOfOrder (partial rs []) closes = Unit {0}
OutOfOrder (partial rs (b ∷ bs)) closes = ⊥

-- 28: with the portion the message is longer than its room, the lesser of the buffer and 16,384 bytes, or the reference than 459.
abbrev pub NoRoom : List ℕ → ℕ → Content → Call → Type 0
NoRoom mb room (whole rs) call = ⊥
NoRoom mb room (partial rs bs) opens = ⊥
NoRoom mb room (partial rs bs) (adds portion) = (room < length (content_bytes mb (partial rs (bs ++ portion)))) ⊎ (459 < length (bs ++ portion))
NoRoom mb room (partial rs bs) closes = ⊥

-- What a call comes to, and by what.
pub data Comes (mb : List ℕ) (room : ℕ) (c : Content) (call : Call) : CallOutcome → Type 0 where
  out_of_order : OutOfOrder c call → Comes mb room c call (refused 27)
  no_room : (OutOfOrder c call → ⊥) → NoRoom mb room c call → Comes mb room c call (refused 28)
  goes : {c' : Content} → (OutOfOrder c call → ⊥) → (NoRoom mb room c call → ⊥) → Comes mb room c call (done c')

by_length : (mb : List ℕ) (room : ℕ) (rs : List (List ℕ)) (bs portion : List ℕ) (t u : Bool) → leb (length (bs ++ portion)) longest_reference ≡ t →
    leb (length (content_bytes mb (partial rs (bs ++ portion)))) room ≡ u →
    Comes mb room (partial rs bs) (adds portion) (cond (t && u) (done (partial rs (bs ++ portion))) (refused 28))
by_length mb room rs bs portion true true t u =
    goes (λ h. h)
    (⊎_elim
    (λ h. let k = leb-true (length (content_bytes mb (partial rs (bs ++ portion)))) room u in omega arith)
    (λ h. let k = leb-true (length (bs ++ portion)) longest_reference t in omega arith))
by_length mb room rs bs portion true false t u = no_room (λ h. h) (inl (leb-false (length (content_bytes mb (partial rs (bs ++ portion)))) room u))
by_length mb room rs bs portion false u t v = no_room (λ h. h) (inr (leb-false (length (bs ++ portion)) longest_reference t))

pub each_refusal : (mb : List ℕ) (room : ℕ) (c : Content) (call : Call) → Comes mb room c call (outcome mb room c call)
unfolding outcome lengthened
each_refusal mb room (whole rs) opens = goes (λ h. h) (λ h. h)
each_refusal mb room (whole rs) (adds portion) = out_of_order tt
each_refusal mb room (whole rs) closes = out_of_order tt
each_refusal mb room (partial rs bs) opens = out_of_order tt
each_refusal mb room (partial rs bs) (adds portion) = by_length mb room rs bs portion _ _ refl refl
each_refusal mb room (partial rs []) closes = out_of_order tt
each_refusal mb room (partial rs (b ∷ bs)) closes = goes (λ h. h) (λ h. h)
