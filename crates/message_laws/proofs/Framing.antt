-- The references of a message's bytes are those that were put there.
use Prim.Native.Nat.{ℕ, zero, suc, ◌+◌, ◌≤◌, ◌<◌}
use mathlib.Core.Path.{◌≡◌, refl, sym, ◌∙◌, ap}
use mathlib.Core.List.{List, [], ◌∷◌, ◌++◌, append_assoc, append-nil}
use native.Mathlib.Omega.{arith}
use lib.ListN.{length, length-append}
use lib.Seq.{take-append_seam, drop-append_seam, take_all}
use Rattle.model.specs.Number.{number, got}
use Rattle.model.proofs.Numbers.{number_back}
use Rattle.model.proofs.Every.{Every, none, also}
use Rattle.model.specs.Front.{front, front_of}
use Rattle.model.specs.Message.{longest_message, length_bytes, framed, framed_all, reference, stop, next, references, listed_behind, listed}
use Rattle.message_laws.proofs.Nexts.{next_is, a_reference, next_none, front_shorter}

-- A finished reference has 1 to 459 bytes.
abbrev pub Proper : List ℕ → Type 0
Proper r = (0 < length r) × (length r ≤ 459)

number_at_front : (n : ℕ) (rest : List ℕ) → 0 < n → n ≤ 459 → number (length_bytes n ++ rest) ≡ got n rest
unfolding length_bytes
number_at_front zero rest some most = absurd (omega arith)
number_at_front (suc n) rest some most = number_back (suc n) rest (omega arith)

next_framed : (r rest : List ℕ) → Proper r → next (framed r ++ rest) ≡ reference r rest
unfolding framed
next_framed r rest p =
    next_is (length_bytes (length r) ++ r ++ rest) (length r) (r ++ rest)
    (rw append_assoc (number_at_front (length r) (r ++ rest) p.0 p.1))
    ∙ a_reference (length r) (r ++ rest) p.0 p.1 (omega (arith, length-append r rest))
    ∙ rw (take-append_seam r rest, drop-append_seam r rest)

framed_some : (r : List ℕ) → length r ≤ length (framed r)
unfolding framed
framed_some r = omega (arith, length-append (length_bytes (length r)) r)

stopped : (most : ℕ) (bs : List ℕ) → next bs ≡ stop → references most bs ≡ []
unfolding references
stopped zero bs e = refl
stopped (suc most) bs e = rw (references, e)

references_framed : (most : ℕ) (rs : List (List ℕ)) (bs : List ℕ) → Every Proper rs → next bs ≡ stop → length (framed_all rs ++ bs) ≤ most →
    references most (framed_all rs ++ bs) ≡ rs
unfolding framed_all references
references_framed most [] bs none e h = stopped most bs e
references_framed zero (r ∷ rs) bs (also p ps) e h =
    absurd (omega (arith, length-append (framed r) (framed_all rs), length-append (framed r ++ framed_all rs) bs, framed_some r, p.0))
references_framed (suc most) (r ∷ rs) bs (also p ps) e h =
    let whole : framed r ++ framed_all rs ++ bs ≡ framed r ++ (framed_all rs ++ bs) = append_assoc (framed r) (framed_all rs) bs in
    ap (references (suc most)) whole
    ∙ rw (references, next_framed r (framed_all rs ++ bs) p)
    (ap (λ (l : List (List ℕ)). r ∷ l)
    (references_framed most rs bs ps e (omega (arith, ap length whole, length-append (framed r) (framed_all rs ++ bs), framed_some r, p.0))))

-- Behind a front references in order, and then what stops the list: they are the list.
pub listed_until : (message : List ℕ) (count sum : ℕ) (rs : List (List ℕ)) (bs : List ℕ) → front_of message ≡ front count sum (framed_all rs ++ bs) →
    length message ≤ longest_message → Every Proper rs → next bs ≡ stop → listed message ≡ rs
unfolding listed listed_behind
listed_until message count sum rs bs f h p e =
    ap (λ (l : List ℕ). listed_behind (front_of l)) (take_all longest_message message h) ∙ ap listed_behind f
    ∙ references_framed longest_message rs bs p e (omega (arith, front_shorter message count sum (framed_all rs ++ bs) f))

pub listed_framed : (message : List ℕ) (count sum : ℕ) (rs : List (List ℕ)) → front_of message ≡ front count sum (framed_all rs) →
    length message ≤ longest_message → Every Proper rs → listed message ≡ rs
listed_framed message count sum rs f h p =
    listed_until message count sum rs [] (f ∙ ap (front count sum) (sym (append-nil (framed_all rs)))) h p next_none

pub framed_append : (rs : List (List ℕ)) (r : List ℕ) → framed_all (rs ++ r ∷ []) ≡ framed_all rs ++ framed r
unfolding framed_all
framed_append [] r = append-nil (framed r)
framed_append (q ∷ qs) r = ap (λ (l : List ℕ). framed q ++ l) (framed_append qs r) ∙ sym (append_assoc (framed q) (framed_all qs) (framed r))

pub framed_empty : framed [] ≡ []
unfolding framed length_bytes
framed_empty = refl

pub framed_length : (r : List ℕ) → length (framed r) ≡ length (length_bytes (length r)) + length r
unfolding framed
framed_length r = length-append (length_bytes (length r)) r
