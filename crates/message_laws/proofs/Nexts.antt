-- What stands at the front of some bytes, and the references of a message one after the other.
use Prim.Native.Nat.{ℕ, zero, suc, ◌≤◌, ◌<◌}
use mathlib.Core.Path.{◌≡◌, refl, sym, ◌∙◌, ap, ap₂}
use mathlib.Core.Bool.{Bool, true, false, ◌&&◌}
use mathlib.Core.List.{List, [], ◌∷◌, ◌++◌, append_assoc}
use native.Mathlib.Omega.{arith}
use lib.ListN.{length, take, drop, get_or, length-append, take-append-drop}
use lib.Seq.{take_all, take-take}
use lib.Dec.{leb}
use borrow.Author.Tests.{le-leb, lt-leb}
use Rattle.model.specs.Number.{Number, got, faulty, groups, number}
use Rattle.model.specs.Reference.{longest_reference}
use Rattle.model.proofs.Numbers.{Front, number_front}
use Rattle.model.specs.Front.{FrontRead, front, unreadable, front_of}
use Rattle.model.specs.Message.{longest_message, Next, reference, stop, of_length, next, references, listed_behind, listed, reference_number}

-- ---- one reference

no_case : (t : Bool) (n : ℕ) (bs : List ℕ) → elim (t && false) [ true ↦ reference (take n bs) (drop n bs) | false ↦ stop ] ≡ stop
no_case true n bs = refl
no_case false n bs = refl

no_cases : (t u : Bool) (n : ℕ) (bs : List ℕ) →
    elim (t && (u && false)) [ true ↦ reference (take n bs) (drop n bs) | false ↦ stop ] ≡ stop
no_cases true true n bs = refl
no_cases true false n bs = refl
no_cases false u n bs = refl

pub no_number : (bs : List ℕ) → number bs ≡ faulty → next bs ≡ stop
unfolding next
no_number bs e = rw (next, e)

pub next_is : (bs : List ℕ) (n : ℕ) (rest : List ℕ) → number bs ≡ got n rest → next bs ≡ of_length n rest
unfolding next
next_is bs n rest e = rw (next, e)

pub no_byte : (n : ℕ) (bs : List ℕ) → n ≡ 0 → of_length n bs ≡ stop
unfolding of_length
no_byte n bs h = rw (of_length, lt-leb 1 n (omega arith))

pub too_long : (n : ℕ) (bs : List ℕ) → 459 < n → of_length n bs ≡ stop
unfolding of_length
too_long n bs h = rw (of_length, lt-leb n longest_reference h) (no_case (leb 1 n) n bs)

pub early_end : (n : ℕ) (bs : List ℕ) → length bs < n → of_length n bs ≡ stop
unfolding of_length
early_end n bs h = rw (of_length, lt-leb n (length bs) h) (no_cases (leb 1 n) (leb n longest_reference) n bs)

pub a_reference : (n : ℕ) (bs : List ℕ) → 0 < n → n ≤ 459 → n ≤ length bs → of_length n bs ≡ reference (take n bs) (drop n bs)
unfolding of_length
a_reference n bs h k l = rw (of_length, le-leb 1 n h, le-leb n longest_reference k, le-leb n (length bs) l)

-- ---- a reference takes a byte at least

not_reference : {r rest : List ℕ} → stop ≡ reference r rest → ⊥
not_reference e = let z : ◌≡◌ {A = ℕ} 0 1 = cc in omega arith

-- A reference in some bytes: what stands before it, and it is not nothing.
pub record Found (bs r rest : List ℕ) : Type 0 where
  pub before : List ℕ
  pub is : bs ≡ before ++ (r ++ rest)
  pub some : 0 < length before

pub next_found : (bs r rest : List ℕ) → next bs ≡ reference r rest → Found bs r rest
unfolding next of_length
next_found bs r rest e = go (number bs) refl e
  where
    taken : (n : ℕ) (after : List ℕ) (t : Bool) → Front 5 bs after →
        elim t [ true ↦ reference (take n after) (drop n after) | false ↦ stop ] ≡ reference r rest → Found bs r rest
    taken n after true f e =
        let first : take n after ≡ r = cc in
        let last : drop n after ≡ rest = cc in
        record {
          before = f.own;
          is = f.is ∙ ap (λ (l : List ℕ). f.own ++ l) (sym (take-append-drop n after) ∙ ap₂ (λ (a b : List ℕ). a ++ b) first last);
          some = f.some;
        }
    taken n after false f e = absurd (not_reference e)

    go : (a : Number) → number bs ≡ a → elim a [ got n rest ↦ of_length n rest | faulty ↦ stop ] ≡ reference r rest → Found bs r rest
    go (got n after) a e =
        taken n after (leb 1 n && (leb n longest_reference && leb n (length after))) (number_front bs n after a) e
    go faulty a e = absurd (not_reference e)

pub next_shorter : (bs r rest : List ℕ) → next bs ≡ reference r rest → length rest < length bs
next_shorter bs r rest e =
    let f = next_found bs r rest e in
    omega (arith, ap length f.is, length-append f.before (r ++ rest), length-append r rest, f.some)

-- ---- the references one after the other

unfoldable pub nth : ℕ → List ℕ → List ℕ
nth zero bs = elim (next bs) [ reference r rest ↦ r | stop ↦ [] ]
nth (suc n) bs = elim (next bs) [ reference r rest ↦ nth n rest | stop ↦ [] ]

pub nth_stop : (n : ℕ) (bs : List ℕ) → next bs ≡ stop → nth n bs ≡ []
unfolding nth
nth_stop zero bs e = rw (nth, e)
nth_stop (suc n) bs e = rw (nth, e)

pub nth_here : (bs r rest : List ℕ) → next bs ≡ reference r rest → nth 0 bs ≡ r
unfolding nth
nth_here bs r rest e = rw (nth, e)

pub nth_later : (n : ℕ) (bs r rest : List ℕ) → next bs ≡ reference r rest → nth (suc n) bs ≡ nth n rest
unfolding nth
nth_later n bs r rest e = rw (nth, e)

pub next_none : next [] ≡ stop
unfolding next number groups
next_none = refl

none_in : (bs : List ℕ) → length bs ≤ 0 → next bs ≡ stop
none_in [] h = next_none
none_in (b ∷ bs) h = absurd (omega arith)

nth_listed : (most : ℕ) (bs : List ℕ) (n : ℕ) → length bs ≤ most → get_or (references most bs) n [] ≡ nth n bs
unfolding references
nth_listed zero bs n h = sym (nth_stop n bs (none_in bs h))
nth_listed (suc most) bs n h = go (next bs) refl n λ rest k shorter. nth_listed most rest k (omega arith)
  where
    go : (a : Next) → next bs ≡ a → (n : ℕ) →
        ((rest : List ℕ) (k : ℕ) → length rest < length bs → get_or (references most rest) k [] ≡ nth k rest) →
        get_or (elim a [ reference r rest ↦ r ∷ references most rest | stop ↦ [] ]) n [] ≡ nth n bs
    go (reference r rest) a zero later = sym (nth_here bs r rest a)
    go (reference r rest) a (suc n) later =
        later rest n (next_shorter bs r rest a) ∙ sym (nth_later n bs r rest a)
    go stop a zero later = sym (nth_stop 0 bs a)
    go stop a (suc n) later = sym (nth_stop (suc n) bs a)

-- ---- behind a front

not_front : {count sum : ℕ} {rest : List ℕ} → unreadable ≡ front count sum rest → ⊥
not_front e = let z : ◌≡◌ {A = ℕ} 0 1 = cc in omega arith

-- What stands before what a front is followed by.
pub front_found : (message : List ℕ) (count sum : ℕ) (rest : List ℕ) → front_of message ≡ front count sum rest →
    (own : List ℕ) × (message ≡ own ++ rest)
unfolding front_of
front_found message count sum rest e = go (number message) refl e
  where
    behind_count : (c : ℕ) (after : List ℕ) (a : Number) → number message ≡ got c after → number after ≡ a →
        elim a [ got sum rest ↦ front c sum rest | faulty ↦ unreadable ] ≡ front count sum rest → (own : List ℕ) × (message ≡ own ++ rest)
    behind_count c after (got s last) n a e =
        let same : last ≡ rest = cc in
        let f = number_front message c after n in
        let g = number_front after s last a in
        (f.own ++ g.own, f.is ∙ ap (λ (l : List ℕ). f.own ++ l) (g.is ∙ ap (λ (l : List ℕ). g.own ++ l) same) ∙ sym (append_assoc f.own g.own rest))
    behind_count c after faulty n a e = absurd (not_front e)

    go : (a : Number) → number message ≡ a →
        elim a [
          | got count after ↦ elim (number after) [ got sum rest ↦ front count sum rest | faulty ↦ unreadable ]
          | faulty ↦ unreadable
        ] ≡ front count sum rest → (own : List ℕ) × (message ≡ own ++ rest)
    go (got c after) n e = behind_count c after (number after) n refl e
    go faulty n e = absurd (not_front e)

pub front_shorter : (message : List ℕ) (count sum : ℕ) (rest : List ℕ) → front_of message ≡ front count sum rest → length rest ≤ length message
front_shorter message count sum rest e =
    let f = front_found message count sum rest e in
    omega (arith, ap length f.1, length-append f.0 rest)

-- Number n behind a front; nothing where that cannot be read.
unfoldable pub nth_behind : ℕ → FrontRead → List ℕ
nth_behind n (front count sum rest) = nth n rest
nth_behind n unreadable = []

pub numbered_start : (n : ℕ) (message : List ℕ) → length message ≤ 16_384 → reference_number n message ≡ nth_behind n (front_of message)
unfolding reference_number listed listed_behind nth_behind
numbered_start n message h =
    ap (λ (l : List ℕ). get_or (listed_behind (front_of l)) n []) (take_all longest_message message h) ∙ go (front_of message) refl
  where
    go : (f : FrontRead) → front_of message ≡ f → get_or (listed_behind f) n [] ≡ nth_behind n f
    go (front count sum rest) e = nth_listed longest_message rest n (omega (arith, front_shorter message count sum rest e))
    go unreadable e = refl

pub cut_short : (n : ℕ) (message : List ℕ) → reference_number n (take longest_message message) ≡ reference_number n message
unfolding reference_number listed
cut_short n message = ap (λ (l : List ℕ). get_or (listed_behind (front_of l)) n []) (take-take longest_message longest_message message (omega arith))
