-- "Asking for number n gives back that part of the message itself": where it stands, for all bytes and all n (W9).
use Prim.Native.Nat.{ℕ, zero, suc, ◌+◌, ◌-◌, ◌≤◌, ◌<◌}
use mathlib.Core.Path.{◌≡◌, refl, sym, ◌∙◌, ap, ap₂}
use mathlib.Core.List.{List, [], ◌++◌, append_assoc}
use native.Mathlib.Omega.{arith}
use lib.ListN.{length, take, drop, length-append, length-take, length-drop, take-append-drop}
use lib.Seq.{length-take-le, take_all, take-take, take-append_seam, drop-append_seam}
use Rattle.model.specs.Front.{FrontRead, front, unreadable, front_of}
use Rattle.model.specs.Message.{longest_message, Next, reference, stop, next, reference_number, behind, left_behind, left_of, end_of_number, start_of_number}
use Rattle.message_laws.proofs.Nexts.{next_found, next_shorter, nth, nth_stop, nth_here, nth_later, front_found, nth_behind, numbered_start, cut_short}

behind_none : (bs : List ℕ) → behind 0 bs ≡ bs
unfolding behind
behind_none bs = refl

pub behind_stop : (n : ℕ) (bs : List ℕ) → next bs ≡ stop → behind n bs ≡ bs
unfolding behind
behind_stop zero bs e = refl
behind_stop (suc n) bs e = rw (behind, e)

pub behind_later : (n : ℕ) (bs r rest : List ℕ) → next bs ≡ reference r rest → behind (suc n) bs ≡ behind n rest
unfolding behind
behind_later n bs r rest e = rw (behind, e)

-- What stands before reference n.
record Split (n : ℕ) (bs : List ℕ) : Type 0 where
  before : List ℕ
  is : bs ≡ before ++ (nth n bs ++ behind (suc n) bs)

stopped : (n : ℕ) (bs : List ℕ) → next bs ≡ stop → Split n bs
stopped n bs e = record { before = []; is = sym (ap (λ (l : List ℕ). l ++ behind (suc n) bs) (nth_stop n bs e) ∙ behind_stop (suc n) bs e) }

split : (n : ℕ) (bs : List ℕ) → Split n bs
split zero bs = go (next bs) refl
  where
    go : (a : Next) → next bs ≡ a → Split 0 bs
    go (reference r rest) e =
        let f = next_found bs r rest e in
        record {
          before = f.before;
          is =
              f.is
              ∙ sym (ap₂ (λ (a b : List ℕ). f.before ++ (a ++ b)) (nth_here bs r rest e) (behind_later 0 bs r rest e ∙ behind_none rest));
        }
    go stop e = stopped 0 bs e
split (suc n) bs = go (next bs) refl (split n)
  where
    go : (a : Next) → next bs ≡ a → ((rest : List ℕ) → Split n rest) → Split (suc n) bs
    go (reference r rest) e later =
        let f = next_found bs r rest e in
        let s = later rest in
        record {
          before = f.before ++ (r ++ s.before);
          is =
              f.is ∙ ap (λ (l : List ℕ). f.before ++ (r ++ l)) s.is
              ∙ sym
              (ap₂ (λ (a b : List ℕ). f.before ++ (r ++ s.before) ++ (a ++ b)) (nth_later n bs r rest e) (behind_later (suc n) bs r rest e)
              ∙ append_assoc f.before (r ++ s.before) (nth n rest ++ behind (suc n) rest)
              ∙ ap (λ (l : List ℕ). f.before ++ l) (append_assoc r s.before (nth n rest ++ behind (suc n) rest)));
        }
    go stop e later = stopped (suc n) bs e

-- The same of a message, behind its front.
record SplitBehind (n : ℕ) (message : List ℕ) : Type 0 where
  before : List ℕ
  is : message ≡ before ++ (nth_behind n (front_of message) ++ left_of (suc n) message)

split_behind : (n : ℕ) (message : List ℕ) → SplitBehind n message
unfolding nth_behind left_behind left_of
split_behind n message = go (front_of message) refl
  where
    go : (f : FrontRead) → front_of message ≡ f → SplitBehind n message
    go (front count sum rest) e =
        let own = front_found message count sum rest e in
        let s = split n rest in
        record {
          before = own.0 ++ s.before;
          is =
              own.1 ∙ ap (λ (l : List ℕ). own.0 ++ l) s.is ∙ sym (append_assoc own.0 s.before (nth n rest ++ behind (suc n) rest))
              ∙ ap (λ (f : FrontRead). own.0 ++ s.before ++ (nth_behind n f ++ left_behind (suc n) f message)) (sym e);
        }
    go unreadable e =
        record { before = []; is = ap (λ (f : FrontRead). nth_behind n f ++ left_behind (suc n) f message) (sym e) }

-- Reference n in a message: it starts behind what stands before it, and ends inside.
pub record Placed (n : ℕ) (message : List ℕ) : Type 0 where
  pub counted : end_of_number n message ≡ start_of_number n message + length (reference_number n message)
  pub inside : end_of_number n message ≤ length message
  pub used : end_of_number n message ≤ longest_message
  pub itself : take (length (reference_number n message)) (drop (start_of_number n message) message) ≡ reference_number n message

pub placed_in : (n : ℕ) (message : List ℕ) → Placed n message
unfolding end_of_number start_of_number
placed_in n message =
    let cut = take longest_message message in
    let s = split_behind n cut in
    let nth = nth_behind n (front_of cut) in
    let r : reference_number n message ≡ nth = sym (cut_short n message) ∙ numbered_start n cut (omega (arith, length-take longest_message message)) in
    let rest = left_of (suc n) cut in
    let whole : length cut ≡ length s.before + (length nth + length rest) =
    ap length s.is ∙ length-append s.before (nth ++ rest) ∙ ap (λ (k : ℕ). length s.before + k) (length-append nth rest) in
    let count = ap length r in
    let start : length cut - length rest - length (reference_number n message) ≡ length s.before = omega arith in
    let all : message ≡ s.before ++ (nth ++ (rest ++ drop longest_message message)) =
    sym (take-append-drop longest_message message) ∙ ap (λ (l : List ℕ). l ++ drop longest_message message) s.is
    ∙ append_assoc s.before (nth ++ rest) (drop longest_message message)
    ∙ ap (λ (l : List ℕ). s.before ++ l) (append_assoc nth rest (drop longest_message message)) in
    record {
      counted = omega arith;
      inside = omega (arith, length-take longest_message message);
      used = omega (arith, length-take longest_message message);
      itself =
          ap₂ (λ (j k : ℕ). take j (drop k message)) count start
          ∙ ap (λ (l : List ℕ). take (length nth) (drop (length s.before) l)) all
          ∙ ap (take (length nth)) (drop-append_seam s.before (nth ++ (rest ++ drop longest_message message)))
          ∙ take-append_seam nth (rest ++ drop longest_message message) ∙ sym r;
    }

-- Of a longer message only the first 16,384 bytes count.
pub cut_end : (n : ℕ) (message : List ℕ) → end_of_number n (take longest_message message) ≡ end_of_number n message
unfolding end_of_number
cut_end n message = ap (λ (l : List ℕ). length l - length (left_of (suc n) l)) (take-take longest_message longest_message message (omega arith))

pub cut_start : (n : ℕ) (message : List ℕ) → start_of_number n (take longest_message message) ≡ start_of_number n message
unfolding start_of_number
cut_start n message = ap₂ (λ (j k : ℕ). j - k) (cut_end n message) (ap length (cut_short n message))

-- ---- asked from a byte on

-- Number n of the message is number `left` of what stands from byte `at` on.
pub record Asked (n : ℕ) (message : List ℕ) (at left : ℕ) : Type 0 where
  pub short : length message ≤ longest_message
  pub inside : at ≤ length message
  pub bytes : reference_number n message ≡ nth left (drop at message)
  pub rest : end_of_number n message ≡ length message - length (behind (suc left) (drop at message))

-- Behind the front, which ends at byte `at`.
pub asked_start : (n : ℕ) (message : List ℕ) (count sum at : ℕ) → length message ≤ longest_message → at ≤ length message →
    front_of message ≡ front count sum (drop at message) → Asked n message at n
unfolding end_of_number left_of left_behind nth_behind
asked_start n message count sum at h inside e =
    record {
      short = h;
      inside = inside;
      bytes = numbered_start n message h ∙ ap (nth_behind n) e;
      rest =
          ap (λ (l : List ℕ). length l - length (left_of (suc n) l)) (take_all longest_message message h)
          ∙ ap (λ (f : FrontRead). length message - length (left_behind (suc n) f message)) e;
    }

-- A front that cannot be read: the list is empty, and stops at byte 0.
pub asked_unread : (n : ℕ) (message : List ℕ) → length message ≤ longest_message → front_of message ≡ unreadable →
    (0 ≡ start_of_number n message) × (0 ≡ end_of_number n message)
unfolding end_of_number start_of_number left_of left_behind nth_behind
asked_unread n message h e =
    let end =
    ap (λ (l : List ℕ). length l - length (left_of (suc n) l)) (take_all longest_message message h)
    ∙ ap (λ (f : FrontRead). length message - length (left_behind (suc n) f message)) e in
    (omega arith, omega arith)

module _ {n : ℕ} {message : List ℕ} {at left : ℕ} (a : Asked n message at left) where
  -- The list stops there.
  pub asked_stop : next (drop at message) ≡ stop → (at ≡ start_of_number n message) × (at ≡ end_of_number n message)
  asked_stop e =
      let none = ap length (a.bytes ∙ nth_stop left (drop at message) e) in
      let end = a.rest ∙ ap (λ (l : List ℕ). length message - length l) (behind_stop (suc left) (drop at message) e) in
      let p = placed_in n message in
      (omega (arith, a.inside, length-drop at message, p.counted), omega (arith, a.inside, length-drop at message))

  module _ (start end : ℕ) (ordered : start ≤ end) (inside : end ≤ length message)
      (e : next (drop at message) ≡ reference (take (end - start) (drop start message)) (drop end message)) where
    part_length : length (take (end - start) (drop start message)) ≡ end - start
    part_length = length-take-le (end - start) (drop start message) (omega (arith, length-drop start message))

    -- It is the one that stands there.
    pub asked_here : left ≡ 0 → (start ≡ start_of_number n message) × (end ≡ end_of_number n message)
    asked_here none =
        let r = ap length (a.bytes ∙ ap (λ (k : ℕ). nth k (drop at message)) none ∙ nth_here (drop at message) _ _ e) ∙ part_length in
        let ends =
        a.rest ∙ ap (λ (k : ℕ). length message - length (behind (suc k) (drop at message))) none
        ∙ ap (λ (l : List ℕ). length message - length l) (behind_later 0 (drop at message) _ _ e ∙ behind_none (drop end message)) in
        let p = placed_in n message in
        (omega (arith, length-drop end message, p.counted), omega (arith, length-drop end message))

    -- It is behind that one.
    pub asked_later : 0 < left → (at < end) × Asked n message end (left - 1)
    asked_later some =
        let k : left ≡ suc (left - 1) = omega arith in
        let shorter = next_shorter (drop at message) _ _ e in (
          omega (arith, length-drop at message, length-drop end message),
          record {
            short = a.short;
            inside = inside;
            bytes = a.bytes ∙ ap (λ (k : ℕ). nth k (drop at message)) k ∙ nth_later (left - 1) (drop at message) _ _ e;
            rest =
                a.rest ∙ ap (λ (k : ℕ). length message - length (behind (suc k) (drop at message))) k
                ∙ ap (λ (l : List ℕ). length message - length l) (behind_later (suc (left - 1)) (drop at message) _ _ e);
          },
        )
