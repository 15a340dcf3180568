-- Two numbers one behind the other: read from a message, put into a buffer, and tested.
use Prim.Native.Nat.{ℕ, ◌+◌, ◌-◌}
use mathlib.Core.Path.{◌≡◌, sym, ◌∙◌, ap}
use mathlib.Core.Bool.{false, ◌&&◌}
use mathlib.Core.List.{List, ◌++◌, append_assoc}
use native.Mathlib.Omega.{arith}
use lib.Dec.{eqb}
use lib.ListN.{length, take, drop, length-append}
use lib.Seq.{take-append_seam, drop-append_seam, drop-drop}
use Rattle.model.specs.Number.{got, faulty, number, number_bytes}
use Rattle.model.specs.Work.{placed}
use Rattle.buffers.proofs.Lent.{tail_lent, tail_back}
use Rattle.model.specs.Front.{map_sum, front, unreadable, front_of, front_bytes, told, same_map}

-- ---- reading

pub no_count : (message : List ℕ) → number message ≡ faulty → front_of message ≡ unreadable
unfolding front_of
no_count message e = rw (front_of, e)

pub no_sum : (message : List ℕ) (count : ℕ) (after : List ℕ) → number message ≡ got count after → number after ≡ faulty → front_of message ≡ unreadable
unfolding front_of
no_sum message count after e f = rw (front_of, e, f)

pub both_read : (message : List ℕ) (count sum : ℕ) (after rest : List ℕ) → number message ≡ got count after → number after ≡ got sum rest →
    front_of message ≡ front count sum rest
unfolding front_of
both_read message count sum after rest e f = rw (front_of, e, f)

-- ---- putting

-- Two runs of bytes, the second put into the rest of a buffer behind the first.
placed_then : (a b before first last : List ℕ) → first ≡ placed a before →
    last ≡ placed b (take (length first - length a) (drop (length a) first)) →
    take (length a) first ++ (last ++ drop (length first - length a) (drop (length a) first)) ≡ placed (a ++ b) before
unfolding placed
placed_then a b before first last e f =
    let rest = drop (length a) before in
    let head : take (length a) first ≡ a = ap (take (length a)) e ∙ take-append_seam a rest in
    let back : drop (length a) first ≡ rest = ap (drop (length a)) e ∙ drop-append_seam a rest in
    let last_is : last ≡ b ++ drop (length b) rest = f ∙ ap (λ (l : List ℕ). b ++ drop (length b) l) (tail_lent (length a) first ∙ back) in
    let far : drop (length b) rest ≡ drop (length (a ++ b)) before =
    drop-drop (length b) (length a) before ∙ ap (λ (n : ℕ). drop n before) (sym (length-append a b)) in
    tail_back (length a) first last ∙ ap (λ (l : List ℕ). l ++ last) head ∙ ap (λ (l : List ℕ). a ++ l) (last_is ∙ ap (λ (l : List ℕ). b ++ l) far)
    ∙ sym (append_assoc a b (drop (length (a ++ b)) before))

module _ (mb made first last : List ℕ) (count sum : ℕ) (sum_is_lem : sum ≡ map_sum mb) (count_is : count ≡ length (number_bytes (length mb))) where
  pub front_made : first ≡ placed (number_bytes (length mb)) made → last ≡ placed (number_bytes sum) (take (length first - count) (drop count first)) →
      take count first ++ (last ++ drop (length first - count) (drop count first)) ≡ placed (front_bytes mb) made
  unfolding front_bytes
  front_made e f =
      rw count_is
      (placed_then (number_bytes (length mb)) (number_bytes (map_sum mb)) made first last e
      (f ∙ ap (λ (n : ℕ). placed (number_bytes n) (take (length first - count) (drop count first))) sum_is_lem
      ∙ ap (λ (k : ℕ). placed (number_bytes (map_sum mb)) (take (length first - k) (drop k first))) count_is))

  pub front_length : (more : ℕ) → more ≡ length (number_bytes sum) → count + more ≡ length (front_bytes mb)
  unfolding front_bytes
  front_length more e =
      omega (arith, length-append (number_bytes (length mb)) (number_bytes (map_sum mb)), ap (λ (n : ℕ). length (number_bytes n)) sum_is_lem)

-- The front, made apart and copied.
pub front_copied : (mb made made' buffer last : List ℕ) (count : ℕ) → count ≡ length (front_bytes mb) → made' ≡ placed (front_bytes mb) made →
    last ≡ placed (take count made') buffer → last ≡ placed (front_bytes mb) buffer
unfolding placed
front_copied mb made made' buffer last count e f g =
    let own : take count made' ≡ front_bytes mb =
    ap (λ (k : ℕ). take k made') e ∙ ap (take (length (front_bytes mb))) f ∙ take-append_seam (front_bytes mb) (drop (length (front_bytes mb)) made) in
    g ∙ ap (λ (l : List ℕ). l ++ drop (length l) buffer) own

-- ---- testing

pub unread : (mb message : List ℕ) → front_of message ≡ unreadable → same_map mb message ≡ false
unfolding same_map told
unread mb message e = ap (told mb) e

pub tested : (mb message : List ℕ) (count sum : ℕ) (rest : List ℕ) → front_of message ≡ front count sum rest →
    same_map mb message ≡ (eqb count (length mb) && eqb sum (map_sum mb))
unfolding same_map told
tested mb message count sum rest e = ap (told mb) e
