-- An open reference in the part of a buffer that starts where its length stands: its bytes so far, and a portion behind them.
use Prim.Native.Nat.{ℕ, zero, suc, ◌+◌, ◌-◌, ◌≤◌, ◌<◌}
use mathlib.Core.Path.{◌≡◌, refl, sym, ◌∙◌, ap}
use mathlib.Core.Logic.{⊎_elim}
use mathlib.Core.List.{List, ◌++◌, append_assoc}
use native.Mathlib.Omega.{arith}
use lib.ListN.{length, take, drop, length-drop, length-append}
use lib.Seq.{drop_at, length-take-le, drop-drop, take-add}
use Rattle.model.specs.Work.{placed}
use Rattle.model.specs.Message.{length_bytes, framed}
use Rattle.model.specs.MessageCall.{so_far, extended}
use Rattle.buffers.proofs.Cases.{le_or_lt}
use Rattle.buffers.proofs.Lent.{tail_lent, tail_back}
use Rattle.message_laws.proofs.Lengths.{one_byte, two_bytes}

-- Without a byte so far it does not matter where they would stand.
so_far_none : (w : ℕ) (p : List ℕ) → take 0 (drop w p) ≡ so_far 0 p
unfolding so_far
so_far_none w p = refl

so_far_at : (added w : ℕ) (p q : List ℕ) → (0 < added → length (length_bytes added) ≡ w) → (0 < added → take added q ≡ take added (drop w p)) →
    take added q ≡ so_far added p
unfolding so_far
so_far_at zero w p q e f = refl
so_far_at (suc n) w p q e f = f (omega arith) ∙ ap (λ (k : ℕ). take (suc n) (drop k p)) (sym (e (omega arith)))

-- Where the length takes as many bytes as before, or none stood there, nothing moves.
pub unmoved : (added count : ℕ) (p : List ℕ) → added < count → count ≤ 459 → (128 ≤ count → 128 ≤ added) →
    take added (drop (length (length_bytes count)) p) ≡ so_far added p
unmoved added count p h k long = so_far_at added (length (length_bytes count)) p _ widths (λ _. refl)
  where
    widths : 0 < added → length (length_bytes added) ≡ length (length_bytes count)
    widths some =
        ⊎_elim
        (λ l. two_bytes added (long l) (omega arith) ∙ sym (two_bytes count l k))
        (λ s. one_byte added some (omega arith) ∙ sym (one_byte count (omega arith) s))
        (le_or_lt 128 count)

-- Where it takes a second byte, they move up.
module _ (added count : ℕ) (p q : List ℕ) (short : added < 128) (long : 128 ≤ count) (most : count ≤ 459) where
  pub moved : take added (drop 2 q) ≡ take added (drop 1 p) → take added (drop (length (length_bytes count)) q) ≡ so_far added p
  moved e =
      rw (two_bytes count long most) (so_far_at added 1 p (drop 2 q) (λ some. one_byte added some short) (λ _. e))

  pub behind : drop (added + 2) q ≡ drop (added + 2) p → drop (length (length_bytes count) + added) q ≡ drop (length (length_bytes count) + added) p
  behind e =
      let same : added + 2 ≡ 2 + added = omega arith in
      rw (two_bytes count long most) (rw same at e)

-- The bytes so far where they are to stand, the portion behind them, and the new length before them.
module _ (added : ℕ) (portion before moved last : List ℕ) where
  pub put_together : (w : ℕ) → w ≡ length (length_bytes (added + length portion)) → w + (added + length portion) ≤ length before →
      length moved ≡ length before → take added (drop w moved) ≡ so_far added before → drop (w + added) moved ≡ drop (w + added) before →
      last ≡ placed portion (take (length moved - (w + added)) (drop (w + added) moved)) →
      placed (length_bytes (added + length portion)) (take (w + added) moved ++ (last ++ drop (length moved - (w + added)) (drop (w + added) moved)))
      ≡ extended added before portion
  unfolding placed extended framed
  put_together w width room same stood kept copy =
      ap (λ (l : List ℕ). length_bytes count ++ l)
      (ap (λ (n : ℕ). drop n copied) (sym width) ∙ ap (drop w) copied_is ∙ drop_at (take w moved) (far ++ (portion ++ behind)) w front)
      ∙ ap (λ (l : List ℕ). length_bytes count ++ l) (sym (append_assoc far portion behind))
      ∙ sym (append_assoc (length_bytes count) (far ++ portion) behind)
      ∙ ap (λ (n : ℕ). length_bytes n ++ (far ++ portion) ++ behind) (sym counted)
      ∙ ap (λ (n : ℕ). length_bytes (length (far ++ portion)) ++ (far ++ portion) ++ drop n before) (sym whole)
    where
      count : ℕ
      count = added + length portion

      far : List ℕ
      far = so_far added before

      behind : List ℕ
      behind = drop (w + count) before

      copied : List ℕ
      copied = take (w + added) moved ++ (last ++ drop (length moved - (w + added)) (drop (w + added) moved))

      front : length (take w moved) ≡ w
      front = length-take-le w moved (omega arith)

      summed : w + added + length portion ≡ w + count
      summed = omega arith

      last_is : last ≡ portion ++ behind
      last_is =
          copy ∙ ap (λ (l : List ℕ). portion ++ drop (length portion) l) (tail_lent (w + added) moved ∙ kept)
          ∙ ap (λ (l : List ℕ). portion ++ l) (drop-drop (length portion) (w + added) before)
          ∙ ap (λ (n : ℕ). portion ++ drop n before) summed

      copied_is : copied ≡ take w moved ++ (far ++ (portion ++ behind))
      copied_is =
          tail_back (w + added) moved last ∙ ap (λ (l : List ℕ). l ++ last) (take-add w added moved) ∙ append_assoc (take w moved) (take added (drop w moved)) last
          ∙ ap (λ (l : List ℕ). take w moved ++ (l ++ last)) stood
          ∙ ap (λ (l : List ℕ). take w moved ++ (far ++ l)) last_is

      far_length : length far ≡ added
      far_length = sym (ap length stood) ∙ length-take-le added (drop w moved) (omega (arith, length-drop w moved))

      counted : length (far ++ portion) ≡ count
      counted = length-append far portion ∙ ap (λ (n : ℕ). n + length portion) far_length

      whole : length (length_bytes (length (far ++ portion)) ++ (far ++ portion)) ≡ w + count
      whole =
          length-append (length_bytes (length (far ++ portion))) (far ++ portion)
          ∙ ap (λ (n : ℕ). length (length_bytes n) + n) counted ∙ ap (λ (n : ℕ). n + count) (sym width)
