-- A buffer that holds a message, with a portion added to its open reference, holds the message with it.
use Prim.Native.Nat.{ℕ, ◌+◌, ◌-◌, ◌≤◌}
use mathlib.Core.Path.{◌≡◌, sym, ◌∙◌, ap}
use mathlib.Core.List.{List, ◌++◌, append_assoc}
use native.Mathlib.Omega.{arith}
use lib.ListN.{length, take, drop, length-append}
use lib.Seq.{take-append_seam, drop-append_seam, drop-drop, drop-append-add}
use Rattle.model.specs.Work.{placed}
use Rattle.model.specs.Message.{length_bytes, framed}
use Rattle.model.specs.MessageCall.{so_far, extended}
use Rattle.message_laws.proofs.Lengths.{wider}
use Rattle.message_laws.proofs.Framing.{framed_length}

so_far_framed : (bs rest : List ℕ) → so_far (length bs) (framed bs ++ rest) ≡ bs
unfolding so_far framed
so_far_framed bs rest =
    ap (λ (l : List ℕ). take (length bs) (drop (length (length_bytes (length bs))) l)) (append_assoc (length_bytes (length bs)) bs rest)
    ∙ ap (take (length bs)) (drop-append_seam (length_bytes (length bs)) (bs ++ rest))
    ∙ take-append_seam bs rest

module _ (pre bs portion b₀ : List ℕ) (short : length (bs ++ portion) ≤ 459) where
  rest : List ℕ
  rest = drop (length (pre ++ framed bs)) b₀

  wide : length (framed bs) ≤ length (framed (bs ++ portion))
  wide =
      omega (
        arith,
        framed_length bs,
        framed_length (bs ++ portion),
        length-append bs portion,
        wider (length bs) (length (bs ++ portion)) (omega (arith, length-append bs portion)) short,
      )

  behind : drop (length (framed (bs ++ portion))) (framed bs ++ rest) ≡ drop (length (pre ++ framed (bs ++ portion))) b₀
  unfolding rest
  behind =
      let k = length (framed (bs ++ portion)) in
      let j = length (framed bs) in
      let split : k ≡ j + (k - j) = omega (arith, wide) in
      let whole : length (pre ++ framed bs) + (k - j) ≡ length (pre ++ framed (bs ++ portion)) =
      omega (arith, wide, length-append pre (framed bs), length-append pre (framed (bs ++ portion))) in
      ap (λ (n : ℕ). drop n (framed bs ++ rest)) split ∙ drop-append-add (framed bs) rest (k - j)
      ∙ drop-drop (k - j) (length (pre ++ framed bs)) b₀ ∙ ap (λ (n : ℕ). drop n b₀) whole

  pub held_longer : (buffer : List ℕ) → buffer ≡ placed (pre ++ framed bs) b₀ →
      take (length pre) buffer ++ extended (length bs) (drop (length pre) buffer) portion ≡ placed (pre ++ framed (bs ++ portion)) b₀
  unfolding placed extended rest
  held_longer buffer e =
      let b : buffer ≡ pre ++ (framed bs ++ rest) = e ∙ append_assoc pre (framed bs) rest in
      let front : take (length pre) buffer ≡ pre = ap (take (length pre)) b ∙ take-append_seam pre (framed bs ++ rest) in
      let back : drop (length pre) buffer ≡ framed bs ++ rest = ap (drop (length pre)) b ∙ drop-append_seam pre (framed bs ++ rest) in
      ap (λ (l : List ℕ). l ++ extended (length bs) (drop (length pre) buffer) portion) front
      ∙ ap (λ (l : List ℕ). pre ++ extended (length bs) l portion) back
      ∙ ap (λ (l : List ℕ). pre ++ (framed (l ++ portion) ++ drop (length (framed (l ++ portion))) (framed bs ++ rest))) (so_far_framed bs rest)
      ∙ ap (λ (l : List ℕ). pre ++ (framed (bs ++ portion) ++ l)) behind
      ∙ sym (append_assoc pre (framed (bs ++ portion)) (drop (length (pre ++ framed (bs ++ portion))) b₀))
