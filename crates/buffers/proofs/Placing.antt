-- Bytes put over those of a buffer: one run after another, and single stores.
use Prim.Native.Nat.{ℕ, ◌+◌, ◌≤◌, ◌<◌}
use mathlib.Core.Path.{◌≡◌, refl, sym, ◌∙◌, ap, ap₂}
use mathlib.Core.List.{List, [], ◌∷◌, ◌++◌, append_assoc}
use native.Mathlib.Numerals.{add-one}
use native.Mathlib.Omega.{arith}
use lib.ListN.{length, take, drop, set, length-append, take-append-drop, length-drop}
use lib.Seq.{length-take-le, take_at, drop_at, drop-drop, set_split}
use Rattle.model.specs.Reference.{bytes2, bytes3}
use Rattle.model.specs.Work.{placed}
use Rattle.buffers.specs.Placed.{put_at}

module _ (at : ℕ) (vs l : List ℕ) (fits : at + length vs ≤ length l) where
  pub put_length : length (put_at at vs l) ≡ length l
  unfolding put_at
  put_length =
      let k = length-take-le at l (omega arith) in
      simp (length-append, length-drop) (omega arith)

  -- The front, and what comes after it.
  split : put_at at vs l ≡ (take at l ++ vs) ++ drop (at + length vs) l
  unfolding put_at
  split = sym (append_assoc (take at l) vs (drop (at + length vs) l))

  front_length : length (take at l ++ vs) ≡ at + length vs
  front_length = length-append (take at l) vs ∙ ap (λ (k : ℕ). k + length vs) (length-take-le at l (omega arith))

  pub put_then : (next : ℕ) → next ≡ at + length vs → (ws : List ℕ) → at + length vs + length ws ≤ length l →
      put_at next ws (put_at at vs l) ≡ put_at at (vs ++ ws) l
  unfolding put_at
  put_then next e ws more =
      let front = take at l ++ vs in
      let rest = drop (at + length vs) l in
      let size : length front ≡ next = front_length ∙ sym e in
      let ends : at + length vs + length ws ≡ at + length (vs ++ ws) = omega (arith, length-append vs ws) in
      ap₂ (λ (a b : List ℕ). a ++ (ws ++ b))
      (ap (take next) split ∙ take_at front rest next size)
      (sym (drop-drop (length ws) next (put_at at vs l))
      ∙ ap (drop (length ws)) (ap (drop next) split ∙ drop_at front rest next size)
      ∙ drop-drop (length ws) (at + length vs) l
      ∙ ap (λ (k : ℕ). drop k l) ends)
      ∙ append_assoc (take at l) vs (ws ++ drop (at + length (vs ++ ws)) l)
      ∙ ap (λ (b : List ℕ). take at l ++ b) (sym (append_assoc vs ws (drop (at + length (vs ++ ws)) l)))

pub put_one : (at x : ℕ) (l : List ℕ) → at < length l → set l at x ≡ put_at at (x ∷ []) l
unfolding put_at
put_one at x l h = set_split l at x h ∙ ap (λ (k : ℕ). take at l ++ (x ∷ drop k l)) (sym (add-one at))

pub put_none : (at : ℕ) (l : List ℕ) → put_at at [] l ≡ l
unfolding put_at
put_none at l =
    let e : at + 0 ≡ at = omega arith in
    rw e (take-append-drop at l)

pub put_first : (vs l : List ℕ) → put_at 0 vs l ≡ placed vs l
unfolding put_at placed
put_first vs l = let e : 0 + length vs ≡ length vs = omega arith in rw e

-- Numbers of 16 and of 24 bits.
pub put_two : (at x : ℕ) (l : List ℕ) → take at l ++ bytes2 x (drop (at + 2) l) ≡ put_at at (bytes2 x []) l
unfolding put_at bytes2
put_two at x l = refl

pub put_three : (at x : ℕ) (l : List ℕ) → take at l ++ bytes3 x (drop (at + 3) l) ≡ put_at at (bytes3 x []) l
unfolding put_at bytes3 bytes2
put_three at x l = refl

-- The status byte and two codes.
pub put_codes : (x lon lat : ℕ) (l : List ℕ) → 7 ≤ length l →
    put_at 4 (bytes3 lat []) (put_at 1 (bytes3 lon []) (put_at 0 (x ∷ []) l)) ≡ put_at 0 (x ∷ bytes3 lon (bytes3 lat [])) l
unfolding bytes3 bytes2
put_codes x lon lat l h =
    ap (put_at 4 (bytes3 lat [])) (put_then 0 (x ∷ []) l (omega arith) 1 refl (bytes3 lon []) (omega arith))
    ∙ put_then 0 (x ∷ bytes3 lon []) l (omega arith) 4 refl (bytes3 lat []) h

-- P, Q, D and two differences.
pub put_seven : (at p q d lon lat : ℕ) (l : List ℕ) → at + 7 ≤ length l →
    put_at (at + 5) (bytes2 lat []) (put_at (at + 3) (bytes2 lon []) (put_at (at + 2) (d ∷ []) (put_at (at + 1) (q ∷ []) (put_at at (p ∷ []) l))))
    ≡ put_at at (p ∷ q ∷ d ∷ bytes2 lon (bytes2 lat [])) l
unfolding bytes2
put_seven at p q d lon lat l h =
    ap (λ (k : List ℕ). put_at (at + 5) (bytes2 lat []) (put_at (at + 3) (bytes2 lon []) (put_at (at + 2) (d ∷ []) k)))
    (put_then at (p ∷ []) l (omega arith) (at + 1) refl (q ∷ []) (omega arith))
    ∙ ap (λ (k : List ℕ). put_at (at + 5) (bytes2 lat []) (put_at (at + 3) (bytes2 lon []) k))
    (put_then at (p ∷ q ∷ []) l (omega arith) (at + 2) refl (d ∷ []) (omega arith))
    ∙ ap (put_at (at + 5) (bytes2 lat [])) (put_then at (p ∷ q ∷ d ∷ []) l (omega arith) (at + 3) refl (bytes2 lon []) (omega arith))
    ∙ put_then at (p ∷ q ∷ d ∷ bytes2 lon []) l (omega arith) (at + 5) refl (bytes2 lat []) (omega arith)
