-- Bytes put behind bytes are both put, whether they fit or not; and what fits stands first in the buffer.
use Prim.Native.Nat.{ℕ, ◌+◌, ◌-◌, ◌≤◌, ◌<◌, min}
use mathlib.Core.Bool.{Bool, true, false}
use mathlib.Core.Path.{◌≡◌, refl, sym, ◌∙◌, ap, ap₂, subst}
use mathlib.Core.List.{List, [], ◌++◌}
use mathlib.Core.Logic.{◌⊎◌, inl, inr, ⊎_elim}
use native.Mathlib.Omega.{arith}
use lib.Dec.{ltb}
use lib.ListN.{length, take, drop, length-append, length-take}
use lib.Seq.{take_all, drop-drop, take-append-le, take-append-add, length-take-le}
use borrow.Author.Tests.{ltb-true, ltb-false}
use Rattle.model.specs.Work.{placed}
use Rattle.buffers.specs.Placed.{put_at}
use Rattle.buffers.proofs.Placing.{put_length, put_then, put_none, put_first}
use Rattle.answer_text.specs.Put.{Put}

below_or_not : (a b : ℕ) → (a < b) ⊎ (b ≤ a)
below_or_not a b = go (ltb a b) refl
  where
    go : (t : Bool) → ltb a b ≡ t → (a < b) ⊎ (b ≤ a)
    go true e = inl (ltb-true a b e)
    go false e = inr (ltb-false a b e)

take_none : (k : ℕ) (bs : List ℕ) → k ≡ 0 → take k bs ≡ []
take_none k bs e = rw e

-- As many as there are, or as are asked for.
pub take_lesser : (n k : ℕ) (bs : List ℕ) → n ≡ min k (length bs) → take n bs ≡ take k bs
take_lesser n k bs e =
    ⊎_elim
    (λ h. let same : n ≡ k = omega (arith, e) in ap (λ (j : ℕ). take j bs) same)
    (λ h. take_all n bs (omega (arith, e)) ∙ sym (take_all k bs h))
    (below_or_not k (length bs))

-- At the buffer's end or beyond it nothing is put.
put_outside : (at : ℕ) (bs l : List ℕ) → length l ≤ at → put_at at (take (length l - at) bs) l ≡ l
put_outside at bs l h = ap (λ (k : List ℕ). put_at at k l) (take_none (length l - at) bs (omega arith)) ∙ put_none at l

-- What is left of the bytes fits.
fitting : (at : ℕ) (bs l : List ℕ) → at ≤ length l → at + length (take (length l - at) bs) ≤ length l
fitting at bs l h = omega (arith, length-take (length l - at) bs)

-- The buffer keeps its length.
kept : (at : ℕ) (bs l : List ℕ) → length (put_at at (take (length l - at) bs) l) ≡ length l
kept at bs l =
    ⊎_elim
    (λ h. put_length at (take (length l - at) bs) l (fitting at bs l (omega arith)))
    (λ h. ap length (put_outside at bs l h))
    (below_or_not at (length l))

module _ {at : ℕ} {bs before after : List ℕ} {end : ℕ} where
  -- The first two say the others.
  put_of : after ≡ put_at at (take (length before - at) bs) before → end ≡ min (at + length bs) (length before) → Put at bs before after end
  put_of e n =
      let within : end ≤ length after = omega (arith, n, ap length e ∙ kept at bs before) in
      record { buffer_after = e; end_is = n; within = within; counts = sym (length-take-le end after within) }

  pub put_keeps : Put at bs before after end → length after ≡ length before
  put_keeps p = ap length p.buffer_after ∙ kept at bs before

-- The same bytes, told otherwise.
pub put_same : {at : ℕ} {bs cs before after : List ℕ} {end : ℕ} → bs ≡ cs → Put at bs before after end → Put at cs before after end
put_same {at} {before = before} {after = after} {end = end} e p = subst (λ (k : List ℕ). Put at k before after end) e p

-- Nothing put.
pub put_nothing : (at : ℕ) (l : List ℕ) (end : ℕ) → end ≡ min at (length l) → Put at [] l l end
put_nothing at l end e =
    put_of (sym (ap (λ (k : List ℕ). put_at at k l) (take-nil (length l - at)) ∙ put_none at l)) (omega (arith, e))
  where
    take-nil : (k : ℕ) → ◌≡◌ {A = List ℕ} (take k []) []
    take-nil k = take_all k [] (omega arith)

-- One run of bytes behind another.
pub put_both : {at m n : ℕ} {v w a b c : List ℕ} → Put at v a b m → Put m w b c n → Put at (v ++ w) a c n
put_both {at} {m} {n} {v} {w} {a} {b} {c} p q =
    put_of
    (q.buffer_after ∙ ⊎_elim over whole (below_or_not (length a) (at + length v)))
    (omega (arith, p.end_is, q.end_is, put_keeps p, length-append v w))
  where
    -- The first run fills the buffer.
    over : length a < at + length v → put_at m (take (length b - m) w) b ≡ put_at at (take (length a - at) (v ++ w)) a
    over h =
        let full : m ≡ length a = omega (arith, p.end_is) in
        put_outside m w b (omega (arith, put_keeps p))
        ∙ p.buffer_after
        ∙ ap (λ (k : List ℕ). put_at at k a) (sym (take-append-le (length a - at) v w (omega arith)))

    whole : at + length v ≤ length a → put_at m (take (length b - m) w) b ≡ put_at at (take (length a - at) (v ++ w)) a
    whole h =
        let end : m ≡ at + length v = omega (arith, p.end_is) in
        let left : length b - m ≡ length a - at - length v = omega (arith, put_keeps p) in
        let room : length a - at ≡ length v + (length a - at - length v) = omega arith in
        let rest = take (length a - at - length v) w in
        let first : b ≡ put_at at v a = p.buffer_after ∙ ap (λ (k : List ℕ). put_at at k a) (take_all (length a - at) v (omega arith)) in
        ap₂ (λ (k : ℕ) (l : List ℕ). put_at m (take k w) l) left first
        ∙ put_then at v a h m end rest (omega (arith, length-take (length a - at - length v) w))
        ∙ ap (λ (k : List ℕ). put_at at k a) (sym (ap (λ (k : ℕ). take k (v ++ w)) room ∙ take-append-add v w (length a - at - length v)))

-- A part of the buffer that was overwritten by the first bytes.
pub part_put : (from count n : ℕ) (bs l new : List ℕ) → n ≡ count → new ≡ take count bs → count ≤ length bs →
    take from l ++ (new ++ drop n (drop from l)) ≡ put_at from (take count bs) l
unfolding put_at
part_put from count n bs l new e s h =
    let size : length (take count bs) ≡ count = length-take-le count bs h in
    rw (e, s, drop-drop count from l, size)

-- As many bytes as fit, from where the buffer ends at most.
pub put_fitting : (at from count : ℕ) (bs before after : List ℕ) → from ≡ min at (length before) →
    count ≡ min (length bs) (length before - from) → after ≡ put_at from (take count bs) before → Put at bs before after (from + count)
put_fitting at from count bs before after start size e =
    put_of (e ∙ ⊎_elim inside outside (below_or_not at (length before))) (omega (arith, start, size))
  where
    inside : at < length before → put_at from (take count bs) before ≡ put_at at (take (length before - at) bs) before
    inside h =
        let here : from ≡ at = omega (arith, start) in
        ap₂ (λ (j : ℕ) (k : List ℕ). put_at j k before) here (take_lesser count (length before - at) bs (omega (arith, size)))

    outside : length before ≤ at → put_at from (take count bs) before ≡ put_at at (take (length before - at) bs) before
    outside h =
        ap (λ (k : List ℕ). put_at from k before) (take_none count bs (omega (arith, start, size)))
        ∙ put_none from before
        ∙ sym (put_outside at bs before h)

-- What fits whole stands first, and the answer is its length.
pub put_whole : {bs before after : List ℕ} {end : ℕ} → Put 0 bs before after end → length bs ≤ length before →
    (end ≡ length bs) × (after ≡ placed bs before)
put_whole {bs} {before} {after} {end} p h = (
  omega (arith, p.end_is),
  p.buffer_after ∙ ap (λ (k : List ℕ). put_at 0 k before) (take_all (length before - 0) bs (omega arith)) ∙ put_first bs before,
)
