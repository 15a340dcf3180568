-- The form of a reference's bytes: its refusals one after another, the spare bits one point at a time, and the place of the offsets.
use Prim.Native.Nat.{ℕ, suc, ◌+◌, ◌*◌, ◌-◌, ◌/◌, ◌%◌, ◌≤◌, ◌<◌}
use mathlib.Core.Path.{◌≡◌, ◌∙◌}
use mathlib.Core.Bool.{cond, ◌||◌}
use mathlib.Core.Logic.{◌⊎◌, inl, inr}
use mathlib.Core.List.{List}
use native.Mathlib.Omega.{arith}
use lib.ListN.{length, get_or}
use lib.Dec.{leb, eqb}
use borrow.Author.Tests.{lt-ltb, le-ltb, eq-eqb}
use Rattle.model.specs.Reference.{status_byte, shortest_reference, longest_reference, point_count, reference_at, spare_bits, flags, parsed, refused, ParseAnswer, parse}
use Rattle.model.specs.Refusal.{row}
use Rattle.references.specs.Legs.{place_p}

-- ---- refusal 14: the spare bits from point `k` on

module _ (bs : List ℕ) (points : ℕ) where
  pub spare_next : (k : ℕ) → k < points →
      spare_bits bs (place_p k) (points - k) ≡ leb 64 (get_or bs (place_p k) 0) || spare_bits bs (place_p (k + 1)) (points - (k + 1))
  unfolding spare_bits
  spare_next k h =
      let more : points - k ≡ suc (points - (k + 1)) = omega arith in
      let next : place_p (k + 1) ≡ place_p k + 7 = omega arith in
      rw (more, next, spare_bits)

  pub spare_last : (k : ℕ) → k ≡ points →
      spare_bits bs (place_p k) (points - k) ≡ leb 64 (get_or bs (place_p points) 0) || leb 128 (get_or bs (8 + 7 * points) 0)
  unfolding spare_bits
  spare_last k e =
      let none : points - points ≡ 0 = omega arith in
      let next : place_p points + 1 ≡ 8 + 7 * points = omega arith in
      rw (e, none, ← next, spare_bits)

-- ---- flagged offsets stand inside bytes that have one for each flag

pub first_inside : (n at a b : ℕ) → n ≡ at + (a + b) → a ≡ 1 → at < n
first_inside n at a b e f = omega arith

pub second_inside : (n at a b : ℕ) → n ≡ at + (a + b) → b ≡ 1 → at + a < n
second_inside n at a b e f = omega arith

-- ---- refusal 12

module _ (bs : List ℕ) where
  pub other_length : (length bs < shortest_reference) ⊎ ((shortest_reference ≤ length bs) × (longest_reference < length bs)) → parse bs ≡ refused (row 12)
  unfolding parse
  other_length (inl h) = rw (lt-ltb _ _ h, parse)
  other_length (inr (h, i)) = rw (le-ltb _ _ h, lt-ltb _ _ i, parse)

  pub too_much_over : shortest_reference ≤ length bs → length bs ≤ longest_reference → 2 < (length bs - shortest_reference) % 7 → parse bs ≡ refused (row 12)
  unfolding parse
  too_much_over h i j = rw (le-ltb _ _ h, le-ltb _ _ i, lt-ltb _ _ j, parse)

-- ---- what is left to ask of bytes whose length is that of a reference, and then of those with its status byte

abbrev pub bits_and_flags : List ℕ → ℕ → ParseAnswer
bits_and_flags bs points =
    cond (spare_bits bs 7 points) (refused (row 14))
    (cond (eqb ((length bs - shortest_reference) % 7) (flags (get_or bs (8 + 7 * points) 0))) (parsed (reference_at bs points)) (refused (row 15)))

module _ (bs : List ℕ) (long : shortest_reference ≤ length bs) (short : length bs ≤ longest_reference) (few : (length bs - shortest_reference) % 7 ≤ 2) where
  pub after_length : parse bs ≡ cond (eqb (get_or bs 0 0) status_byte) (bits_and_flags bs (point_count bs)) (refused (row 13))
  unfolding parse
  after_length = rw (le-ltb _ _ long, le-ltb _ _ short, le-ltb _ _ few, parse)

  pub after_status : get_or bs 0 0 ≡ status_byte → parse bs ≡ bits_and_flags bs ((length bs - shortest_reference) / 7 + 1)
  unfolding point_count
  after_status e =
      let counted : (length bs - 9) / 7 ≡ (length bs - shortest_reference) / 7 + 1 = omega arith in
      after_length ∙ rw (eq-eqb _ _ e, counted)
