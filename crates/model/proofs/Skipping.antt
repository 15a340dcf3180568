-- What remains of a stretch that is not refused: a part of its lines, and offsets that end on the first and on the last of them.
use Prim.Native.Nat.{ℕ, ◌+◌, ◌-◌, ◌≤◌, ◌<◌}
use mathlib.Core.Path.{◌≡◌, refl, sym, ◌∙◌, ap}
use mathlib.Core.Bool.{Bool, true, false, cond, ◌||◌, not}
use mathlib.Core.List.{List, [], ◌∷◌, ◌++◌, reverse, reverse-append, reverse-reverse, reverse-cons}
use native.Mathlib.Omega.{arith}
use lib.ListN.{length, length-append, length-reverse}
use lib.Dec.{leb, ltb, eqb}
use borrow.Author.Tests.{leb-true, leb-false, ltb-false, eqb-true}
use Rattle.model.specs.Refusal.{Refused, row}
use Rattle.model.specs.Map.{Map}
use Rattle.model.specs.Lines.{line_at, banned, total, first_of, last_of}
use Rattle.model.specs.Stretch.{Stretch, greatest_stretch, unknown, some_pair, apart, gap, banned_pair, Skipped, skip, remaining, StretchAnswer, remains, check_stretch}
use Rattle.model.proofs.Tests.{neither}

pub total_append : (m : Map) (xs ys : List ℕ) → total m (xs ++ ys) ≡ total m xs + total m ys
unfolding total
total_append m [] ys = omega arith
total_append m (x ∷ xs) ys = omega (arith, total_append m xs ys)

total_reverse : (m : Map) (xs : List ℕ) → total m (reverse xs) ≡ total m xs
unfolding total
total_reverse m [] = refl
total_reverse m (x ∷ xs) = rw (reverse-cons, total_append) (omega (arith, total_reverse m xs))

pub first_append : (xs ys : List ℕ) → 0 < length xs → first_of (xs ++ ys) ≡ first_of xs
unfolding first_of
first_append [] ys h = absurd (omega arith)
first_append (x ∷ xs) ys h = refl

pub last_append : (xs ys : List ℕ) → 0 < length ys → last_of (xs ++ ys) ≡ last_of ys
unfolding last_of
last_append xs [] h = absurd (omega arith)
last_append [] (y ∷ ys) h = refl
last_append (x ∷ []) (y ∷ ys) h = refl
last_append (x ∷ x' ∷ xs) (y ∷ ys) h = last_append (x' ∷ xs) (y ∷ ys) h

-- A list without a faulty pair, taken apart.
module _ (faulty : ℕ → ℕ → Bool) where
  pub no_pair : (l k : ℕ) (ls : List ℕ) → some_pair faulty (l ∷ k ∷ ls) ≡ false → (faulty l k ≡ false) × (some_pair faulty (k ∷ ls) ≡ false)
  unfolding some_pair
  no_pair l k ls e = neither (faulty l k) (some_pair faulty (k ∷ ls)) e

  pub pair_suffix : (xs ys : List ℕ) → some_pair faulty (xs ++ ys) ≡ false → some_pair faulty ys ≡ false
  unfolding some_pair
  pair_suffix [] ys e = e
  pair_suffix (x ∷ []) [] e = refl
  pair_suffix (x ∷ []) (y ∷ ys) e = (no_pair x y ys e).1
  pair_suffix (x ∷ x' ∷ xs) ys e = pair_suffix (x' ∷ xs) ys (no_pair x x' (xs ++ ys) e).1

  pair_prefix : (xs ys : List ℕ) → some_pair faulty (xs ++ ys) ≡ false → some_pair faulty xs ≡ false
  unfolding some_pair
  pair_prefix [] ys e = refl
  pair_prefix (x ∷ []) ys e = refl
  pair_prefix (x ∷ x' ∷ xs) ys e =
      let e' = no_pair x x' (xs ++ ys) e in
      rw (e'.0, some_pair) (pair_prefix (x' ∷ xs) ys e'.1)

  -- A part of a list without a faulty pair has none either.
  pair_part : (xs ys zs : List ℕ) → some_pair faulty (xs ++ (ys ++ zs)) ≡ false → some_pair faulty ys ≡ false
  pair_part xs ys zs e = pair_prefix ys zs (pair_suffix xs (ys ++ zs) e)

  -- Where two parts meet.
  pub pair_between : (xs ys zs : List ℕ) → 0 < length xs → 0 < length ys → some_pair faulty (xs ++ (ys ++ zs)) ≡ false → faulty (last_of xs) (first_of ys) ≡ false
  unfolding last_of first_of
  pair_between [] ys zs h k e = absurd (omega arith)
  pair_between (x ∷ xs) [] zs h k e = absurd (omega arith)
  pair_between (x ∷ []) (y ∷ ys) zs h k e = (no_pair x y (ys ++ zs) e).0
  pair_between (x ∷ x' ∷ xs) (y ∷ ys) zs h k e =
      pair_between (x' ∷ xs) (y ∷ ys) zs (omega arith) k (no_pair x x' (xs ++ (y ∷ ys ++ zs)) e).1

-- Two lines that are not apart meet.
pub meet : (m : Map) (l k : ℕ) → apart m l k ≡ false → (line_at m l).end ≡ (line_at m k).start
unfolding apart
meet m l k e = go (eqb (line_at m l).end (line_at m k).start) refl e
  where
    go : (t : Bool) → eqb (line_at m l).end (line_at m k).start ≡ t → not t ≡ false → (line_at m l).end ≡ (line_at m k).start
    go true t e = eqb-true _ _ t
    go false t e = absurd (let z : ◌≡◌ {A = ℕ} 0 1 = cc in omega arith)

-- What skipping whole lines leaves.
record Skips (m : Map) (offset : ℕ) (ls : List ℕ) (s : Skipped) : Type 0 where
  dropped : List ℕ
  whole : dropped ++ s.lines ≡ ls
  first : s.offset < (line_at m (first_of s.lines)).length
  sum : total m ls + s.offset ≡ total m s.lines + offset

skips : (m : Map) (offset : ℕ) (ls : List ℕ) → offset < total m ls → Skips m offset ls (skip m offset ls)
unfolding skip total first_of
skips m offset [] h = absurd (omega arith)
skips m offset (l ∷ ls) h = go (leb (line_at m l).length offset) refl (skips m (offset - (line_at m l).length) ls)
  where
    longer : (s : Skipped) → (line_at m l).length ≤ offset → Skips m (offset - (line_at m l).length) ls s → Skips m offset (l ∷ ls) s
    longer s short k =
        record { dropped = l ∷ k.dropped; whole = ap (λ (x : List ℕ). l ∷ x) k.whole; first = k.first; sum = omega (arith, k.sum) }

    go : (t : Bool) → leb (line_at m l).length offset ≡ t →
        (offset - (line_at m l).length < total m ls → Skips m (offset - (line_at m l).length) ls (skip m (offset - (line_at m l).length) ls)) →
        Skips m offset (l ∷ ls)
        (elim t [ true ↦ skip m (offset - (line_at m l).length) ls | false ↦ record { lines = l ∷ ls; offset = offset } ])
    go true t later = longer _ (leb-true _ _ t) (later (omega (arith, leb-true)))
    go false t later = record { dropped = []; whole = refl; first = leb-false _ _ t; sum = refl }

-- Some lines are a part of others.
pub record Part (ls ks : List ℕ) : Type 0 where
  pub before : List ℕ
  pub behind : List ℕ
  pub whole : before ++ (ls ++ behind) ≡ ks

-- What the proof needs of a stretch that is left.
pub record Left (m : Map) (s : Stretch) : Type 0 where
  pub first : s.pos < (line_at m (first_of s.lines)).length
  pub last : s.neg < (line_at m (last_of s.lines)).length
  pub below : s.pos + s.neg < total m s.lines
  pub joint : gap m s.lines ≡ false
  pub free : banned_pair m s.lines ≡ false
  pub few : length s.lines ≤ 64

pub filled : (m : Map) (xs : List ℕ) → 0 < total m xs → 0 < length xs
unfolding total
filled m [] h = h
filled m (x ∷ xs) h = omega arith

last_reverse : (xs : List ℕ) → 0 < length xs → last_of (reverse xs) ≡ first_of xs
unfolding first_of last_of
last_reverse [] h = absurd (omega arith)
last_reverse (x ∷ xs) h = rw reverse-cons (last_append (reverse xs) (x ∷ []) (omega arith))

module _ (m : Map) (s : Stretch) (below : s.pos + s.neg < total m s.lines) (joint : gap m s.lines ≡ false)
    (free : banned_pair m s.lines ≡ false) (few : length s.lines ≤ 64) where
  module _ (front back : Skipped) (f : Skips m s.pos s.lines front) (b : Skips m s.neg (reverse front.lines) back) where
    front_split : front.lines ≡ reverse back.lines ++ reverse b.dropped
    front_split = sym (reverse-reverse _) ∙ ap reverse (sym b.whole) ∙ reverse-append b.dropped back.lines

    split : f.dropped ++ (reverse back.lines ++ reverse b.dropped) ≡ s.lines
    split = rw (← front_split) f.whole

    both_below : front.offset + back.offset < total m back.lines
    both_below = omega (arith, f.sum, b.sum, total_reverse m front.lines)

    skipped : Left m (record { lines = reverse back.lines; pos = front.offset; neg = back.offset })
    skipped =
        let some : 0 < length back.lines = filled m back.lines (omega (arith, both_below)) in
        let same : first_of front.lines ≡ first_of (reverse back.lines) = rw front_split (first_append _ _ (rw length-reverse some)) in
        record {
          first = rw same at f.first;
          last = rw (last_reverse _ some) b.first;
          below = rw total_reverse both_below;
          joint = pair_part (apart m) f.dropped _ (reverse b.dropped) (rw split joint);
          free = pair_part (banned m) f.dropped _ (reverse b.dropped) (rw split free);
          few = omega (arith, simp length-append at (ap length split));
        }

  left_of : Left m (remaining m s) × Part (remaining m s).lines s.lines
  unfolding remaining
  left_of =
      let front = skips m s.pos s.lines (omega arith) in
      let back = skips m s.neg (reverse (skip m s.pos s.lines).lines) (rw total_reverse (omega (arith, front.sum))) in
      (skipped _ _ front back, record { before = front.dropped; behind = reverse back.dropped; whole = split _ _ front back })

-- A stretch that is not refused.
passed : (t : Bool) (n : Refused) {rest : StretchAnswer} {r : Stretch} → cond t (StretchAnswer.refused n) rest ≡ remains r →
    (t ≡ false) × (rest ≡ remains r)
passed true n e = absurd (let z : ◌≡◌ {A = ℕ} 0 1 = cc in omega arith)
passed false n e = (refl, e)

pub taken : (m : Map) (s r : Stretch) → check_stretch m s ≡ remains r → (r ≡ remaining m s) × Left m r × Part r.lines s.lines
unfolding check_stretch
taken m s r e =
    let count = length s.lines in
    let r₇ = passed (eqb count 0 || ltb greatest_stretch count || unknown m s.lines) (row 7) e in
    let r₈ = passed (gap m s.lines) (row 8) r₇.1 in
    let r₂₁ = passed (banned_pair m s.lines) (row 21) r₈.1 in
    let r₉ = passed (leb (total m s.lines) (s.pos + s.neg)) (row 9) r₂₁.1 in
    let many = neither (eqb count 0 || ltb greatest_stretch count) (unknown m s.lines) r₇.0 in
    let few : count ≤ greatest_stretch = ltb-false _ _ (neither (eqb count 0) (ltb greatest_stretch count) many.0).1 in
    let same : remaining m s ≡ r = cc r₉.1 in
    let left = left_of m s (leb-false _ _ r₉.0) r₈.0 r₂₁.0 few in
    (sym same, rw same at left.0, rw same at left.1)
