-- The sector of a direction by the sizes of its parts, of those of its square, and of those of the square of that.
use Prim.Native.Nat.{ℕ, zero, suc, ◌+◌, ◌*◌, ◌-◌, ◌%◌, ◌≤◌, ◌<◌}
use mathlib.Core.Path.{◌≡◌, refl, sym, ap, ap₂, subst, ◌∙◌}
use mathlib.Core.Logic.{◌≢◌}
use mathlib.Core.Bool.{Bool, true, false, cond}
use native.Mathlib.Omega.{arith}
use native.Mathlib.Nat.{add-mul, mul-add, mul-le-mul}
use lib.Dec.{ltb, leb, eqb}
use mir.Val.{bool_byte}
use borrow.Author.Tests.{ltb-true, ltb-false, leb-true, leb-false, le-leb, lt-leb, eq-eqb, ne_eqb}
use Rattle.model.specs.Sector.{Direction, step_added, direction, turned, turned_by, quadrant, within, squared, half, sector_of}
use Rattle.model.proofs.Sectors.{First, Leads, quadrant_by, north_to_east, east_to_south, south_to_west, west_to_north}
use Rattle.model.proofs.Squares.{squared_some, square_odd, sector_by_halves}
use Rattle.std.specs.Int.{abs_diff}
use Rattle.fields.specs.Sector.{Squared, later_half}
use Rattle.fields.specs.declared.sector.Parts.{Parts}

-- ---- the parts of a direction, and of its square

abbrev pub real_of : Direction → ℕ
real_of d = d.north + d.south

abbrev pub imaginary_of : Direction → ℕ
imaginary_of d = d.east + d.west

real_squared : (d : Direction) → real_of (squared d) ≡ abs_diff (real_of d * real_of d) (imaginary_of d * imaginary_of d)
unfolding squared
real_squared d = refl

imaginary_squared : (d : Direction) → imaginary_of (squared d) ≡ 2 * (real_of d * imaginary_of d)
unfolding squared
imaginary_squared d =
    let outer = add-mul d.north d.south (d.east + d.west) in
    let upper = mul-add d.north d.east d.west in
    let lower = mul-add d.south d.east d.west in
    omega (arith, outer, upper, lower)

-- No part of the square of steps is over 125,000.
pub square_small : {real imaginary : ℕ} {r : Parts} → real ≤ step_added → imaginary ≤ step_added → Squared real imaginary r →
    (r.real ≤ 125_000) × (r.imaginary ≤ 125_000)
square_small a b s =
    let product = mul-le-mul a b in
    let real-square = mul-le-mul a a in
    let imaginary-square = mul-le-mul b b in
    (omega (arith, s.real_part, real-square, imaginary-square), omega (arith, s.imaginary_part, product))

-- ---- the quadrant of steps, and a direction's half of its quadrant

-- West of north and south, or due south; and else.
module _ (east north : ℕ) where
  pub west_quadrant : east < step_added + bool_byte (ltb north step_added) → 3 - bool_byte (ltb north step_added) ≡ quadrant (direction east north)
  west_quadrant = go (ltb north step_added) refl
    where
      go : (t : Bool) → ltb north step_added ≡ t → east < step_added + bool_byte t → 3 - bool_byte t ≡ quadrant (direction east north)
      go true t h = sym (quadrant_by 2 (direction east north) (omega arith) (south_to_west east north (omega (arith, h)) (ltb-true north step_added t)))
      go false t h = sym (quadrant_by 3 (direction east north) (omega arith) (west_to_north east north (omega (arith, h)) (ltb-false north step_added t)))

  pub east_quadrant : step_added + bool_byte (ltb north step_added) ≤ east → (east ≡ step_added → north ≡ step_added → ⊥) →
      bool_byte (leb north step_added) ≡ quadrant (direction east north)
  east_quadrant h some = go (leb north step_added) refl
    where
      -- Steps due north are in the first quadrant, steps due east are not.
      beyond : (t : Bool) → ltb north step_added ≡ t → step_added + bool_byte t ≤ east → north ≤ step_added → step_added < east
      beyond true t h n = h
      beyond false t h n =
          let south = ltb-false north step_added t in
          let apart : east ≢ step_added = λ e. some e (omega (arith, n, south)) in
          omega (arith, h, apart)

      go : (t : Bool) → leb north step_added ≡ t → bool_byte t ≡ quadrant (direction east north)
      go true t =
          let n = leb-true north step_added t in
          sym (quadrant_by 1 (direction east north) (omega arith) (east_to_south east north (beyond (ltb north step_added) refl h n) n))
      go false t = sym (quadrant_by 0 (direction east north) (omega arith) (north_to_east east north (omega (arith, h)) (leb-false north step_added t)))

-- A test's answer as a number.
byte_later : (a b : ℕ) → bool_byte (leb a b) ≡ cond (ltb b a) 0 1
byte_later a b = go (ltb b a) refl
  where
    go : (t : Bool) → ltb b a ≡ t → bool_byte (leb a b) ≡ cond t 0 1
    go true t = ap bool_byte (lt-leb a b (ltb-true b a t))
    go false t = ap bool_byte (le-leb a b (ltb-false b a t))

pub later_odd : (odd real imaginary : ℕ) → odd ≡ 1 → bool_byte (leb imaginary real) ≡ later_half odd real imaginary
unfolding later_half
later_odd odd real imaginary h = rw (eq-eqb odd 1 h) (byte_later imaginary real)

pub later_even : (odd real imaginary : ℕ) → odd ≢ 1 → bool_byte (leb real imaginary) ≡ later_half odd real imaginary
unfolding later_half
later_even odd real imaginary h = rw (ne_eqb odd 1 h) (byte_later real imaginary)

pub later_small : (odd real imaginary : ℕ) → later_half odd real imaginary ≤ 1
unfolding later_half
later_small odd real imaginary = go (eqb odd 1) (ltb real imaginary) (ltb imaginary real)
  where
    go : (a b c : Bool) → cond a (cond b 0 1) (cond c 0 1) ≤ 1
    go true true c = omega arith
    go true false c = omega arith
    go false b true = omega arith
    go false b false = omega arith

sides : (a a' b b' : ℕ) → a ≡ a' → b ≡ b' → ◌≡◌ {A = ℕ} (cond (ltb a b) 0 1) (cond (ltb a' b') 0 1)
sides a a' b b' p q = ap₂ (λ x y. cond (ltb x y) 0 1) p q

half_by_turns : (k : ℕ) (d : Direction) → k ≤ 3 → First (turned_by k d) → half (turned_by k d) ≡ later_half (k % 2) (real_of d) (imaginary_of d)
unfolding half later_half turned turned_by
half_by_turns zero d h f = sides d.east (d.east + d.west) d.north (d.north + d.south) (omega (arith, f.no_west)) (omega (arith, f.no_south))
half_by_turns (suc zero) d h f = sides d.south (d.north + d.south) d.east (d.east + d.west) (omega (arith, f.no_west)) (omega (arith, f.no_south))
half_by_turns (suc (suc zero)) d h f = sides d.west (d.east + d.west) d.south (d.north + d.south) (omega (arith, f.no_west)) (omega (arith, f.no_south))
half_by_turns (suc (suc (suc zero))) d h f = sides d.north (d.north + d.south) d.west (d.east + d.west) (omega (arith, f.no_west)) (omega (arith, f.no_south))
half_by_turns (suc (suc (suc (suc k)))) d h f = absurd (omega arith)

half_by_parts : (d : Direction) → Leads d → half (within d) ≡ later_half (quadrant d % 2) (real_of d) (imaginary_of d)
unfolding within
half_by_parts d t =
    subst (λ k. half (turned_by k d) ≡ later_half (k % 2) (real_of d) (imaginary_of d)) (sym (quadrant_by t.turns d t.few t.first))
    (half_by_turns t.turns d t.few t.first)

-- Of a square: whether its quadrant is odd is told by the half that the direction itself was in.
square_half : (d : Direction) {real imaginary h : ℕ} {r : Parts} → Leads d → real_of d ≡ real → imaginary_of d ≡ imaginary → half (within d) ≡ h →
    Squared real imaginary r → (real_of (squared d) ≡ r.real) × (imaginary_of (squared d) ≡ r.imaginary) ×
    (half (within (squared d)) ≡ later_half h r.real r.imaginary)
square_half d {h = h} {r = r} t real= imaginary= half= s =
    let real : real_of (squared d) ≡ r.real = real_squared d ∙ ap₂ (λ x y. abs_diff (x * x) (y * y)) real= imaginary= ∙ sym s.real_part in
    let imaginary : imaginary_of (squared d) ≡ r.imaginary =
    imaginary_squared d ∙ ap₂ (λ x y. 2 * (x * y)) real= imaginary= ∙ sym s.imaginary_part
    in (
      real,
      imaginary,
      half_by_parts (squared d) (squared_some d t) ∙ ap (λ o. later_half o (real_of (squared d)) (imaginary_of (squared d))) (square_odd d t ∙ half=)
          ∙ ap₂ (λ x y. later_half h x y) real imaginary,
    )

pub sector_told : (d : Direction) → Leads d → {real imaginary q h k l : ℕ} {r s : Parts} → real ≡ real_of d → imaginary ≡ imaginary_of d → q ≡ quadrant d →
    h ≡ later_half (q % 2) real imaginary → Squared real imaginary r → k ≡ later_half h r.real r.imaginary → Squared r.real r.imaginary s →
    l ≡ later_half k s.real s.imaginary → 8 * q + 4 * h + 2 * k + l ≡ sector_of d
sector_told d t {real} {imaginary} {q} {h} {k} {l} {r} {s} real= imaginary= q= h= once k= twice l= =
    let first : half (within d) ≡ h =
    half_by_parts d t ∙ (λ i. later_half (sym q= i % 2) (sym real= i) (sym imaginary= i)) ∙ sym h=
    in
    let second = square_half d t (sym real=) (sym imaginary=) first once in
    let quarter : half (within (squared d)) ≡ k = second.2 ∙ sym k= in
    let third = square_half (squared d) (squared_some d t) second.0 second.1 quarter twice in
    let eighth : half (within (squared (squared d))) ≡ l = third.2 ∙ sym l= in
    let sum : sector_of d ≡ 8 * q + (4 * h + 2 * k + l) =
    sector_by_halves d t ∙ (λ i. 8 * sym q= i + (4 * first i + 2 * quarter i + eighth i))
    in
    omega (arith, sum)
