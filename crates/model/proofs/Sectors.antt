-- "The sector is the number of whole 11.25-degree steps in the angle clockwise from north" (paper 02, W3): it is below 32, a quarter turn clockwise adds
-- 8 of them, modulo 32, and any positive multiple of the two steps has the same.
use Prim.Native.Nat.{ℕ, zero, suc, ◌+◌, ◌*◌, ◌-◌, ◌%◌, ◌≤◌, ◌<◌}
use mathlib.Core.Path.{◌≡◌, refl, sym, ap, ap₂, subst, ◌∙◌}
use mathlib.Core.Bool.{Bool, true, false, cond, ◌&&◌}
use native.Mathlib.Omega.{arith}
use native.Mathlib.Nat.{mul-zero, mul-add, mul-sub, mul_assoc, mul_left_comm, mul-pos, mul-lt-mul_of_pos_left, mul-le-mul_left}
use lib.Dec.{ltb, leb, eqb}
use borrow.Author.Tests.{lt-ltb, le-ltb, le-leb, eq-eqb, ne_eqb, ltb-true, ltb-false}
use Rattle.model.specs.Sector.{Direction, step_added, greatest_step, direction, turned, turned_by, in_first, quadrant, within, squared, half, octant, sector_of, sector}

-- ---- below 32

pub quadrant_few : (d : Direction) → quadrant d ≤ 3
unfolding quadrant
quadrant_few d = go (in_first d) (in_first (turned d)) (in_first (turned_by 2 d))
  where
    go : (a b c : Bool) → cond a 0 (cond b 1 (cond c 2 3)) ≤ 3
    go true b c = omega arith
    go false true c = omega arith
    go false false true = omega arith
    go false false false = omega arith

pub half_few : (d : Direction) → half d ≤ 1
unfolding half
half_few d = go (ltb d.east d.north)
  where
    go : (t : Bool) → cond t 0 1 ≤ 1
    go true = omega arith
    go false = omega arith

pub octant_few : (d : Direction) → octant d ≤ 7
unfolding octant
octant_few d = omega (arith, quadrant_few d, half_few (within d))

pub sector_small : (east north : ℕ) → sector east north < 32
unfolding sector sector_of
sector_small east north =
    let d = direction east north in omega (arith, quadrant_few d, octant_few (squared (squared (within d))))

-- ---- by its quarter turns

-- A direction in the first quadrant leads neither south nor west.
pub record First (d : Direction) : Type 0 where
  pub ahead : 1 ≤ d.north
  pub no_south : d.south ≡ 0
  pub no_west : d.west ≡ 0

in_first_lem : {d : Direction} → First d → in_first d ≡ true
unfolding in_first
in_first_lem {d} f = ap₂ ◌&&◌ (le-leb 1 d.north f.ahead) (eq-eqb d.west 0 f.no_west)

not_north : (d : Direction) → d.north ≡ 0 → in_first d ≡ false
unfolding in_first
not_north d e = ap (λ n. leb 1 n && eqb d.west 0) e

not_west : (d : Direction) → 1 ≤ d.west → in_first d ≡ false
unfolding in_first
not_west d h = ap (λ t. leb 1 d.north && t) (ne_eqb d.west 0 (λ e. omega (arith, e, h))) ∙ and-false (leb 1 d.north)
  where
    and-false : (t : Bool) → (t && false) ≡ false
    and-false true = refl
    and-false false = refl

-- Its quadrant is how many quarter turns back bring it into the first.
pub quadrant_by : (k : ℕ) (d : Direction) → k ≤ 3 → First (turned_by k d) → quadrant d ≡ k
unfolding quadrant turned turned_by
quadrant_by zero d h f = rw (in_first_lem f) refl
quadrant_by (suc zero) d h f = rw (not_north d f.no_west, in_first_lem f) refl
quadrant_by (suc (suc zero)) d h f = rw (not_north d f.no_south, not_north (turned d) f.no_west, in_first_lem f) refl
quadrant_by (suc (suc (suc zero))) d h f = rw (not_west d f.ahead, not_north (turned d) f.no_south, not_north (turned_by 2 d) f.no_west) refl
quadrant_by (suc (suc (suc (suc k)))) d h f = absurd (omega arith)

-- So its octant and its sector are told by those turns and by where it comes to.
pub octant_by : (k : ℕ) (d : Direction) → k ≤ 3 → First (turned_by k d) → octant d ≡ 2 * k + half (turned_by k d)
unfolding octant within
octant_by k d h f = rw (quadrant_by k d h f) refl

pub sector_by : (k : ℕ) (d : Direction) → k ≤ 3 → First (turned_by k d) → sector_of d ≡ 8 * k + octant (squared (squared (turned_by k d)))
unfolding sector_of within
sector_by k d h f = rw (quadrant_by k d h f) refl

-- ---- a quarter turn

-- A direction that leads somewhere: three quarter turns at most bring it into the first quadrant.
pub record Leads (d : Direction) : Type 0 where
  pub turns : ℕ
  pub few : turns ≤ 3
  pub first : First (turned_by turns d)

-- Steps in each quadrant.
module _ (east north : ℕ) where
  pub north_to_east : step_added ≤ east → step_added < north → First (turned_by 0 (direction east north))
  unfolding direction turned turned_by
  north_to_east e n = record { ahead = omega (arith, n); no_south = omega (arith, n); no_west = omega (arith, e) }

  pub east_to_south : step_added < east → north ≤ step_added → First (turned_by 1 (direction east north))
  unfolding direction turned turned_by
  east_to_south e n = record { ahead = omega (arith, e); no_south = omega (arith, e); no_west = omega (arith, n) }

  pub south_to_west : east ≤ step_added → north < step_added → First (turned_by 2 (direction east north))
  unfolding direction turned turned_by
  south_to_west e n = record { ahead = omega (arith, n); no_south = omega (arith, n); no_west = omega (arith, e) }

  pub west_to_north : east < step_added → step_added ≤ north → First (turned_by 3 (direction east north))
  unfolding direction turned turned_by
  west_to_north e n = record { ahead = omega (arith, e); no_south = omega (arith, e); no_west = omega (arith, n) }

  -- Steps that are not both 0 lead somewhere.
  pub steps_lead : (east ≡ step_added → north ≡ step_added → ⊥) → Leads (direction east north)
  steps_lead some = go (ltb step_added north) (ltb step_added east) (ltb north step_added) (ltb east step_added) refl refl refl refl
    where
      go : (n e s w : Bool) → ltb step_added north ≡ n → ltb step_added east ≡ e → ltb north step_added ≡ s → ltb east step_added ≡ w → Leads (direction east north)
      go true e s false n= e= s= w= =
          record { turns = 0; few = omega arith; first = north_to_east (ltb-false east step_added w=) (ltb-true step_added north n=) }
      go true e s true n= e= s= w= =
          let n = ltb-true step_added north n= in
          record { turns = 3; few = omega arith; first = west_to_north (ltb-true east step_added w=) (omega (arith, n)) }
      go false true s w n= e= s= w= =
          record { turns = 1; few = omega arith; first = east_to_south (ltb-true step_added east e=) (ltb-false step_added north n=) }
      go false false true w n= e= s= w= =
          record { turns = 2; few = omega arith; first = south_to_west (ltb-false step_added east e=) (ltb-true north step_added s=) }
      go false false false true n= e= s= w= =
          record { turns = 3; few = omega arith; first = west_to_north (ltb-true east step_added w=) (ltb-false north step_added s=) }
      go false false false false n= e= s= w= =
          let n = ltb-false step_added north n= in let s = ltb-false north step_added s= in
          let e = ltb-false step_added east e= in let w = ltb-false east step_added w= in
          absurd (some (omega (arith, e, w)) (omega (arith, n, s)))

-- A direction that a quarter turn back makes of another has 8 sectors less, modulo 32.
turned_sector : (d : Direction) → Leads (turned d) → sector_of d ≡ (sector_of (turned d) + 8) % 32
unfolding turned turned_by
turned_sector d t = go t.turns t.few t.first
  where
    -- Fewer than three turns more: one turn more in all.
    fewer : (k : ℕ) → k ≤ 2 → First (turned_by k (turned d)) → sector_of d ≡ (sector_of (turned d) + 8) % 32
    fewer k h f =
        omega (arith, sector_by (suc k) d (omega arith) f, sector_by k (turned d) (omega arith) f, octant_few (squared (squared (turned_by k (turned d)))))

    go : (k : ℕ) → k ≤ 3 → First (turned_by k (turned d)) → sector_of d ≡ (sector_of (turned d) + 8) % 32
    go zero h f = fewer 0 (omega arith) f
    go (suc zero) h f = fewer 1 (omega arith) f
    go (suc (suc zero)) h f = fewer 2 (omega arith) f
    go (suc (suc (suc zero))) h f =
        omega (arith, sector_by 0 d (omega arith) f, sector_by 3 (turned d) (omega arith) f, octant_few (squared (squared d)))
    go (suc (suc (suc (suc k)))) h f = absurd (omega arith)

-- Directions are the same where they lead equally far each way.
pub direction_path : {n n' e e' s s' w w' : ℕ} → n ≡ n' → e ≡ e' → s ≡ s' → w ≡ w' →
    ◌≡◌ {A = Direction} (record { north = n; east = e; south = s; west = w }) (record { north = n'; east = e'; south = s'; west = w' })
direction_path n= e= s= w= = λ i. record { north = n= i; east = e= i; south = s= i; west = w= i }

-- (east, north) turned clockwise is (north, -east).
pub quarter_turn : (east north : ℕ) → east ≤ greatest_step → north ≤ greatest_step → (east ≡ step_added → north ≡ step_added → ⊥) →
    sector north (greatest_step - east) ≡ (sector east north + 8) % 32
unfolding sector direction turned
quarter_turn east north e n some =
    let back : turned (direction north (500 - east)) ≡ direction east north = direction_path refl (omega arith) refl (omega arith) in
    turned_sector (direction north (500 - east)) (subst Leads (sym back) (steps_lead east north some)) ∙ ap (λ (d : Direction). (sector_of d + 8) % 32) back

-- ---- multiples

unfoldable pub times : ℕ → Direction → Direction
times k d = record { north = k * d.north; east = k * d.east; south = k * d.south; west = k * d.west }

module _ (k : ℕ) where
  as_turned : (j : ℕ) (d : Direction) → turned_by j (times k d) ≡ times k (turned_by j d)
  unfolding turned_by turned times
  as_turned zero d = refl
  as_turned (suc j) d = as_turned j (turned d)

  products : (a b : ℕ) → k * a * (k * b) ≡ k * k * (a * b)
  products a b = mul_assoc k a (k * b) ∙ ap (λ x. k * x) (mul_left_comm a k b) ∙ sym (mul_assoc k k (a * b))

  squares : (a b : ℕ) → (k * a + k * b) * (k * a + k * b) ≡ k * k * ((a + b) * (a + b))
  squares a b = ap (λ x. x * x) (sym (mul-add k a b)) ∙ products (a + b) (a + b)

  differences : (a b c e : ℕ) → (k * a + k * b) * (k * a + k * b) - (k * c + k * e) * (k * c + k * e) ≡ k * k * ((a + b) * (a + b) - (c + e) * (c + e))
  differences a b c e = ap₂ ◌-◌ (squares a b) (squares c e) ∙ sym (mul-sub (k * k) ((a + b) * (a + b)) ((c + e) * (c + e)))

  twice : (a b c e : ℕ) → 2 * (k * a * (k * b) + k * c * (k * e)) ≡ k * k * (2 * (a * b + c * e))
  twice a b c e =
      ap₂ (λ x y. 2 * (x + y)) (products a b) (products c e) ∙ ap (λ x. 2 * x) (sym (mul-add (k * k) (a * b) (c * e)))
      ∙ mul_left_comm 2 (k * k) (a * b + c * e)

  as_squared : (d : Direction) → squared (times k d) ≡ times (k * k) (squared d)
  unfolding squared times
  as_squared d =
      direction_path
      (differences d.north d.south d.east d.west)
      (twice d.north d.east d.south d.west)
      (differences d.east d.west d.north d.south)
      (twice d.north d.west d.south d.east)

module _ (k : ℕ) (some : 1 ≤ k) where
  as_large : (a b : ℕ) → ltb (k * a) (k * b) ≡ ltb a b
  as_large a b = go (ltb a b) refl
    where
      go : (t : Bool) → ltb a b ≡ t → ltb (k * a) (k * b) ≡ t
      go true t = lt-ltb _ _ (mul-lt-mul_of_pos_left (ltb-true a b t) some)
      go false t = le-ltb _ _ (mul-le-mul_left k (ltb-false a b t))

  some_too : (a : ℕ) → leb 1 (k * a) ≡ leb 1 a
  some_too zero = ap (leb 1) (mul-zero k)
  some_too (suc a) = le-leb 1 (k * suc a) (mul-pos some (omega arith)) ∙ sym (le-leb 1 (suc a) (omega arith))

  none_too : (a : ℕ) → eqb (k * a) 0 ≡ eqb a 0
  none_too zero = ap (λ x. eqb x 0) (mul-zero k)
  none_too (suc a) =
      let more : 0 < k * suc a = mul-pos some (omega arith) in
      ne_eqb (k * suc a) 0 (λ e. omega (arith, e, more)) ∙ sym (ne_eqb (suc a) 0 (λ e. omega (arith, e)))

  as_first : (d : Direction) → in_first (times k d) ≡ in_first d
  unfolding in_first times
  as_first d = ap₂ ◌&&◌ (some_too d.north) (none_too d.west)

  as_quadrant : (d : Direction) → quadrant (times k d) ≡ quadrant d
  unfolding quadrant turned_by turned times
  as_quadrant d = λ i. cond (as_first d i) 0 (cond (as_first (turned d) i) 1 (cond (as_first (turned_by 2 d) i) 2 3))

  as_within : (d : Direction) → within (times k d) ≡ times k (within d)
  unfolding within
  as_within d = ap (λ q. turned_by q (times k d)) (as_quadrant d) ∙ as_turned k (quadrant d) d

  as_half : (d : Direction) → half (times k d) ≡ half d
  unfolding half times
  as_half d = ap (λ t. cond t 0 1) (as_large d.east d.north)

  as_octant : (d : Direction) → octant (times k d) ≡ octant d
  unfolding octant
  as_octant d = ap₂ (λ q w. 2 * q + half w) (as_quadrant d) (as_within d) ∙ ap (λ h. 2 * quadrant d + h) (as_half (within d))

pub multiple : (k : ℕ) → 1 ≤ k → (d : Direction) → sector_of (times k d) ≡ sector_of d
unfolding sector_of
multiple k some d =
    let w = within d in
    let four : squared (squared (times k w)) ≡ times (k * k * (k * k)) (squared (squared w)) =
    ap squared (as_squared k w) ∙ as_squared (k * k) (squared w)
    in
    ap₂ (λ q v. 8 * q + octant (squared (squared v))) (as_quadrant k some d) (as_within k some d)
    ∙ ap (λ v. 8 * quadrant d + octant v) four
    ∙ ap (λ o. 8 * quadrant d + o) (as_octant (k * k * (k * k)) (mul-pos (mul-pos some some) (mul-pos some some)) (squared (squared w)))

-- So the point 20 m along a line need not be 20 m off: any other in that direction has the same sector.
pub multiple_steps : (k east north east' north' : ℕ) → 1 ≤ k → direction east' north' ≡ times k (direction east north) → sector east' north' ≡ sector east north
unfolding sector
multiple_steps k east north east' north' some e = ap sector_of e ∙ multiple k some (direction east north)
