-- "Squaring a direction doubles its angle" (paper 02, W3): halved, the sector of the square is the sector of the direction, modulo 16 (`doubled`); and nothing else
-- that tells the quadrants is doubled so (`sector_only`).
use Prim.Native.Nat.{ℕ, zero, suc, ◌+◌, ◌*◌, ◌-◌, ◌/◌, ◌%◌, ◌≤◌, ◌<◌}
use mathlib.Core.Path.{◌≡◌, refl, sym, ap, ap₂, subst, ◌∙◌}
use mathlib.Core.Bool.{Bool, true, false, cond}
use native.Mathlib.Omega.{arith}
use native.Mathlib.Nat.{zero-add, suc-add, add_comm, mul_comm, mul-pos, mul-le-mul, mul-lt-mul_of_pos_right, mul-le-mul_left}
use lib.Dec.{ltb}
use borrow.Author.Tests.{ltb-true, ltb-false}
use Rattle.model.specs.Sector.{Direction, turned, turned_by, quadrant, within, squared, half, octant, sector_of}
use Rattle.model.proofs.Sectors.{First, Leads, direction_path, quadrant_few, half_few, octant_few, quadrant_by, octant_by}

-- ---- turns

turned_on : (j k : ℕ) (d : Direction) → turned_by k (turned_by j d) ≡ turned_by (j + k) d
unfolding turned_by
turned_on zero k d = ap (λ i. turned_by i d) (sym (zero-add k))
turned_on (suc j) k d = turned_on j k (turned d) ∙ ap (λ i. turned_by i d) (sym (suc-add j k))

-- Four quarter turns are none.
turned_mod : (k : ℕ) (d : Direction) → k ≤ 7 → turned_by (k % 4) d ≡ turned_by k d
unfolding turned turned_by
turned_mod zero d h = refl
turned_mod (suc zero) d h = refl
turned_mod (suc (suc zero)) d h = refl
turned_mod (suc (suc (suc zero))) d h = refl
turned_mod (suc (suc (suc (suc k)))) d h = let left : suc (suc (suc (suc k))) % 4 ≡ k = omega arith in ap (λ i. turned_by i d) left

-- A quarter turn, squared, is half a turn.
squared_turned : (d : Direction) → squared (turned d) ≡ turned_by 2 (squared d)
unfolding squared turned turned_by
squared_turned d =
    direction_path
    (ap (λ v. (d.east + d.west) * (d.east + d.west) - v * v) (add_comm d.south d.north))
    (ap₂ (λ x y. 2 * (x + y)) (mul_comm d.east d.south) (mul_comm d.west d.north)
    ∙ ap (λ x. 2 * x) (add_comm (d.south * d.east) (d.north * d.west)))
    (ap (λ v. v * v - (d.east + d.west) * (d.east + d.west)) (add_comm d.south d.north))
    (ap₂ (λ x y. 2 * (x + y)) (mul_comm d.east d.north) (mul_comm d.west d.south))

squared_turns : (k : ℕ) (d : Direction) → squared (turned_by k d) ≡ turned_by (2 * k) (squared d)
unfolding turned_by
squared_turns zero d = refl
squared_turns (suc k) d =
    squared_turns k (turned d) ∙ ap (turned_by (2 * k)) (squared_turned d) ∙ turned_on 2 (2 * k) (squared d)
    ∙ ap (λ i. turned_by i (squared d)) (let same : 2 + 2 * k ≡ 2 * suc k = omega arith in same)

-- ---- a square

-- A direction that leads neither south nor west, and its square.
abbrev ahead : ℕ → ℕ → Direction
ahead n e = record { north = n; east = e; south = 0; west = 0 }

squared_ahead : (n e : ℕ) → squared (ahead n e) ≡ record { north = n * n - e * e; east = 2 * (n * e); south = e * e - n * n; west = 0 }
unfolding squared
squared_ahead n e =
    let n+0 : n + 0 ≡ n = omega arith in
    let e+0 : e + 0 ≡ e = omega arith in
    direction_path (ap₂ (λ x y. x * x - y * y) n+0 e+0) (omega arith) (ap₂ (λ x y. x * x - y * y) e+0 n+0) (omega arith)

-- Where that was in the first half it is in the first quadrant; else one quarter turn back brings it there.
first_half : (n e : ℕ) → e * e < n * n → First (squared (ahead n e))
first_half n e less =
    subst First (sym (squared_ahead n e)) (record { ahead = omega (arith, less); no_south = omega (arith, less); no_west = refl })

second_half : (n e : ℕ) → 1 ≤ n → n * n ≤ e * e → First (turned (squared (ahead n e)))
unfolding turned
second_half n e some more =
    let product : 0 < n * e = mul-pos some (some_east e more) in
    subst (λ x. First (turned x)) (sym (squared_ahead n e)) (record { ahead = omega (arith, product); no_south = refl; no_west = omega (arith, more) })
  where
    some_east : (e : ℕ) → n * n ≤ e * e → 1 ≤ e
    some_east zero more = let square : 0 < n * n = mul-pos some some in absurd (omega (arith, more, square))
    some_east (suc e) more = omega arith

squared_first : (d : Direction) → First d → First (turned_by (half d) (squared d))
unfolding half turned_by
squared_first d f = subst (λ x. First (turned_by (half x) (squared x))) (sym same) (go (ltb d.east d.north) refl)
  where
    same : d ≡ ahead d.north d.east
    same = direction_path refl refl f.no_south f.no_west

    go : (t : Bool) → ltb d.east d.north ≡ t → First (turned_by (cond t 0 1) (squared (ahead d.north d.east)))
    go true t =
        let less = ltb-true d.east d.north t in
        let below : d.east * d.east ≤ d.east * d.north = mul-le-mul_left d.east (omega (arith, less)) in
        let above : d.east * d.north < d.north * d.north = mul-lt-mul_of_pos_right less f.ahead in
        first_half d.north d.east (omega (arith, below, above))
    go false t =
        let more = ltb-false d.east d.north t in
        second_half d.north d.east f.ahead (mul-le-mul more more)

-- So a direction may be turned back into the first quadrant after each squaring: the octant is told by the turns.
octant_by_squares : (d e f : Direction) (j k : ℕ) → j ≤ 1 → k ≤ 1 → turned_by j (squared d) ≡ e → turned_by k (squared e) ≡ f → First f →
    octant (squared (squared d)) ≡ 4 * j + 2 * k + half f
octant_by_squares d e f j k j≤ k≤ one two first =
    let x = squared (squared d) in
    let reach : turned_by (2 * j + k) x ≡ f =
    sym (turned_on (2 * j) k x) ∙ ap (turned_by k) (sym (squared_turns j (squared d)) ∙ ap squared one) ∙ two
    in
    let turns : 2 * (2 * j + k) ≡ 4 * j + 2 * k = omega arith in
    octant_by (2 * j + k) x (omega arith) (subst First (sym reach) first) ∙ ap₂ (λ a y. a + half y) turns reach

-- ---- the doubled angle

within_first : (d : Direction) → Leads d → First (within d)
unfolding within
within_first d t = subst (λ k. First (turned_by k d)) (sym (quadrant_by t.turns d t.few t.first)) t.first

-- The quadrant of a square, and where it comes to in the first: by where the direction itself does.
module _ (d : Direction) (t : Leads d) where
  abbrev turns : ℕ
  turns = (2 * quadrant d + half (within d)) % 4

  brought : turned_by turns (squared d) ≡ turned_by (half (within d)) (squared (within d))
  unfolding within
  brought =
      turned_mod (2 * quadrant d + half (within d)) (squared d) (omega (arith, quadrant_few d, half_few (within d)))
      ∙ sym (turned_on (2 * quadrant d) (half (within d)) (squared d)) ∙ ap (turned_by (half (within d))) (sym (squared_turns (quadrant d) d))

  square_first : First (turned_by turns (squared d))
  square_first = subst First (sym brought) (squared_first (within d) (within_first d t))

  -- A square leads somewhere too.
  pub squared_some : Leads (squared d)
  squared_some = record { turns = turns; few = omega arith; first = square_first }

  square_quadrant : quadrant (squared d) ≡ turns
  square_quadrant = quadrant_by turns (squared d) (omega arith) square_first

  -- Whether that is odd is told by the half that the direction was in.
  pub square_odd : quadrant (squared d) % 2 ≡ half (within d)
  square_odd = ap (λ k. k % 2) square_quadrant ∙ odd (quadrant d) (half (within d)) (half_few (within d))
    where
      odd : (q h : ℕ) → h ≤ 1 → (2 * q + h) % 4 % 2 ≡ h
      odd q h h≤ = omega arith

  square_within : within (squared d) ≡ turned_by (half (within d)) (squared (within d))
  unfolding within
  square_within = ap (λ k. turned_by k (squared d)) square_quadrant ∙ brought

-- The sector is told by the quadrant, and by the halves in which the direction and its two squarings are.
pub sector_by_halves : (d : Direction) → Leads d →
    sector_of d ≡ 8 * quadrant d + (4 * half (within d) + 2 * half (within (squared d)) + half (within (squared (squared d))))
unfolding sector_of
sector_by_halves d t =
    let s = squared d in
    let u = squared_some d t in
    let once = sym (square_within d t) in
    let twice : turned_by (half (within s)) (squared (within s)) ≡ within (squared s) = sym (square_within s u) in
    ap (λ o. 8 * quadrant d + o)
    (octant_by_squares (within d) (within s) (within (squared s)) (half (within d)) (half (within s)) (half_few (within d)) (half_few (within s)) once twice
    (within_first (squared s) (squared_some s u)))

halved : (q h i j k : ℕ) → h ≤ 1 → i ≤ 1 → j ≤ 1 → k ≤ 1 → (8 * ((2 * q + h) % 4) + (4 * i + 2 * j + k)) / 2 ≡ (8 * q + (4 * h + 2 * i + j)) % 16
halved q h i j k h≤ i≤ j≤ k≤ =
    let whole : 2 * q + h ≡ 4 * ((2 * q + h) / 4) + (2 * q + h) % 4 = omega arith in
    let left : (8 * ((2 * q + h) % 4) + (4 * i + 2 * j + k)) / 2 ≡ 4 * ((2 * q + h) % 4) + 2 * i + j = omega arith in
    let sum : 8 * q + (4 * h + 2 * i + j) ≡ 16 * ((2 * q + h) / 4) + (4 * ((2 * q + h) % 4) + 2 * i + j) = omega (arith, whole) in
    left ∙ sym (ap (λ x. x % 16) sum ∙ rest ((2 * q + h) / 4) (4 * ((2 * q + h) % 4) + 2 * i + j) (omega arith))
  where
    rest : (p x : ℕ) → x < 16 → (16 * p + x) % 16 ≡ x
    rest p x x< = omega arith

pub doubled : (d : Direction) → Leads d → sector_of (squared d) / 2 ≡ sector_of d % 16
doubled d t =
    let s = squared d in
    let r = squared s in
    ap (λ x. x / 2) (sector_by_halves s (squared_some d t) ∙ ap (λ q. 8 * q + (4 * half (within s) + 2 * half (within r) + half (within (squared r)))) (square_quadrant d t))
    ∙ halved (quadrant d) (half (within d)) (half (within s)) (half (within r)) (half (within (squared r))) (half_few (within d)) (half_few (within s))
    (half_few (within r)) (half_few (within (squared r)))
    ∙ sym (ap (λ x. x % 16) (sector_by_halves d t))

-- ---- nothing else is doubled so

-- A count of 8 to a quadrant, of which a squared direction has twice as many, one more at most, modulo a whole turn.
pub record Counts (f : Direction → ℕ) : Type 0 where
  pub quarters : (d : Direction) → Leads d → f d / 8 ≡ quadrant d
  pub doubles : (d : Direction) → Leads d → f (squared d) / 2 ≡ f d % 16

pub sector_counts : Counts sector_of
unfolding sector_of
sector_counts =
    record {
      quarters = λ d t. omega (arith, octant_few (squared (squared (within d))));
      doubles = doubled;
    }

-- So it is told by quadrants: its own and those of three squarings.
eighth : (a b : ℕ) → b / 2 ≡ a % 16 → a % 8 ≡ 4 * (b / 8 % 2) + b % 8 / 2
eighth a b e =
    let whole : b ≡ 8 * (b / 8) + b % 8 = omega arith in
    let twice : b / 2 ≡ 4 * (b / 8) + b % 8 / 2 = omega (arith, whole) in
    let eights : b / 8 ≡ 2 * (b / 8 / 2) + b / 8 % 2 = omega arith in
    let part : a % 8 ≡ a % 16 % 8 = omega arith in
    part ∙ ap (λ x. x % 8) (sym e ∙ twice) ∙ rest (b / 8) (b / 8 / 2) (b / 8 % 2) (b % 8 / 2) eights (omega arith) (omega arith)
  where
    rest : (n h p x : ℕ) → n ≡ 2 * h + p → p ≤ 1 → x < 4 → (4 * n + x) % 8 ≡ 4 * p + x
    rest n h p x e p≤ x< = omega arith

nested : (a b c x y z w : ℕ) → x ≡ 4 * a + y / 2 → y ≡ 4 * b + z / 2 → z ≡ 4 * c + w / 2 → w < 8 → x ≡ 4 * a + (2 * b + c)
nested a b c x y z w x= y= z= w< =
    let z' : z / 4 ≡ c = omega (arith, z=) in
    let y' : y / 2 ≡ 2 * b + z / 4 = omega (arith, y=) in
    omega (arith, x=, y', z')

by_quadrants : (f : Direction → ℕ) → Counts f → (d : Direction) → Leads d →
    f d ≡ 8 * quadrant d + (4 * (quadrant (squared d) % 2) + (2 * (quadrant (squared (squared d)) % 2) + quadrant (squared (squared (squared d))) % 2))
by_quadrants f c d t =
    let s = squared d in
    let r = squared s in
    let v = squared r in
    let ts = squared_some d t in
    let tr = squared_some s ts in
    let parts = nested _ _ _ (f d % 8) (f s % 8) (f r % 8) (f v % 8) (onward d t) (onward s ts) (onward r tr) (omega arith) in
    let whole : f d ≡ 8 * (f d / 8) + f d % 8 = omega arith in
    whole ∙ ap₂ (λ q x. 8 * q + x) (c.quarters d t) parts
  where
    onward : (d : Direction) → Leads d → f d % 8 ≡ 4 * (quadrant (squared d) % 2) + f (squared d) % 8 / 2
    onward d t =
        eighth (f d) (f (squared d)) (c.doubles d t) ∙ ap (λ q. 4 * (q % 2) + f (squared d) % 8 / 2) (c.quarters (squared d) (squared_some d t))

pub sector_only : (f : Direction → ℕ) → Counts f → (d : Direction) → Leads d → f d ≡ sector_of d
sector_only f c d t = by_quadrants f c d t ∙ sym (by_quadrants sector_of sector_counts d t)
