-- From one point to the next: differences of coordinates in 16 bits (paper 01, "The bytes", second point; "What counts as a reading";
-- paper 02, W2).
use Rattle.std.specs.Prelude.{ℕ, ◌+◌, ◌-◌, ◌%◌, ◌≤◌, Bool, cond, ◌&&◌, ltb, eqb}
use Rattle.model.specs.Map.{Node}

-- The difference from `a` to `b` fits 16 bits: -32,768 to 32,767.
pub record Near (a b : ℕ) : Type 0 where
  pub back : a ≤ b + 32_768
  pub on : b ≤ a + 32_767

-- That difference as 16 bits, two's complement.
unfoldable pub difference : ℕ → ℕ → ℕ
difference a b = (b + 65_536 - a) % 65_536

-- Whether `b` is `a` plus the difference `d`.
unfoldable pub moved : ℕ → ℕ → ℕ → Bool
moved a d b = eqb (b + cond (ltb d 32_768) 0 65_536) (a + d)

-- Longitudes go round (W2): a circle, and half of one. A longitude is held as the map stores it, with 18,000,000 added, and so is a difference of
-- two longitudes.
abbrev pub circle : ℕ
circle = 36_000_000

abbrev pub half_circle : ℕ
half_circle = 18_000_000

-- "Brought into -18,000,000 to 17,999,999 by adding or taking 36,000,000." `x` has 36,000,000 more than what is to be brought, which may be too small to
-- be held. That 36,000,000 is added or taken once at most is `difference_once` and `sum_once` in proofs/Longitudes.antt.
unfoldable pub brought : ℕ → ℕ
brought x = x % circle

-- The longitude difference from `a` to `b`, so brought.
unfoldable pub lon_difference : ℕ → ℕ → ℕ
lon_difference a b = brought (b + circle + half_circle - a)

-- The longitude `a` plus the longitude difference `d`: "the reader brings its sum back the same way".
unfoldable pub lon_sum : ℕ → ℕ → ℕ
lon_sum a d = brought (a + circle + d - half_circle)

-- The longitude difference that 16 bits stand for. It is negative from 32,768 on.
unfoldable pub signed : ℕ → ℕ
signed d = half_circle + d - cond (ltb d 32_768) 0 65_536

-- The two differences of two nodes.
pub record Difference : Type 0 where
  pub lon : ℕ
  pub lat : ℕ

-- "Differences fit 16 bits": of longitudes the one brought, which is held, so that `half_circle` stands for 0 (W2); of latitudes the plain one.
pub record DifferencesFit (a b : Node) : Type 0 where
  pub lon : Near half_circle (lon_difference a.lon b.lon)
  pub lat : Near a.lat b.lat

-- "Longitude and latitude less the previous point's."
unfoldable pub differences : Node → Node → Difference
differences a b = record { lon = difference half_circle (lon_difference a.lon b.lon); lat = difference a.lat b.lat }

-- "The node at the previous node's coordinates plus the differences": whether `b` is that node, seen from `a`.
unfoldable pub stands_at : Node → Difference → Node → Bool
stands_at a d b = eqb (lon_sum a.lon (signed d.lon)) b.lon && moved a.lat d.lat b.lat
