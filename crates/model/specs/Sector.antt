-- The sector of a direction: "the number of whole 11.25-degree steps in the angle clockwise from north, exact in whole numbers" (paper 02, W3).
use Rattle.std.specs.Prelude.{ℕ, zero, suc, ◌+◌, ◌*◌, ◌-◌, Bool, cond, ◌&&◌, ltb, leb, eqb}

-- A direction by how far it leads north, east, south and west. Of two that are opposite, one is 0.
pub record Direction : Type 0 where
  pub north : ℕ
  pub east : ℕ
  pub south : ℕ
  pub west : ℕ

-- "Two whole decimetre steps, east and north, each -250 to 250 .., stored plus 250" (W3): what is added, and the greatest number so stored.
abbrev pub step_added : ℕ
step_added = 250

abbrev pub greatest_step : ℕ
greatest_step = 500

-- The direction of the two steps as the map stores them. What would be below 0 is 0.
unfoldable pub direction : ℕ → ℕ → Direction
direction east north =
    record { north = north - step_added; east = east - step_added; south = step_added - north; west = step_added - east }

-- A quarter turn back, anticlockwise: what led east leads north.
unfoldable pub turned : Direction → Direction
turned d = record { north = d.east; east = d.south; south = d.west; west = d.north }

unfoldable pub turned_by : ℕ → Direction → Direction
turned_by zero d = d
turned_by (suc k) d = turned_by k (turned d)

-- Whether it is in the first quadrant: north itself, or from there clockwise up to east, which is not in it.
unfoldable pub in_first : Direction → Bool
in_first d = leb 1 d.north && eqb d.west 0

-- In which quadrant it is, 0 to 3: by so many quarter turns back it comes into the first. And the direction that it becomes there.
unfoldable pub quadrant : Direction → ℕ
quadrant d = cond (in_first d) 0 (cond (in_first (turned d)) 1 (cond (in_first (turned_by 2 d)) 2 3))

unfoldable pub within : Direction → Direction
within d = turned_by (quadrant d) d

-- "Squaring a direction doubles its angle" (W3), as a complex number: north is its real part and east the imaginary one, south and west are negative.
-- The real part of the square is the one part's square less the other's, the imaginary part twice their product.
unfoldable pub squared : Direction → Direction
squared d =
    record {
      north = (d.north + d.south) * (d.north + d.south) - (d.east + d.west) * (d.east + d.west);
      east = 2 * (d.north * d.east + d.south * d.west);
      south = (d.east + d.west) * (d.east + d.west) - (d.north + d.south) * (d.north + d.south);
      west = 2 * (d.north * d.west + d.south * d.east);
    }

-- In which half of the first quadrant it is, 0 or 1: the second starts where it leads as far east as north.
unfoldable pub half : Direction → ℕ
half d = cond (ltb d.east d.north) 0 1

-- In which octant it is, 0 to 7.
unfoldable pub octant : Direction → ℕ
octant d = 2 * quadrant d + half (within d)

-- A quadrant has 8 sectors. "Two squarings make sector edges into multiples of 45 degrees" (W3): of a direction in the first quadrant they make one
-- of four times its angle, which is less than a whole turn, and so the octants of that are the sectors.
unfoldable pub sector_of : Direction → ℕ
sector_of d = 8 * quadrant d + octant (squared (squared (within d)))

-- The sector of the two steps as the map stores them.
unfoldable pub sector : ℕ → ℕ → ℕ
sector east north = sector_of (direction east north)
