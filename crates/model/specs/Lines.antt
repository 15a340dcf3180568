-- Lists of lines on a map: connected ones, their length, their classes and the attributes of their ends (paper 01, "What counts as a reading").
use Rattle.std.specs.Prelude.{ℕ, ◌+◌, ◌<◌, max, ◌≡◌, Bool, false, ◌&&◌, ◌||◌, List, [], ◌∷◌, length, get_or, eqb}
use Rattle.model.specs.Map.{Node, Line, no_line, Turn, Map}

unfoldable pub line_at : Map → ℕ → Line
line_at m l = get_or m.lines l no_line

unfoldable pub node_at : Map → ℕ → Node
node_at m v = get_or m.nodes v (record { lon = 0; lat = 0 })

-- Whether the turn from line `l` into line `k` is one of some turns, and whether it is banned on a map (W1).
unfoldable pub turn_among : List Turn → ℕ → ℕ → Bool
turn_among [] l k = false
turn_among (t ∷ ts) l k = (eqb t.first l && eqb t.second k) || turn_among ts l k

unfoldable pub banned : Map → ℕ → ℕ → Bool
banned m l k = turn_among m.bans l k

-- Line `k` can stand straight after line `l`: it starts where that ends, and the turn is not banned (W1).
pub record Follows (m : Map) (l k : ℕ) : Type 0 where
  pub line : k < length m.lines
  pub meets : (line_at m l).end ≡ (line_at m k).start
  pub allowed : banned m l k ≡ false

-- A connected list: one line or more of the map, each of which can stand straight after the one before it.
pub data Connected (m : Map) : List ℕ → Type 0 where
  single : {l : ℕ} → l < length m.lines → Connected m (l ∷ [])
  linked : {l k : ℕ} {ls : List ℕ} → l < length m.lines → Follows m l k → Connected m (k ∷ ls) → Connected m (l ∷ k ∷ ls)

-- Its length: the sum of the lines' lengths.
unfoldable pub total : Map → List ℕ → ℕ
total m [] = 0
total m (l ∷ ls) = (line_at m l).length + total m ls

-- "The lowest class is the greatest FRC number."
unfoldable pub lowest : Map → List ℕ → ℕ
lowest m [] = 0
lowest m (l ∷ ls) = max (line_at m l).frc (lowest m ls)

-- The first and the last line (0 of an empty list, which is no connected one).
unfoldable pub first_of : List ℕ → ℕ
first_of [] = 0
first_of (l ∷ ls) = l

unfoldable pub last_of : List ℕ → ℕ
last_of [] = 0
last_of (l ∷ []) = l
last_of (l ∷ k ∷ ls) = last_of (k ∷ ls)

-- What a reference says of a line at a point (OpenLR's line attributes): FRC, FOW and its sector there.
pub record LineAttributes : Type 0 where
  pub frc : ℕ
  pub fow : ℕ
  pub sector : ℕ

-- "FRC, FOW and sector belong to the line leaving the point (bearing out); for the last point, to the line arriving (bearing back)." The sector is
-- the one found from the drawing (W3).
unfoldable pub leaving : Map → ℕ → LineAttributes
leaving m l = record { frc = (line_at m l).frc; fow = (line_at m l).fow; sector = (line_at m l).out }

unfoldable pub arriving : Map → ℕ → LineAttributes
arriving m l = record { frc = (line_at m l).frc; fow = (line_at m l).fow; sector = (line_at m l).back }
