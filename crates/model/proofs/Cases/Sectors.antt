-- Sectors at their edges (paper 02, W3), by computation.
use Prim.Native.Nat.{ℕ, ◌+◌, ◌-◌}
use mathlib.Core.Path.{◌≡◌, refl}
use mathlib.Core.List.{[], ◌∷◌}
use Rattle.model.specs.Sector.{sector}
use Rattle.model.proofs.Cases.Computing.{computing}

-- So many decimetres east or west, and north or south.
abbrev ne : ℕ → ℕ → ℕ
ne east north = sector (250 + east) (250 + north)

abbrev se : ℕ → ℕ → ℕ
se east south = sector (250 + east) (250 - south)

abbrev sw : ℕ → ℕ → ℕ
sw west south = sector (250 - west) (250 - south)

abbrev nw : ℕ → ℕ → ℕ
nw west north = sector (250 - west) (250 + north)

pub record SectorCases : Type 0 where
  -- The eight multiples of 45 degrees are met exactly, by short steps and by long ones: an edge belongs to the sector that starts there.
  pub edges : ne 0 1 ∷ ne 1 1 ∷ ne 1 0 ∷ se 1 1 ∷ se 0 1 ∷ sw 1 1 ∷ sw 1 0 ∷ nw 1 1 ∷ [] ≡ 0 ∷ 4 ∷ 8 ∷ 12 ∷ 16 ∷ 20 ∷ 24 ∷ 28 ∷ []
  pub far_edges : ne 0 250 ∷ ne 250 250 ∷ ne 250 0 ∷ se 250 250 ∷ se 0 250 ∷ sw 250 250 ∷ sw 250 0 ∷ nw 250 250 ∷ [] ≡
      0 ∷ 4 ∷ 8 ∷ 12 ∷ 16 ∷ 20 ∷ 24 ∷ 28 ∷ []
  -- The nearest steps before each of them, and behind it.
  pub before : nw 1 250 ∷ ne 249 250 ∷ ne 250 1 ∷ se 250 249 ∷ se 1 250 ∷ sw 249 250 ∷ sw 250 1 ∷ nw 250 249 ∷ [] ≡
      31 ∷ 3 ∷ 7 ∷ 11 ∷ 15 ∷ 19 ∷ 23 ∷ 27 ∷ []
  pub behind : ne 1 250 ∷ ne 250 249 ∷ se 250 1 ∷ se 249 250 ∷ sw 1 250 ∷ sw 250 249 ∷ nw 250 1 ∷ nw 249 250 ∷ [] ≡
      0 ∷ 4 ∷ 8 ∷ 12 ∷ 16 ∷ 20 ∷ 24 ∷ 28 ∷ []
  -- No steps meet the other edges. Of all steps the nearest before and behind 11.25, 22.5, 33.75, 56.25, 67.5 and 78.75 degrees.
  pub between : ne 36 181 ∷ ne 37 186 ∷ ne 70 169 ∷ ne 99 239 ∷ ne 149 223 ∷ ne 147 220 ∷ ne 220 147 ∷ ne 223 149 ∷ ne 239 99 ∷ ne 169 70
      ∷ ne 186 37 ∷ ne 181 36 ∷ [] ≡
      0 ∷ 1 ∷ 1 ∷ 2 ∷ 2 ∷ 3 ∷ 4 ∷ 5 ∷ 5 ∷ 6 ∷ 6 ∷ 7 ∷ []

pub sector_cases : SectorCases
unfolding computing
sector_cases = record { edges = refl; far_edges = refl; before = refl; behind = refl; between = refl }
