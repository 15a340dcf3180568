-- The bytes of a small map, so that its cases can be told of whole calls (paper 01, "The depot map").
use Prim.Native.Nat.{ℕ}
use mathlib.Core.Path.{◌≡◌, refl}
use mathlib.Core.List.{List, [], ◌∷◌, ◌++◌, zip_with}
use lib.ListN.{length, get_or}
use Rattle.model.specs.Number.{number_bytes}
use Rattle.model.specs.Sector.{sector}
use Rattle.model.specs.Map.{Node, Line, Turn, Map, whole, decode}
use Rattle.model.proofs.Cases.Computing.{computing}
use Rattle.model.proofs.Cases.Ridge.{ridge}

unfoldable pub numbers : List ℕ → List ℕ → List ℕ
numbers [] rest = rest
numbers (x ∷ xs) rest = number_bytes x ++ numbers xs rest

unfoldable pub node_bytes : List Node → List ℕ → List ℕ
node_bytes [] rest = rest
node_bytes (a ∷ nodes) rest = numbers (a.lon ∷ a.lat ∷ []) (node_bytes nodes rest)

-- Steps of each sector, as a map stores them: east and north.
unfoldable pub east_steps : List ℕ
east_steps =
    250 ∷ 300 ∷ 350 ∷ 400 ∷ 450 ∷ 450 ∷ 450 ∷ 450 ∷ 450 ∷ 450 ∷ 450 ∷ 450 ∷ 450 ∷ 375 ∷ 325 ∷ 275
    ∷ 250 ∷ 200 ∷ 150 ∷ 100 ∷ 50 ∷ 50 ∷ 50 ∷ 50 ∷ 50 ∷ 50 ∷ 50 ∷ 50 ∷ 50 ∷ 125 ∷ 175 ∷ 225 ∷ []

unfoldable pub north_steps : List ℕ
north_steps =
    450 ∷ 450 ∷ 450 ∷ 450 ∷ 450 ∷ 375 ∷ 325 ∷ 275 ∷ 250 ∷ 200 ∷ 150 ∷ 100 ∷ 50 ∷ 50 ∷ 50 ∷ 50
    ∷ 50 ∷ 50 ∷ 50 ∷ 50 ∷ 50 ∷ 125 ∷ 175 ∷ 225 ∷ 250 ∷ 300 ∷ 350 ∷ 400 ∷ 450 ∷ 450 ∷ 450 ∷ 450 ∷ []

unfoldable pub steps_to : ℕ → List ℕ
steps_to sector = get_or east_steps sector 0 ∷ get_or north_steps sector 0 ∷ []

unfoldable pub line_bytes : List Line → List ℕ → List ℕ
line_bytes [] rest = rest
line_bytes (l ∷ ls) rest = numbers (l.start ∷ l.end ∷ l.length ∷ l.frc ∷ l.fow ∷ []) (numbers (steps_to l.out ++ steps_to l.back) (line_bytes ls rest))

unfoldable pub ban_bytes : List Turn → List ℕ
ban_bytes [] = []
ban_bytes (t ∷ ts) = numbers (t.first ∷ t.second ∷ []) (ban_bytes ts)

-- "Count of nodes; per node ..; count of lines; per line ..". "After the lines .. a count .. and that many pairs" (W1).
unfoldable pub encoded : Map → List ℕ
encoded m =
    numbers (length m.nodes ∷ [])
    (node_bytes m.nodes (numbers (length m.lines ∷ []) (line_bytes m.lines (numbers (length m.bans ∷ []) (ban_bytes m.bans)))))

-- One name for them all.
unfoldable pub encoding : Unit {0}
unfolding numbers node_bytes east_steps north_steps steps_to line_bytes ban_bytes encoded
encoding = tt

-- The steps of each sector are of that sector, and the paper's map is what its bytes decode to. Its own bytes have other steps of sector 24 in one place.
pub each_sector : zip_with sector east_steps north_steps ≡
    0 ∷ 1 ∷ 2 ∷ 3 ∷ 4 ∷ 5 ∷ 6 ∷ 7 ∷ 8 ∷ 9 ∷ 10 ∷ 11 ∷ 12 ∷ 13 ∷ 14 ∷ 15 ∷ 16 ∷ 17 ∷ 18 ∷ 19 ∷ 20 ∷ 21 ∷ 22 ∷ 23 ∷ 24 ∷ 25 ∷ 26 ∷ 27 ∷ 28 ∷ 29 ∷ 30 ∷ 31 ∷ []
unfolding computing encoding zip_with
each_sector = refl

pub ridge_decodes : decode (encoded ridge) ≡ whole ridge
unfolding computing encoding
ridge_decodes = refl
