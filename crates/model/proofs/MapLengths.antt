-- A map that decodes has few bytes: no number takes over five. So its byte count is a number that can be written and read back, and the front of its messages
-- has at most eight bytes (W10).
use Prim.Native.Nat.{ℕ, zero, suc, ◌+◌, ◌*◌, ◌≤◌}
use mathlib.Core.Path.{◌≡◌, refl}
use mathlib.Core.Bool.{Bool, true, false, ◌&&◌}
use mathlib.Core.List.{List, [], ◌∷◌, ◌++◌}
use native.Mathlib.Omega.{arith}
use lib.ListN.{length}
use lib.Dec.{leb, eqb}
use borrow.Author.Tests.{leb-true}
use Rattle.model.specs.Refusal.{Refused, row}
use Rattle.model.specs.Number.{Number, got, faulty, number}
use Rattle.model.specs.Sector.{step_added, sector}
use Rattle.model.specs.Map.{Node, Line, Turn, Map, MapAnswer, whole, refused, field, ended, read_ban, decode_bans, read_steps, read_line, decode_lines, read_node, decode_nodes, decode}
use Rattle.model.proofs.Tests.{both}
use Rattle.model.proofs.Numbers.{number_width}

not_whole : {n : Refused} {m : Map} → refused n ≡ whole m → ⊥
not_whole e = let z : ◌≡◌ {A = ℕ} 0 1 = cc in omega arith

-- An answer that is a map only where the bytes are at most `k`.
abbrev Few : ℕ → List ℕ → MapAnswer → Type 0
Few k bs a = (m : Map) → a ≡ whole m → length bs ≤ k

-- A number, and then what has `k` bytes at most.
field_few : (bs : List ℕ) (low high : ℕ) (n : Refused) (k l : ℕ) (rest : ℕ → List ℕ → MapAnswer) → k + 5 ≤ l →
    ((x : ℕ) (after : List ℕ) → x ≤ high → Few k after (rest x after)) → Few l bs (field bs low high n rest)
unfolding field
field_few bs low high n k l rest room later m e = go (number bs) refl e
  where
    in_range : (x : ℕ) (after : List ℕ) → number bs ≡ got x after → (t : Bool) → (leb low x && leb x high) ≡ t →
        elim t [ true ↦ rest x after | false ↦ refused n ] ≡ whole m → length bs ≤ l
    in_range x after f true t e =
        let h = later x after (leb-true x high (both (leb low x) (leb x high) t).1) m e in
        omega (arith, (number_width bs x after f).1)
    in_range x after f false t e = absurd (not_whole e)

    go : (a : Number) → number bs ≡ a →
        elim a [ got x after ↦ elim (leb low x && leb x high) [ true ↦ rest x after | false ↦ refused n ] | faulty ↦ refused (row 2) ] ≡ whole m →
        length bs ≤ l
    go (got x after) f e = in_range x after f (leb low x && leb x high) refl e
    go faulty f e = absurd (not_whole e)

-- What is asked between numbers takes no bytes.
unless : (k : ℕ) (t : Bool) (bs : List ℕ) (n : Refused) {a : MapAnswer} → Few k bs a → Few k bs (elim t [ true ↦ refused n | false ↦ a ])
unless k true bs n f m e = absurd (not_whole e)
unless k false bs n f m e = f m e

steps_few : (bs : List ℕ) (k : ℕ) (rest : ℕ → List ℕ → MapAnswer) → ((x : ℕ) (after : List ℕ) → Few k after (rest x after)) →
    Few (k + 10) bs (read_steps bs rest)
unfolding read_steps
steps_few bs k rest later =
    field_few _ _ _ _ (k + 5) (k + 10) _ (omega arith) λ east bs₁ _.
    field_few _ _ _ _ k (k + 5) _ (omega arith) λ north bs₂ _.
    unless k (eqb east step_added && eqb north step_added) bs₂ (row 24) (later (sector east north) bs₂)

line_few : (last : ℕ) (bs : List ℕ) (k : ℕ) (rest : Line → List ℕ → MapAnswer) → ((line : Line) (after : List ℕ) → Few k after (rest line after)) →
    Few (k + 45) bs (read_line last bs rest)
unfolding read_line
line_few last bs k rest later =
    field_few _ _ _ _ (k + 40) (k + 45) _ (omega arith) λ start bs₁ _.
    field_few _ _ _ _ (k + 35) (k + 40) _ (omega arith) λ end bs₂ _.
    unless (k + 35) (eqb start end) bs₂ (row 5)
    (field_few _ _ _ _ (k + 30) (k + 35) _ (omega arith) λ len bs₃ _.
    field_few _ _ _ _ (k + 25) (k + 30) _ (omega arith) λ frc bs₄ _.
    field_few _ _ _ _ (k + 10 + 10) (k + 25) _ (omega arith) λ fow bs₅ _.
    steps_few bs₅ (k + 10) _ λ out bs₆.
    steps_few bs₆ k _ λ back bs₇. later _ bs₇)

ended_few : (k : ℕ) (bs : List ℕ) (nodes : List Node) (lines : List Line) (bans : List Turn) → Few k bs (ended bs nodes lines bans)
unfolding ended
ended_few k [] nodes lines bans m e = omega arith
ended_few k (b ∷ bs) nodes lines bans m e = absurd (not_whole e)

bans_few : (left k : ℕ) (bs : List ℕ) (nodes : List Node) (lines : List Line) (bans : List Turn) → left * 10 ≤ k →
    Few k bs (decode_bans left bs nodes lines bans)
unfolding decode_bans read_ban
bans_few zero k bs nodes lines bans h = ended_few k bs nodes lines bans
bans_few (suc left) k bs nodes lines bans h =
    field_few _ _ _ _ (left * 10 + 5) k _ (omega arith) λ first bs₁ _.
    field_few _ _ _ _ (left * 10) (left * 10 + 5) _ (omega arith) λ second bs₂ _.
    bans_few left (left * 10) bs₂ nodes lines (bans ++ record { first = first; second = second } ∷ []) (omega arith)

wider : (k l : ℕ) (bs : List ℕ) (a : MapAnswer) → k ≤ l → Few k bs a → Few l bs a
wider k l bs a h f m e = let g = f m e in omega arith

lines_few : (left k : ℕ) (bs : List ℕ) (nodes : List Node) (lines : List Line) → left * 45 + 5_125 ≤ k → Few k bs (decode_lines left bs nodes lines)
unfolding decode_lines
lines_few zero k bs nodes lines h =
    field_few _ _ _ _ 5_120 k _ (omega arith) λ count bs₁ few. bans_few count 5_120 bs₁ nodes lines [] (omega arith)
lines_few (suc left) k bs nodes lines h =
    wider (left * 45 + 5_125 + 45) k bs _ (omega arith)
    (line_few _ bs (left * 45 + 5_125) _ λ line after. lines_few left (left * 45 + 5_125) after nodes (lines ++ line ∷ []) (omega arith))

nodes_few : (left k : ℕ) (bs : List ℕ) (nodes : List Node) → left * 10 + 51_210 ≤ k → Few k bs (decode_nodes left bs nodes)
unfolding decode_nodes read_node
nodes_few zero k bs nodes h = field_few bs _ _ _ 51_205 k _ (omega arith) λ count bs₁ few. lines_few count 51_205 bs₁ nodes [] (omega arith)
nodes_few (suc left) k bs nodes h =
    field_few bs _ _ _ (left * 10 + 51_215) k _ (omega arith) λ lon bs₁ _.
    field_few bs₁ _ _ _ (left * 10 + 51_210) (left * 10 + 51_215) _ (omega arith) λ lat bs₂ _.
    nodes_few left (left * 10 + 51_210) bs₂ (nodes ++ record { lon = lon; lat = lat } ∷ []) (omega arith)

pub map_few : (mb : List ℕ) (m : Map) → decode mb ≡ whole m → length mb ≤ 56_335
unfolding decode
map_few mb m e =
    field_few mb _ _ _ 56_330 56_335 _ (omega arith) (λ count bs₁ few. nodes_few count 56_330 bs₁ [] (omega arith)) m e
