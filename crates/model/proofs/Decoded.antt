-- A map that decodes is well formed: every field in its range, the ends of a line differ, no two nodes have the same pair of codes, and each banned
-- turn is one of two lines that meet.
use Prim.Native.Nat.{ℕ, zero, suc, ◌+◌, ◌-◌, ◌≤◌, ◌<◌}
use mathlib.Core.Path.{◌≡◌, refl, subst}
use mathlib.Core.Logic.{◌≢◌}
use mathlib.Core.Bool.{Bool, true, false, cond, ◌&&◌}
use mathlib.Core.List.{List, [], ◌∷◌, ◌++◌}
use native.Mathlib.Omega.{arith}
use lib.ListN.{length, length-append}
use lib.Dec.{leb, eqb}
use borrow.Author.Tests.{leb-true, eqb-false}
use Rattle.model.specs.Refusal.{Refused, row}
use Rattle.model.specs.Number.{Number, got, faulty, number}
use Rattle.model.specs.Sector.{step_added, sector}
use Rattle.model.specs.Map.{Node, Line, Turn, Map, greatest_node_count, greatest_line_count, greatest_ban_count, MapAnswer, whole, refused, field, clash, all_fitting, ended, read_ban, decode_bans, read_steps, read_line, decode_lines, read_node, decode_nodes, decode}
use Rattle.model.specs.Lines.{line_at, node_at}
use Rattle.model.specs.WellFormed.{NodeOk, LineOk, WellFormed}
use Rattle.model.proofs.Tests.{both}
use Rattle.model.proofs.Sectors.{sector_small}
use Rattle.model.proofs.Every.{Every, none, also, every_append, every_at}

not_whole : {n : Refused} {m : Map} → refused n ≡ whole m → ⊥
not_whole e = let z : ◌≡◌ {A = ℕ} 0 1 = cc in omega arith

-- A number that was read lies in its range.
module _ {m : Map} {low high : ℕ} (n : Refused) {rest : ℕ → List ℕ → MapAnswer} {G : Type 0}
    (then : (x : ℕ) (after : List ℕ) → low ≤ x → x ≤ high → rest x after ≡ whole m → G) where
  ranged : (x : ℕ) (after : List ℕ) (t : Bool) → (leb low x && leb x high) ≡ t →
      elim t [ true ↦ rest x after | false ↦ refused n ] ≡ whole m → G
  ranged x after true t e =
      let t' = both (leb low x) (leb x high) t in
      then x after (leb-true _ _ t'.0) (leb-true _ _ t'.1) e
  ranged x after false t e = absurd (not_whole e)

  numbered : (v : Number) →
      elim v [
        | got x after ↦ elim (leb low x && leb x high) [ true ↦ rest x after | false ↦ refused n ]
        | faulty ↦ refused (row 2)
      ] ≡ whole m → G
  numbered (got x after) e = ranged x after _ refl e
  numbered faulty e = absurd (not_whole e)

next : {m : Map} {low high : ℕ} (n : Refused) {rest : ℕ → List ℕ → MapAnswer} {G : Type 0} (bs : List ℕ) → field bs low high n rest ≡ whole m →
    ((x : ℕ) (after : List ℕ) → low ≤ x → x ≤ high → rest x after ≡ whole m → G) → G
unfolding field
next n bs e then = numbered n then (number bs) e

ends_differ : {m : Map} {G : Type 0} (a b : ℕ) (rest : MapAnswer) → elim (eqb a b) [ true ↦ refused (row 5) | false ↦ rest ] ≡ whole m →
    (a ≢ b → rest ≡ whole m → G) → G
ends_differ {m} {G} a b rest e then = go (eqb a b) refl e
  where
    go : (t : Bool) → eqb a b ≡ t → elim t [ true ↦ refused (row 5) | false ↦ rest ] ≡ whole m → G
    go true t e = absurd (not_whole e)
    go false t e = then (eqb-false a b t) e

-- One node and one line that were read.
next_node : {m : Map} {rest : Node → List ℕ → MapAnswer} {G : Type 0} (bs : List ℕ) → read_node bs rest ≡ whole m →
    ((a : Node) (after : List ℕ) → NodeOk a → rest a after ≡ whole m → G) → G
unfolding read_node
next_node bs e then =
    next (row 4) bs e λ lon bs₁ _ lon≤ e₁.
    next (row 4) bs₁ e₁ λ lat bs₂ _ lat≤ e₂.
    then _ bs₂ (record { lon = lon≤; lat = lat≤ }) e₂

-- Two steps that were read have a sector.
next_steps : {m : Map} {rest : ℕ → List ℕ → MapAnswer} {G : Type 0} (bs : List ℕ) → read_steps bs rest ≡ whole m →
    ((sector : ℕ) (after : List ℕ) → sector < 32 → rest sector after ≡ whole m → G) → G
unfolding read_steps
next_steps {m} {rest} {G} bs e then =
    next (row 24) bs e λ east bs₁ _ _ e₁.
    next (row 24) bs₁ e₁ λ north bs₂ _ _ e₂.
    go east north bs₂ (eqb east step_added && eqb north step_added) e₂
  where
    go : (east north : ℕ) (after : List ℕ) (t : Bool) → elim t [ true ↦ refused (row 24) | false ↦ rest (sector east north) after ] ≡ whole m → G
    go east north after true e = absurd (not_whole e)
    go east north after false e = then (sector east north) after (sector_small east north) e

next_line : {m : Map} {rest : Line → List ℕ → MapAnswer} {G : Type 0} (nodes : ℕ) (bs : List ℕ) → 1 ≤ nodes →
    read_line (nodes - 1) bs rest ≡ whole m → ((l : Line) (after : List ℕ) → LineOk nodes l → rest l after ≡ whole m → G) → G
unfolding read_line
next_line nodes bs some e then =
    next (row 5) bs e λ start bs₁ _ start≤ e₁.
    next (row 5) bs₁ e₁ λ end bs₂ _ end≤ e₂.
    ends_differ start end _ e₂ λ differ e₂'.
    next (row 5) bs₂ e₂' λ len bs₃ long len≤ e₃.
    next (row 5) bs₃ e₃ λ frc bs₄ _ frc≤ e₄.
    next (row 5) bs₄ e₄ λ fow bs₅ _ fow≤ e₅.
    next_steps bs₅ e₅ λ out bs₆ out< e₆.
    next_steps bs₆ e₆ λ back bs₇ back< e₇.
    then _ bs₇
    (record {
      start = omega arith;
      end = omega arith;
      differ = differ;
      some = long;
      long = len≤;
      frc = frc≤;
      fow = fow≤;
      out = out<;
      back = back<;
    }) e₇

-- What the loop has read so far: the nodes, and then as many lines as are not left.
record SoFar (nodes : List Node) : Type 0 where
  ok : Every NodeOk nodes
  two : 2 ≤ length nodes
  few : length nodes ≤ greatest_node_count

ended_whole : {m : Map} (bs : List ℕ) (nodes : List Node) (lines : List Line) (bans : List Turn) → SoFar nodes → Every (LineOk (length nodes)) lines →
    1 ≤ length lines → length lines ≤ greatest_line_count → length bans ≤ greatest_ban_count → ended bs nodes lines bans ≡ whole m → WellFormed m
unfolding ended line_at node_at
ended_whole {m} [] nodes lines bans a b one few few_bans e = go (clash nodes) (all_fitting lines bans) refl refl e
  where
    go : (t u : Bool) → clash nodes ≡ t → all_fitting lines bans ≡ u →
        cond t (refused (row 6)) (cond u (whole (record { nodes = nodes; lines = lines; bans = bans })) (refused (row 23))) ≡ whole m → WellFormed m
    go true u t f e = absurd (not_whole e)
    go false false t f e = absurd (not_whole e)
    go false true t f e =
        let made : Map = record { nodes = nodes; lines = lines; bans = bans } in
        let same : made ≡ m = cc in
        subst WellFormed same
        (record {
          node_ok = λ v h. every_at _ v a.ok h;
          line_ok = λ l h. every_at _ l b h;
          two_nodes = a.two;
          few_nodes = a.few;
          one_line = one;
          few_lines = few;
          distinct = t;
          few_bans = few_bans;
          bans_fit = f;
        })
ended_whole (x ∷ bs) nodes lines bans a b one few few_bans e = absurd (not_whole e)

bans_whole : {m : Map} (left : ℕ) (bs : List ℕ) (nodes : List Node) (lines : List Line) (bans : List Turn) → SoFar nodes →
    Every (LineOk (length nodes)) lines → 1 ≤ length lines → length lines ≤ greatest_line_count → left + length bans ≤ greatest_ban_count →
    decode_bans left bs nodes lines bans ≡ whole m → WellFormed m
unfolding decode_bans read_ban
bans_whole zero bs nodes lines bans a b one few few_bans e = ended_whole bs nodes lines bans a b one few (omega arith) e
bans_whole (suc left) bs nodes lines bans a b one few few_bans e =
    next (row 2) bs e λ first bs₁ _ _ e₁.
    next (row 2) bs₁ e₁ λ second bs₂ _ _ e₂.
    bans_whole left bs₂ nodes lines (bans ++ record { first = first; second = second } ∷ []) a b one few (simp length-append (omega arith)) e₂

lines_whole : {m : Map} (left : ℕ) (bs : List ℕ) (nodes : List Node) (lines : List Line) → SoFar nodes → Every (LineOk (length nodes)) lines →
    1 ≤ left + length lines → left + length lines ≤ greatest_line_count → decode_lines left bs nodes lines ≡ whole m → WellFormed m
unfolding decode_lines
lines_whole zero bs nodes lines a b one few e =
    next (row 3) bs e λ count bs₁ _ high e₁. bans_whole count bs₁ nodes lines [] a b (omega arith) (omega arith) (omega arith) e₁
lines_whole (suc left) bs nodes lines a b one few e =
    next_line (length nodes) bs (omega (arith, a.two)) e λ l after ok e'.
    lines_whole left after nodes (lines ++ l ∷ []) a (every_append b (also ok none)) (simp length-append (omega arith))
    (simp length-append (omega arith)) e'

nodes_whole : {m : Map} (left : ℕ) (bs : List ℕ) (nodes : List Node) → 2 ≤ left + length nodes → left + length nodes ≤ greatest_node_count →
    Every NodeOk nodes → decode_nodes left bs nodes ≡ whole m → WellFormed m
unfolding decode_nodes
nodes_whole zero bs nodes two few a e =
    next (row 3) bs e λ count bs₁ low high e₁.
    lines_whole count bs₁ nodes [] (record { ok = a; two = omega arith; few = omega arith }) none (omega arith) (omega arith) e₁
nodes_whole (suc left) bs nodes two few a e =
    next_node bs e λ x after ok e'.
    nodes_whole left after (nodes ++ x ∷ []) (simp length-append (omega arith)) (simp length-append (omega arith))
    (every_append a (also ok none)) e'

pub well_formed : (m : Map) (mb : List ℕ) → decode mb ≡ whole m → WellFormed m
unfolding decode
well_formed m mb e = next (row 3) mb e λ count bs low high e₁. nodes_whole count bs [] (omega arith) (omega arith) none e₁
