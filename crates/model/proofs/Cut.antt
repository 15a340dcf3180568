-- What stands behind the longest map, or the longest reference, does not count: bytes that are cut behind it are answered as the whole.
use Prim.Native.Nat.{ℕ, zero, suc, ◌+◌, ◌*◌, ◌-◌, ◌≤◌, ◌<◌, ◌^◌}
use mathlib.Core.Path.{◌≡◌, refl, sym, ap, ◌∙◌}
use mathlib.Core.Bool.{Bool, true, false, cond, ◌&&◌, ◌||◌, not}
use mathlib.Core.List.{List, [], ◌∷◌, ◌++◌}
use native.Mathlib.Omega.{arith}
use lib.ListN.{length, take, drop}
use lib.Seq.{take_all, length-take-le}
use lib.Dec.{leb, ltb, eqb}
use borrow.Author.Tests.{leb-true, ltb-true, ltb-false, lt-ltb, le-ltb}
use Rattle.model.specs.Number.{Number, got, faulty, groups, number}
use Rattle.model.specs.Refusal.{Refused, row}
use Rattle.model.specs.Sector.{step_added, greatest_step}
use Rattle.model.specs.Map.{Node, Line, MapAnswer, greatest_node_count, greatest_line_count, greatest_line_length, field, ended, read_steps, read_line, decode_lines, read_node, decode_nodes, decode, Turn, greatest_ban_count, greatest_number, read_ban, decode_bans}
use Rattle.model.specs.Reference.{ParseAnswer, parse, shortest_reference, longest_reference}
use Rattle.model.proofs.Tests.{both}
use Rattle.model.proofs.Numbers.{number_width}

-- ---- a number takes five bytes at most, and those behind it follow it

abbrev onto : List ℕ → Number → Number
onto more (got x rest) = got x (rest ++ more)
onto more faulty = faulty

module _ (more : List ℕ) where
  groups_more : (most weight value : ℕ) (bs : List ℕ) → most ≤ length bs → groups most weight value (bs ++ more) ≡ onto more (groups most weight value bs)
  unfolding groups
  groups_more zero weight value bs h = refl
  groups_more (suc most) weight value [] h = absurd (omega arith)
  groups_more (suc most) weight value (b ∷ bs) h = go (ltb b 128) (groups_more most (weight * 128) (value + (b - 128) * weight) bs (omega arith))
    where
      last : (s t : Bool) → cond s (cond t (got (value + b * weight) (bs ++ more)) faulty) faulty ≡
          onto more (cond s (cond t (got (value + b * weight) bs) faulty) faulty)
      last true true = refl
      last true false = refl
      last false t = refl

      go : (t : Bool) →
          groups most (weight * 128) (value + (b - 128) * weight) (bs ++ more) ≡ onto more (groups most (weight * 128) (value + (b - 128) * weight) bs) →
          elim t [
            | true ↦ cond (not (eqb b 0) || eqb weight 1) (cond (ltb (value + b * weight) (2 ^ 32)) (got (value + b * weight) (bs ++ more)) faulty) faulty
            | false ↦ groups most (weight * 128) (value + (b - 128) * weight) (bs ++ more)
          ] ≡
          onto more
          (elim t [
            | true ↦ cond (not (eqb b 0) || eqb weight 1) (cond (ltb (value + b * weight) (2 ^ 32)) (got (value + b * weight) bs) faulty) faulty
            | false ↦ groups most (weight * 128) (value + (b - 128) * weight) bs
          ])
      go true later = last (not (eqb b 0) || eqb weight 1) (ltb (value + b * weight) (2 ^ 32))
      go false later = later

  number_more : (bs : List ℕ) → 5 ≤ length bs → number (bs ++ more) ≡ onto more (number bs)
  unfolding number
  number_more bs h = groups_more 5 1 0 bs h

-- ---- a map, number by number: with enough bytes, those behind do not count

-- What `field` does with a number, by itself.
abbrev tested : Bool → MapAnswer → MapAnswer → MapAnswer
tested t a b = elim t [ true ↦ a | false ↦ b ]

abbrev next : ℕ → ℕ → Refused → (ℕ → List ℕ → MapAnswer) → Number → MapAnswer
next low high n rest a =
    elim a [
      | got x after ↦ elim (leb low x && leb x high) [ true ↦ rest x after | false ↦ MapAnswer.refused n ]
      | faulty ↦ MapAnswer.refused (row 2)
    ]

module _ (more : List ℕ) where
  field_more : (bs : List ℕ) (low high : ℕ) (n : Refused) (rest : ℕ → List ℕ → MapAnswer) (k : ℕ) → k + 5 ≤ length bs →
      ((x : ℕ) (after : List ℕ) → x ≤ high → k ≤ length after → rest x (after ++ more) ≡ rest x after) →
      field (bs ++ more) low high n rest ≡ field bs low high n rest
  unfolding field
  field_more bs low high n rest k h later = ap (next low high n rest) (number_more more bs (omega arith)) ∙ go (number bs) refl
    where
      ranged : (x : ℕ) (after : List ℕ) → number bs ≡ got x after → (t : Bool) → (leb low x && leb x high) ≡ t →
          tested t (rest x (after ++ more)) (MapAnswer.refused n) ≡ tested t (rest x after) (MapAnswer.refused n)
      ranged x after f true t = later x after (leb-true x high (both (leb low x) (leb x high) t).1) (omega (arith, (number_width bs x after f).1))
      ranged x after f false t = refl

      go : (a : Number) → number bs ≡ a → next low high n rest (onto more a) ≡ next low high n rest a
      go (got x after) f = ranged x after f (leb low x && leb x high) refl
      go faulty f = refl

  -- A refusal, or what goes on.
  unless : (t : Bool) (n : ℕ) {a b : MapAnswer} → a ≡ b → tested t (MapAnswer.refused (row n)) a ≡ tested t (MapAnswer.refused (row n)) b
  unless true n e = refl
  unless false n e = e

  steps_more : (bs : List ℕ) (rest : ℕ → List ℕ → MapAnswer) (k : ℕ) → k + 10 ≤ length bs →
      ((sector : ℕ) (after : List ℕ) → k ≤ length after → rest sector (after ++ more) ≡ rest sector after) → read_steps (bs ++ more) rest ≡ read_steps bs rest
  unfolding read_steps
  steps_more bs rest k h later =
      field_more bs 0 greatest_step (row 24) _ (k + 5) (omega arith) λ east bs₁ _ h₁.
      field_more bs₁ 0 greatest_step (row 24) _ k (omega arith) λ north bs₂ _ h₂.
      unless (eqb east step_added && eqb north step_added) 24 (later _ bs₂ h₂)

  line_more : (last : ℕ) (bs : List ℕ) (rest : Line → List ℕ → MapAnswer) (k : ℕ) → k + 45 ≤ length bs →
      ((l : Line) (after : List ℕ) → k ≤ length after → rest l (after ++ more) ≡ rest l after) → read_line last (bs ++ more) rest ≡ read_line last bs rest
  unfolding read_line
  line_more last bs rest k h later =
      field_more bs 0 last (row 5) _ (k + 40) (omega arith) λ start bs₁ _ h₁.
      field_more bs₁ 0 last (row 5) _ (k + 35) (omega arith) λ end bs₂ _ h₂.
      unless (eqb start end) 5
      (field_more bs₂ 1 greatest_line_length (row 5) _ (k + 30) (omega arith) λ len bs₃ _ h₃.
      field_more bs₃ 0 7 (row 5) _ (k + 25) (omega arith) λ frc bs₄ _ h₄.
      field_more bs₄ 0 7 (row 5) _ (k + 20) (omega arith) λ fow bs₅ _ h₅.
      steps_more bs₅ _ (k + 10) (omega arith) λ out bs₆ h₆.
      steps_more bs₆ _ k (omega arith) λ back bs₇ h₇. later _ bs₇ h₇)

  ended_more : (bs : List ℕ) (nodes : List Node) (lines : List Line) (bans : List Turn) → 1 ≤ length bs →
      ended (bs ++ more) nodes lines bans ≡ ended bs nodes lines bans
  unfolding ended
  ended_more [] nodes lines bans h = absurd (omega arith)
  ended_more (b ∷ bs) nodes lines bans h = refl

  bans_more : (left : ℕ) (bs : List ℕ) (nodes : List Node) (lines : List Line) (bans : List Turn) → left * 10 + 1 ≤ length bs →
      decode_bans left (bs ++ more) nodes lines bans ≡ decode_bans left bs nodes lines bans
  unfolding decode_bans read_ban
  bans_more zero bs nodes lines bans h = ended_more bs nodes lines bans (omega arith)
  bans_more (suc left) bs nodes lines bans h =
      field_more bs 0 greatest_number (row 2) _ (left * 10 + 6) (omega arith) λ first bs₁ _ h₁.
      field_more bs₁ 0 greatest_number (row 2) _ (left * 10 + 1) (omega arith) λ second bs₂ _ h₂.
      bans_more left bs₂ nodes lines (bans ++ record { first = first; second = second } ∷ []) h₂

  lines_more : (left : ℕ) (bs : List ℕ) (nodes : List Node) (lines : List Line) → left * 45 + 5_126 ≤ length bs →
      decode_lines left (bs ++ more) nodes lines ≡ decode_lines left bs nodes lines
  unfolding decode_lines
  lines_more zero bs nodes lines h =
      field_more bs 0 greatest_ban_count (row 3) _ 5_121 (omega arith) λ count bs₁ few h₁. bans_more count bs₁ nodes lines [] (omega arith)
  lines_more (suc left) bs nodes lines h =
      line_more (length nodes - 1) bs _ (left * 45 + 5_126) (omega arith) λ line after h'. lines_more left after nodes (lines ++ line ∷ []) h'

  nodes_more : (left : ℕ) (bs : List ℕ) (nodes : List Node) → left * 10 + 51_211 ≤ length bs → decode_nodes left (bs ++ more) nodes ≡ decode_nodes left bs nodes
  unfolding decode_nodes read_node
  nodes_more zero bs nodes h =
      field_more bs 1 greatest_line_count (row 3) _ 51_206 (omega arith) λ count bs₁ few h₁. lines_more count bs₁ nodes [] (omega arith)
  nodes_more (suc left) bs nodes h =
      field_more bs 0 35_999_998 (row 4) _ (left * 10 + 51_216) (omega arith) λ lon bs₁ _ h₁.
      field_more bs₁ 0 18_000_000 (row 4) _ (left * 10 + 51_211) (omega arith) λ lat bs₂ _ h₂.
      nodes_more left bs₂ (nodes ++ record { lon = lon; lat = lat } ∷ []) h₂

-- Five bytes to each of 1 + 512 × 2 + 1 + 1,024 × 9 + 1 + 512 × 2 numbers: no map has more bytes.
abbrev pub map_bytes_at_most : ℕ
map_bytes_at_most = 56_335

decode_more : (bs more : List ℕ) → map_bytes_at_most < length bs → decode (bs ++ more) ≡ decode bs
unfolding decode
decode_more bs more h =
    field_more more bs 2 greatest_node_count (row 3) _ 56_331 (omega arith) λ count bs₁ few h₁. nodes_more more count bs₁ [] (omega arith)

-- ---- the cut

put_together : (n : ℕ) (l : List ℕ) → take n l ++ drop n l ≡ l
put_together zero l = refl
put_together (suc n) [] = refl
put_together (suc n) (x ∷ l) = ap (λ (t : List ℕ). x ∷ t) (put_together n l)

-- Map bytes that are cut at any limit above that are answered as the whole.
pub map_cut : (limit : ℕ) (bs : List ℕ) → map_bytes_at_most < limit → decode (take limit bs) ≡ decode bs
map_cut limit bs h = go (ltb (length bs) limit) refl
  where
    go : (t : Bool) → ltb (length bs) limit ≡ t → decode (take limit bs) ≡ decode bs
    go true t = ap decode (take_all limit bs (omega (arith, ltb-true (length bs) limit t)))
    go false t =
        let long : limit ≤ length bs = ltb-false (length bs) limit t in
        sym (decode_more (take limit bs) (drop limit bs) (omega (arith, length-take-le limit bs long))) ∙ ap decode (put_together limit bs)

-- And so are the bytes of a reference that are cut at any limit above 459: both are too long.
too_long : (bs : List ℕ) → longest_reference < length bs → parse bs ≡ ParseAnswer.refused (row 12)
unfolding parse
too_long bs h = rw (le-ltb (length bs) shortest_reference (omega arith), lt-ltb longest_reference (length bs) h) refl

pub reference_cut : (limit : ℕ) (bs : List ℕ) → longest_reference < limit → parse (take limit bs) ≡ parse bs
reference_cut limit bs h = go (ltb (length bs) limit) refl
  where
    go : (t : Bool) → ltb (length bs) limit ≡ t → parse (take limit bs) ≡ parse bs
    go true t = ap parse (take_all limit bs (omega (arith, ltb-true (length bs) limit t)))
    go false t =
        let long : limit ≤ length bs = ltb-false (length bs) limit t in
        too_long (take limit bs) (omega (arith, length-take-le limit bs long)) ∙ sym (too_long bs (omega (arith, h, long)))
