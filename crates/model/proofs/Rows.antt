-- The rows of the table that each part is refused with: a map 2 to 6, 23 or 24, a stretch 7 to 9 or 21, what remains of it 10, 11 or 26, a reference's
-- bytes 12 to 15. So no refusal has the number 0. Only the least and the greatest number of a part are said.
use Prim.Native.Nat.{ℕ, zero, suc, ◌+◌, ◌-◌, ◌%◌, ◌*◌, ◌≤◌}
use mathlib.Core.Path.{◌≡◌, refl, subst}
use mathlib.Core.Bool.{Bool, true, false, cond, ◌&&◌, ◌||◌}
use mathlib.Core.List.{List, [], ◌∷◌, ◌++◌}
use native.Mathlib.Omega.{arith}
use lib.ListN.{length, get_or}
use lib.Dec.{ltb, leb, eqb}
use Rattle.model.specs.Number.{Number, got, faulty, number}
use Rattle.model.specs.Refusal.{Refused, row, row_at, number_of}
use Rattle.model.specs.Sector.{step_added}
use Rattle.model.specs.Map.{Map, Node, Line, Turn, MapAnswer, whole, field, ended, clash, all_fitting, read_ban, decode_bans, read_steps, read_line, decode_lines, read_node, decode_nodes, decode}
use Rattle.model.specs.Lines.{total}
use Rattle.model.specs.Stretch.{Stretch, StretchAnswer, remains, greatest_stretch, unknown, gap, banned_pair, remaining, check_stretch}
use Rattle.model.specs.Reference.{Reference, ParseAnswer, parsed, parse, status_byte, spare_bits, flags, point_count, reference_at, shortest_reference, longest_reference}
use Rattle.model.specs.Reading.{Leg, banned_meeting}
use Rattle.model.specs.Choice.{LegTest}
use Rattle.model.specs.Opening.{OnMap, OnArea, Opens}
use Rattle.model.specs.Work.{work_length}
use Rattle.model.specs.Outcome.{failed, LegsRead, ReadOutcome, ReadEnd, ReadJoined, ReadOn, ReadParsed, Reads, WriteOutcome, WriteBy, WriteStretch, Writes}

-- A refusal with one of the numbers from `low` to `high`.
pub record From (low high : ℕ) (r : Refused) : Type 0 where
  pub least : low ≤ number_of r
  pub greatest : number_of r ≤ high

pub at : {low high : ℕ} (n : ℕ) → low ≤ n → n ≤ high → From low high (row n)
unfolding number_of
at n l h = record { least = l; greatest = h }

pub at_place : {low high : ℕ} (n k : ℕ) → low ≤ n → n ≤ high → From low high (row_at n k)
unfolding number_of
at_place n k l h = record { least = l; greatest = h }

pub wider : {low high low' high' : ℕ} {r : Refused} → low' ≤ low → high ≤ high' → From low high r → From low' high' r
wider l h f = record { least = omega (arith, f.least); greatest = omega (arith, f.greatest) }

-- ---- a map

abbrev MapRows : MapAnswer → Type 0
MapRows (whole m) = Unit {0}
MapRows (MapAnswer.refused r) = From 2 24 r

test_rows : (t : Bool) (a b : MapAnswer) → MapRows a → MapRows b → MapRows (elim t [ true ↦ a | false ↦ b ])
test_rows true a b h k = h
test_rows false a b h k = k

field_rows : (bs : List ℕ) (low high n : ℕ) (rest : ℕ → List ℕ → MapAnswer) → From 2 24 (row n) → ((x : ℕ) (after : List ℕ) → MapRows (rest x after)) →
    MapRows (field bs low high (row n) rest)
unfolding field
field_rows bs low high n rest h more = go (number bs)
  where
    go : (a : Number) →
        MapRows
        (elim a [
          | got x after ↦ elim (leb low x && leb x high) [ true ↦ rest x after | false ↦ MapAnswer.refused (row n) ]
          | faulty ↦ MapAnswer.refused (row 2)
        ])
    go (got x after) = test_rows (leb low x && leb x high) _ _ (more x after) h
    go faulty = at 2 (omega arith) (omega arith)

ended_rows : (bs : List ℕ) (nodes : List Node) (lines : List Line) (bans : List Turn) → MapRows (ended bs nodes lines bans)
unfolding ended
ended_rows [] nodes lines bans = go (clash nodes) (all_fitting lines bans)
  where
    go : (t u : Bool) →
        MapRows
        (cond t (MapAnswer.refused (row 6)) (cond u (whole (record { nodes = nodes; lines = lines; bans = bans })) (MapAnswer.refused (row 23))))
    go true u = at 6 (omega arith) (omega arith)
    go false true = tt
    go false false = at 23 (omega arith) (omega arith)
ended_rows (b ∷ bs) nodes lines bans = at 2 (omega arith) (omega arith)

bans_rows : (left : ℕ) (bs : List ℕ) (nodes : List Node) (lines : List Line) (bans : List Turn) → MapRows (decode_bans left bs nodes lines bans)
unfolding decode_bans read_ban
bans_rows zero bs nodes lines bans = ended_rows bs nodes lines bans
bans_rows (suc left) bs nodes lines bans =
    field_rows _ _ _ 2 _ (at 2 (omega arith) (omega arith)) λ first bs₁.
    field_rows _ _ _ 2 _ (at 2 (omega arith) (omega arith)) λ second bs₂.
    bans_rows left bs₂ nodes lines (bans ++ record { first = first; second = second } ∷ [])

steps_rows : (bs : List ℕ) (rest : ℕ → List ℕ → MapAnswer) → ((sector : ℕ) (after : List ℕ) → MapRows (rest sector after)) → MapRows (read_steps bs rest)
unfolding read_steps
steps_rows bs rest more =
    field_rows _ _ _ 24 _ (at 24 (omega arith) (omega arith)) λ east bs₁.
    field_rows _ _ _ 24 _ (at 24 (omega arith) (omega arith)) λ north bs₂.
    test_rows (eqb east step_added && eqb north step_added) _ _ (at 24 (omega arith) (omega arith)) (more _ bs₂)

line_rows : (last : ℕ) (bs : List ℕ) (rest : Line → List ℕ → MapAnswer) → ((l : Line) (after : List ℕ) → MapRows (rest l after)) →
    MapRows (read_line last bs rest)
unfolding read_line
line_rows last bs rest more =
    field_rows _ _ _ 5 _ (at 5 (omega arith) (omega arith)) λ start bs₁.
    field_rows _ _ _ 5 _ (at 5 (omega arith) (omega arith)) λ end bs₂.
    test_rows (eqb start end) _ _ (at 5 (omega arith) (omega arith))
    (field_rows _ _ _ 5 _ (at 5 (omega arith) (omega arith)) λ len bs₃.
    field_rows _ _ _ 5 _ (at 5 (omega arith) (omega arith)) λ frc bs₄.
    field_rows _ _ _ 5 _ (at 5 (omega arith) (omega arith)) λ fow bs₅.
    steps_rows _ _ λ out bs₆.
    steps_rows _ _ λ back bs₇. more _ bs₇)

lines_rows : (left : ℕ) (bs : List ℕ) (nodes : List Node) (lines : List Line) → MapRows (decode_lines left bs nodes lines)
unfolding decode_lines
lines_rows zero bs nodes lines = field_rows _ _ _ 3 _ (at 3 (omega arith) (omega arith)) λ count bs₁. bans_rows count bs₁ nodes lines []
lines_rows (suc left) bs nodes lines = line_rows _ _ _ λ line after. lines_rows left after nodes (lines ++ line ∷ [])

nodes_rows : (left : ℕ) (bs : List ℕ) (nodes : List Node) → MapRows (decode_nodes left bs nodes)
unfolding decode_nodes read_node
nodes_rows zero bs nodes = field_rows _ _ _ 3 _ (at 3 (omega arith) (omega arith)) λ count bs₁. lines_rows count bs₁ nodes []
nodes_rows (suc left) bs nodes =
    field_rows _ _ _ 4 _ (at 4 (omega arith) (omega arith)) λ lon bs₁.
    field_rows _ _ _ 4 _ (at 4 (omega arith) (omega arith)) λ lat bs₂. nodes_rows left bs₂ (nodes ++ record { lon = lon; lat = lat } ∷ [])

pub map_rows : (bs : List ℕ) (r : Refused) → decode bs ≡ MapAnswer.refused r → From 2 24 r
unfolding decode
map_rows bs r e = subst MapRows e (field_rows _ _ _ 3 _ (at 3 (omega arith) (omega arith)) λ count bs₁. nodes_rows count bs₁ [])

-- ---- a stretch

abbrev StretchRows : StretchAnswer → Type 0
StretchRows (remains s) = Unit {0}
StretchRows (StretchAnswer.refused r) = From 7 21 r

stretch_tests : (lines gaps bans offsets : Bool) (s : Stretch) →
    StretchRows
    (cond lines (StretchAnswer.refused (row 7))
    (cond gaps (StretchAnswer.refused (row 8))
    (cond bans (StretchAnswer.refused (row 21)) (cond offsets (StretchAnswer.refused (row 9)) (remains s)))))
stretch_tests true gaps bans offsets s = at 7 (omega arith) (omega arith)
stretch_tests false true bans offsets s = at 8 (omega arith) (omega arith)
stretch_tests false false true offsets s = at 21 (omega arith) (omega arith)
stretch_tests false false false true s = at 9 (omega arith) (omega arith)
stretch_tests false false false false s = tt

pub stretch_rows : (m : Map) (s : Stretch) (r : Refused) → check_stretch m s ≡ StretchAnswer.refused r → From 7 21 r
unfolding check_stretch
stretch_rows m s r e =
    subst StretchRows e
    (stretch_tests (eqb (length s.lines) 0 || ltb greatest_stretch (length s.lines) || unknown m s.lines) (gap m s.lines)
    (banned_pair m s.lines) (leb (total m s.lines) (s.pos + s.neg)) (remaining m s))

-- ---- a reference's bytes

abbrev ParseRows : ParseAnswer → Type 0
ParseRows (parsed r) = Unit {0}
ParseRows (ParseAnswer.refused r) = From 12 15 r

parse_tests : (length status bits flagged : Bool) (r : Reference) →
    ParseRows
    (cond length (ParseAnswer.refused (row 12))
    (cond status (cond bits (ParseAnswer.refused (row 14)) (cond flagged (parsed r) (ParseAnswer.refused (row 15)))) (ParseAnswer.refused (row 13))))
parse_tests true status bits flagged r = at 12 (omega arith) (omega arith)
parse_tests false false bits flagged r = at 13 (omega arith) (omega arith)
parse_tests false true true flagged r = at 14 (omega arith) (omega arith)
parse_tests false true false true r = tt
parse_tests false true false false r = at 15 (omega arith) (omega arith)

pub parse_rows : (bs : List ℕ) (r : Refused) → parse bs ≡ ParseAnswer.refused r → From 12 15 r
unfolding parse
parse_rows bs r e =
    subst ParseRows e
    (parse_tests (ltb (length bs) shortest_reference || ltb longest_reference (length bs) || ltb 2 ((length bs - shortest_reference) % 7))
    (eqb (get_or bs 0 0) status_byte) (spare_bits bs 7 (point_count bs))
    (eqb ((length bs - shortest_reference) % 7) (flags (get_or bs (8 + 7 * point_count bs) 0))) (reference_at bs (point_count bs)))

-- ---- the calls

legs_rows : {m : Map} {from n k : ℕ} {legs : List Leg} → LegsRead m from legs (failed n k) → (17 ≤ n) × (n ≤ 18)
legs_rows (LegsRead.unread u) = omega arith
legs_rows (LegsRead.several s) = omega arith
legs_rows (LegsRead.later o h) = legs_rows h

read_same : (r s : Refused) → ReadOutcome.refused r ≡ ReadOutcome.refused s → r ≡ s
read_same r s e = cc

end_rows : {m : Map} {r : Reference} {room : ℕ} {lss : List (List ℕ)} {why : Refused} → ReadEnd m r room lss (ReadOutcome.refused why) → From 19 20 why
end_rows (ReadEnd.no_pos x) = at 19 (omega arith) (omega arith)
end_rows (ReadEnd.no_neg x) = at 19 (omega arith) (omega arith)
end_rows (ReadEnd.too_far s h) = at 19 (omega arith) (omega arith)
end_rows (ReadEnd.no_room s h k) = at 20 (omega arith) (omega arith)

joined_rows : (m : Map) (r : Reference) (room : ℕ) (why : Refused) (t : Bool) (lss : List (List ℕ)) → ReadJoined t m r room lss (ReadOutcome.refused why) →
    From 19 22 why
joined_rows m r room why true lss h = rw (read_same why (row 22) h) (at 22 (omega arith) (omega arith))
joined_rows m r room why false lss h = wider (omega arith) (omega arith) (end_rows h)

pub read_on_rows : {m : Map} {r : Reference} {room : ℕ} {why : Refused} → ReadOn m r room (ReadOutcome.refused why) → From 16 22 why
read_on_rows (ReadOn.no_point e) = at_place 16 _ (omega arith) (omega arith)
read_on_rows (ReadOn.no_leg e h) = let n = legs_rows h in at_place _ _ (omega (arith, n.0)) (omega (arith, n.1))
read_on_rows {m} {r} {room} {why} (ReadOn.every_leg {lss = lss} e h end) =
    wider (omega arith) (omega arith) (joined_rows m r room why (banned_meeting m lss) lss end)

write_on_rows : {test : LegTest} {bytes : List (List ℕ) → List ℕ} {lines : List ℕ} {made room : ℕ} {why : Refused} →
    WriteBy test bytes lines made room (WriteOutcome.refused why) → From 10 26 why
write_on_rows (WriteBy.unfinished n c) = at 26 (omega arith) (omega arith)
write_on_rows (WriteBy.no_choice n) = at 10 (omega arith) (omega arith)
write_on_rows (WriteBy.no_room c h) = at 11 (omega arith) (omega arith)

-- What every call asks first is refused with 1 to 6, 23 or 24.
module _ {Outcome : Type 0} (refused : Refused → Outcome) (same : (r s : Refused) → refused r ≡ refused s → r ≡ s) (Asks : Map → Outcome → Type 0)
    (high : ℕ) (why : Refused) (asked : (m : Map) → Asks m (refused why) → From 1 high why) (enough : 24 ≤ high) where
  on_map_rows : (mb : List ℕ) (a : MapAnswer) → decode mb ≡ a → OnMap refused Asks a (refused why) → From 1 high why
  on_map_rows mb (whole m) e h = asked m h
  on_map_rows mb (MapAnswer.refused r) e h = rw (same why r h) (wider (omega arith) enough (map_rows mb r e))

  on_area_rows : (t : Bool) (mb : List ℕ) → OnArea refused Asks t mb (refused why) → From 1 high why
  on_area_rows true mb h = rw (same why (row 1) h) (at 1 (omega arith) (omega arith))
  on_area_rows false mb h = on_map_rows mb _ refl h

  pub opens_rows : (mb : List ℕ) (work : ℕ) → Opens refused Asks mb work (refused why) → From 1 high why
  opens_rows mb work h = on_area_rows (ltb work work_length) mb h

write_same : (r s : Refused) → WriteOutcome.refused r ≡ WriteOutcome.refused s → r ≡ s
write_same r s e = cc

parsed_rows : (m : Map) (ref : List ℕ) (a : ParseAnswer) (room : ℕ) (why : Refused) → parse ref ≡ a →
    ReadParsed m a room (ReadOutcome.refused why) → From 1 24 why
parsed_rows m ref (parsed r) room why e h = wider (omega arith) (omega arith) (read_on_rows h)
parsed_rows m ref (ParseAnswer.refused r) room why e h = rw (read_same why r h) (wider (omega arith) (omega arith) (parse_rows ref r e))

left_rows : (m : Map) (s : Stretch) (a : StretchAnswer) (tests room : ℕ) (why : Refused) → check_stretch m s ≡ a →
    WriteStretch m a tests room (WriteOutcome.refused why) → From 1 26 why
left_rows m s (remains t) tests room why e h = wider (omega arith) (omega arith) (write_on_rows h)
left_rows m s (StretchAnswer.refused r) tests room why e h = rw (write_same why r h) (wider (omega arith) (omega arith) (stretch_rows m s r e))

-- The numbers of the reader's refusals are 1 to 24, of the writer's 1 to 26.
pub read_rows : (mb ref : List ℕ) (work room : ℕ) (why : Refused) → Reads mb ref work room (ReadOutcome.refused why) → From 1 24 why
read_rows mb ref work room why h =
    opens_rows ReadOutcome.refused read_same (λ m. ReadParsed m (parse ref) room) 24 why (λ m. parsed_rows m ref (parse ref) room why refl)
    (omega arith) mb work h

pub write_rows : (mb : List ℕ) (s : Stretch) (tests work room : ℕ) (why : Refused) → Writes mb s tests work room (WriteOutcome.refused why) → From 1 26 why
write_rows mb s tests work room why h =
    opens_rows WriteOutcome.refused write_same (λ m. WriteStretch m (check_stretch m s) tests room) 26 why
    (λ m. left_rows m s (check_stretch m s) tests room why refl) (omega arith) mb work h

-- No refusal has the number 0, which tells a C host that a call was accepted.
pub no_read_refusal_is_0 : (mb ref : List ℕ) (work room : ℕ) (why : Refused) → Reads mb ref work room (ReadOutcome.refused why) → number_of why ≡ 0 → ⊥
no_read_refusal_is_0 mb ref work room why h e = omega (arith, (read_rows mb ref work room why h).least)

pub no_write_refusal_is_0 : (mb : List ℕ) (s : Stretch) (tests work room : ℕ) (why : Refused) → Writes mb s tests work room (WriteOutcome.refused why) →
    number_of why ≡ 0 → ⊥
no_write_refusal_is_0 mb s tests work room why h e = omega (arith, (write_rows mb s tests work room why h).least)
