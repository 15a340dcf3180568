-- The rows of the table that a call with a point is refused with (W5): its bytes 12 to 15, a point as given 7, 9 or 25. So no refusal has the number 0.
use Prim.Native.Nat.{ℕ, ◌-◌, ◌/◌, ◌%◌}
use mathlib.Core.Path.{◌≡◌, refl, subst}
use mathlib.Core.Bool.{Bool, true, false, cond, ◌||◌}
use mathlib.Core.List.{List}
use native.Mathlib.Omega.{arith}
use lib.ListN.{length, get_or}
use lib.Dec.{ltb, leb, eqb}
use Rattle.model.specs.Refusal.{Refused, row, number_of}
use Rattle.model.specs.Map.{Map}
use Rattle.model.specs.Lines.{line_at}
use Rattle.model.specs.Reference.{negative}
use Rattle.model.specs.PointAlong.{greatest_mark, PointAlong, point_status, shortest_point, longest_point, point_along_at, PointParse, parsed, parse_point, PointReadOutcome, PointReadOn, PointReadParsed, PointReads, GivenPoint, PointWriteOutcome, PointWriteOn, PointCheck, passes, check_point, PointWriteChecked, PointWrites}
use Rattle.model.proofs.Rows.{From, at, wider, read_on_rows, opens_rows}

-- ---- a point's bytes

abbrev ParseRows : PointParse → Type 0
ParseRows (parsed a) = Unit {0}
ParseRows (PointParse.refused r) = From 12 15 r

parse_tests : (length status bits flagged : Bool) (a : PointAlong) →
    ParseRows
    (cond length (PointParse.refused (row 12))
    (cond status (cond bits (PointParse.refused (row 14)) (cond flagged (parsed a) (PointParse.refused (row 15)))) (PointParse.refused (row 13))))
parse_tests true status bits flagged a = at 12 (omega arith) (omega arith)
parse_tests false false bits flagged a = at 13 (omega arith) (omega arith)
parse_tests false true true flagged a = at 14 (omega arith) (omega arith)
parse_tests false true false true a = tt
parse_tests false true false false a = at 15 (omega arith) (omega arith)

pub point_parse_rows : (bs : List ℕ) (r : Refused) → parse_point bs ≡ PointParse.refused r → From 12 15 r
unfolding parse_point
point_parse_rows bs r e =
    subst ParseRows e
    (parse_tests (ltb (length bs) shortest_point || ltb longest_point (length bs)) (eqb (get_or bs 0 0) point_status)
    (leb 128 (get_or bs 15 0) || negative (get_or bs 15 0)) (eqb (length bs - shortest_point) (get_or bs 15 0 / 64 % 2)) (point_along_at bs))

-- ---- a point as given

abbrev CheckRows : PointCheck → Type 0
CheckRows passes = Unit {0}
CheckRows (PointCheck.refused r) = From 7 25 r

check_tests : (line offset marks : Bool) →
    CheckRows (cond line (PointCheck.refused (row 7)) (cond offset (PointCheck.refused (row 9)) (cond marks (PointCheck.refused (row 25)) passes)))
check_tests true offset marks = at 7 (omega arith) (omega arith)
check_tests false true marks = at 9 (omega arith) (omega arith)
check_tests false false true = at 25 (omega arith) (omega arith)
check_tests false false false = tt

pub check_rows : (m : Map) (p : GivenPoint) (r : Refused) → check_point m p ≡ PointCheck.refused r → From 7 25 r
unfolding check_point
check_rows m p r e =
    subst CheckRows e
    (check_tests (leb (length m.lines) p.line) (leb (line_at m p.line).length p.offset)
    (ltb greatest_mark p.orientation || ltb greatest_mark p.side))

-- ---- the calls

point_read_same : (r s : Refused) → PointReadOutcome.refused r ≡ PointReadOutcome.refused s → r ≡ s
point_read_same r s e = cc

on_rows : {m : Map} {a : PointAlong} {room : ℕ} {why : Refused} → PointReadOn m a room (PointReadOutcome.refused why) → From 16 22 why
on_rows (PointReadOn.not_accepted h) = read_on_rows h

parsed_rows : (m : Map) (ref : List ℕ) (a : PointParse) (room : ℕ) (why : Refused) → parse_point ref ≡ a →
    PointReadParsed m a room (PointReadOutcome.refused why) → From 1 25 why
parsed_rows m ref (parsed a) room why e h = wider (omega arith) (omega arith) (on_rows h)
parsed_rows m ref (PointParse.refused r) room why e h =
    rw (point_read_same why r h) (wider (omega arith) (omega arith) (point_parse_rows ref r e))

pub point_read_rows : (mb ref : List ℕ) (work room : ℕ) (why : Refused) → PointReads mb ref work room (PointReadOutcome.refused why) → From 1 25 why
point_read_rows mb ref work room why h =
    opens_rows PointReadOutcome.refused point_read_same (λ m. PointReadParsed m (parse_point ref) room) 25 why
    (λ m. parsed_rows m ref (parse_point ref) room why refl) (omega arith) mb work h

point_write_same : (r s : Refused) → PointWriteOutcome.refused r ≡ PointWriteOutcome.refused s → r ≡ s
point_write_same r s e = cc

write_on_rows : {m : Map} {p : GivenPoint} {room : ℕ} {why : Refused} → PointWriteOn m p room (PointWriteOutcome.refused why) → From 10 11 why
write_on_rows (PointWriteOn.not_good n) = at 10 (omega arith) (omega arith)
write_on_rows (PointWriteOn.no_room g h) = at 11 (omega arith) (omega arith)

checked_rows : (m : Map) (p : GivenPoint) (a : PointCheck) (room : ℕ) (why : Refused) → check_point m p ≡ a →
    PointWriteChecked m p a room (PointWriteOutcome.refused why) → From 1 25 why
checked_rows m p passes room why e h = wider (omega arith) (omega arith) (write_on_rows h)
checked_rows m p (PointCheck.refused r) room why e h = rw (point_write_same why r h) (wider (omega arith) (omega arith) (check_rows m p r e))

pub point_write_rows : (mb : List ℕ) (p : GivenPoint) (work room : ℕ) (why : Refused) → PointWrites mb p work room (PointWriteOutcome.refused why) →
    From 1 25 why
point_write_rows mb p work room why h =
    opens_rows PointWriteOutcome.refused point_write_same (λ m. PointWriteChecked m p (check_point m p) room) 25 why
    (λ m. checked_rows m p (check_point m p) room why refl) (omega arith) mb work h

-- No refusal has the number 0, which tells a C host that a call was accepted.
pub no_point_read_refusal_is_0 : (mb ref : List ℕ) (work room : ℕ) (why : Refused) → PointReads mb ref work room (PointReadOutcome.refused why) →
    number_of why ≡ 0 → ⊥
no_point_read_refusal_is_0 mb ref work room why h e = omega (arith, (point_read_rows mb ref work room why h).least)

pub no_point_write_refusal_is_0 : (mb : List ℕ) (p : GivenPoint) (work room : ℕ) (why : Refused) →
    PointWrites mb p work room (PointWriteOutcome.refused why) → number_of why ≡ 0 → ⊥
no_point_write_refusal_is_0 mb p work room why h e = omega (arith, (point_write_rows mb p work room why h).least)
