-- "The user gives a line, an offset below its length, orientation and side", "10 is given if their differences do not fit 16 bits or the line is not the leg's
-- only reading", "25 (after 9) orientation or side over 3" (W5): which refusal a point gets that a user gives, and that each outcome is the only one.
use Prim.Native.Nat.{ℕ, ◌≤◌, ◌<◌}
use mathlib.Core.Path.{◌≡◌, refl}
use mathlib.Core.Bool.{Bool, true, false, cond, ◌||◌}
use mathlib.Core.List.{List}
use native.Mathlib.Omega.{arith}
use lib.ListN.{length}
use lib.Dec.{ltb, leb}
use borrow.Author.Tests.{lt-ltb, le-ltb, lt-leb, le-leb, leb-false, ltb-false}
use Rattle.model.specs.Refusal.{Refused, row}
use Rattle.model.specs.Map.{Map, whole, decode}
use Rattle.model.specs.Difference.{DifferencesFit}
use Rattle.model.specs.Lines.{line_at, node_at}
use Rattle.model.specs.Reading.{Only}
use Rattle.model.specs.Choice.{from_node, to_node, leg_of, Good}
use Rattle.model.specs.PointAlong.{greatest_mark, GivenPoint, own_leg, given_bytes, PointWriteOutcome, written, PointWriteOn, PointCheck, passes, check_point, PointWriteChecked, PointWrites}
use Rattle.model.proofs.Tests.{neither}
use Rattle.model.proofs.Opened.{opens_once, opened}

-- ---- one outcome at most

module _ {m : Map} {p : GivenPoint} {room : ℕ} where
  pub point_write_same : {o o' : PointWriteOutcome} → PointWriteOn m p room o → PointWriteOn m p room o' → o ≡ o'
  point_write_same (PointWriteOn.not_good n) (PointWriteOn.not_good n') = refl
  point_write_same (PointWriteOn.not_good n) (PointWriteOn.no_room g h) = absurd (n g)
  point_write_same (PointWriteOn.not_good n) (PointWriteOn.accepted g h) = absurd (n g)
  point_write_same (PointWriteOn.no_room g h) (PointWriteOn.not_good n) = absurd (n g)
  point_write_same (PointWriteOn.no_room g h) (PointWriteOn.no_room g' h') = refl
  point_write_same (PointWriteOn.no_room g h) (PointWriteOn.accepted g' h') = absurd (omega arith)
  point_write_same (PointWriteOn.accepted g h) (PointWriteOn.not_good n) = absurd (n g)
  point_write_same (PointWriteOn.accepted g h) (PointWriteOn.no_room g' h') = absurd (omega arith)
  point_write_same (PointWriteOn.accepted g h) (PointWriteOn.accepted g' h') = refl

module _ (mb : List ℕ) (p : GivenPoint) (room : ℕ) {o o' : PointWriteOutcome} where
  checked_same : (m : Map) (a : PointCheck) → PointWriteChecked m p a room o → PointWriteChecked m p a room o' → o ≡ o'
  checked_same m passes h h' = point_write_same h h'
  checked_same m (PointCheck.refused r) h h' = cc

  pub point_writes_once : (work : ℕ) → PointWrites mb p work room o → PointWrites mb p work room o' → o ≡ o'
  point_writes_once work h h' =
      opens_once PointWriteOutcome.refused (λ m. PointWriteChecked m p (check_point m p) room) (λ m. checked_same m (check_point m p)) mb work h h'

-- ---- as given: 7, 9, 25

module _ (m : Map) (p : GivenPoint) where
  pub no_such_line : length m.lines ≤ p.line → check_point m p ≡ PointCheck.refused (row 7)
  unfolding check_point
  no_such_line h = rw (le-leb _ _ h, check_point)

  module _ (known : p.line < length m.lines) where
    pub offset_outside : (line_at m p.line).length ≤ p.offset → check_point m p ≡ PointCheck.refused (row 9)
    unfolding check_point
    offset_outside h = rw (lt-leb _ _ known, le-leb _ _ h, check_point)

    module _ (inside : p.offset < (line_at m p.line).length) where
      pub orientation_over : greatest_mark < p.orientation → check_point m p ≡ PointCheck.refused (row 25)
      unfolding check_point
      orientation_over h = rw (lt-leb _ _ known, lt-leb _ _ inside, lt-ltb _ _ h, check_point)

      pub side_over : p.orientation ≤ greatest_mark → greatest_mark < p.side → check_point m p ≡ PointCheck.refused (row 25)
      unfolding check_point
      side_over o h = rw (lt-leb _ _ known, lt-leb _ _ inside, le-ltb greatest_mark p.orientation o, lt-ltb _ _ h, check_point)

      pub point_passes : p.orientation ≤ greatest_mark → p.side ≤ greatest_mark → check_point m p ≡ passes
      unfolding check_point
      point_passes o h = rw (lt-leb _ _ known, lt-leb _ _ inside, le-ltb greatest_mark p.orientation o, le-ltb greatest_mark p.side h, check_point)

-- A point that is not refused as given.
pub record Taken (m : Map) (p : GivenPoint) : Type 0 where
  pub known : p.line < length m.lines
  pub inside : p.offset < (line_at m p.line).length
  pub orientation : p.orientation ≤ greatest_mark
  pub side : p.side ≤ greatest_mark

check_passed : (t : Bool) (r : Refused) {rest : PointCheck} → cond t (PointCheck.refused r) rest ≡ passes → (t ≡ false) × (rest ≡ passes)
check_passed true r e = absurd (let z : ◌≡◌ {A = ℕ} 0 1 = cc in omega arith)
check_passed false r e = (refl, e)

pub taken : (m : Map) (p : GivenPoint) → check_point m p ≡ passes → Taken m p
unfolding check_point
taken m p e =
    let r₇ = check_passed (leb (length m.lines) p.line) (row 7) e in
    let r₉ = check_passed (leb (line_at m p.line).length p.offset) (row 9) r₇.1 in
    let r₂₅ = check_passed (ltb greatest_mark p.orientation || ltb greatest_mark p.side) (row 25) r₉.1 in
    let marks = neither (ltb greatest_mark p.orientation) (ltb greatest_mark p.side) r₂₅.0 in
    record {
      known = leb-false _ _ r₇.0;
      inside = leb-false _ _ r₉.0;
      orientation = ltb-false _ _ marks.0;
      side = ltb-false _ _ marks.1;
    }

-- ---- 10

module _ (m : Map) (p : GivenPoint) (room : ℕ) where
  pub differences_apart : (DifferencesFit (node_at m (from_node m (own_leg p))) (node_at m (to_node m (own_leg p))) → ⊥) →
      PointWriteOn m p room (PointWriteOutcome.refused (row 10))
  differences_apart h = PointWriteOn.not_good λ g. h g.fit

  pub not_only_reading : (Only m (leg_of m true (own_leg p)) (own_leg p) → ⊥) → PointWriteOn m p room (PointWriteOutcome.refused (row 10))
  not_only_reading h = PointWriteOn.not_good λ g. h g.only

  -- And for nothing else.
  pub not_ten : DifferencesFit (node_at m (from_node m (own_leg p))) (node_at m (to_node m (own_leg p))) → Only m (leg_of m true (own_leg p)) (own_leg p) →
      PointWriteOn m p room (PointWriteOutcome.refused (row 10)) → ⊥
  not_ten fit only h = ten_bad refl h (record { fit = fit; only = only })
    where
      ten_bad : {o : PointWriteOutcome} → o ≡ PointWriteOutcome.refused (row 10) → PointWriteOn m p room o → Good m true (own_leg p) → ⊥
      ten_bad e (PointWriteOn.not_good n) g = n g
      ten_bad e (PointWriteOn.no_room g' h') g = let z : ◌≡◌ {A = ℕ} 11 10 = cc in omega arith
      ten_bad e (PointWriteOn.accepted g' h') g = let z : ◌≡◌ {A = ℕ} 0 1 = cc in omega arith

-- ---- what was written

-- The writer wrote these bytes on this map.
pub record PointWritten (m : Map) (mb : List ℕ) (p : GivenPoint) (bytes : List ℕ) : Type 0 where
  pub decodes : decode mb ≡ whole m
  pub taken_so : Taken m p
  pub good_line : Good m true (own_leg p)
  pub same : bytes ≡ given_bytes m p

not_refused : {bytes : List ℕ} {r : Refused} → written bytes ≡ PointWriteOutcome.refused r → ⊥
not_refused e = let z : ◌≡◌ {A = ℕ} 0 1 = cc in omega arith

written_on : {m : Map} {p : GivenPoint} {room : ℕ} {bytes : List ℕ} → PointWriteOn m p room (written bytes) →
    Good m true (own_leg p) × (bytes ≡ given_bytes m p)
written_on (PointWriteOn.accepted g h) = (g, refl)

module _ (mb bytes : List ℕ) (p : GivenPoint) (room : ℕ) where
  written_checked : (m : Map) (a : PointCheck) → decode mb ≡ whole m → check_point m p ≡ a → PointWriteChecked m p a room (written bytes) →
      PointWritten m mb p bytes
  written_checked m passes d e h =
      let on = written_on h in
      record { decodes = d; taken_so = taken m p e; good_line = on.0; same = on.1 }
  written_checked m (PointCheck.refused r) d e h = absurd (not_refused h)

  pub point_written_of : (work : ℕ) → PointWrites mb p work room (written bytes) → (m : Map) × PointWritten m mb p bytes
  point_written_of work h =
      let g = opened PointWriteOutcome.refused (λ m. PointWriteChecked m p (check_point m p) room) mb (λ r. not_refused) work h in
      (g.0, written_checked g.0 _ g.1 refl g.2)
