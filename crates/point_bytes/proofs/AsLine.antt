-- A point's bytes are those of the line reference with the same points, leg and offset, with three marks added.
use Prim.Native.Nat.{ℕ, ◌+◌, ◌*◌, ◌-◌, ◌/◌, ◌%◌, ◌≤◌, ◌<◌}
use mathlib.Core.Path.{◌≡◌, refl, sym, ap, ◌∙◌}
use mathlib.Core.Logic.{◌≢◌}
use mathlib.Core.Bool.{Bool, false}
use mathlib.Core.List.{List, append-nil}
use native.Mathlib.Omega.{arith}
use lib.ListN.{length, get_or, set, drop, length-set, get_or-append}
use lib.Seq.{get_or-set_same, get_or-set_other, set-append_left}
use borrow.Author.Tests.{lt-leb, eq-eqb}
use Rattle.model.specs.Reference.{Offset, status_byte, shortest_reference, longest_reference, byte_p, byte_r, bytes_of, point_bytes, bytes2, bytes3, flag, offset_bytes, at2, at3, point_at, points_at, positive, negative, offset_at, reference_at, spare_bits, flags}
use Rattle.model.specs.PointAlong.{PointAlong, point_status, shortest_point, point_along_bytes, point_along_at, line_reference}
use Rattle.model.specs.Work.{placed}
use Rattle.model.proofs.PointShape.{Shaped}
use Rattle.references.specs.Form.{SoundBytes}
use Rattle.references.proofs.Form.{after_status}
use Rattle.point_bytes.specs.PointForm.{with_marks, without_marks}

r_same : (o : Offset) (s : ℕ) → flag o 64 + 0 + s ≡ flag o 64 + s
r_same o s = omega arith

pub as_line : (a : PointAlong) → with_marks a.orientation a.side (bytes_of (line_reference a)) ≡ point_along_bytes a
unfolding with_marks bytes_of line_reference point_along_bytes point_bytes bytes3 bytes2 byte_r flag offset_bytes
as_line a = rw (append-nil (offset_bytes a.offset), r_same a.offset a.arrives.sector) refl

-- ---- the other way: without the marks the bytes are that line reference

pub without_length : (bs : List ℕ) → length (without_marks bs) ≡ length bs
unfolding without_marks
without_length bs = simp length-set refl

module _ (bs : List ℕ) (s : Shaped bs) where
  abbrev line : List ℕ
  line = without_marks bs

  abbrev status_put : List ℕ
  status_put = set bs 0 status_byte

  abbrev first_put : List ℕ
  first_put = set status_put 7 (get_or bs 7 0 % 64)

  same_length : length line ≡ length bs
  same_length = without_length bs

  line_status : get_or line 0 0 ≡ status_byte
  unfolding without_marks
  line_status =
      get_or-set_other first_put 14 0 (get_or bs 14 0 % 64) 0 (omega arith)
      ∙ get_or-set_other status_put 7 0 (get_or bs 7 0 % 64) 0 (omega arith)
      ∙ get_or-set_same bs 0 status_byte 0 (omega (arith, s.long))

  first_p : get_or line 7 0 ≡ get_or bs 7 0 % 64
  unfolding without_marks
  first_p =
      get_or-set_other first_put 14 7 (get_or bs 14 0 % 64) 0 (omega arith)
      ∙ get_or-set_same status_put 7 (get_or bs 7 0 % 64) 0 (simp length-set (omega (arith, s.long)))

  last_p : get_or line 14 0 ≡ get_or bs 14 0 % 64
  unfolding without_marks
  last_p = get_or-set_same first_put 14 (get_or bs 14 0 % 64) 0 (simp length-set (omega (arith, s.long)))

  other : (i : ℕ) → i ≢ 0 → i ≢ 7 → i ≢ 14 → get_or line i 0 ≡ get_or bs i 0
  unfolding without_marks
  other i a b c =
      get_or-set_other first_put 14 i (get_or bs 14 0 % 64) 0 c
      ∙ get_or-set_other status_put 7 i (get_or bs 7 0 % 64) 0 b
      ∙ get_or-set_other bs 0 i status_byte 0 a

  last_r : get_or line 15 0 ≡ get_or bs 15 0
  last_r = other 15 (omega arith) (omega arith) (omega arith)

  other_two : (i : ℕ) → i ≢ 0 → i ≢ 7 → i ≢ 14 → i ≢ 6 → i ≢ 13 → at2 line i ≡ at2 bs i
  unfolding at2
  other_two i a b c d e = rw (other i a b c, other (i + 1) (omega arith) (omega arith) (omega arith)) refl

  lon_same : at3 line 1 ≡ at3 bs 1
  unfolding at3
  lon_same = rw (other 1 (omega arith) (omega arith) (omega arith), other_two 2 (omega arith) (omega arith) (omega arith) (omega arith) (omega arith)) refl

  lat_same : at3 line 4 ≡ at3 bs 4
  unfolding at3
  lat_same = rw (other 4 (omega arith) (omega arith) (omega arith), other_two 5 (omega arith) (omega arith) (omega arith) (omega arith) (omega arith)) refl

  offset_same : (flagged : Bool) → offset_at flagged line 16 ≡ offset_at flagged bs 16
  unfolding offset_at
  offset_same flagged = rw (other 16 (omega arith) (omega arith) (omega arith)) refl

  pub reference_is : reference_at line 1 ≡ line_reference (point_along_at bs)
  unfolding reference_at points_at point_at line_reference point_along_at negative offset_at
  reference_is =
      rw
      (first_p, last_p, last_r, other 8 (omega arith) (omega arith) (omega arith), other 9 (omega arith) (omega arith) (omega arith), lon_same, lat_same, other_two 10 (omega arith) (omega arith) (omega arith) (omega arith) (omega arith), other_two 12 (omega arith) (omega arith) (omega arith) (omega arith) (omega arith), offset_same (positive (get_or bs 15 0)), s.plain)
      refl

  no_bits : spare_bits line 7 1 ≡ false
  unfolding spare_bits
  no_bits =
      let a : get_or line 7 0 < 64 = omega (arith, first_p) in
      let b : get_or line 14 0 < 64 = omega (arith, last_p) in
      let c : get_or line 15 0 < 128 = omega (arith, last_r, s.spare) in
      rw (lt-leb 64 _ a, lt-leb 64 _ b, lt-leb 128 _ c)

  flags_are : flags (get_or line 15 0) ≡ length bs - shortest_point
  unfolding flags
  flags_are = rw last_r (omega (arith, s.plain, s.counted))

  pub sound_line : SoundBytes line 1
  sound_line =
      let n = length line in
      let long : shortest_reference ≤ n = omega (arith, same_length, s.long) in
      let short : n ≤ longest_reference = omega (arith, same_length, s.short) in
      let few : (n - shortest_reference) % 7 ≤ 2 = omega (arith, same_length, s.long, s.short) in
      let one : (n - shortest_reference) / 7 + 1 ≡ 1 = omega (arith, same_length, s.long, s.short) in
      let counted : (n - shortest_reference) % 7 ≡ flags (get_or line 15 0) = omega (arith, same_length, s.long, s.short, flags_are) in
      record {
        parses = after_status line long short few line_status ∙ rw (one, no_bits, eq-eqb _ _ counted);
        some = omega arith;
        few = omega arith;
        sized = omega (arith, same_length, s.long, flags_are);
      }

-- ---- three bytes put over a list that stands first in a buffer are put over the list

over_three : (bs l : List ℕ) (x y z : ℕ) → shortest_point ≤ length bs → set (set (set (placed bs l) 0 x) 7 y) 14 z ≡ placed (set (set (set bs 0 x) 7 y) 14 z) l
unfolding placed
over_three bs l x y z long =
    let rest = drop (length bs) l in
    let one = set bs 0 x in
    let two = set one 7 y in
    let size : length (set two 14 z) ≡ length bs = simp length-set refl in
    ap (λ (k : List ℕ). set (set k 7 y) 14 z) (set-append_left bs rest 0 x (omega (arith, long)))
    ∙ ap (λ (k : List ℕ). set k 14 z) (set-append_left one rest 7 y (simp length-set (omega (arith, long))))
    ∙ set-append_left two rest 14 z (simp length-set (omega (arith, long)))
    ∙ rw size refl

-- The bytes copied, and the marks taken off the copy.
pub put_over : (bs l : List ℕ) → shortest_point ≤ length bs →
    set (set (set (placed bs l) 0 status_byte) 7 (get_or bs 7 0 % 64)) 14 (get_or bs 14 0 % 64) ≡ placed (without_marks bs) l
unfolding without_marks
put_over bs l long = over_three bs l status_byte (get_or bs 7 0 % 64) (get_or bs 14 0 % 64) long

-- ---- the marks put on a line reference that stands first in a buffer

pub with_length : (orientation side : ℕ) (bs : List ℕ) → length (with_marks orientation side bs) ≡ length bs
unfolding with_marks
with_length orientation side bs = simp length-set refl

pub line_size : (a : PointAlong) → length (bytes_of (line_reference a)) ≡ length (point_along_bytes a)
line_size a = sym (with_length a.orientation a.side (bytes_of (line_reference a))) ∙ ap (λ (l : List ℕ). length l) (as_line a)

-- Each P stands at its place.
pub first_p_at : (a : PointAlong) → get_or (bytes_of (line_reference a)) 7 0 ≡ byte_p a.point.leaves
unfolding bytes_of line_reference point_bytes bytes3 bytes2
first_p_at a = refl

pub last_p_at : (a : PointAlong) → get_or (bytes_of (line_reference a)) 14 0 ≡ byte_p a.arrives
unfolding bytes_of line_reference point_bytes bytes3 bytes2
last_p_at a = refl

pub placed_at : (bs l : List ℕ) (i : ℕ) → i < length bs → get_or (placed bs l) i 0 ≡ get_or bs i 0
unfolding placed
placed_at bs l i h = get_or-append bs (drop (length bs) l) 0 i h

pub marks_over : (orientation side : ℕ) (bs l : List ℕ) → shortest_point ≤ length bs →
    with_marks orientation side (placed bs l) ≡ placed (with_marks orientation side bs) l
unfolding with_marks
marks_over orientation side bs l long =
    rw (placed_at bs l 7 (omega (arith, long)), placed_at bs l 14 (omega (arith, long)))
    (over_three bs l point_status (orientation * 64 + get_or bs 7 0) (side * 64 + get_or bs 14 0) long)
