-- "Status 2B, 16 or 17 bytes. P of the first point holds the orientation and P of the last the side of road, in bits 7 and 6. R's negative flag must be 0" (W5):
-- what the bytes of a point along line have at each place, and that they are taken apart into that point again.
use Prim.Native.Nat.{ℕ, ◌+◌, ◌*◌, ◌-◌, ◌/◌, ◌%◌, ◌≤◌, ◌<◌}
use mathlib.Core.Path.{◌≡◌, refl, ap}
use mathlib.Core.List.{List}
use native.Mathlib.Omega.{arith}
use lib.ListN.{length, get_or}
use borrow.Author.Tests.{le-ltb, lt-leb, eq-eqb}
use Rattle.model.specs.Lines.{LineAttributes}
use Rattle.model.specs.Reference.{Offset, absent, byte, bytes2, bytes3, byte_p, byte_q, flag, offset_bytes, at2, at3, positive, negative, offset_at}
use Rattle.model.specs.PointAlong.{greatest_mark, PointAlong, point_status, shortest_point, longest_point, point_along_bytes, point_along_at, parsed, parse_point}
use Rattle.model.proofs.Every.{Every, also, Byte}
use Rattle.model.proofs.Bytes.{AttributesFit, PointFits, OffsetFits, attributes_back, byte_p_lem, bytes2_small, bytes3_small, offset_small}

-- Fields that fit their bits.
pub record AlongFits (a : PointAlong) : Type 0 where
  pub lon : a.lon < 16_777_216
  pub lat : a.lat < 16_777_216
  pub orientation : a.orientation ≤ greatest_mark
  pub point : PointFits a.point
  pub side : a.side ≤ greatest_mark
  pub arrives : AttributesFit a.arrives
  pub offset : OffsetFits a.offset

-- A P with a mark in bits 7 and 6: the mark, and the P without it.
mark_of : (mark : ℕ) (a : LineAttributes) → AttributesFit a → (mark * 64 + byte_p a) / 64 ≡ mark
mark_of mark a f = omega (arith, byte_p_lem a f)

unmarked : (mark : ℕ) (a : LineAttributes) → AttributesFit a → (mark * 64 + byte_p a) % 64 ≡ byte_p a
unmarked mark a f = omega (arith, byte_p_lem a f)

marked_small : (mark : ℕ) (a : LineAttributes) → AttributesFit a → mark ≤ greatest_mark → Byte (mark * 64 + byte_p a)
marked_small mark a f h = omega (arith, byte_p_lem a f)

two_back : (x : ℕ) → x < 65_536 → x / 256 % 256 * 256 + x % 256 ≡ x
two_back x h = omega arith

three_back : (x : ℕ) → x < 16_777_216 → x / 65_536 % 256 * 65_536 + (x / 256 % 256 * 256 + x % 256) ≡ x
three_back x h = omega arith

-- R: its sector, its positive flag, its negative flag and its size.
record BitsOfR (offset : Offset) (s r : ℕ) : Type 0 where
  sector : r % 32 ≡ s
  flagged : r / 64 % 2 ≡ length (offset_bytes offset)
  not_negative : r / 32 % 2 ≡ 0
  small : r < 128

bits_of_r : (offset : Offset) (s : ℕ) → s < 32 → BitsOfR offset s (flag offset 64 + s)
unfolding flag offset_bytes
bits_of_r absent s h = omega arith
bits_of_r (byte b) s h = omega arith

module _ (a : PointAlong) where
  pub point_status_lem : get_or (point_along_bytes a) 0 0 ≡ point_status
  unfolding point_along_bytes
  point_status_lem = refl

  first_p_is : get_or (point_along_bytes a) 7 0 ≡ a.orientation * 64 + byte_p a.point.leaves
  unfolding point_along_bytes bytes3 bytes2
  first_p_is = refl

  last_p_is : get_or (point_along_bytes a) 14 0 ≡ a.side * 64 + byte_p a.arrives
  unfolding point_along_bytes bytes3 bytes2
  last_p_is = refl

  r_is : get_or (point_along_bytes a) 15 0 ≡ flag a.offset 64 + a.arrives.sector
  unfolding point_along_bytes bytes3 bytes2
  r_is = refl

  pub point_size : length (point_along_bytes a) ≡ shortest_point + length (offset_bytes a.offset)
  unfolding point_along_bytes bytes3 bytes2
  point_size = omega arith

pub few_offsets : (o : Offset) → length (offset_bytes o) ≤ 1
unfolding offset_bytes
few_offsets absent = omega arith
few_offsets (byte b) = omega arith

-- An offset byte stands at place 16 where R flags it.
offset_back : (bs : List ℕ) (o : Offset) (r : ℕ) → r / 64 % 2 ≡ length (offset_bytes o) → get_or bs 16 0 ≡ get_or (offset_bytes o) 0 0 →
    offset_at (positive r) bs 16 ≡ o
unfolding offset_at positive offset_bytes
offset_back bs absent r f e = rw f
offset_back bs (byte b) r f e = rw (f, e)

module _ (a : PointAlong) (f : AlongFits a) where
  r_bits : BitsOfR a.offset a.arrives.sector (flag a.offset 64 + a.arrives.sector)
  r_bits = bits_of_r a.offset a.arrives.sector f.arrives.sector

  -- "In bits 7 and 6": what is left of them are FRC and FOW.
  pub orientation_in_bits : (get_or (point_along_bytes a) 7 0 / 64 ≡ a.orientation) × (get_or (point_along_bytes a) 7 0 % 64 ≡ byte_p a.point.leaves)
  orientation_in_bits =
      rw (first_p_is a) (mark_of a.orientation a.point.leaves f.point.leaves, unmarked a.orientation a.point.leaves f.point.leaves)

  pub side_in_bits : (get_or (point_along_bytes a) 14 0 / 64 ≡ a.side) × (get_or (point_along_bytes a) 14 0 % 64 ≡ byte_p a.arrives)
  side_in_bits = rw (last_p_is a) (mark_of a.side a.arrives f.arrives, unmarked a.side a.arrives f.arrives)

  -- "R's negative flag must be 0", and so is bit 7.
  pub r_in_bits : (get_or (point_along_bytes a) 15 0 / 32 % 2 ≡ 0) × (get_or (point_along_bytes a) 15 0 < 128)
  r_in_bits = rw (r_is a) (r_bits.not_negative, r_bits.small)

  -- "16 or 17 bytes", and each of them is a byte.
  pub point_length : (shortest_point ≤ length (point_along_bytes a)) × (length (point_along_bytes a) ≤ longest_point)
  point_length = omega (arith, point_size a, few_offsets a.offset)

  pub point_bytes_small : Every Byte (point_along_bytes a)
  unfolding point_along_bytes byte_q
  point_bytes_small =
      let first : Byte (a.orientation * 64 + byte_p a.point.leaves) = marked_small a.orientation a.point.leaves f.point.leaves f.orientation in
      let second : Byte (a.point.lowest * 32 + a.point.leaves.sector) = omega (arith, f.point.leaves.sector, f.point.lowest) in
      let last : Byte (a.side * 64 + byte_p a.arrives) = marked_small a.side a.arrives f.arrives f.side in
      let r : Byte (flag a.offset 64 + a.arrives.sector) = omega (arith, r_bits.small) in
      let end = also last (also r (offset_small a.offset f.offset)) in
      also {a = 0x2B} (omega arith)
      (bytes3_small a.lon
      (bytes3_small a.lat
      (also first (also second (also f.point.distance (bytes2_small a.point.next.lon (bytes2_small a.point.next.lat end)))))))

  q_sector : get_or (point_along_bytes a) 8 0 % 32 ≡ a.point.leaves.sector
  unfolding point_along_bytes bytes3 bytes2 byte_q
  q_sector = omega (arith, f.point.leaves.sector)

  q_lowest : get_or (point_along_bytes a) 8 0 / 32 ≡ a.point.lowest
  unfolding point_along_bytes bytes3 bytes2 byte_q
  q_lowest = omega (arith, f.point.leaves.sector)

  lon_at : at3 (point_along_bytes a) 1 ≡ a.lon
  unfolding point_along_bytes bytes3 bytes2 at3 at2
  lon_at = three_back a.lon f.lon

  lat_at : at3 (point_along_bytes a) 4 ≡ a.lat
  unfolding point_along_bytes bytes3 bytes2 at3 at2
  lat_at = three_back a.lat f.lat

  d_at : get_or (point_along_bytes a) 9 0 ≡ a.point.distance
  unfolding point_along_bytes bytes3 bytes2
  d_at = refl

  next_lon_at : at2 (point_along_bytes a) 10 ≡ a.point.next.lon
  unfolding point_along_bytes bytes3 bytes2 at2
  next_lon_at = two_back a.point.next.lon f.point.lon

  next_lat_at : at2 (point_along_bytes a) 12 ≡ a.point.next.lat
  unfolding point_along_bytes bytes3 bytes2 at2
  next_lat_at = two_back a.point.next.lat f.point.lat

  from_offset : get_or (point_along_bytes a) 16 0 ≡ get_or (offset_bytes a.offset) 0 0
  unfolding point_along_bytes bytes3 bytes2
  from_offset = refl

  fields : point_along_at (point_along_bytes a) ≡ a
  unfolding point_along_at
  fields =
      let bs = point_along_bytes a in
      let r : get_or bs 15 0 % 32 ≡ a.arrives.sector = rw (r_is a) r_bits.sector in
      let flagged : get_or bs 15 0 / 64 % 2 ≡ length (offset_bytes a.offset) = rw (r_is a) r_bits.flagged in
      λ t.
      record {
        lon = lon_at t;
        lat = lat_at t;
        orientation = orientation_in_bits.0 t;
        point = record {
          leaves = attributes_back a.point.leaves (get_or bs 7 0 % 64) (get_or bs 8 0) f.point.leaves orientation_in_bits.1 q_sector t;
          lowest = q_lowest t;
          distance = d_at t;
          next = record { lon = next_lon_at t; lat = next_lat_at t };
        };
        side = side_in_bits.0 t;
        arrives = attributes_back a.arrives (get_or bs 14 0 % 64) (get_or bs 15 0) f.arrives side_in_bits.1 r t;
        offset = offset_back bs a.offset (get_or bs 15 0) flagged from_offset t;
      }

  pub point_parse_back : parse_point (point_along_bytes a) ≡ parsed a
  unfolding parse_point negative
  point_parse_back =
      let bs = point_along_bytes a in
      let counted : length bs - shortest_point ≡ get_or bs 15 0 / 64 % 2 = omega (arith, point_size a, ap (λ (r : ℕ). r / 64 % 2) (r_is a), r_bits.flagged) in
      rw
      (le-ltb (length bs) shortest_point point_length.0, le-ltb longest_point (length bs) point_length.1, point_status_lem a, lt-leb 128 (get_or bs 15 0) r_in_bits.1, r_in_bits.0, eq-eqb (length bs - shortest_point) (get_or bs 15 0 / 64 % 2) counted, fields)
