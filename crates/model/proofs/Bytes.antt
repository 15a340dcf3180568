-- The bytes of a reference whose fields fit are taken apart into that reference.
use Prim.Native.Nat.{ℕ, suc, ◌+◌, ◌*◌, ◌-◌, ◌/◌, ◌%◌, ◌≤◌, ◌<◌}
use mathlib.Core.Path.{◌≡◌, refl, sym, ◌∙◌, ap, ap₂}
use mathlib.Core.Bool.{false}
use mathlib.Core.List.{List, [], ◌∷◌, ◌++◌, append-nil}
use native.Mathlib.Omega.{arith}
use lib.ListN.{length, get_or, drop, length-append}
use lib.Dec.{eqb}
use lib.Seq.{get_or-drop, drop-drop}
use borrow.Author.Tests.{le-ltb, lt-leb, eq-eqb}
use Rattle.model.specs.Lines.{LineAttributes}
use Rattle.model.specs.Reference.{Offset, absent, byte, Point, Reference, status_byte, shortest_reference, longest_reference, bytes2, bytes3, byte_p, byte_q, flag, byte_r, point_bytes, offset_bytes, bytes_of, at2, at3, attributes, point_at, points_at, positive, negative, offset_at, point_count, reference_at, spare_bits, flags, parsed, parse}
use Rattle.model.proofs.Every.{Every, none, also, Byte, every_append}

-- Fields that fit their bits.
pub record AttributesFit (a : LineAttributes) : Type 0 where
  pub frc : a.frc ≤ 7
  pub fow : a.fow ≤ 7
  pub sector : a.sector < 32

pub record PointFits (p : Point) : Type 0 where
  pub leaves : AttributesFit p.leaves
  pub lowest : p.lowest ≤ 7
  pub distance : Byte p.distance
  pub lon : p.next.lon < 65_536
  pub lat : p.next.lat < 65_536

abbrev pub OffsetFits : Offset → Type 0
OffsetFits absent = Unit {0}
OffsetFits (byte b) = Byte b

pub record Fitting (r : Reference) : Type 0 where
  pub lon : r.lon < 16_777_216
  pub lat : r.lat < 16_777_216
  pub points : Every PointFits r.points
  pub some : 1 ≤ length r.points
  pub few : length r.points ≤ 64
  pub arrives : AttributesFit r.arrives
  pub pos : OffsetFits r.pos
  pub neg : OffsetFits r.neg

-- What stands at a place, by what stands from an earlier place on.
module _ (bs : List ℕ) (i : ℕ) (rest : List ℕ) (from : drop i bs ≡ rest) where
  at_1 : (j k : ℕ) → j ≡ i + k → get_or bs j 0 ≡ get_or rest k 0
  at_1 j k e = rw (e, ← from) (sym (get_or-drop i bs k 0))

  at_2 : (j k x : ℕ) → j ≡ i + k → x < 65_536 → get_or rest k 0 ≡ x / 256 % 256 → get_or rest (k + 1) 0 ≡ x % 256 → at2 bs j ≡ x
  unfolding at2
  at_2 j k x e small high low = omega (arith, at_1 j k e, at_1 (j + 1) (k + 1) (omega arith))

  at_3 : (j k x : ℕ) → j ≡ i + k → x < 16_777_216 → get_or rest k 0 ≡ x / 65_536 % 256 → get_or rest (k + 1) 0 ≡ x / 256 % 256 →
      get_or rest (k + 2) 0 ≡ x % 256 → at3 bs j ≡ x
  unfolding at3 at2
  at_3 j k x e small high mid low =
      omega (arith, at_1 j k e, at_1 (j + 1) (k + 1) (omega arith), at_1 (j + 1 + 1) (k + 2) (omega arith))

-- A line's attributes by its P and a byte whose low bits are its sector.
pub attributes_back : (a : LineAttributes) (p s : ℕ) → AttributesFit a → p ≡ byte_p a → s % 32 ≡ a.sector → attributes p s ≡ a
unfolding attributes byte_p
attributes_back a p s f e same =
    let frc : p / 8 ≡ a.frc = omega arith in
    let fow : p % 8 ≡ a.fow = omega arith in
    λ t. record { frc = frc t; fow = fow t; sector = same t }

pub byte_p_lem : (a : LineAttributes) → AttributesFit a → byte_p a < 64
unfolding byte_p
byte_p_lem a f = omega arith

module _ (p : Point) (ps : List Point) (bs : List ℕ) (i : ℕ) (rest : List ℕ) (e : drop i bs ≡ point_bytes (p ∷ ps) rest) where
  p_at : get_or bs i 0 ≡ byte_p p.leaves
  unfolding point_bytes
  p_at = at_1 bs i _ e i 0 (omega arith)

  point_back : PointFits p → point_at bs i ≡ p
  unfolding point_at point_bytes bytes2 byte_q
  point_back f =
      let q = at_1 bs i _ e (i + 1) 1 refl in
      let lowest : get_or bs (i + 1) 0 / 32 ≡ p.lowest = omega (arith, q, f.leaves.sector) in
      let sector : get_or bs (i + 1) 0 % 32 ≡ p.leaves.sector = omega (arith, q, f.leaves.sector) in
      λ t.
      record {
        leaves = attributes_back p.leaves (get_or bs i 0) (get_or bs (i + 1) 0) f.leaves p_at sector t;
        lowest = lowest t;
        distance = at_1 bs i _ e (i + 2) 2 refl t;
        next = record {
          lon = at_2 bs i _ e (i + 3) 3 p.next.lon refl f.lon refl refl t;
          lat = at_2 bs i _ e (i + 5) 5 p.next.lat refl f.lat refl refl t;
        };
      }

  after_point : drop (i + 7) bs ≡ point_bytes ps rest
  unfolding point_bytes bytes2
  after_point = sym (drop-drop 7 i bs) ∙ ap (drop 7) e

points_back : (ps : List Point) (bs : List ℕ) (i : ℕ) (rest : List ℕ) → Every PointFits ps → drop i bs ≡ point_bytes ps rest →
    points_at bs i (length ps) ≡ ps
unfolding points_at
points_back [] bs i rest f e = refl
points_back (p ∷ ps) bs i rest (also f fs) e =
    ap₂ ◌∷◌ (point_back p ps bs i rest e f) (points_back ps bs (i + 7) rest fs (after_point p ps bs i rest e))

points_after : (ps : List Point) (bs : List ℕ) (i : ℕ) (rest : List ℕ) → drop i bs ≡ point_bytes ps rest → drop (i + 7 * length ps) bs ≡ rest
unfolding point_bytes
points_after [] bs i rest e = let same : i + 7 * 0 ≡ i = omega arith in rw same e
points_after (p ∷ ps) bs i rest e =
    let same : i + 7 * suc (length ps) ≡ i + 7 + 7 * length ps = omega arith in
    rw same (points_after ps bs (i + 7) rest (after_point p ps bs i rest e))

points_length : (ps : List Point) (rest : List ℕ) → length (point_bytes ps rest) ≡ 7 * length ps + length rest
unfolding point_bytes bytes2
points_length [] rest = omega arith
points_length (p ∷ ps) rest = omega (arith, points_length ps rest)

-- No spare bit is set, in the points and in the last P and R after them.
points_bits : (ps : List Point) (bs : List ℕ) (i : ℕ) (p r : ℕ) (rest : List ℕ) → Every PointFits ps → p < 64 → r < 128 →
    drop i bs ≡ point_bytes ps (p ∷ r ∷ rest) → spare_bits bs i (length ps) ≡ false
unfolding spare_bits point_bytes
points_bits [] bs i p r rest none small small' e =
    let first : get_or bs i 0 < 64 = omega (arith, at_1 bs i _ e i 0 (omega arith)) in
    let second : get_or bs (i + 1) 0 < 128 = omega (arith, at_1 bs i _ e (i + 1) 1 refl) in
    rw (lt-leb 64 _ first, lt-leb 128 _ second)
points_bits (x ∷ ps) bs i p r rest (also f fs) small small' e =
    let first : get_or bs i 0 < 64 = omega (arith, p_at x ps bs i _ e, byte_p_lem x.leaves f.leaves) in
    rw (lt-leb 64 _ first, points_bits ps bs (i + 7) p r rest fs small small' (after_point x ps bs i _ e))

-- Byte R: its flags, its sector, and its size.
record Bits (pos neg : Offset) (s r : ℕ) : Type 0 where
  sector : r % 32 ≡ s
  pos_flag : r / 64 % 2 ≡ length (offset_bytes pos)
  neg_flag : r / 32 % 2 ≡ length (offset_bytes neg)
  small : r < 128

bits : (pos neg : Offset) (s : ℕ) → s < 32 → Bits pos neg s (flag pos 64 + flag neg 32 + s)
unfolding flag offset_bytes
bits absent absent s h = omega arith
bits absent (byte b) s h = omega arith
bits (byte a) absent s h = omega arith
bits (byte a) (byte b) s h = omega arith

-- An offset is read where its flag is set.
offset_back : (o : Offset) (bs : List ℕ) (i flagged : ℕ) (rest : List ℕ) → flagged ≡ length (offset_bytes o) → drop i bs ≡ offset_bytes o ++ rest →
    offset_at (eqb flagged 1) bs i ≡ o
unfolding offset_at offset_bytes
offset_back absent bs i flagged rest f e = rw f
offset_back (byte b) bs i flagged rest f e = rw f (ap byte (at_1 bs i _ e i 0 (omega arith)))

offset_after : (o : Offset) (bs : List ℕ) (i flagged : ℕ) (rest : List ℕ) → flagged ≡ length (offset_bytes o) → drop i bs ≡ offset_bytes o ++ rest →
    drop (i + flagged) bs ≡ rest
unfolding offset_bytes
offset_after absent bs i flagged rest f e = let same : i + flagged ≡ i = omega arith in rw same e
offset_after (byte b) bs i flagged rest f e = rw f (sym (drop-drop 1 i bs) ∙ ap (drop 1) e)

offset_few : (o : Offset) → length (offset_bytes o) ≤ 1
unfolding offset_bytes
offset_few absent = omega arith
offset_few (byte b) = omega arith

-- All of these are bytes.
digit : (x : ℕ) → Byte (x % 256)
digit x = omega arith

pub bytes2_small : (x : ℕ) {rest : List ℕ} → Every Byte rest → Every Byte (bytes2 x rest)
unfolding bytes2
bytes2_small x e = also (digit _) (also (digit _) e)

pub bytes3_small : (x : ℕ) {rest : List ℕ} → Every Byte rest → Every Byte (bytes3 x rest)
unfolding bytes3
bytes3_small x e = also (digit _) (bytes2_small x e)

points_small : (ps : List Point) {rest : List ℕ} → Every PointFits ps → Every Byte rest → Every Byte (point_bytes ps rest)
unfolding point_bytes byte_q
points_small [] none e = e
points_small (p ∷ ps) (also f fs) e =
    let first : Byte (byte_p p.leaves) = omega (arith, byte_p_lem p.leaves f.leaves) in
    let second : Byte (p.lowest * 32 + p.leaves.sector) = omega (arith, f.leaves.sector, f.lowest) in
    also first (also second (also f.distance (bytes2_small p.next.lon (bytes2_small p.next.lat (points_small ps fs e)))))

pub offset_small : (o : Offset) → OffsetFits o → Every Byte (offset_bytes o)
unfolding offset_bytes
offset_small absent f = none
offset_small (byte b) f = also f none

-- How many bytes there are, and that they count the points, whatever stands in the fields.
module _ (r : Reference) where
  abbrev pub offsets : List ℕ
  offsets = offset_bytes r.pos ++ offset_bytes r.neg

  pub offsets_length : length offsets ≡ length (offset_bytes r.pos) + length (offset_bytes r.neg)
  offsets_length = length-append (offset_bytes r.pos) (offset_bytes r.neg)

  pub bytes_length : length (bytes_of r) ≡ 9 + 7 * length r.points + length offsets
  unfolding bytes_of bytes3 bytes2
  bytes_length = omega (arith, points_length r.points (byte_p r.arrives ∷ byte_r r ∷ offsets))

  few_offsets : length offsets ≤ 2
  few_offsets = omega (arith, offsets_length, offset_few r.pos, offset_few r.neg)

  pub count : point_count (bytes_of r) ≡ length r.points
  unfolding point_count
  count = omega (arith, bytes_length, few_offsets)

module _ (r : Reference) (f : Fitting r) where
  r_bits : Bits r.pos r.neg r.arrives.sector (byte_r r)
  unfolding byte_r
  r_bits = bits r.pos r.neg r.arrives.sector f.arrives.sector

  pub bytes_small : Every Byte (bytes_of r)
  unfolding bytes_of
  bytes_small =
      let p : Byte (byte_p r.arrives) = omega (arith, byte_p_lem r.arrives f.arrives) in
      let last : Byte (byte_r r) = omega (arith, r_bits.small) in
      let offsets = every_append (offset_small r.pos f.pos) (offset_small r.neg f.neg) in
      also {a = 0x0B} (omega arith)
      (bytes3_small r.lon (bytes3_small r.lat (points_small r.points f.points (also p (also last offsets)))))

  from_points : drop 7 (bytes_of r) ≡ point_bytes r.points (byte_p r.arrives ∷ byte_r r ∷ offsets r)
  unfolding bytes_of bytes3 bytes2
  from_points = refl

  from_last : drop (7 + 7 * length r.points) (bytes_of r) ≡ byte_p r.arrives ∷ byte_r r ∷ offsets r
  from_last = points_after r.points (bytes_of r) 7 _ from_points

  from_offsets : drop (9 + 7 * length r.points) (bytes_of r) ≡ offsets r
  from_offsets =
      let n = 7 + 7 * length r.points in
      let same : 9 + 7 * length r.points ≡ n + 2 = omega arith in
      rw same (sym (drop-drop 2 n (bytes_of r)) ∙ ap (drop 2) from_last)

  last_p : get_or (bytes_of r) (7 + 7 * length r.points) 0 ≡ byte_p r.arrives
  last_p = at_1 (bytes_of r) (7 + 7 * length r.points) _ from_last (7 + 7 * length r.points) 0 (omega arith)

  last_r : get_or (bytes_of r) (8 + 7 * length r.points) 0 ≡ byte_r r
  last_r = at_1 (bytes_of r) (7 + 7 * length r.points) _ from_last (8 + 7 * length r.points) 1 (omega arith)

  lon_at : at3 (bytes_of r) 1 ≡ r.lon
  unfolding bytes_of bytes3 bytes2
  lon_at = at_3 (bytes_of r) 0 (bytes_of r) refl 1 1 r.lon refl f.lon refl refl refl

  lat_at : at3 (bytes_of r) 4 ≡ r.lat
  unfolding bytes_of bytes3 bytes2
  lat_at = at_3 (bytes_of r) 0 (bytes_of r) refl 4 4 r.lat refl f.lat refl refl refl

  fields : reference_at (bytes_of r) (length r.points) ≡ r
  unfolding reference_at positive negative
  fields =
      let bs = bytes_of r in
      let n = 9 + 7 * length r.points in
      let x = byte_r r in
      let from-neg : drop (n + x / 64 % 2) bs ≡ offset_bytes r.neg ++ [] =
      offset_after r.pos bs n (x / 64 % 2) _ r_bits.pos_flag from_offsets ∙ sym (append-nil _) in
      rw (last_r, last_p) λ t.
      record {
        lon = lon_at t;
        lat = lat_at t;
        points = points_back r.points bs 7 _ f.points from_points t;
        arrives = attributes_back r.arrives (byte_p r.arrives) x f.arrives refl r_bits.sector t;
        pos = offset_back r.pos bs n (x / 64 % 2) _ r_bits.pos_flag from_offsets t;
        neg = offset_back r.neg bs (n + x / 64 % 2) (x / 32 % 2) [] r_bits.neg_flag from-neg t;
      }

  status : get_or (bytes_of r) 0 0 ≡ status_byte
  unfolding bytes_of
  status = refl

  flagged : flags (byte_r r) ≡ length (offsets r)
  unfolding flags
  flagged = omega (arith, r_bits.pos_flag, r_bits.neg_flag, offsets_length r)

  pub length_fits : (shortest_reference ≤ length (bytes_of r)) × (length (bytes_of r) ≤ longest_reference)
  length_fits = omega (arith, bytes_length r, f.some, f.few, few_offsets r)

  pub parse_back : parse (bytes_of r) ≡ parsed r
  unfolding parse
  parse_back =
      let n = length (bytes_of r) in
      let left : (n - shortest_reference) % 7 ≡ length (offsets r) = omega (arith, bytes_length r, f.some, few_offsets r) in
      let whole : (n - shortest_reference) % 7 ≤ 2 = omega (arith, left, few_offsets r) in
      let no_bits : spare_bits (bytes_of r) 7 (length r.points) ≡ false =
      points_bits r.points (bytes_of r) 7 _ _ _ f.points (byte_p_lem r.arrives f.arrives) r_bits.small from_points in
      rw
      (le-ltb n shortest_reference length_fits.0, le-ltb longest_reference n length_fits.1, le-ltb 2 _ whole, status, count r, no_bits, last_r, eq-eqb _ _ (left ∙ sym flagged), fields)
