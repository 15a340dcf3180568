-- The bytes of a reference, and how bytes are taken apart (paper 01, "The bytes"; document 000, section 7; refusals 12 to 15).
use Rattle.std.specs.Prelude.{ℕ, zero, suc, ◌+◌, ◌*◌, ◌-◌, ◌/◌, ◌%◌, Bool, cond, ◌||◌, List, [], ◌∷◌, ◌++◌, length, get_or, ltb, leb, eqb}
use Rattle.model.specs.Lines.{LineAttributes}
use Rattle.model.specs.Difference.{Difference}
use Rattle.model.specs.Refusal.{Refused, row}

-- An offset byte, "only if flagged".
pub data Offset : Type 0 where
  absent : Offset
  byte : ℕ → Offset

-- A location reference point but the last: what bytes P, Q and D say of the line leaving it and of the leg to the next point, and the
-- differences to that point, which stand in the next point's bytes.
pub record Point : Type 0 where
  pub leaves : LineAttributes
  pub lowest : ℕ
  pub distance : ℕ
  pub next : Difference

-- A reference: the codes of the first point, the points but the last, what the last point's P and R say of the line arriving, the offsets.
pub record Reference : Type 0 where
  pub lon : ℕ
  pub lat : ℕ
  pub points : List Point
  pub arrives : LineAttributes
  pub pos : Offset
  pub neg : Offset

-- "Status byte 0B."
abbrev pub status_byte : ℕ
status_byte = 0x0B

-- Numbers of 16 and of 24 bits, "high byte first", in front of `rest`.
unfoldable pub bytes2 : ℕ → List ℕ → List ℕ
bytes2 x rest = x / 256 % 256 ∷ x % 256 ∷ rest

unfoldable pub bytes3 : ℕ → List ℕ → List ℕ
bytes3 x rest = x / 65_536 % 256 ∷ bytes2 x rest

-- "P: FRC in bits 5 to 3, FOW in 2 to 0. Q: lowest class in bits 7 to 5, sector in 4 to 0."
unfoldable pub byte_p : LineAttributes → ℕ
byte_p a = a.frc * 8 + a.fow

unfoldable pub byte_q : Point → ℕ
byte_q p = p.lowest * 32 + p.leaves.sector

-- "R: bit 6 positive flag, bit 5 negative flag, sector in 4 to 0."
unfoldable pub flag : Offset → ℕ → ℕ
flag absent weight = 0
flag (byte b) weight = weight

unfoldable pub byte_r : Reference → ℕ
byte_r r = flag r.pos 64 + flag r.neg 32 + r.arrives.sector

-- Each point but the last: P, Q, D, and the differences with which the next point starts.
unfoldable pub point_bytes : List Point → List ℕ → List ℕ
point_bytes [] rest = rest
point_bytes (p ∷ ps) rest =
    byte_p p.leaves ∷ byte_q p ∷ p.distance ∷ bytes2 p.next.lon (bytes2 p.next.lat (point_bytes ps rest))

unfoldable pub offset_bytes : Offset → List ℕ
offset_bytes absent = []
offset_bytes (byte b) = b ∷ []

-- The bytes of a reference: status, the first point's codes, the points, P and R of the last, "then the positive and the negative offset byte".
unfoldable pub bytes_of : Reference → List ℕ
bytes_of r =
    status_byte
    ∷ bytes3 r.lon
    (bytes3 r.lat (point_bytes r.points (byte_p r.arrives ∷ byte_r r ∷ offset_bytes r.pos ++ offset_bytes r.neg)))

-- The other way: a number of 16 or 24 bits at byte `i`.
unfoldable pub at2 : List ℕ → ℕ → ℕ
at2 bs i = get_or bs i 0 * 256 + get_or bs (i + 1) 0

unfoldable pub at3 : List ℕ → ℕ → ℕ
at3 bs i = get_or bs i 0 * 65_536 + at2 bs (i + 1)

-- What a P and a byte with a sector say of a line.
unfoldable pub attributes : ℕ → ℕ → LineAttributes
attributes p s = record { frc = p / 8; fow = p % 8; sector = s % 32 }

-- The point whose P stands at byte `i`, and `count` of them, seven bytes each.
unfoldable pub point_at : List ℕ → ℕ → Point
point_at bs i =
    record {
      leaves = attributes (get_or bs i 0) (get_or bs (i + 1) 0);
      lowest = get_or bs (i + 1) 0 / 32;
      distance = get_or bs (i + 2) 0;
      next = record { lon = at2 bs (i + 3); lat = at2 bs (i + 5) };
    }

unfoldable pub points_at : List ℕ → ℕ → ℕ → List Point
points_at bs i zero = []
points_at bs i (suc count) = point_at bs i ∷ points_at bs (i + 7) count

-- Whether R flags a positive and a negative offset, and the offset that stands at byte `i` if flagged.
unfoldable pub positive : ℕ → Bool
positive r = eqb (r / 64 % 2) 1

unfoldable pub negative : ℕ → Bool
negative r = eqb (r / 32 % 2) 1

unfoldable pub offset_at : Bool → List ℕ → ℕ → Offset
offset_at flagged bs i = cond flagged (byte (get_or bs i 0)) absent

-- How many points but the last bytes of this length have, and the reference of such bytes. R stands at byte 8 + 7 × count.
unfoldable pub point_count : List ℕ → ℕ
point_count bs = (length bs - 9) / 7

unfoldable pub reference_at : List ℕ → ℕ → Reference
reference_at bs count =
    let p = get_or bs (7 + 7 * count) 0 in
    let r = get_or bs (8 + 7 * count) 0 in
    record {
      lon = at3 bs 1;
      lat = at3 bs 4;
      points = points_at bs 7 count;
      arrives = attributes p r;
      pos = offset_at (positive r) bs (9 + 7 * count);
      neg = offset_at (negative r) bs (9 + 7 * count + r / 64 % 2);
    }

-- Refusal 14: "a zero bit of P or R set". Of `count` points from byte `i` on, and of the last one.
unfoldable pub spare_bits : List ℕ → ℕ → ℕ → Bool
spare_bits bs i zero = leb 64 (get_or bs i 0) || leb 128 (get_or bs (i + 1) 0)
spare_bits bs i (suc count) = leb 64 (get_or bs i 0) || spare_bits bs (i + 7) count

-- Refusal 15: "(length - 16) mod 7 not the number of flags".
unfoldable pub flags : ℕ → ℕ
flags r = r / 64 % 2 + r / 32 % 2

-- "A reference is 16 bytes at least, 459 at most."
abbrev pub shortest_reference : ℕ
shortest_reference = 16

abbrev pub longest_reference : ℕ
longest_reference = 459

pub data ParseAnswer : Type 0 where
  parsed : Reference → ParseAnswer
  refused : Refused → ParseAnswer

-- Bytes taken apart, or refused with 12 to 15.
unfoldable pub parse : List ℕ → ParseAnswer
parse bs =
    cond
    (ltb (length bs) shortest_reference || ltb longest_reference (length bs) || ltb 2 ((length bs - shortest_reference) % 7))
    (refused (row 12))
    (cond (eqb (get_or bs 0 0) status_byte)
    (cond (spare_bits bs 7 (point_count bs)) (refused (row 14))
    (cond (eqb ((length bs - shortest_reference) % 7) (flags (get_or bs (8 + 7 * point_count bs) 0)))
    (parsed (reference_at bs (point_count bs)))
    (refused (row 15))))
    (refused (row 13)))
