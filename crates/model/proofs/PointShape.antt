-- "Reading gives 12, 13 and 15 by this shape and 14 for R's bit 7 or the negative flag" (W5): of all bytes, which of these they get; bytes that get none are the
-- bytes of what they are taken apart into. A line reference gets 12 or 13 here, and a point along line 13 from the reader of lines.
use Prim.Native.Nat.{ℕ, ◌+◌, ◌*◌, ◌-◌, ◌/◌, ◌%◌, ◌≤◌, ◌<◌}
use mathlib.Core.Path.{◌≡◌, refl, sym, ◌∙◌, ap, ap₂}
use mathlib.Core.Bool.{Bool, true, false, cond, ◌||◌}
use mathlib.Core.List.{List, ◌∷◌, append-nil}
use native.Mathlib.Omega.{arith}
use lib.ListN.{length, get_or, drop}
use lib.Dec.{ltb, leb, eqb}
use borrow.Author.Tests.{lt-ltb, le-ltb, lt-leb, le-leb, eq-eqb, ne_eqb, ltb-false, leb-false, eqb-true, eqb-false}
use Rattle.model.specs.Refusal.{Refused, row}
use Rattle.model.specs.Reference.{Reference, status_byte, shortest_reference, longest_reference, byte_p, byte_q, bytes2, bytes3, flag, offset_bytes, at2, at3, attributes, positive, negative, offset_at, parse}
use Rattle.model.specs.PointAlong.{PointAlong, point_status, shortest_point, longest_point, point_along_bytes, point_along_at, PointParse, parsed, parse_point}
use Rattle.model.proofs.Tests.{neither}
use Rattle.model.proofs.Every.{Every, Byte, byte_at}
use Rattle.model.proofs.Parsed.{accepted, first, at2_small, at3_small, two, three, offsets, offset_fits, attributes_fit, flag_of}
use Rattle.model.proofs.PointBytes.{AlongFits}
use Rattle.model.specs.Reference as line

module _ (bs : List ℕ) where
  pub too_short : length bs < shortest_point → parse_point bs ≡ PointParse.refused (row 12)
  unfolding parse_point
  too_short h = rw (lt-ltb _ _ h, parse_point)

  pub too_long : longest_point < length bs → parse_point bs ≡ PointParse.refused (row 12)
  unfolding parse_point
  too_long h =
      let long : shortest_point ≤ length bs = omega arith in
      rw (le-ltb (length bs) shortest_point long, lt-ltb _ _ h, parse_point)

  module _ (long : shortest_point ≤ length bs) (short : length bs ≤ longest_point) where
    pub other_status : (get_or bs 0 0 ≡ point_status → ⊥) → parse_point bs ≡ PointParse.refused (row 13)
    unfolding parse_point
    other_status h = rw (le-ltb _ _ long, le-ltb _ _ short, ne_eqb _ _ h, parse_point)

    module _ (status : get_or bs 0 0 ≡ point_status) where
      pub bit_7 : 128 ≤ get_or bs 15 0 → parse_point bs ≡ PointParse.refused (row 14)
      unfolding parse_point
      bit_7 h = rw (le-ltb _ _ long, le-ltb _ _ short, eq-eqb _ _ status, le-leb _ _ h, parse_point)

      pub negative_flag : get_or bs 15 0 < 128 → get_or bs 15 0 / 32 % 2 ≡ 1 → parse_point bs ≡ PointParse.refused (row 14)
      unfolding parse_point negative
      negative_flag h e = rw (le-ltb _ _ long, le-ltb _ _ short, eq-eqb _ _ status, lt-leb 128 _ h, eq-eqb _ _ e, parse_point)

      module _ (spare : get_or bs 15 0 < 128) (plain : get_or bs 15 0 / 32 % 2 ≡ 0) where
        by_flag : parse_point bs ≡
            cond (eqb (length bs - shortest_point) (get_or bs 15 0 / 64 % 2)) (parsed (point_along_at bs)) (PointParse.refused (row 15))
        unfolding parse_point negative
        by_flag = rw (le-ltb _ _ long, le-ltb _ _ short, eq-eqb _ _ status, lt-leb 128 _ spare, plain, parse_point)

        pub other_count : (length bs - shortest_point ≡ get_or bs 15 0 / 64 % 2 → ⊥) → parse_point bs ≡ PointParse.refused (row 15)
        other_count h = by_flag ∙ rw (ne_eqb _ _ h)

        pub taken_apart : length bs - shortest_point ≡ get_or bs 15 0 / 64 % 2 → parse_point bs ≡ parsed (point_along_at bs)
        taken_apart e = by_flag ∙ rw (eq-eqb _ _ e)

-- What `parse_point` asks for.
pub record Shaped (bs : List ℕ) : Type 0 where
  pub long : shortest_point ≤ length bs
  pub short : length bs ≤ longest_point
  pub status : get_or bs 0 0 ≡ point_status
  pub spare : get_or bs 15 0 < 128
  pub plain : get_or bs 15 0 / 32 % 2 ≡ 0
  pub counted : length bs - shortest_point ≡ get_or bs 15 0 / 64 % 2

not_parsed : {n : Refused} {a : PointAlong} → PointParse.refused n ≡ parsed a → ⊥
not_parsed e = let z : ◌≡◌ {A = ℕ} 0 1 = cc in omega arith

passed : (t : Bool) (n : Refused) {rest : PointParse} {a : PointAlong} → cond t (PointParse.refused n) rest ≡ parsed a → (t ≡ false) × (rest ≡ parsed a)
passed true n e = absurd (not_parsed e)
passed false n e = (refl, e)

held : (t : Bool) (n : Refused) {rest : PointParse} {a : PointAlong} → cond t rest (PointParse.refused n) ≡ parsed a → (t ≡ true) × (rest ≡ parsed a)
held true n e = (refl, e)
held false n e = absurd (not_parsed e)

pub shaped : (bs : List ℕ) (a : PointAlong) → parse_point bs ≡ parsed a → Shaped bs × (point_along_at bs ≡ a)
unfolding parse_point negative
shaped bs a e =
    let r = get_or bs 15 0 in
    let r₁₂ = passed (ltb (length bs) shortest_point || ltb longest_point (length bs)) (row 12) e in
    let r₁₃ = held (eqb (get_or bs 0 0) point_status) (row 13) r₁₂.1 in
    let r₁₄ = passed (leb 128 r || eqb (r / 32 % 2) 1) (row 14) r₁₃.1 in
    let r₁₅ = held (eqb (length bs - shortest_point) (r / 64 % 2)) (row 15) r₁₄.1 in
    let sizes = neither (ltb (length bs) shortest_point) (ltb longest_point (length bs)) r₁₂.0 in
    let bits = neither (leb 128 r) (eqb (r / 32 % 2) 1) r₁₄.0 in (
      record {
        long = ltb-false _ _ sizes.0;
        short = ltb-false _ _ sizes.1;
        status = eqb-true _ _ r₁₃.0;
        spare = leb-false _ _ bits.0;
        plain = omega (arith, eqb-false (r / 32 % 2) 1 bits.1);
        counted = eqb-true _ _ r₁₅.0;
      },
      cc r₁₅.1,
    )

module _ (bs : List ℕ) (small : Every Byte bs) (s : Shaped bs) where
  abbrev along : PointAlong
  along = point_along_at bs

  fits : AlongFits along
  unfolding point_along_at
  fits =
      record {
        lon = at3_small bs small 1;
        lat = at3_small bs small 4;
        orientation = omega (arith, byte_at 7 small);
        point = record {
          leaves = attributes_fit bs small _ _ (omega arith);
          lowest = omega (arith, byte_at 8 small);
          distance = byte_at 9 small;
          lon = at2_small bs small 10;
          lat = at2_small bs small 12;
        };
        side = omega (arith, byte_at 14 small);
        arrives = attributes_fit bs small _ _ (omega arith);
        offset = offset_fits bs small _ _;
      }

  -- A P is its mark and its attributes, Q its lowest class and sector, R its positive flag and sector.
  p_parts : (p : ℕ) (q : ℕ) → p / 64 * 64 + byte_p (attributes (p % 64) q) ≡ p
  unfolding byte_p attributes
  p_parts p q = omega arith

  q_parts : (q : ℕ) → q / 32 * 32 + q % 32 ≡ q
  q_parts q = omega arith

  r_parts : flag along.offset 64 + along.arrives.sector ≡ get_or bs 15 0
  unfolding point_along_at attributes positive
  r_parts =
      let r = get_or bs 15 0 in
      let sum : r / 64 % 2 * 64 + r % 32 ≡ r = omega (arith, s.spare, s.plain) in
      omega (arith, sum, flag_of bs small (r / 64 % 2) 16 64 (omega arith))

  offset_part : drop 16 bs ≡ offset_bytes along.offset
  unfolding point_along_at positive offset_bytes offset_at
  offset_part =
      let r = get_or bs 15 0 in
      offsets bs small (r / 64 % 2) 0 16 (omega arith) (omega arith) (omega (arith, s.counted, s.long)) ∙ append-nil _

  -- What stands at each place.
  first_p : along.orientation * 64 + byte_p along.point.leaves ≡ get_or bs 7 0
  unfolding point_along_at
  first_p = p_parts (get_or bs 7 0) (get_or bs 8 0)

  q : byte_q along.point ≡ get_or bs 8 0
  unfolding point_along_at byte_q attributes
  q = q_parts (get_or bs 8 0)

  d : along.point.distance ≡ get_or bs 9 0
  unfolding point_along_at
  d = refl

  last_p : along.side * 64 + byte_p along.arrives ≡ get_or bs 14 0
  unfolding point_along_at
  last_p = p_parts (get_or bs 14 0) (get_or bs 15 0)

  codes : drop 1 bs ≡ bytes3 along.lon (bytes3 along.lat (drop 7 bs))
  unfolding point_along_at
  codes = three bs small 1 (omega (arith, s.long)) ∙ ap (bytes3 (at3 bs 1)) (three bs small 4 (omega (arith, s.long)))

  differences : drop 10 bs ≡ bytes2 along.point.next.lon (bytes2 along.point.next.lat (drop 14 bs))
  unfolding point_along_at
  differences = two bs small 10 (omega (arith, s.long)) ∙ ap (bytes2 (at2 bs 10)) (two bs small 12 (omega (arith, s.long)))

  from_last : drop 14 bs ≡ (along.side * 64 + byte_p along.arrives) ∷ (flag along.offset 64 + along.arrives.sector) ∷ offset_bytes along.offset
  from_last =
      first bs small 14 (omega (arith, s.long))
      ∙ ap₂ ◌∷◌ (sym last_p) (first bs small 15 (omega (arith, s.long)) ∙ ap₂ ◌∷◌ (sym r_parts) offset_part)

  from_first : drop 7 bs ≡
      (along.orientation * 64 + byte_p along.point.leaves)
      ∷ byte_q along.point
      ∷ along.point.distance
      ∷ bytes2 along.point.next.lon
      (bytes2 along.point.next.lat
      ((along.side * 64 + byte_p along.arrives) ∷ (flag along.offset 64 + along.arrives.sector) ∷ offset_bytes along.offset))
  from_first =
      first bs small 7 (omega (arith, s.long))
      ∙ ap₂ ◌∷◌ (sym first_p)
      (first bs small 8 (omega (arith, s.long))
      ∙ ap₂ ◌∷◌ (sym q)
      (first bs small 9 (omega (arith, s.long))
      ∙ ap₂ ◌∷◌ (sym d)
      (differences ∙ ap (λ (l : List ℕ). bytes2 along.point.next.lon (bytes2 along.point.next.lat l)) from_last)))

  bytes_are : bs ≡ point_along_bytes along
  unfolding point_along_bytes
  bytes_are =
      first bs small 0 (omega (arith, s.long))
      ∙ ap₂ ◌∷◌ s.status (codes ∙ ap (λ (l : List ℕ). bytes3 along.lon (bytes3 along.lat l)) from_first)

-- Bytes that are taken apart are the bytes of what they are taken apart into, and its fields fit.
pub point_parse_forth : (bs : List ℕ) (a : PointAlong) → Every Byte bs → parse_point bs ≡ parsed a → (bs ≡ point_along_bytes a) × AlongFits a
point_parse_forth bs a small e =
    let s = shaped bs a e in
    rw (← s.1) (bytes_are bs small s.0, fits bs small s.0)

-- A line reference to the reader of points: 12 where it is too long for one, else 13.
module _ (bs : List ℕ) (r : Reference) (parses : parse bs ≡ line.parsed r) where
  pub line_too_long : longest_point < length bs → parse_point bs ≡ PointParse.refused (row 12)
  line_too_long h = too_long bs h

  pub line_status : length bs ≤ longest_point → parse_point bs ≡ PointParse.refused (row 13)
  line_status h =
      let a = accepted bs r parses in
      other_status bs (omega (arith, a.long)) h λ e. let z : status_byte ≡ point_status = sym a.status ∙ e in omega arith

-- A point along line to the reader of lines: 13.
pub point_refused : (bs : List ℕ) (a : PointAlong) → parse_point bs ≡ parsed a → parse bs ≡ line.refused (row 13)
unfolding parse
point_refused bs a e =
    let s = (shaped bs a e).0 in
    let few : (length bs - shortest_reference) % 7 ≤ 2 = omega (arith, s.long, s.short) in
    let long : shortest_reference ≤ length bs = omega (arith, s.long) in
    let short : length bs ≤ longest_reference = omega (arith, s.short) in
    rw (le-ltb (length bs) shortest_reference long, le-ltb longest_reference (length bs) short, le-ltb 2 ((length bs - shortest_reference) % 7) few, s.status)
