-- Bytes that are taken apart are the bytes of what they are taken apart into, and its fields fit their bits.
use Prim.Native.Nat.{ℕ, zero, suc, ◌+◌, ◌*◌, ◌-◌, ◌/◌, ◌%◌, ◌≤◌, ◌<◌}
use mathlib.Core.Path.{◌≡◌, refl, sym, ◌∙◌, ap, ap₂}
use mathlib.Core.Bool.{Bool, true, false, cond, ◌||◌}
use mathlib.Core.List.{List, [], ◌∷◌, ◌++◌}
use native.Mathlib.Numerals.{add-one}
use native.Mathlib.Decide.{dec_lt}
use native.Mathlib.Omega.{arith}
use lib.ListN.{length, get_or, drop, drop_of_length-le}
use lib.Dec.{ltb, leb, eqb}
use lib.Seq.{drop-cons}
use borrow.Author.Tests.{ltb-false, leb-false, eqb-true}
use Rattle.model.specs.Refusal.{Refused, row}
use Rattle.model.specs.Reference.{Reference, status_byte, shortest_reference, longest_reference, bytes2, bytes3, byte_p, byte_q, flag, byte_r, point_bytes, offset_bytes, bytes_of, at2, at3, attributes, point_at, points_at, positive, negative, offset_at, point_count, reference_at, spare_bits, flags, ParseAnswer, parsed, parse}
use Rattle.model.proofs.Tests.{neither}
use Rattle.model.proofs.Every.{Every, none, also, Byte, byte_at}
use Rattle.model.proofs.Bytes.{AttributesFit, PointFits, OffsetFits, Fitting}

module _ (bs : List ℕ) (small : Every Byte bs) where
  -- The bytes from a place on, one at a time.
  pub first : (i : ℕ) → i < length bs → drop i bs ≡ get_or bs i 0 ∷ drop (i + 1) bs
  first i h = rw add-one (drop-cons bs i 0 h)

  pub at2_small : (i : ℕ) → at2 bs i < 65_536
  unfolding at2
  at2_small i = omega (arith, byte_at i small, byte_at (i + 1) small)

  pub at3_small : (i : ℕ) → at3 bs i < 16_777_216
  unfolding at3
  at3_small i = omega (arith, byte_at i small, at2_small (i + 1))

  pub two : (i : ℕ) → i + 1 < length bs → drop i bs ≡ bytes2 (at2 bs i) (drop (i + 2) bs)
  unfolding bytes2 at2
  two i h =
      let a = byte_at i small in
      let b = byte_at (i + 1) small in
      let high : (get_or bs i 0 * 256 + get_or bs (i + 1) 0) / 256 % 256 ≡ get_or bs i 0 = omega arith in
      let low : (get_or bs i 0 * 256 + get_or bs (i + 1) 0) % 256 ≡ get_or bs (i + 1) 0 = omega arith in
      let next : i + 2 ≡ i + 1 + 1 = omega arith in
      rw (high, low, next) (first i (omega arith) ∙ ap (λ (l : List ℕ). get_or bs i 0 ∷ l) (first (i + 1) h))

  pub three : (i : ℕ) → i + 2 < length bs → drop i bs ≡ bytes3 (at3 bs i) (drop (i + 3) bs)
  unfolding bytes3 bytes2 at3
  three i h =
      let a = byte_at i small in
      let x = at2 bs (i + 1) in
      let next : i + 3 ≡ i + 1 + 2 = omega arith in
      let below : x < 65_536 = at2_small (i + 1) in
      let high : (get_or bs i 0 * 65_536 + x) / 65_536 % 256 ≡ get_or bs i 0 = omega arith in
      let mid : (get_or bs i 0 * 65_536 + x) / 256 % 256 ≡ x / 256 % 256 = omega arith in
      let low : (get_or bs i 0 * 65_536 + x) % 256 ≡ x % 256 = omega arith in
      rw (high, mid, low, next) (first i (omega arith) ∙ ap (λ (l : List ℕ). get_or bs i 0 ∷ l) (two (i + 1) (omega arith)))

  -- A point, seven bytes, and several.
  point : (i : ℕ) → i + 7 ≤ length bs → drop i bs ≡ point_bytes (point_at bs i ∷ []) (drop (i + 7) bs)
  unfolding point_bytes point_at byte_p byte_q attributes
  point i h =
      let p : get_or bs i 0 / 8 * 8 + get_or bs i 0 % 8 ≡ get_or bs i 0 = omega arith in
      let q : get_or bs (i + 1) 0 / 32 * 32 + get_or bs (i + 1) 0 % 32 ≡ get_or bs (i + 1) 0 = omega arith in
      let j₂ : i + 2 ≡ i + 1 + 1 = omega arith in
      let j₃ : i + 3 ≡ i + 2 + 1 = omega arith in
      let j₅ : i + 5 ≡ i + 3 + 2 = omega arith in
      let j₇ : i + 7 ≡ i + 5 + 2 = omega arith in
      rw (p, q)
      (first i (omega arith)
      ∙ ap (λ (l : List ℕ). get_or bs i 0 ∷ l)
      (first (i + 1) (omega arith)
      ∙ ap (λ (l : List ℕ). get_or bs (i + 1) 0 ∷ l)
      (ap (λ (k : ℕ). drop k bs) (sym j₂)
      ∙ first (i + 2) (omega arith)
      ∙ ap (λ (l : List ℕ). get_or bs (i + 2) 0 ∷ l)
      (ap (λ (k : ℕ). drop k bs) (sym j₃)
      ∙ two (i + 3) (omega arith)
      ∙ ap (bytes2 (at2 bs (i + 3)))
      (ap (λ (k : ℕ). drop k bs) (sym j₅) ∙ two (i + 5) (omega arith) ∙ ap (λ (k : ℕ). bytes2 (at2 bs (i + 5)) (drop k bs)) (sym j₇))))))

  points : (count i : ℕ) → i + 7 * count ≤ length bs → drop i bs ≡ point_bytes (points_at bs i count) (drop (i + 7 * count) bs)
  unfolding point_bytes points_at
  points zero i h = let same : i + 7 * 0 ≡ i = omega arith in rw same
  points (suc count) i h =
      let same : i + 7 * suc count ≡ i + 7 + 7 * count = omega arith in
      rw same (point i (omega arith) ∙ ap (λ (l : List ℕ). point_bytes (point_at bs i ∷ []) l) (points count (i + 7) (omega arith)))

  -- The offsets, by the flags of R.
  at_end : (i : ℕ) → length bs ≡ i → drop i bs ≡ []
  at_end i h = drop_of_length-le bs {i = i} (omega arith)

  one_left : (i : ℕ) → length bs ≡ i + 1 → drop i bs ≡ get_or bs i 0 ∷ []
  one_left i h = first i (omega arith) ∙ ap (λ (l : List ℕ). get_or bs i 0 ∷ l) (at_end (i + 1) h)

  pub offsets : (a b i : ℕ) → a ≤ 1 → b ≤ 1 → length bs ≡ i + a + b →
      drop i bs ≡ offset_bytes (offset_at (eqb a 1) bs i) ++ offset_bytes (offset_at (eqb b 1) bs (i + a))
  unfolding offset_bytes offset_at
  offsets zero zero i _ _ h = at_end i (omega arith)
  offsets zero (suc zero) i _ _ h = let same : i + 0 ≡ i = omega arith in rw same (one_left i (omega arith))
  offsets (suc zero) zero i _ _ h = one_left i (omega arith)
  offsets (suc zero) (suc zero) i _ _ h =
      first i (omega arith) ∙ ap (λ (l : List ℕ). get_or bs i 0 ∷ l) (one_left (i + 1) (omega arith))
  offsets (suc (suc a)) b i few _ h = absurd (omega arith)
  offsets zero (suc (suc b)) i _ few h = absurd (omega arith)
  offsets (suc zero) (suc (suc b)) i _ few h = absurd (omega arith)

  pub flag_of : (a i weight : ℕ) → a ≤ 1 → flag (offset_at (eqb a 1) bs i) weight ≡ a * weight
  unfolding flag offset_at
  flag_of zero i weight h = omega arith
  flag_of (suc zero) i weight h = omega arith
  flag_of (suc (suc a)) i weight h = absurd (omega arith)

  pub offset_fits : (flagged : Bool) (i : ℕ) → OffsetFits (offset_at flagged bs i)
  unfolding offset_at
  offset_fits true i = byte_at i small
  offset_fits false i = tt

  -- No spare bit is set: each P is below 64 and R below 128.
  pub attributes_fit : (p s : ℕ) → p < 64 → AttributesFit (attributes p s)
  unfolding attributes
  attributes_fit p s h = omega arith

  point_fits : (i : ℕ) → get_or bs i 0 < 64 → PointFits (point_at bs i)
  unfolding point_at
  point_fits i h =
      record {
        leaves = attributes_fit _ _ h;
        lowest = omega (arith, byte_at (i + 1) small);
        distance = byte_at (i + 2) small;
        lon = at2_small (i + 3);
        lat = at2_small (i + 5);
      }

  record Spared (i count : ℕ) : Type 0 where
    points_fit : Every PointFits (points_at bs i count)
    last_p : get_or bs (i + 7 * count) 0 < 64
    last_r : get_or bs (i + 7 * count + 1) 0 < 128

  spared : (i count : ℕ) → spare_bits bs i count ≡ false → Spared i count
  unfolding spare_bits points_at
  spared i zero e =
      let t = neither (leb 64 (get_or bs i 0)) _ e in
      let same : i + 7 * 0 ≡ i = omega arith in
      record { points_fit = none; last_p = rw same (leb-false _ _ t.0); last_r = rw same (leb-false _ _ t.1) }
  spared i (suc count) e =
      let t = neither (leb 64 (get_or bs i 0)) _ e in
      let s = spared (i + 7) count t.1 in
      let same : i + 7 * suc count ≡ i + 7 + 7 * count = omega arith in
      record { points_fit = also (point_fits i (leb-false _ _ t.0)) s.points_fit; last_p = rw same s.last_p; last_r = rw same s.last_r }

-- What `parse` asks for.
pub record Accepted (bs : List ℕ) (r : Reference) : Type 0 where
  pub long : shortest_reference ≤ length bs
  pub short : length bs ≤ longest_reference
  pub left : (length bs - shortest_reference) % 7 ≤ 2
  pub status : get_or bs 0 0 ≡ status_byte
  pub bits : spare_bits bs 7 (point_count bs) ≡ false
  pub flagged : (length bs - shortest_reference) % 7 ≡ flags (get_or bs (8 + 7 * point_count bs) 0)
  pub same : reference_at bs (point_count bs) ≡ r

not_parsed : {n : Refused} {r : Reference} → ParseAnswer.refused n ≡ parsed r → ⊥
not_parsed e = let z : ◌≡◌ {A = ℕ} 0 1 = cc in omega arith

passed : (t : Bool) (n : Refused) {rest : ParseAnswer} {r : Reference} → cond t (ParseAnswer.refused n) rest ≡ parsed r → (t ≡ false) × (rest ≡ parsed r)
passed true n e = absurd (not_parsed e)
passed false n e = (refl, e)

held : (t : Bool) (n : Refused) {rest : ParseAnswer} {r : Reference} → cond t rest (ParseAnswer.refused n) ≡ parsed r → (t ≡ true) × (rest ≡ parsed r)
held true n e = (refl, e)
held false n e = absurd (not_parsed e)

pub accepted : (bs : List ℕ) (r : Reference) → parse bs ≡ parsed r → Accepted bs r
unfolding parse
accepted bs r e =
    let n = length bs in
    let r₁₂ = passed (ltb n shortest_reference || ltb longest_reference n || ltb 2 ((n - shortest_reference) % 7)) (row 12) e in
    let r₁₃ = held (eqb (get_or bs 0 0) status_byte) (row 13) r₁₂.1 in
    let r₁₄ = passed (spare_bits bs 7 (point_count bs)) (row 14) r₁₃.1 in
    let r₁₅ = held (eqb ((n - shortest_reference) % 7) (flags (get_or bs (8 + 7 * point_count bs) 0))) (row 15) r₁₄.1 in
    let sizes = neither (ltb n shortest_reference || ltb longest_reference n) (ltb 2 ((n - shortest_reference) % 7)) r₁₂.0 in
    let ends = neither (ltb n shortest_reference) (ltb longest_reference n) sizes.0 in
    record {
      long = ltb-false _ _ ends.0;
      short = ltb-false _ _ ends.1;
      left = ltb-false _ _ sizes.1;
      status = eqb-true _ _ r₁₃.0;
      bits = r₁₄.0;
      flagged = eqb-true _ _ r₁₅.0;
      same = cc r₁₅.1;
    }

-- R is its flags and its sector.
r_parts : (r : ℕ) → r < 128 → r / 64 % 2 * 64 + r / 32 % 2 * 32 + r % 32 ≡ r
r_parts r h = go (dec_lt r 64)
  where
    go : Dec (r < 64) → r / 64 % 2 * 64 + r / 32 % 2 * 32 + r % 32 ≡ r
    go (yes low) = omega arith
    go (no high) = omega arith

points_count : (bs : List ℕ) (i count : ℕ) → length (points_at bs i count) ≡ count
unfolding points_at
points_count bs i zero = refl
points_count bs i (suc count) = ap suc (points_count bs (i + 7) count)

module _ (bs : List ℕ) (small : Every Byte bs) (r : Reference) (a : Accepted bs r) where
  abbrev count : ℕ
  count = point_count bs

  abbrev last : ℕ
  last = get_or bs (8 + 7 * count) 0

  -- How long the bytes are, by the flags of R.
  sized : length bs ≡ 9 + 7 * count + last / 64 % 2 + last / 32 % 2
  unfolding point_count flags
  sized = omega (arith, a.long, a.left, a.flagged)

  counted : (1 ≤ count) × (count ≤ 64)
  unfolding point_count
  counted = omega (arith, a.long, a.short)

  no_bits : Spared bs small 7 count
  no_bits = spared bs small 7 count a.bits

  r_small : last < 128
  r_small = let same : 7 + 7 * count + 1 ≡ 8 + 7 * count = omega arith in rw same at no_bits.last_r

  fits : Fitting (reference_at bs count)
  unfolding reference_at
  fits =
      record {
        lon = at3_small bs small 1;
        lat = at3_small bs small 4;
        points = no_bits.points_fit;
        some = rw points_count counted.0;
        few = rw points_count counted.1;
        arrives = attributes_fit bs small _ _ no_bits.last_p;
        pos = offset_fits bs small _ _;
        neg = offset_fits bs small _ _;
      }

  byte_r_lem : byte_r (reference_at bs count) ≡ last
  unfolding byte_r reference_at attributes positive negative
  byte_r_lem =
      omega
      (arith, flag_of bs small (last / 64 % 2) (9 + 7 * count) 64 (omega arith), flag_of bs small (last / 32 % 2) (9 + 7 * count + last / 64 % 2) 32 (omega arith), r_parts last r_small)

  byte_p_lem : byte_p (reference_at bs count).arrives ≡ get_or bs (7 + 7 * count) 0
  unfolding byte_p reference_at attributes
  byte_p_lem = omega arith

  from_offsets : drop (9 + 7 * count) bs ≡ offset_bytes (reference_at bs count).pos ++ offset_bytes (reference_at bs count).neg
  unfolding reference_at positive negative
  from_offsets = offsets bs small (last / 64 % 2) (last / 32 % 2) (9 + 7 * count) (omega arith) (omega arith) sized

  from_last : drop (7 + 7 * count) bs ≡
      byte_p (reference_at bs count).arrives
      ∷ byte_r (reference_at bs count) ∷ offset_bytes (reference_at bs count).pos ++ offset_bytes (reference_at bs count).neg
  from_last =
      let n₇ = 7 + 7 * count in
      let n₈ : n₇ + 1 ≡ 8 + 7 * count = omega arith in
      let n₉ : 8 + 7 * count + 1 ≡ 9 + 7 * count = omega arith in
      rw (byte_p_lem, byte_r_lem)
      (first bs small n₇ (omega (arith, sized))
      ∙ ap (λ (l : List ℕ). get_or bs n₇ 0 ∷ l)
      (ap (λ (k : ℕ). drop k bs) n₈
      ∙ first bs small (8 + 7 * count) (omega (arith, sized))
      ∙ ap (λ (l : List ℕ). last ∷ l) (ap (λ (k : ℕ). drop k bs) n₉ ∙ from_offsets)))

  from_points : drop 7 bs ≡
      point_bytes (reference_at bs count).points
      (byte_p (reference_at bs count).arrives
      ∷ byte_r (reference_at bs count) ∷ offset_bytes (reference_at bs count).pos ++ offset_bytes (reference_at bs count).neg)
  unfolding reference_at
  from_points = points bs small count 7 (omega (arith, sized)) ∙ ap (point_bytes (points_at bs 7 count)) from_last

  from_codes : drop 1 bs ≡ bytes3 (reference_at bs count).lon (bytes3 (reference_at bs count).lat (drop 7 bs))
  unfolding reference_at
  from_codes = three bs small 1 (omega (arith, sized)) ∙ ap (bytes3 (at3 bs 1)) (three bs small 4 (omega (arith, sized)))

  bytes_are : bs ≡ bytes_of (reference_at bs count)
  unfolding bytes_of
  bytes_are =
      first bs small 0 (omega (arith, sized))
      ∙ ap₂ ◌∷◌ a.status
      (from_codes ∙ ap (λ (l : List ℕ). bytes3 (reference_at bs count).lon (bytes3 (reference_at bs count).lat l)) from_points)

-- Bytes that parse are the bytes of what they parse to, which fits.
pub parse_forth : (bs : List ℕ) (r : Reference) → Every Byte bs → parse bs ≡ parsed r → (bs ≡ bytes_of r) × Fitting r
parse_forth bs r small e =
    let a = accepted bs r e in
    rw (← a.same) (bytes_are bs small r a, fits bs small r a)
