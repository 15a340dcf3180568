-- The bytes of a reference, part by part.
use Prim.Native.Nat.{ℕ, suc, ◌+◌, ◌*◌, ◌-◌, ◌≤◌, ◌<◌}
use mathlib.Core.Path.{◌≡◌, refl, sym, ◌∙◌, ap, ap₂}
use mathlib.Core.Bool.{Bool, true, false, cond}
use mathlib.Core.List.{List, [], ◌∷◌, ◌++◌, append_assoc}
use native.Mathlib.Numerals.{add-one}
use native.Mathlib.Omega.{arith}
use lib.ListN.{length, get_or, take, length-append, length-take}
use lib.Seq.{slice, take-length}
use lib.Dec.{eqb}
use borrow.Author.Tests.{eq-eqb, ne_eqb}
use Rattle.model.specs.Map.{Map, lon_code, lat_code}
use Rattle.model.specs.Field.{offset_byte}
use Rattle.model.specs.Lines.{LineAttributes, line_at, node_at, total, first_of, last_of, arriving}
use Rattle.model.specs.Reference.{Point, status_byte, byte_p, bytes2, bytes3, byte_r, flag, point_bytes, offset_bytes, absent, byte, bytes_of}
use Rattle.model.specs.Choice.{good, Choice, from_node, point_of, points_of, first_leg, last_leg, offset_of, reference_of, stretch_bytes}
use Rattle.model.specs.Work.{placed}
use Rattle.model.proofs.Joining.{first_joined, last_joined, first_leg_lem, last_leg_lem, first_length, last_length}
use Rattle.model.specs.Stretch.{stretch_of}
use Rattle.point_choice.specs.Cuts.{Route, there, leg, cut_legs}
use Rattle.reference_bytes.specs.Point.{bytes_of_point, PointIs}
use Rattle.reference_bytes.specs.Put.{cut_leg, CutInto, start_bytes, offset_part, flagged, last_bytes, end_bytes}
use Rattle.buffers.specs.Placed.{put_at}
use Rattle.point_choice.proofs.Routes.{short}
use Rattle.point_choice.proofs.Choosing.{legs_count, choice}
use Rattle.reference_bytes.proofs.Cutting.{next_leg}
use Rattle.buffers.proofs.Placing.{put_then, put_first}
use Rattle.reference_bytes.specs.declared.point.Point as Numbers

bytes_rest : (ps : List Point) (rest : List ℕ) → point_bytes ps rest ≡ point_bytes ps [] ++ rest
unfolding point_bytes bytes2
bytes_rest [] rest = refl
bytes_rest (p ∷ ps) rest = rw (bytes_rest ps rest)

points_append : (m : Map) (xs : List (List ℕ)) (ls : List ℕ) →
    point_bytes (points_of m (xs ++ (ls ∷ []))) [] ≡ point_bytes (points_of m xs) [] ++ point_bytes (point_of m ls ∷ []) []
unfolding points_of point_bytes bytes2
points_append m [] ls = refl
points_append m (x ∷ xs) ls = rw (points_append m xs ls)

points_length : (m : Map) (lss : List (List ℕ)) → length (point_bytes (points_of m lss) []) ≡ 7 * length lss
unfolding points_of point_bytes bytes2
points_length m [] = refl
points_length m (ls ∷ lss) = omega (arith, points_length m lss)

module _ (m : Map) (lines cs : List ℕ) where
  pub points_none : point_bytes (points_of m (cut_legs lines 0 (take 0 cs))) [] ≡ []
  unfolding cut_legs points_of point_bytes
  points_none = refl

  pub points_on : (t : ℕ) → t < length cs → (r : Numbers.Point) → PointIs m (cut_leg lines cs t) r →
      point_bytes (points_of m (cut_legs lines 0 (take t cs))) [] ++ bytes_of_point r ≡ point_bytes (points_of m (cut_legs lines 0 (take (t + 1) cs))) []
  points_on t h r is = rw (is.bytes, next_leg lines cs t h) (sym (points_append m (cut_legs lines 0 (take t cs)) (cut_leg lines cs t)))

  pub points_size : (t : ℕ) → t ≤ length cs → length (point_bytes (points_of m (cut_legs lines 0 (take t cs))) []) ≡ 7 * t
  points_size t h =
      let e : length (take t cs) ≡ t = length-take t cs ∙ omega arith in
      points_length m (cut_legs lines 0 (take t cs)) ∙ ap (λ (n : ℕ). 7 * n) (legs_count lines 0 (take t cs) ∙ e)

point_length : (r : Numbers.Point) → length (bytes_of_point r) ≡ 7
unfolding bytes_of_point bytes2
point_length r = refl

-- Offsets: their flags and their bytes.
pub part_length : (on offset : ℕ) → length (offset_part on offset) ≡ flagged offset 1
unfolding offset_of offset_bytes flagged
part_length on offset = go (eqb offset 0)
  where
    go : (t : Bool) → length (offset_bytes (cond t absent (byte (offset_byte on offset)))) ≡ cond t 0 1
    go true = refl
    go false = refl

pub no_part : (on offset : ℕ) → offset ≡ 0 → (flagged offset 1 ≡ 0) × (offset_part on offset ≡ [])
unfolding offset_of offset_bytes flagged
no_part on offset e = (rw (eq-eqb _ _ e), rw (eq-eqb _ _ e))

pub one_part : (on offset : ℕ) → (offset ≡ 0 → ⊥) → (flagged offset 1 ≡ 1) × (offset_part on offset ≡ offset_byte on offset ∷ [])
unfolding offset_of offset_bytes flagged
one_part on offset e = (rw (ne_eqb _ _ e), rw (ne_eqb _ _ e))

flag_is : (on offset weight : ℕ) → flag (offset_of on offset) weight ≡ flagged offset weight
unfolding offset_of flag flagged
flag_is on offset weight = go (eqb offset 0)
  where
    go : (t : Bool) → flag (cond t absent (byte (offset_byte on offset))) weight ≡ cond t 0 weight
    go true = refl
    go false = refl

-- The first and the last leg.
first_cut : (lines cs : List ℕ) → 0 < length cs → first_leg (cut_legs lines 0 cs) ≡ cut_leg lines cs 0
unfolding first_leg cut_legs
first_cut lines [] h = absurd (omega arith)
first_cut lines (c ∷ cs) h = refl

last_slice : (lines : List ℕ) (i c : ℕ) (cs : List ℕ) →
    last_leg (cut_legs lines i (c ∷ cs)) ≡ slice (get_or (i ∷ c ∷ cs) (length cs) 0) (get_or (c ∷ cs) (length cs) 0) lines
unfolding last_leg cut_legs
last_slice lines i c [] = refl
last_slice lines i c (d ∷ cs) = last_slice lines c d cs

last_cut : (lines cs : List ℕ) → 0 < length cs → last_leg (cut_legs lines 0 cs) ≡ cut_leg lines cs (length cs - 1)
last_cut lines [] h = absurd (omega arith)
last_cut lines (c ∷ cs) h = let e : suc (length cs) - 1 ≡ length cs = omega arith in rw (e, add-one) (last_slice lines 0 c cs)

some_cut : {good : ℕ → ℕ → Type 0} {n : ℕ} {cs : List ℕ} → 0 < n → Route good n 0 cs → 0 < length cs
some_cut h there = absurd (omega arith)
some_cut h (leg l g r) = omega arith

pub start_length : (m : Map) (lines : List ℕ) → length (start_bytes m lines) ≡ 7
unfolding start_bytes bytes3 bytes2
start_length m lines = refl

-- The whole.
module _ {m : Map} {lines table : List ℕ} {legs : ℕ} {cs : List ℕ} (k : CutInto m lines table legs cs) where
  pub cut_some : 0 < legs
  cut_some = omega (arith, some_cut k.some k.route, k.count)

  pub cut_few : legs ≤ 64
  cut_few = omega (arith, short k.route, k.count, k.few)

  chosen : Choice (good m) lines (cut_legs lines 0 cs)
  chosen = choice (good m) lines (λ i j l h g. g) k.some k.route

  first_line : first_of (first_leg (cut_legs lines 0 cs)) ≡ first_of lines
  first_line = sym (first_joined chosen.usable) ∙ ap first_of chosen.whole

  last_line : last_of (last_leg (cut_legs lines 0 cs)) ≡ last_of lines
  last_line = sym (last_joined chosen.usable) ∙ ap last_of chosen.whole

  pub first_leg_is : first_leg (cut_legs lines 0 cs) ≡ cut_leg lines cs 0
  first_leg_is = first_cut lines cs (some_cut k.some k.route)

  pub last_leg_is : last_leg (cut_legs lines 0 cs) ≡ cut_leg lines cs (legs - 1)
  last_leg_is = rw (← k.count) (last_cut lines cs (some_cut k.some k.route))

  -- The first line of the first leg and the last line of the last are those of the stretch.
  pub first_on_leg : (line_at m (first_of lines)).length ≤ total m (cut_leg lines cs 0)
  first_on_leg = rw (← first_leg_is, ← first_line) (first_length (first_leg_lem chosen.usable))

  pub last_on_leg : (line_at m (last_of lines)).length ≤ total m (cut_leg lines cs (legs - 1))
  last_on_leg = rw (← last_leg_is, ← last_line) (last_length (last_leg_lem chosen.usable))

  pub points_all : length (point_bytes (points_of m (cut_legs lines 0 cs)) []) ≡ 7 * legs
  points_all = points_length m (cut_legs lines 0 cs) ∙ ap (λ (n : ℕ). 7 * n) (legs_count lines 0 cs ∙ k.count)

  -- One point more is put.
  pub put_next : (t : ℕ) → t < legs → (before : List ℕ) {now after : List ℕ} → 7 + 7 * legs ≤ length before →
      now ≡ put_at 7 (point_bytes (points_of m (cut_legs lines 0 (take t cs))) []) before → (r : Numbers.Point) →
      after ≡ put_at (7 + 7 * t) (bytes_of_point r) now → PointIs m (cut_leg lines cs t) r →
      after ≡ put_at 7 (point_bytes (points_of m (cut_legs lines 0 (take (t + 1) cs))) []) before
  put_next t l before room e r f is =
      let vs = point_bytes (points_of m (cut_legs lines 0 (take t cs))) [] in
      let size : length vs ≡ 7 * t = points_size m lines cs t (omega (arith, k.count)) in
      f ∙ ap (put_at (7 + 7 * t) (bytes_of_point r)) e
      ∙ put_then 7 vs before (omega arith) (7 + 7 * t) (omega arith) (bytes_of_point r) (omega (arith, point_length r))
      ∙ ap (λ (l : List ℕ). put_at 7 l before) (points_on m lines cs t (omega (arith, k.count)) r is)

  pub put_all : (t : ℕ) → t ≡ legs → (before : List ℕ) {now : List ℕ} →
      now ≡ put_at 7 (point_bytes (points_of m (cut_legs lines 0 (take t cs))) []) before →
      now ≡ put_at 7 (point_bytes (points_of m (cut_legs lines 0 cs)) []) before
  put_all t e before f = f ∙ rw (e, ← k.count, take-length)

  module _ (pos neg : ℕ) where
    end_is : let lss = cut_legs lines 0 cs in
        byte_p (arriving m (last_of (last_leg lss))) ∷ byte_r (reference_of m lss pos neg) ∷
        (offset_part (total m (first_leg lss)) pos ++ offset_part (total m (last_leg lss)) neg) ≡
        end_bytes m lines (cut_leg lines cs 0) (cut_leg lines cs (legs - 1)) pos neg
    unfolding byte_r reference_of end_bytes last_bytes
    end_is =
        let lss = cut_legs lines 0 cs in
        let arrives = ap (arriving m) last_line in
        let flags : flag (offset_of (total m (first_leg lss)) pos) 64 + flag (offset_of (total m (last_leg lss)) neg) 32
        + (arriving m (last_of (last_leg lss))).sector ≡ flagged pos 64 + flagged neg 32 + (arriving m (last_of lines)).sector =
        omega (arith, flag_is (total m (first_leg lss)) pos 64, flag_is (total m (last_leg lss)) neg 32, ap (λ (a : LineAttributes). a.sector) arrives) in
        let parts = ap₂ (λ (a b : List ℕ). offset_part (total m a) pos ++ offset_part (total m b) neg) first_leg_is last_leg_is in
        λ t. byte_p (arrives t) ∷ flags t ∷ parts t

    pub whole_bytes : stretch_bytes m (cut_legs lines 0 cs) (stretch_of lines pos neg) ≡
        start_bytes m lines ++ (point_bytes (points_of m (cut_legs lines 0 cs)) [] ++ end_bytes m lines (cut_leg lines cs 0) (cut_leg lines cs (legs - 1)) pos neg)
    unfolding stretch_bytes bytes_of reference_of start_bytes bytes3 bytes2 from_node
    whole_bytes =
        let ps = points_of m (cut_legs lines 0 cs) in
        let v = ap (λ (l : ℕ). node_at m (line_at m l).start) first_line in
        let lon = ap lon_code v in
        let lat = ap lat_code v in
        (λ t. status_byte ∷ bytes3 (lon t) (bytes3 (lat t) (point_bytes ps (end_is t))))
        ∙ ap (λ (l : List ℕ). status_byte ∷ bytes3 (lon_code (node_at m (from_node m lines))) (bytes3 (lat_code (node_at m (from_node m lines))) l))
        (bytes_rest ps (end_bytes m lines (cut_leg lines cs 0) (cut_leg lines cs (legs - 1)) pos neg))

    pub end_length : length (end_bytes m lines (cut_leg lines cs 0) (cut_leg lines cs (legs - 1)) pos neg) ≡ 2 + flagged pos 1 + flagged neg 1
    unfolding end_bytes last_bytes
    end_length =
        let first = total m (cut_leg lines cs 0) in
        let last = total m (cut_leg lines cs (legs - 1)) in
        omega (arith, length-append (offset_part first pos) (offset_part last neg), part_length first pos, part_length last neg)

    pub whole_length : length (stretch_bytes m (cut_legs lines 0 cs) (stretch_of lines pos neg)) ≡ 7 + 7 * legs + 2 + flagged pos 1 + flagged neg 1
    whole_length =
        let start = start_bytes m lines in
        let points = point_bytes (points_of m (cut_legs lines 0 cs)) [] in
        let end = end_bytes m lines (cut_leg lines cs 0) (cut_leg lines cs (legs - 1)) pos neg in
        ap length whole_bytes
        ∙ omega
        (arith, length-append start (points ++ end), length-append points end, start_length m lines, points_all, end_length)

    -- The bytes from the last point's P on, by the numbers that are put.
    pub put_tail : (a : LineAttributes) (first last : ℕ) → a ≡ arriving m (last_of lines) → first ≡ total m (cut_leg lines cs 0) →
        last ≡ total m (cut_leg lines cs (legs - 1)) → (before : List ℕ) {now after : List ℕ} →
        7 + 7 * legs + 2 + flagged pos 1 + flagged neg 1 ≤ length before → now ≡ put_at (7 + 7 * legs) (last_bytes a pos neg) before →
        after ≡ put_at (7 + 7 * legs + 2) (offset_part first pos ++ offset_part last neg) now →
        after ≡ put_at (7 + 7 * legs) (end_bytes m lines (cut_leg lines cs 0) (cut_leg lines cs (legs - 1)) pos neg) before
    unfolding end_bytes last_bytes
    put_tail a first last arrives on-first on-last before room e f =
        let at = 7 + 7 * legs in
        let parts = offset_part first pos ++ offset_part last neg in
        let size = length-append (offset_part first pos) (offset_part last neg) in
        f ∙ ap (put_at (at + 2) parts) e
        ∙ put_then at (last_bytes a pos neg) before (omega arith) (at + 2) refl parts
        (omega (arith, size, part_length first pos, part_length last neg))
        ∙ (λ t. put_at at (last_bytes (arrives t) pos neg ++ (offset_part (on-first t) pos ++ offset_part (on-last t) neg)) before)

    -- All three parts.
    pub put_whole : (before : List ℕ) {start points after : List ℕ} → 7 + 7 * legs + 2 + flagged pos 1 + flagged neg 1 ≤ length before →
        start ≡ put_at 0 (start_bytes m lines) before →
        points ≡ put_at 7 (point_bytes (points_of m (cut_legs lines 0 cs)) []) start →
        after ≡ put_at (7 + 7 * legs) (end_bytes m lines (cut_leg lines cs 0) (cut_leg lines cs (legs - 1)) pos neg) points →
        after ≡ placed (stretch_bytes m (cut_legs lines 0 cs) (stretch_of lines pos neg)) before
    put_whole before room e f g =
        let xs = start_bytes m lines in
        let ys = point_bytes (points_of m (cut_legs lines 0 cs)) [] in
        let zs = end_bytes m lines (cut_leg lines cs 0) (cut_leg lines cs (legs - 1)) pos neg in
        let x = start_length m lines in
        let y = points_all in
        let xy = length-append xs ys in
        g ∙ ap (put_at (7 + 7 * legs) zs) (f ∙ ap (put_at 7 ys) e ∙ put_then 0 xs before (omega arith) 7 (omega arith) ys (omega arith))
        ∙ put_then 0 (xs ++ ys) before (omega arith) (7 + 7 * legs) (omega arith) zs (omega (arith, end_length))
        ∙ ap (λ (l : List ℕ). put_at 0 l before) (append_assoc xs ys zs ∙ sym whole_bytes)
        ∙ put_first (stretch_bytes m (cut_legs lines 0 cs) (stretch_of lines pos neg)) before
