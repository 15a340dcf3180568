-- "The ridge example with lengths and offset tenfold keeps its bytes" (paper 02, W8): so does every stretch on every map.
use Prim.Native.Nat.{ℕ, zero, suc, ◌+◌, ◌-◌, ◌*◌, ◌/◌, ◌≤◌}
use mathlib.Core.Path.{◌≡◌, refl, sym, ◌∙◌, ap, ap₂, subst}
use mathlib.Core.Bool.{Bool, true, false, cond, ◌||◌}
use mathlib.Core.List.{List, [], ◌∷◌, reverse}
use native.Mathlib.Omega.{arith}
use native.Mathlib.Nat.{mul-div-mul_right}
use lib.ListN.{length, length-map, get_or-map}
use lib.Dec.{ltb, leb, eqb}
use borrow.Author.Tests.{le-leb, lt-leb, leb-true, leb-false, ne_eqb}
use Rattle.model.specs.Map.{Line, no_line, Map, whole, decode}
use Rattle.model.specs.Field.{distance, offset_steps, nearest_step, offset_byte}
use Rattle.model.specs.Lines.{line_at, node_at, banned, Follows, Connected, single, linked, total, lowest, first_of, last_of, leaving, arriving}
use Rattle.model.specs.Reading.{Arrival, any, matching, Leg, Arrives, Allowed, Reading, Only}
use Rattle.model.specs.Stretch.{Stretch, StretchAnswer, remains, greatest_stretch, unknown, some_pair, apart, gap, banned_pair, Skipped, skip, remaining, check_stretch}
use Rattle.model.specs.Choice.{from_node, to_node, arrival_of, leg_of, good, first_leg, last_leg, point_of, points_of, offset_of, reference_of, stretch_bytes}
use Rattle.model.specs.Outcome.{WriteOutcome, written, WriteStretch, Writes}
use Rattle.model.specs.Tenfold.{decimetre_distance, decimetre_leg, DecimetreAllowed, DecimetreReading, decimetre_good, decimetre_point, decimetre_points, decimetre_reference, decimetre_bytes, DecimetreStretch, decimetre_along, decimetre_given_bytes, tenfold_line, tenfold, tenfold_stretch, tenfold_point, Tenfold, TenfoldPoints}
use Rattle.model.specs.Work.{work_length}
use Rattle.model.specs.Reference.{Offset}
use Rattle.model.specs.Span.{Gives, SpanRead, unflagged, flagged}
use Rattle.model.specs.declared.Span.{Span}
use Rattle.model.specs.Refusal.{row}
use Rattle.model.specs.PointAlong.{GivenPoint, own_leg, along_of, given_bytes, check_point}
use Rattle.model.specs.Demand3.{ReadAs}
use Rattle.model.proofs.Opened.{area_full}
use Rattle.model.proofs.Demand3.{demand3}
use Rattle.model.proofs.SameChoice.{Passes, written_by}

-- ---- numbers: D and an offset's byte are the same

pub tenfold_distance : (n : ℕ) → distance (10 * n) ≡ decimetre_distance n
unfolding distance decimetre_distance
tenfold_distance n = omega arith

tenfold_step : (leg offset : ℕ) → nearest_step (10 * leg) (10 * offset) ≡ nearest_step leg offset
unfolding nearest_step
tenfold_step leg offset =
    ap₂ (λ (x y : ℕ). x / y) (omega arith) (omega arith) ∙ mul-div-mul_right {m = 10} (2 * offset_steps * offset + leg) (2 * leg) (omega arith)

pub tenfold_byte : (leg offset : ℕ) → offset_byte (10 * leg) (10 * offset) ≡ offset_byte leg offset
unfolding offset_byte
tenfold_byte leg offset = rw (tenfold_step leg offset) refl

-- "Its offset span must be worked out afresh": it holds the former one tenfold, and may be wider.
gives_tenfold : {leg b o : ℕ} → Gives leg b o → Gives (10 * leg) b (10 * o)
gives_tenfold {leg} {b} {o} g = record { above = omega (arith, g.above); inside = omega (arith, g.inside); same = tenfold_byte leg o ∙ g.same }

pub span_holds : {leg : ℕ} {o : Offset} {s s' : Span} → SpanRead leg o s → SpanRead (10 * leg) o s' →
    (s'.least ≤ 10 * s.least) × (10 * s.greatest ≤ s'.greatest)
span_holds unflagged unflagged = (omega arith, omega arith)
span_holds (flagged low high all) (flagged low' high' all') = ((all' _ (gives_tenfold low)).0, (all' _ (gives_tenfold high)).1)

-- Tests of tenfold numbers.
leb_tenfold : (a b : ℕ) → leb (10 * a) (10 * b) ≡ leb a b
leb_tenfold a b = by (leb a b) refl
  where
    by : (t : Bool) → leb a b ≡ t → leb (10 * a) (10 * b) ≡ leb a b
    by true e = le-leb (10 * a) (10 * b) (omega (arith, leb-true a b e)) ∙ sym e
    by false e = lt-leb (10 * a) (10 * b) (omega (arith, leb-false a b e)) ∙ sym e

eqb_tenfold : (a : ℕ) → eqb (10 * a) 0 ≡ eqb a 0
eqb_tenfold zero = refl
eqb_tenfold (suc a) = ne_eqb (10 * suc a) 0 (λ e. omega (arith, e)) ∙ sym (ne_eqb (suc a) 0 (λ e. omega (arith, e)))

-- ---- lines: all but their lengths

module _ (m : Map) where
  line_tenfold : (l : ℕ) → line_at (tenfold m) l ≡ tenfold_line (line_at m l)
  unfolding line_at
  line_tenfold l = get_or-map tenfold_line m.lines l no_line

  total_tenfold : (ls : List ℕ) → total (tenfold m) ls ≡ 10 * total m ls
  unfolding total
  total_tenfold [] = refl
  total_tenfold (l ∷ ls) = rw (line_tenfold l, total_tenfold ls) (omega arith)

  lowest_tenfold : (ls : List ℕ) → lowest (tenfold m) ls ≡ lowest m ls
  unfolding lowest
  lowest_tenfold [] = refl
  lowest_tenfold (l ∷ ls) = rw (line_tenfold l, lowest_tenfold ls) refl

  leaving_tenfold : (l : ℕ) → leaving (tenfold m) l ≡ leaving m l
  unfolding leaving
  leaving_tenfold l = rw (line_tenfold l) refl

  arriving_tenfold : (l : ℕ) → arriving (tenfold m) l ≡ arriving m l
  unfolding arriving
  arriving_tenfold l = rw (line_tenfold l) refl

  follows_now : {l k : ℕ} → Follows m l k → Follows (tenfold m) l k
  unfolding banned
  follows_now {l} {k} f =
      record { line = rw (length-map m.lines tenfold_line) f.line; meets = rw (line_tenfold l, line_tenfold k) f.meets; allowed = f.allowed }

  follows_then : {l k : ℕ} → Follows (tenfold m) l k → Follows m l k
  unfolding banned
  follows_then {l} {k} f =
      record {
        line = rw (length-map m.lines tenfold_line) at f.line;
        meets = rw (line_tenfold l, line_tenfold k) at f.meets;
        allowed = f.allowed;
      }

  connected_now : {ls : List ℕ} → Connected m ls → Connected (tenfold m) ls
  connected_now (single {l = l} h) = single {l = l} (rw (length-map m.lines tenfold_line) h)
  connected_now (linked {l = l} {k = k} h f c) = linked {l = l} {k = k} (rw (length-map m.lines tenfold_line) h) (follows_now f) (connected_now c)

  connected_then : {ls : List ℕ} → Connected (tenfold m) ls → Connected m ls
  connected_then (single h) = single (rw (length-map m.lines tenfold_line) at h)
  connected_then (linked h f c) = linked (rw (length-map m.lines tenfold_line) at h) (follows_then f) (connected_then c)

  from_tenfold : (ls : List ℕ) → from_node (tenfold m) ls ≡ from_node m ls
  unfolding from_node
  from_tenfold ls = ap (λ (l : Line). l.start) (line_tenfold (first_of ls))

  to_tenfold : (ls : List ℕ) → to_node (tenfold m) ls ≡ to_node m ls
  unfolding to_node
  to_tenfold ls = ap (λ (l : Line). l.end) (line_tenfold (last_of ls))

  distance_tenfold : (ls : List ℕ) → distance (total (tenfold m) ls) ≡ decimetre_distance (total m ls)
  distance_tenfold ls = ap distance (total_tenfold ls) ∙ tenfold_distance (total m ls)

  -- ---- legs: what is allowed, what is a reading, what is good

  leg_tenfold : (last : Bool) (ls : List ℕ) → leg_of (tenfold m) last ls ≡ decimetre_leg m last ls
  unfolding leg_of decimetre_leg arrival_of
  leg_tenfold last ls =
      rw (from_tenfold ls, to_tenfold ls, leaving_tenfold (first_of ls), arriving_tenfold (last_of ls), lowest_tenfold ls, distance_tenfold ls) refl

  arrives_now : (a : Arrival) (ls : List ℕ) → Arrives m a ls → Arrives (tenfold m) a ls
  arrives_now any ls h = tt
  arrives_now (matching a) ls h = arriving_tenfold (last_of ls) ∙ h

  arrives_then : (a : Arrival) (ls : List ℕ) → Arrives (tenfold m) a ls → Arrives m a ls
  arrives_then any ls h = tt
  arrives_then (matching a) ls h = sym (arriving_tenfold (last_of ls)) ∙ h

  module _ {leg : Leg} {ls : List ℕ} where
    allowed_now : DecimetreAllowed m leg ls → Allowed (tenfold m) leg ls
    allowed_now d =
        let a = d.allowed in
        record {
          connected = connected_now a.connected;
          starts = rw (line_tenfold (first_of ls)) a.starts;
          leaves = leaving_tenfold (first_of ls) ∙ a.leaves;
          ends = rw (line_tenfold (last_of ls)) a.ends;
          arrives = arrives_now leg.arrival ls a.arrives;
          classes = rw (lowest_tenfold ls) a.classes;
          within = omega (arith, total_tenfold ls, d.within);
        }

    allowed_then : Allowed (tenfold m) leg ls → DecimetreAllowed m leg ls
    allowed_then a =
        record {
          allowed = record {
            connected = connected_then a.connected;
            starts = rw (line_tenfold (first_of ls)) at a.starts;
            leaves = sym (leaving_tenfold (first_of ls)) ∙ a.leaves;
            ends = rw (line_tenfold (last_of ls)) at a.ends;
            arrives = arrives_then leg.arrival ls a.arrives;
            classes = rw (lowest_tenfold ls) at a.classes;
            within = omega (arith, total_tenfold ls, a.within);
          };
          within = omega (arith, total_tenfold ls, a.within);
        }

  -- A leg's readings are the same: the least of tenfold lengths are the tenfold of the least.
  module _ {leg : Leg} {ls : List ℕ} where
    pub reading_now : DecimetreReading m leg ls → Reading (tenfold m) leg ls
    reading_now r =
        record {
          allowed = allowed_now r.allowed;
          distanced = distance_tenfold ls ∙ r.distanced;
          least = λ other a same. omega (arith, total_tenfold ls, total_tenfold other, r.least other (allowed_then a) same);
        }

    pub reading_then : Reading (tenfold m) leg ls → DecimetreReading m leg ls
    reading_then r =
        record {
          allowed = allowed_then r.allowed;
          distanced = sym (distance_tenfold ls) ∙ r.distanced;
          least = λ other a same. omega (arith, total_tenfold ls, total_tenfold other, r.least other (allowed_now a) same);
        }

  good_now : (lines : List ℕ) → Passes (decimetre_good m) (good (tenfold m)) lines
  unfolding node_at
  good_now lines at last ls inside g =
      record {
        fit = rw (from_tenfold ls, to_tenfold ls) g.fit;
        only = rw (leg_tenfold last ls) (record { reading = reading_now g.reading; only = λ other r. g.only other (reading_then r) });
      }

  good_then : (lines : List ℕ) → Passes (good (tenfold m)) (decimetre_good m) lines
  unfolding node_at
  good_then lines at last ls inside g =
      let o : Only (tenfold m) (decimetre_leg m last ls) ls = rw (leg_tenfold last ls) at g.only in
      record {
        fit = rw (from_tenfold ls, to_tenfold ls) at g.fit;
        reading = reading_then o.reading;
        only = λ other r. o.only other (reading_now r);
      }

  -- ---- bytes

  point_tenfold : (ls : List ℕ) → point_of (tenfold m) ls ≡ decimetre_point m ls
  unfolding point_of decimetre_point node_at
  point_tenfold ls =
      rw (leaving_tenfold (first_of ls), lowest_tenfold ls, distance_tenfold ls, from_tenfold ls, to_tenfold ls) refl

  points_tenfold : (lss : List (List ℕ)) → points_of (tenfold m) lss ≡ decimetre_points m lss
  unfolding points_of decimetre_points
  points_tenfold [] = refl
  points_tenfold (ls ∷ lss) = ap₂ ◌∷◌ (point_tenfold ls) (points_tenfold lss)

offset_tenfold : (leg offset : ℕ) → offset_of (10 * leg) (10 * offset) ≡ offset_of leg offset
unfolding offset_of
offset_tenfold leg offset = rw (eqb_tenfold offset, tenfold_byte leg offset) refl

module _ (m : Map) (s : Stretch) where
  bytes_tenfold : (lss : List (List ℕ)) → stretch_bytes (tenfold m) lss (tenfold_stretch s) ≡ decimetre_bytes m lss s
  unfolding stretch_bytes decimetre_bytes reference_of decimetre_reference node_at
  bytes_tenfold lss =
      rw (from_tenfold m (first_leg lss), points_tenfold m lss, arriving_tenfold m (last_of (last_leg lss)), total_tenfold m (first_leg lss), total_tenfold m (last_leg lss), offset_tenfold (total m (first_leg lss)) s.pos, offset_tenfold (total m (last_leg lss)) s.neg) refl

-- ---- a stretch: its checks, and what remains of it

abbrev tenfold_skipped : Skipped → Skipped
tenfold_skipped k = record { lines = k.lines; offset = 10 * k.offset }

abbrev tenfold_answer : StretchAnswer → StretchAnswer
tenfold_answer (remains s) = remains (tenfold_stretch s)
tenfold_answer (StretchAnswer.refused r) = StretchAnswer.refused r

module _ (m : Map) where
  unknown_tenfold : (ls : List ℕ) → unknown (tenfold m) ls ≡ unknown m ls
  unfolding unknown
  unknown_tenfold [] = refl
  unknown_tenfold (l ∷ ls) = rw (length-map m.lines tenfold_line, unknown_tenfold ls) refl

  apart_tenfold : (l k : ℕ) → apart (tenfold m) l k ≡ apart m l k
  unfolding apart
  apart_tenfold l k = rw (line_tenfold m l, line_tenfold m k) refl

  gap_tenfold : (ls : List ℕ) → gap (tenfold m) ls ≡ gap m ls
  unfolding some_pair
  gap_tenfold [] = refl
  gap_tenfold (l ∷ []) = refl
  gap_tenfold (l ∷ k ∷ ls) = rw (apart_tenfold l k, gap_tenfold (k ∷ ls)) refl

  skip_tenfold : (offset : ℕ) (ls : List ℕ) → skip (tenfold m) (10 * offset) ls ≡ tenfold_skipped (skip m offset ls)
  unfolding skip
  skip_tenfold offset [] = refl
  skip_tenfold offset (l ∷ ls) =
      let len = (line_at m l).length in
      let len' = (line_at (tenfold m) l).length in
      let ten : len' ≡ 10 * len = ap (λ (x : Line). x.length) (line_tenfold m l) in
      let less : 10 * offset - len' ≡ 10 * (offset - len) = omega arith in
      let test : leb len' (10 * offset) ≡ leb len offset = ap (λ (x : ℕ). leb x (10 * offset)) ten ∙ leb_tenfold len offset in
      let rest : skip (tenfold m) (10 * offset - len') ls ≡ tenfold_skipped (skip m (offset - len) ls) =
      ap (λ (x : ℕ). skip (tenfold m) x ls) less ∙ skip_tenfold (offset - len) ls in
      subst
      (λ (t : Bool). elim t [ true ↦ skip (tenfold m) (10 * offset - len') ls | false ↦ record { lines = l ∷ ls; offset = 10 * offset } ] ≡
      tenfold_skipped (skip m offset (l ∷ ls))) (sym test) (by rest (leb len offset))
    where
      by : {behind : Skipped} → behind ≡ tenfold_skipped (skip m (offset - (line_at m l).length) ls) → (t : Bool) →
          elim t [ true ↦ behind | false ↦ record { lines = l ∷ ls; offset = 10 * offset } ] ≡
          tenfold_skipped (elim t [ true ↦ skip m (offset - (line_at m l).length) ls | false ↦ record { lines = l ∷ ls; offset = offset } ])
      by rest true = rest
      by rest false = refl

  pub remaining_tenfold : (s : Stretch) → remaining (tenfold m) (tenfold_stretch s) ≡ tenfold_stretch (remaining m s)
  unfolding remaining
  remaining_tenfold s =
      rw (skip_tenfold s.pos s.lines, skip_tenfold s.neg (reverse (skip m s.pos s.lines).lines)) refl

  reach_tenfold : (s : Stretch) → leb (total (tenfold m) s.lines) (10 * s.pos + 10 * s.neg) ≡ leb (total m s.lines) (s.pos + s.neg)
  reach_tenfold s =
      let both : 10 * s.pos + 10 * s.neg ≡ 10 * (s.pos + s.neg) = omega arith in
      rw (total_tenfold m s.lines, both) (leb_tenfold (total m s.lines) (s.pos + s.neg))

  check_tenfold : (s : Stretch) → check_stretch (tenfold m) (tenfold_stretch s) ≡ tenfold_answer (check_stretch m s)
  unfolding check_stretch banned
  check_tenfold s =
      rw (unknown_tenfold s.lines, gap_tenfold s.lines, reach_tenfold s, remaining_tenfold s)
      (answers (eqb (length s.lines) 0 || ltb greatest_stretch (length s.lines) || unknown m s.lines) (gap m s.lines) (banned_pair m s.lines)
      (leb (total m s.lines) (s.pos + s.neg)) (remaining m s))
    where
      answers : (a b c d : Bool) (r : Stretch) →
          cond a (StretchAnswer.refused (row 7)) (cond b (StretchAnswer.refused (row 8)) (cond c (StretchAnswer.refused (row 21))
          (cond d (StretchAnswer.refused (row 9)) (remains (tenfold_stretch r))))) ≡
          tenfold_answer (cond a (StretchAnswer.refused (row 7)) (cond b (StretchAnswer.refused (row 8)) (cond c (StretchAnswer.refused (row 21))
          (cond d (StretchAnswer.refused (row 9)) (remains r)))))
      answers true b c d r = refl
      answers false true c d r = refl
      answers false false true d r = refl
      answers false false false true r = refl
      answers false false false false r = refl

  -- ---- so it has the outcome that it had

  module _ (tests room : ℕ) (o : WriteOutcome) where
    answer_now : (a : StretchAnswer) → DecimetreStretch m a tests room o → WriteStretch (tenfold m) (tenfold_answer a) tests room o
    answer_now (remains r) h =
        written_by (good_now m r.lines) (good_then m r.lines) (λ lss. decimetre_bytes m lss r) (λ lss. stretch_bytes (tenfold m) lss (tenfold_stretch r))
        (λ lss c. sym (bytes_tenfold m r lss)) _ room h
    answer_now (StretchAnswer.refused r) h = h

    answer_then : (a : StretchAnswer) → WriteStretch (tenfold m) (tenfold_answer a) tests room o → DecimetreStretch m a tests room o
    answer_then (remains r) h =
        written_by (good_then m r.lines) (good_now m r.lines) (λ lss. stretch_bytes (tenfold m) lss (tenfold_stretch r)) (λ lss. decimetre_bytes m lss r)
        (λ lss c. bytes_tenfold m r lss) _ room h
    answer_then (StretchAnswer.refused r) h = h

    keeps : (s : Stretch) → DecimetreStretch m (check_stretch m s) tests room o → WriteStretch (tenfold m) (check_stretch (tenfold m) (tenfold_stretch s)) tests room o
    keeps s h = rw (check_tenfold s) (answer_now (check_stretch m s) h)

    kept : (s : Stretch) → WriteStretch (tenfold m) (check_stretch (tenfold m) (tenfold_stretch s)) tests room o → DecimetreStretch m (check_stretch m s) tests room o
    kept s h = answer_then (check_stretch m s) (rw (check_tenfold s) at h)

still_read : (m : Map) (mb bytes : List ℕ) (s : Stretch) (tests room made excess : ℕ) → decode mb ≡ whole (tenfold m) →
    DecimetreStretch m (check_stretch m s) tests room (written bytes made excess) → (pos : Span) × (neg : Span) × ReadAs mb bytes (remaining m s).lines pos neg
still_read m mb bytes s tests room made excess d h =
    let o = written bytes made excess in
    let w : Writes mb (tenfold_stretch s) tests work_length room o =
    area_full WriteOutcome.refused (λ m. WriteStretch m (check_stretch m (tenfold_stretch s)) tests room) mb work_length o (omega arith)
    (rw d (keeps m tests room o s h)) in
    let b = demand3.back mb bytes (tenfold_stretch s) tests work_length room made excess w in
    let wholes : whole b.map ≡ whole (tenfold m) = sym b.decodes ∙ d in
    let same : b.map ≡ tenfold m = cc in
    let lines : (remaining b.map (tenfold_stretch s)).lines ≡ (remaining m s).lines =
    ap (λ (x : Map). (remaining x (tenfold_stretch s)).lines) same ∙ ap (λ (x : Stretch). x.lines) (remaining_tenfold m s) in
    (b.pos, b.neg, subst (λ (ls : List ℕ). ReadAs mb bytes ls b.pos b.neg) lines b.reads)

pub tenfold_keeps : Tenfold
tenfold_keeps =
    record {
      keeps = λ m s tests room o h. keeps m tests room o s h;
      kept = λ m s tests room o h. kept m tests room o s h;
      still_read = still_read;
    }

-- ---- a point along a line

point_check : (m : Map) (p : GivenPoint) → check_point (tenfold m) (tenfold_point p) ≡ check_point m p
unfolding check_point
point_check m p =
    let outside : leb (line_at (tenfold m) p.line).length (10 * p.offset) ≡ leb (line_at m p.line).length p.offset =
    rw (line_tenfold m p.line) (leb_tenfold (line_at m p.line).length p.offset) in
    rw (length-map m.lines tenfold_line, outside) refl

point_bytes : (m : Map) (p : GivenPoint) → given_bytes (tenfold m) (tenfold_point p) ≡ decimetre_given_bytes m p
unfolding given_bytes decimetre_given_bytes along_of decimetre_along node_at
point_bytes m p =
    let start : (line_at (tenfold m) p.line).start ≡ (line_at m p.line).start = ap (λ (l : Line). l.start) (line_tenfold m p.line) in
    let long : (line_at (tenfold m) p.line).length ≡ 10 * (line_at m p.line).length = ap (λ (l : Line). l.length) (line_tenfold m p.line) in
    rw (start, point_tenfold m (own_leg p), arriving_tenfold m p.line, long, offset_tenfold (line_at m p.line).length p.offset) refl

pub tenfold_keeps_points : TenfoldPoints
tenfold_keeps_points =
    record {
      checks = point_check;
      good_now = λ m p g. good_now m (own_leg p) 0 true (own_leg p) (λ l i. i) g;
      good_then = λ m p g. good_then m (own_leg p) 0 true (own_leg p) (λ l i. i) g;
      bytes = point_bytes;
    }
