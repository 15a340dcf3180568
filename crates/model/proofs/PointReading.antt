-- "Reading hands back the leg's lines, however many, the offset span, orientation and side" (W5): what an acceptance says, which refusals there are on the map and
-- with which places, and that each outcome is the only one.
use Prim.Native.Nat.{ℕ, ◌+◌, ◌≤◌}
use mathlib.Core.Path.{◌≡◌, refl, sym, ◌∙◌, ap, subst}
use mathlib.Core.List.{List, [], ◌∷◌, append-nil}
use native.Mathlib.Omega.{arith}
use lib.ListN.{length}
use Rattle.model.specs.declared.Span.{Span}
use Rattle.model.specs.Refusal.{Refused, row, row_at}
use Rattle.model.specs.Map.{Map}
use Rattle.model.specs.Lines.{node_at, Connected, total}
use Rattle.model.specs.Reference.{Offset, absent, Reference}
use Rattle.model.specs.Reading.{Leg, Only, joined, banned_meeting}
use Rattle.model.specs.Choice.{first_leg, last_leg}
use Rattle.model.specs.Locate.{Found, found, missing, Located, located, no_node, seek, leg_first, arrival_before, legs_from, has_codes, locate}
use Rattle.model.specs.Difference.{stands_at}
use Rattle.model.specs.Span.{SpanRead, unflagged, flagged, NoOffset}
use Rattle.model.specs.Outcome.{LegsRead, every, failed, ReadOutcome, ReadEnd, ReadJoined, ReadOn}
use Rattle.model.specs.PointAlong.{PointAlong, PointParse, parsed, parse_point, line_reference, PointReadOutcome, read, PointReadOn, PointReadParsed, PointReads}
use Rattle.model.specs.WellFormed.{WellFormed}
use Rattle.model.proofs.Joining.{first_length, first_ok}
use Rattle.model.proofs.Opened.{opens_once}
use Rattle.model.proofs.Once.{read_on_same}

-- ---- one outcome at most

module _ {m : Map} {a : PointAlong} {room : ℕ} where
  point_on_same : {o o' : PointReadOutcome} → PointReadOn m a room o → PointReadOn m a room o' → o ≡ o'
  point_on_same (PointReadOn.accepted h) (PointReadOn.accepted h') = let same = read_on_same m (line_reference a) room h h' in cc
  point_on_same (PointReadOn.accepted h) (PointReadOn.not_accepted h') = let same = read_on_same m (line_reference a) room h h' in cc
  point_on_same (PointReadOn.not_accepted h) (PointReadOn.accepted h') = let same = read_on_same m (line_reference a) room h h' in cc
  point_on_same (PointReadOn.not_accepted h) (PointReadOn.not_accepted h') = let same = read_on_same m (line_reference a) room h h' in cc

module _ (mb ref : List ℕ) (room : ℕ) {o o' : PointReadOutcome} where
  pub parsed_same : (m : Map) (a : PointParse) → PointReadParsed m a room o → PointReadParsed m a room o' → o ≡ o'
  parsed_same m (parsed a) h h' = point_on_same h h'
  parsed_same m (PointParse.refused r) h h' = cc

  pub point_reads_once : (work : ℕ) → PointReads mb ref work room o → PointReads mb ref work room o' → o ≡ o'
  point_reads_once work h h' =
      opens_once PointReadOutcome.refused (λ m. PointReadParsed m (parse_point ref) room) (λ m. parsed_same m (parse_point ref)) mb work h h'

-- ---- the only leg

not_located : {k : ℕ} {legs : List Leg} → no_node k ≡ located legs → ⊥
not_located e = let z : ◌≡◌ {A = ℕ} 0 1 = cc in omega arith

abbrev OneLeg : Located → Type 0
OneLeg (located legs) = (leg : Leg) × (legs ≡ leg ∷ [])
OneLeg (no_node k) = k ≤ 1

module _ (m : Map) (a : PointAlong) where
  abbrev leg_between : ℕ → ℕ → Leg
  leg_between v u =
      record {
        from = v;
        to = u;
        leaves = a.point.leaves;
        lowest = a.point.lowest;
        distance = a.point.distance;
        arrival = arrival_before [] a.arrives;
      }

  second_point : (v : ℕ) → OneLeg (legs_from m a.arrives v 0 (a.point ∷ []))
  unfolding legs_from leg_first
  second_point v = go (seek (stands_at (node_at m v) a.point.next) 0 m.nodes)
    where
      go : (f : Found) → OneLeg (elim f [ found u ↦ leg_first (leg_between v u) (legs_from m a.arrives u (0 + 1) []) | missing ↦ no_node (0 + 1) ])
      go (found u) = (leg_between v u, refl)
      go missing = omega arith

  one_leg : OneLeg (locate m (line_reference a))
  unfolding locate line_reference
  one_leg = go (seek (has_codes a.lon a.lat) 0 m.nodes)
    where
      go : (f : Found) → OneLeg (elim f [ found v ↦ legs_from m a.arrives v 0 (a.point ∷ []) | missing ↦ no_node 0 ])
      go (found v) = second_point v
      go missing = omega arith

  its_leg : {legs : List Leg} → locate m (line_reference a) ≡ located legs → (leg : Leg) × (legs ≡ leg ∷ [])
  its_leg e = subst OneLeg e one_leg

-- ---- accepted

-- What an acceptance says: bytes taken apart, both points' nodes, the one leg between them and its only reading, the span of the offset on that leg, and the
-- marks as they stand in the bytes. The lines fit the buffer.
pub record HandedBack (m : Map) (bytes : List ℕ) (room : ℕ) (lines : List ℕ) (span : Span) (orientation side : ℕ) : Type 0 where
  pub along : PointAlong
  pub leg : Leg
  pub parses : parse_point bytes ≡ parsed along
  pub locates : locate m (line_reference along) ≡ located (leg ∷ [])
  pub only : Only m leg lines
  pub span_read : SpanRead (total m lines) along.offset span
  pub oriented : orientation ≡ along.orientation
  pub sided : side ≡ along.side
  pub fits : length lines ≤ room

module _ (m : Map) (r : Reference) (room : ℕ) (leg : Leg) where
  read_end : {lss : List (List ℕ)} {ls : List ℕ} {pos neg : Span} → ReadEnd m r room lss (ReadOutcome.read ls pos neg) →
      (ls ≡ joined lss) × SpanRead (total m (first_leg lss)) r.pos pos × (length (joined lss) ≤ room)
  read_end (ReadEnd.accepted s h k) = (refl, s.pos_read, k)

  read_leg : {lss : List (List ℕ)} (ls : List ℕ) (pos neg : Span) → LegsRead m 0 (leg ∷ []) (every lss) →
      ReadJoined (banned_meeting m lss) m r room lss (ReadOutcome.read ls pos neg) → Only m leg ls × SpanRead (total m ls) r.pos pos × (length ls ≤ room)
  unfolding banned_meeting joined first_leg
  read_leg ls pos neg (LegsRead.only {ls = ks} o LegsRead.none) end =
      let e = read_end end in
      let same = e.0 ∙ append-nil ks in
      (subst (Only m leg) (sym same) o, subst (λ (l : List ℕ). SpanRead (total m l) r.pos pos) (sym same) e.1, rw (← e.0) at e.2)

handed_on : (m : Map) (a : PointAlong) (bytes : List ℕ) (room : ℕ) (ls : List ℕ) (pos neg : Span) → parse_point bytes ≡ parsed a →
    ReadOn m (line_reference a) room (ReadOutcome.read ls pos neg) → HandedBack m bytes room ls pos a.orientation a.side
unfolding line_reference
handed_on m a bytes room ls pos neg p (ReadOn.every_leg {legs = legs} {lss = lss} e h end) =
    let one = its_leg m a e in
    let read : LegsRead m 0 (one.0 ∷ []) (every lss) = subst (λ (l : List Leg). LegsRead m 0 l (every lss)) one.1 h in
    let all = read_leg m (line_reference a) room one.0 ls pos neg read end in
    record {
      along = a;
      leg = one.0;
      parses = p;
      locates = e ∙ ap located one.1;
      only = all.0;
      span_read = all.1;
      oriented = refl;
      sided = refl;
      fits = all.2;
    }

handed_along : (m : Map) (a : PointAlong) (bytes : List ℕ) (room : ℕ) {ls : List ℕ} {span : Span} {orientation side : ℕ} → parse_point bytes ≡ parsed a →
    PointReadOn m a room (read ls span orientation side) → HandedBack m bytes room ls span orientation side
handed_along m a bytes room p (PointReadOn.accepted {ls = ls} {pos = pos} {neg = neg} r) = handed_on m a bytes room ls pos neg p r

pub handed_back : (m : Map) (bytes : List ℕ) (room : ℕ) (ls : List ℕ) (span : Span) (orientation side : ℕ) →
    PointReadParsed m (parse_point bytes) room (read ls span orientation side) → HandedBack m bytes room ls span orientation side
handed_back m bytes room ls span orientation side h = go (parse_point bytes) refl h
  where
    go : (p : PointParse) → parse_point bytes ≡ p → PointReadParsed m p room (read ls span orientation side) → HandedBack m bytes room ls span orientation side
    go (parsed a) p h' = handed_along m a bytes room p h'
    go (PointParse.refused r) p h' = absurd (let z : ◌≡◌ {A = ℕ} 0 1 = cc in omega arith)

-- ---- refused on the map

-- 16 has point 0 or 1, 17 and 18 have leg 0; then come 19 and 20. There is no 22, since one leg meets no other.
pub data PointRow : Refused → Type 0 where
  no_point : {k : ℕ} → k ≤ 1 → PointRow (row_at 16 k)
  no_reading : PointRow (row_at 17 0)
  several : PointRow (row_at 18 0)
  no_offset : PointRow (row 19)
  no_room : PointRow (row 20)

module _ (m : Map) (a : PointAlong) (room : ℕ) where
  no_such_point : {k : ℕ} → locate m (line_reference a) ≡ no_node k → k ≤ 1
  no_such_point e = subst OneLeg e (one_leg m a)

  leg_row : (leg : Leg) {n k : ℕ} → LegsRead m 0 (leg ∷ []) (failed n k) → PointRow (row_at n k)
  leg_row leg (LegsRead.unread u) = no_reading
  leg_row leg (LegsRead.several t) = several
  leg_row leg (LegsRead.later o h) = elim h [ ]

  end_row : (lss : List (List ℕ)) {why : Refused} → ReadEnd m (line_reference a) room lss (ReadOutcome.refused why) → PointRow why
  end_row lss (ReadEnd.no_pos x) = no_offset
  end_row lss (ReadEnd.no_neg x) = no_offset
  end_row lss (ReadEnd.too_far s h) = no_offset
  end_row lss (ReadEnd.no_room s h k) = no_room

  joined_row : (leg : Leg) (lss : List (List ℕ)) (why : Refused) → LegsRead m 0 (leg ∷ []) (every lss) →
      ReadJoined (banned_meeting m lss) m (line_reference a) room lss (ReadOutcome.refused why) → PointRow why
  unfolding banned_meeting
  joined_row leg lss why (LegsRead.only o LegsRead.none) end = end_row lss end

  on_row : (why : Refused) → ReadOn m (line_reference a) room (ReadOutcome.refused why) → PointRow why
  on_row why (ReadOn.no_point e) = no_point (no_such_point e)
  on_row why (ReadOn.no_leg {n = n} {k = k} e h) =
      let one = its_leg m a e in
      leg_row one.0 (subst (λ (l : List Leg). LegsRead m 0 l (failed n k)) one.1 h)
  on_row why (ReadOn.every_leg {lss = lss} e h end) =
      let one = its_leg m a e in
      joined_row one.0 lss why (subst (λ (l : List Leg). LegsRead m 0 l (every lss)) one.1 h) end

  pub point_rows : (why : Refused) → PointReadOn m a room (PointReadOutcome.refused why) → PointRow why
  point_rows why (PointReadOn.not_accepted h) = on_row why h

-- ---- 19: its second half cannot hold

module _ (m : Map) (w : WellFormed m) (a : PointAlong) (room : ℕ) where
  -- The leg has one reading, and "no whole offset from 1 to below the leg length gives" the flagged byte.
  abbrev pub NoSuchOffset : Type 0
  NoSuchOffset = (leg : Leg) × (lines : List ℕ) × (locate m (line_reference a) ≡ located (leg ∷ [])) × Only m leg lines × NoOffset (total m lines) a.offset

  reached : {lines : List ℕ} {o : Offset} {pos neg : Span} → Connected m lines → SpanRead (total m lines) o pos → SpanRead (total m lines) absent neg →
      total m lines ≤ pos.least + neg.least → ⊥
  reached c unflagged unflagged h = omega (arith, h, first_length c, (first_ok w c).some)
  reached c (flagged lo hi all) unflagged h = omega (arith, h, lo.inside)

  no_negative : {n : ℕ} → NoOffset n absent → ⊥
  no_negative {n} x = go refl x
    where
      go : {o : Offset} → o ≡ absent → NoOffset n o → ⊥
      go e (NoOffset.no_offset f) = let z : ◌≡◌ {A = ℕ} 0 1 = cc in omega arith

  end_19 : (ls : List ℕ) → Connected m ls → {why : Refused} → why ≡ row 19 →
      ReadEnd m (line_reference a) room (ls ∷ []) (ReadOutcome.refused why) → NoOffset (total m ls) a.offset
  unfolding line_reference joined first_leg last_leg
  end_19 ls c e (ReadEnd.no_pos x) = x
  end_19 ls c e (ReadEnd.no_neg x) = absurd (no_negative x)
  end_19 ls c e (ReadEnd.too_far s h) = absurd (reached c s.pos_read s.neg_read (rw (append-nil ls) at h))
  end_19 ls c e (ReadEnd.no_room s h k) = absurd (let z : ◌≡◌ {A = ℕ} 20 19 = cc in omega arith)

  joined_19 : (leg : Leg) (lss : List (List ℕ)) → locate m (line_reference a) ≡ located (leg ∷ []) → LegsRead m 0 (leg ∷ []) (every lss) →
      ReadJoined (banned_meeting m lss) m (line_reference a) room lss (ReadOutcome.refused (row 19)) → NoSuchOffset
  unfolding banned_meeting
  joined_19 leg lss e (LegsRead.only {ls = ls} o LegsRead.none) end = (leg, ls, e, o, end_19 ls o.reading.allowed.connected refl end)

  on_19 : {why : Refused} → why ≡ row 19 → ReadOn m (line_reference a) room (ReadOutcome.refused why) → NoSuchOffset
  on_19 e (ReadOn.no_point f) = absurd (let z : ◌≡◌ {A = ℕ} 0 1 = cc in omega arith)
  on_19 e (ReadOn.no_leg f h) = absurd (let z : ◌≡◌ {A = ℕ} 0 1 = cc in omega arith)
  on_19 e (ReadOn.every_leg {lss = lss} f h end) =
      let one = its_leg m a f in
      let read : LegsRead m 0 (one.0 ∷ []) (every lss) = subst (λ (l : List Leg). LegsRead m 0 l (every lss)) one.1 h in
      joined_19 one.0 lss (f ∙ ap located one.1) read (rw e at end)

  pub no_such_offset : {why : Refused} → why ≡ row 19 → PointReadOn m a room (PointReadOutcome.refused why) → NoSuchOffset
  no_such_offset e (PointReadOn.not_accepted h) = on_19 e h
