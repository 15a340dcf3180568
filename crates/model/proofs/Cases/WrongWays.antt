-- Wrong readings that the reader's promise shuts out, on small maps: what a reader with a wrong search, or a wrong end of a leg, would answer there.
use Prim.Native.Nat.{ℕ, ◌≤◌}
use mathlib.Core.Path.{◌≡◌, refl}
use mathlib.Core.List.{List, [], ◌∷◌}
use native.Mathlib.Omega.{arith}
use lib.ListN.{length}
use borrow.Author.Tests.{le-ltb}
use Rattle.model.specs.declared.Refusal.{Refusal}
use Rattle.model.specs.declared.Span.{Span}
use Rattle.model.specs.Answer.{ReadAnswer, lines_read}
use Rattle.model.specs.Map.{Map}
use Rattle.model.specs.Reference.{absent, Point, Reference, bytes_of}
use Rattle.model.specs.Reading.{any, matching, Only, Several}
use Rattle.model.specs.Refusal.{row_at, refusal_of}
use Rattle.model.specs.Outcome.{LegsRead, ReadOutcome, read, ReadEnd, ReadOn, Reads}
use Rattle.model.specs.Span.{unflagged}
use Rattle.model.specs.Work.{work_length}
use Rattle.model.specs.Call.{ReadCall}
use Rattle.model.proofs.Outcomes.{on_reads}
use Rattle.model.proofs.Cases.Computing.{computing}
use Rattle.model.proofs.Cases.Ways.{finding, connects}
use Rattle.model.proofs.Cases.Legs.{reading, only, sole}
use Rattle.model.proofs.Cases.Ridge.{map_bytes, node, line, road, point, leg}
use Rattle.model.proofs.Cases.Encoded.{encoded, encoding}
use Rattle.model.proofs.Cases.Readings.{pair, fork, over_the_fork, fork_refused, back, first_legs}
use Rattle.model.proofs.Cases.References.{eastward, reference_cases}
use Rattle.model.proofs.Cases.Conditions.{long, longest_only, marks, by_marks}
use Rattle.model.proofs.Cases.Tie.{none}
use Rattle.model.proofs.Cases.WrongReaders.{counted, no_list_where_refused, only_this_refusal}
use Rattle.std.specs.Prelude.{Err, Ok}

-- The ridge with a line of 10,000 after it, from node 3 on to node 4.
abbrev pub beyond : Map
beyond =
    record {
      nodes = node 0 0 ∷ node 1_000 0 ∷ node 1_000 1_000 ∷ node 2_000 0 ∷ node 3_000 0 ∷ [];
      lines = line 0 1 10_000 8 24 ∷ line 1 3 10_000 8 24 ∷ line 1 2 5_000 0 16 ∷ line 2 3 5_000 12 24 ∷ line 3 4 10_000 8 24 ∷ [];
      bans = [];
    }

-- Two equal ways to one last line: 0, 1, 4 and 0, 2, 3, 4.
ways_meet : Several beyond (leg 0 4 5 (matching (road 24)))
unfolding computing finding
ways_meet =
    record {
      one = 0 ∷ 1 ∷ 4 ∷ [];
      other = 0 ∷ 2 ∷ 3 ∷ 4 ∷ [];
      first = reading beyond (leg 0 4 5 (matching (road 24))) refl (0 ∷ 1 ∷ 4 ∷ []) (search (connects, arith)) refl (omega arith);
      second = reading beyond (leg 0 4 5 (matching (road 24))) refl (0 ∷ 2 ∷ 3 ∷ 4 ∷ []) (search (connects, arith)) refl (omega arith);
      differ = λ e. let z : ◌≡◌ {A = ℕ} 1 2 = cc in omega arith;
    }

-- Two equal ways to one node on a middle leg: 0, 1 and 0, 2, 3.
lines_meet : Several beyond (leg 0 3 3 any)
unfolding computing finding
lines_meet =
    record {
      one = 0 ∷ 1 ∷ [];
      other = 0 ∷ 2 ∷ 3 ∷ [];
      first = reading beyond (leg 0 3 3 any) refl (0 ∷ 1 ∷ []) (search (connects, arith)) refl (omega arith);
      second = reading beyond (leg 0 3 3 any) refl (0 ∷ 2 ∷ 3 ∷ []) (search (connects, arith)) refl (omega arith);
      differ = λ e. let z : ◌≡◌ {A = ℕ} 1 2 = cc in omega arith;
    }

-- References from node 0 to node 4, with two points, and with one more at node 3.
abbrev along : List Point → Reference
along points = record { lon = 0; lat = 0; points = points; arrives = road 24; pos = absent; neg = absent }

abbrev pub two_beyond : Reference
two_beyond = along (point 5 3_000 ∷ [])

abbrev pub three_beyond : Reference
three_beyond = along (point 3 2_000 ∷ point 1 1_000 ∷ [])

-- The outcomes, with a full work area and any line buffer.
module _ (work room : ℕ) (full : work_length ≤ work) where
  two_beyond_lem : Reads (encoded beyond) (bytes_of two_beyond) work room (ReadOutcome.refused (row_at 18 0))
  unfolding computing encoding
  two_beyond_lem =
      on_reads (encoded beyond) (bytes_of two_beyond) work room _ full refl refl
      (ReadOn.no_leg {legs = leg 0 4 5 (matching (road 24)) ∷ []} refl (LegsRead.several ways_meet))

  three_beyond_lem : Reads (encoded beyond) (bytes_of three_beyond) work room (ReadOutcome.refused (row_at 18 0))
  unfolding computing encoding
  three_beyond_lem =
      on_reads (encoded beyond) (bytes_of three_beyond) work room _ full refl refl
      (ReadOn.no_leg {legs = leg 0 3 3 any ∷ leg 3 4 1 (matching (road 24)) ∷ []} refl (LegsRead.several lines_meet))

  at_the_fork : Reads (encoded fork) over_the_fork work room (ReadOutcome.refused (row_at 18 0))
  unfolding computing encoding
  at_the_fork = rw (le-ltb work work_length full) (fork_refused room)

  two_first_lines : Reads (encoded pair) (bytes_of back) work room (ReadOutcome.refused (row_at 18 0))
  unfolding computing encoding
  two_first_lines = on_reads (encoded pair) (bytes_of back) work room _ full refl refl (first_legs.several_at_0 room)

  no_node_at_1 : Reads map_bytes (bytes_of (eastward 0 1_001 1_001)) work room (ReadOutcome.refused (row_at 16 1))
  unfolding computing
  no_node_at_1 = on_reads map_bytes (bytes_of (eastward 0 1_001 1_001)) work room _ full refl refl (reference_cases.no_node_at_1 room)

module _ (work lines : List ℕ) (full : work_length ≤ length work) {work' lines' : List ℕ} where
  -- "Taking the first of two equal ways": of those that meet before one last line.
  pub no_first_way : {n : ℕ} {pos neg : Span} → ReadCall (encoded beyond) (bytes_of two_beyond) work lines (Ok (lines_read n pos neg)) work' lines' → ⊥
  no_first_way c = no_list_where_refused (row_at 18 0) (two_beyond_lem (length work) (length lines) full) c

  -- And of those that meet at the node of a middle point.
  pub no_first_line : {n : ℕ} {pos neg : Span} → ReadCall (encoded beyond) (bytes_of three_beyond) work lines (Ok (lines_read n pos neg)) work' lines' → ⊥
  no_first_line c = no_list_where_refused (row_at 18 0) (three_beyond_lem (length work) (length lines) full) c

  -- A reader that ends the last leg as a middle one, with any line: on the fork it would read 0, 1.
  pub no_list_at_the_fork : {n : ℕ} {pos neg : Span} → ReadCall (encoded fork) over_the_fork work lines (Ok (lines_read n pos neg)) work' lines' → ⊥
  no_list_at_the_fork c = no_list_where_refused (row_at 18 0) (at_the_fork (length work) (length lines) full) c

  -- "Taking the least way over all first lines instead of per first line": it would go on and find that leg 1 has no reading.
  pub no_least_first_line : (why : Refusal) → ReadCall (encoded pair) (bytes_of back) work lines (Err why) work' lines' →
      (refusal_of why ≡ row_at 18 0 → ⊥) → ⊥
  no_least_first_line why c other = other (only_this_refusal (row_at 18 0) (two_first_lines (length work) (length lines) full) c)

  -- A reader that names the point before the one without a node.
  pub no_point_before : (why : Refusal) → ReadCall map_bytes (bytes_of (eastward 0 1_001 1_001)) work lines (Err why) work' lines' →
      (refusal_of why ≡ row_at 16 1 → ⊥) → ⊥
  no_point_before why c other = other (only_this_refusal (row_at 16 1) (no_node_at_1 (length work) (length lines) full) c)

-- The detour with a line of 10,000 after it: lines 0 and 1 are the only reading of the first leg, since line 2 is of a lower class.
abbrev pub detour_beyond : Map
detour_beyond =
    record {
      nodes = node 0 0 ∷ node 1_000 0 ∷ node 1_000 1_000 ∷ node 2_000 0 ∷ node 3_000 0 ∷ [];
      lines =
          line 0 1 10_000 8 24
          ∷ line 1 3 10_000 8 24
          ∷ record { start = 1; end = 2; length = 1_000; frc = 5; fow = 3; out = 0; back = 16 }
          ∷ line 2 3 1_000 12 28
          ∷ line 3 4 10_000 8 24
          ∷ [];
      bans = [];
    }

no_detour : Only detour_beyond (leg 0 3 3 any) (0 ∷ 1 ∷ [])
unfolding computing finding
no_detour =
    only detour_beyond (leg 0 3 3 any) refl (0 ∷ 1 ∷ [])
    (reading detour_beyond (leg 0 3 3 any) refl (0 ∷ 1 ∷ []) (search (connects, arith)) refl (omega arith))
    (λ r. absurd (omega (arith, r.allowed.classes)), (λ r. refl, tt))

after_detour : Only detour_beyond (leg 3 4 1 (matching (road 24))) (4 ∷ [])
unfolding computing finding
after_detour = sole detour_beyond (leg 3 4 1 (matching (road 24))) refl (4 ∷ []) (search (connects, arith)) refl refl

-- After the line of 1,500,000, the one of 1.
after_longest : Only long (leg 1 2 0 (matching (road 24))) (1 ∷ [])
unfolding computing finding
after_longest = sole long (leg 1 2 0 (matching (road 24))) refl (1 ∷ []) (search (connects, arith)) refl refl

abbrev pub over_marks : Reference
over_marks = along (point 1 2_000 ∷ [])

abbrev pub over_long : Reference
over_long = along (point 255 1_000 ∷ point 0 1_000 ∷ [])

-- The outcomes, with a full work area and a line buffer that is long enough.
module _ (work room : ℕ) (full : work_length ≤ work) (enough : 3 ≤ room) where
  by_detour : Reads (encoded detour_beyond) (bytes_of three_beyond) work room (read (0 ∷ 1 ∷ 4 ∷ []) none none)
  unfolding computing encoding
  by_detour =
      on_reads (encoded detour_beyond) (bytes_of three_beyond) work room _ full refl refl
      (ReadOn.every_leg {legs = leg 0 3 3 any ∷ leg 3 4 1 (matching (road 24)) ∷ []} refl
      (LegsRead.only no_detour (LegsRead.only after_detour LegsRead.none))
      (ReadEnd.accepted (record { pos_read = unflagged; neg_read = unflagged }) (omega arith) (omega arith)))

  by_marked_line : Reads (encoded marks) (bytes_of over_marks) work room (read (0 ∷ 1 ∷ []) none none)
  unfolding computing encoding
  by_marked_line =
      on_reads (encoded marks) (bytes_of over_marks) work room _ full refl refl
      (ReadOn.every_leg {legs = leg 0 2 1 (matching (road 24)) ∷ []} refl (LegsRead.only by_marks.arrives LegsRead.none)
      (ReadEnd.accepted (record { pos_read = unflagged; neg_read = unflagged }) (omega arith) (omega arith)))

  by_longest : Reads (encoded long) (bytes_of over_long) work room (read (0 ∷ 1 ∷ []) none none)
  unfolding computing encoding
  by_longest =
      on_reads (encoded long) (bytes_of over_long) work room _ full refl refl
      (ReadOn.every_leg {legs = leg 0 1 255 any ∷ leg 1 2 0 (matching (road 24)) ∷ []} refl
      (LegsRead.only longest_only (LegsRead.only after_longest LegsRead.none))
      (ReadEnd.accepted (record { pos_read = unflagged; neg_read = unflagged }) (omega arith) (omega arith)))

module _ (work lines : List ℕ) (full : work_length ≤ length work) (enough : 3 ≤ length lines) {a : ReadAnswer} {work' lines' : List ℕ} where
  -- A reader that goes over lines of every class: it would find that the first leg has no reading.
  pub no_lower_class : ReadCall (encoded detour_beyond) (bytes_of three_beyond) work lines a work' lines' → (a ≡ Ok (lines_read 3 none none) → ⊥) → ⊥
  no_lower_class c other = other (counted (0 ∷ 1 ∷ 4 ∷ []) none none (by_detour (length work) (length lines) full enough) c)

  -- One that asks the first line, and not the last, for the last point's attributes: it would find several readings.
  pub no_other_attributes : ReadCall (encoded marks) (bytes_of over_marks) work lines a work' lines' → (a ≡ Ok (lines_read 2 none none) → ⊥) → ⊥
  no_other_attributes c other = other (counted (0 ∷ 1 ∷ []) none none (by_marked_line (length work) (length lines) full enough) c)

  -- One that does not look as far as D says: it would find no reading of the line of 1,500,000.
  pub no_shorter_limit : ReadCall (encoded long) (bytes_of over_long) work lines a work' lines' → (a ≡ Ok (lines_read 2 none none) → ⊥) → ⊥
  no_shorter_limit c other = other (counted (0 ∷ 1 ∷ []) none none (by_longest (length work) (length lines) full enough) c)
