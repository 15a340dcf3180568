-- Banned turns on small maps (paper 02, W1; refusals 21 to 23).
use Prim.Native.Nat.{ℕ, zero, suc, ◌≤◌, ◌<◌}
use mathlib.Core.Path.{◌≡◌, refl, sym, ◌∙◌, ap}
use mathlib.Core.Bool.{true}
use mathlib.Core.List.{List, [], ◌∷◌, map}
use native.Mathlib.Omega.{arith}
use Rattle.model.specs.Map.{Turn, Map}
use Rattle.model.specs.Lines.{line_at, Follows, Connected, single, linked, total, first_of, last_of}
use Rattle.model.specs.Stretch.{StretchAnswer, remains, check_stretch, stretch_of}
use Rattle.model.specs.Reference.{Offset, absent, Reference, parse}
use Rattle.model.specs.Reading.{Leg, any, matching, Allowed, Only, Unread}
use Rattle.model.specs.Choice.{Good, good, final, Preferred, Chosen}
use Rattle.model.specs.Refusal.{row}
use Rattle.model.specs.Span.{unflagged}
use Rattle.model.specs.Outcome.{LegsRead, ReadOutcome, read, ReadEnd, ReadOn, ReadParsed, Reads, WriteOutcome, written, WriteOn, Writes}
use Rattle.model.proofs.LegTests.{good_filled}
use Rattle.model.proofs.BestFound.{best_of_all}
use Rattle.model.proofs.Joining.{first_known}
use Rattle.model.proofs.Cases.Computing.{computing}
use Rattle.model.proofs.Cases.Encoded.{encoded, encoding}
use Rattle.model.proofs.Cases.Ways.{finding, connects}
use Rattle.model.proofs.Cases.Legs.{reading, only, sole, unread, sectors}
use Rattle.model.proofs.Cases.Cuts.{cutting, chosen}
use Rattle.model.proofs.Cases.Tie.{none}
use Rattle.model.proofs.Cases.Ridge.{node, line, ridge, two_points, road, point, leg, tie}

-- The ridge with some turns banned.
abbrev pub ridge_with : List Turn → Map
ridge_with bans = record { nodes = ridge.nodes; lines = ridge.lines; bans = bans }

abbrev pub turn : ℕ → ℕ → Turn
turn first second = record { first = first; second = second }

-- The turn from line 0 into line 2 is banned, or the one into line 1.
abbrev pub barred : Map
barred = ridge_with (turn 0 2 ∷ [])

abbrev pub northward : Map
northward = ridge_with (turn 0 1 ∷ [])

-- A ban decides the tie: of 0, 1 and 0, 2, 3 only one is left. A pair that is listed twice says no more than once.
pub tie_only : Only barred tie (0 ∷ 1 ∷ [])
unfolding computing finding
tie_only = sole barred tie refl (0 ∷ 1 ∷ []) (search (connects, arith)) refl refl

pub tie_north : Only northward tie (0 ∷ 2 ∷ 3 ∷ [])
unfolding computing finding
tie_north = sole northward tie refl (0 ∷ 2 ∷ 3 ∷ []) (search (connects, arith)) refl refl

pub listed_twice : Only (ridge_with (turn 0 2 ∷ turn 0 2 ∷ [])) tie (0 ∷ 1 ∷ [])
unfolding computing finding
listed_twice = sole (ridge_with (turn 0 2 ∷ turn 0 2 ∷ [])) tie refl (0 ∷ 1 ∷ []) (search (connects, arith)) refl refl

-- Of several bans each counts: with one on either way no reading is left.
pub both_banned : Unread (ridge_with (turn 2 3 ∷ turn 0 1 ∷ [])) tie
unfolding computing finding
both_banned = unread (ridge_with (turn 2 3 ∷ turn 0 1 ∷ [])) tie refl tt

-- Where 0, 2, 3 is longer, its turn is on nobody's least way: the reading is 0, 1 with the ban and without it.
abbrev longer_north : List Turn → Map
longer_north bans =
    record {
      nodes = ridge.nodes;
      lines = line 0 1 10_000 8 24 ∷ line 1 3 10_000 8 24 ∷ line 1 2 5_000 0 16 ∷ line 2 3 9_000 12 24 ∷ [];
      bans = bans;
    }

pub on_no_least_way : Only (longer_north (turn 0 2 ∷ [])) tie (0 ∷ 1 ∷ []) × Only (longer_north []) tie (0 ∷ 1 ∷ [])
unfolding computing finding
on_no_least_way = (
  sole (longer_north (turn 0 2 ∷ [])) tie refl (0 ∷ 1 ∷ []) (search (connects, arith)) refl refl,
  only (longer_north []) tie refl (0 ∷ 1 ∷ [])
      (reading (longer_north []) tie refl (0 ∷ 1 ∷ []) (search (connects, arith)) refl (omega arith))
      ((λ r. absurd (omega (arith, r.distanced))), (λ r. refl, tt)),
)

-- So stretch 0, 1 takes two points where the turn into line 2 is banned, and 0, 2, 3 where that into line 1 is: the same bytes, which the plain ridge
-- refuses. They are written and read.
both_lines : Good barred true (0 ∷ 1 ∷ [])
unfolding computing
both_lines = record { fit = omega arith; only = tie_only }

two_points_lem : Chosen (good barred) (0 ∷ 1 ∷ []) ((0 ∷ 1 ∷ []) ∷ [])
unfolding computing cutting
two_points_lem =
    chosen barred (0 ∷ 1 ∷ []) ((0 ∷ 1 ∷ []) ∷ []) (record { usable = final both_lines; whole = refl })
    (λ c. Preferred.fewer (omega arith), (λ c. Preferred.same, tt))

north_lines : Good northward true (0 ∷ 2 ∷ 3 ∷ [])
unfolding computing
north_lines = record { fit = omega arith; only = tie_north }

north_points : Chosen (good northward) (0 ∷ 2 ∷ 3 ∷ []) ((0 ∷ 2 ∷ 3 ∷ []) ∷ [])
unfolding computing cutting
north_points =
    chosen northward (0 ∷ 2 ∷ 3 ∷ []) ((0 ∷ 2 ∷ 3 ∷ []) ∷ []) (record { usable = final north_lines; whole = refl })
    (λ c. Preferred.fewer (omega arith), (λ c. Preferred.fewer (omega arith), (λ c. Preferred.fewer (omega arith), (λ c. Preferred.same, tt))))

pub resolved_written : WriteOn barred (stretch_of (0 ∷ 1 ∷ []) 0 0) 3 16 (written two_points 3 0)
unfolding computing
resolved_written = best_of_all (good_filled barred) two_points_lem (omega arith)

pub north_written : WriteOn northward (stretch_of (0 ∷ 2 ∷ 3 ∷ []) 0 0) 6 16 (written two_points 6 0)
unfolding computing
north_written = best_of_all (good_filled northward) north_points (omega arith)

pub resolved_read : ReadParsed barred (parse two_points) 2 (read (0 ∷ 1 ∷ []) none none)
unfolding computing
resolved_read =
    ReadOn.every_leg {legs = tie ∷ []} refl (LegsRead.only tie_only LegsRead.none)
    (ReadEnd.accepted (record { pos_read = unflagged; neg_read = unflagged }) (omega arith) (omega arith))

pub north_read : ReadParsed northward (parse two_points) 3 (read (0 ∷ 2 ∷ 3 ∷ []) none none)
unfolding computing
north_read =
    ReadOn.every_leg {legs = tie ∷ []} refl (LegsRead.only tie_north LegsRead.none)
    (ReadEnd.accepted (record { pos_read = unflagged; neg_read = unflagged }) (omega arith) (omega arith))

-- "A stretch as given, skipped lines included": 0, 2, 3, also where an offset covers line 0, or lines 2 and 3. After 8, before 9. Lines 2, 3 are taken.
pub record Stretches : Type 0 where
  pub contains : map (check_stretch barred)
      (stretch_of (0 ∷ 2 ∷ 3 ∷ []) 0 0 ∷ stretch_of (0 ∷ 2 ∷ 3 ∷ []) 10_000 0 ∷ stretch_of (0 ∷ 2 ∷ 3 ∷ []) 0 10_000 ∷ stretch_of (0 ∷ 2 ∷ 3 ∷ []) 10_000 10_000 ∷ []) ≡
      StretchAnswer.refused (row 21) ∷ StretchAnswer.refused (row 21) ∷ StretchAnswer.refused (row 21) ∷ StretchAnswer.refused (row 21) ∷ []
  pub gap_first : check_stretch barred (stretch_of (0 ∷ 2 ∷ 1 ∷ []) 0 0) ≡ StretchAnswer.refused (row 8)
  pub other_turns : check_stretch barred (stretch_of (2 ∷ 3 ∷ []) 0 0) ≡ remains (stretch_of (2 ∷ 3 ∷ []) 0 0)

pub stretches : Stretches
unfolding computing
stretches = record { contains = refl; gap_first = refl; other_turns = refl }

-- Whole calls: 21 before 9, and 23 before what either call asks of a map. The map's last pair is of lines 3 and 0, which do not meet.
pub record Calls : Type 0 where
  pub stretch_refused : Writes (encoded barred) (stretch_of (0 ∷ 2 ∷ 3 ∷ []) 10_000 10_000) 0 14_336 0 (WriteOutcome.refused (row 21))
  pub map_refused_lem : Writes (encoded (ridge_with (turn 0 2 ∷ turn 3 0 ∷ []))) (stretch_of [] 0 0) 0 14_336 0 (WriteOutcome.refused (row 23)) ×
      Reads (encoded (ridge_with (turn 0 2 ∷ turn 3 0 ∷ []))) [] 14_336 0 (ReadOutcome.refused (row 23))
  pub area_short : Reads (encoded barred) two_points 14_335 2 (ReadOutcome.refused (row 1))

pub calls : Calls
unfolding computing encoding
calls = record { stretch_refused = refl; map_refused_lem = (refl, refl); area_short = refl }

-- Three points: line 0, and lines 2, 3 as the only reading of the second leg.
abbrev pub meeting : Offset → Reference
meeting pos =
    record {
      lon = 0;
      lat = 0;
      points = point 1 1_000 ∷ record { leaves = road 0; lowest = 3; distance = 1; next = record { lon = 1_000; lat = 0 } } ∷ [];
      arrives = road 24;
      pos = pos;
      neg = absent;
    }

abbrev north : Leg
north = record { from = 1; to = 3; leaves = road 0; lowest = 3; distance = 1; arrival = matching (road 24) }

first_only : Only barred (leg 0 1 1 any) (0 ∷ [])
unfolding computing finding
first_only = sole barred (leg 0 1 1 any) refl (0 ∷ []) (search (connects, arith)) refl refl

north_only : Only barred north (2 ∷ 3 ∷ [])
unfolding computing finding
north_only =
    only barred north refl (2 ∷ 3 ∷ []) (reading barred north refl (2 ∷ 3 ∷ []) (search (connects, arith)) refl (omega arith))
    (λ r. refl, (λ r. absurd (omega (arith, sectors r.allowed.leaves)), tt))

-- Each leg has one reading, but lines 0 and 2 meet: refusal 22, whatever the offset and the line buffer.
pub meeting_refused : (pos : Offset) (room : ℕ) → ReadOn barred (meeting pos) room (ReadOutcome.refused (row 22))
unfolding computing
meeting_refused pos room =
    ReadOn.every_leg {legs = leg 0 1 1 any ∷ north ∷ []} refl (LegsRead.only first_only (LegsRead.only north_only LegsRead.none)) refl

-- Without the ban the same reference is read.
pub meeting_read : (room : ℕ) → 3 ≤ room →
    ReadOn ridge (meeting absent) room (read (0 ∷ 2 ∷ 3 ∷ []) none none)
unfolding computing finding
meeting_read room h =
    ReadOn.every_leg {legs = leg 0 1 1 any ∷ north ∷ []} refl
    (LegsRead.only (sole ridge (leg 0 1 1 any) refl (0 ∷ []) (search (connects, arith)) refl refl)
    (LegsRead.only
    (only ridge north refl (2 ∷ 3 ∷ []) (reading ridge north refl (2 ∷ 3 ∷ []) (search (connects, arith)) refl (omega arith))
    (λ r. refl, (λ r. absurd (omega (arith, sectors r.allowed.leaves)), tt)))
    LegsRead.none))
    (ReadEnd.accepted (record { pos_read = unflagged; neg_read = unflagged }) (omega arith) (omega arith))

-- Line 0 to node 1, line 1 on to node 2, and lines 2 and 3 from node 1 to node 3 and back. The turn from line 0 into line 1 is banned.
abbrev pub around : Map
around =
    record {
      nodes = node 0 0 ∷ node 1_000 0 ∷ node 2_000 0 ∷ node 1_000 1_000 ∷ [];
      lines = line 0 1 6_000 8 24 ∷ line 1 2 6_000 8 24 ∷ line 1 3 3_000 0 16 ∷ line 3 1 3_000 16 0 ∷ [];
      bans = turn 0 1 ∷ [];
    }

-- The turns that are left.
data Turned : ℕ → ℕ → Type 0 where
  out : Turned 0 2
  back : Turned 2 3
  on : Turned 3 1
  again : Turned 3 2

turned : (l k : ℕ) → l < 4 → Follows around l k → Turned l k
unfolding computing
turned zero zero h f = absurd (omega (arith, f.meets))
turned zero (suc zero) h f = absurd (let e = f.allowed in let z : ◌≡◌ {A = ℕ} 0 1 = cc in omega arith)
turned zero (suc (suc zero)) h f = out
turned zero (suc (suc (suc zero))) h f = absurd (omega (arith, f.meets))
turned (suc zero) zero h f = absurd (omega (arith, f.meets))
turned (suc zero) (suc zero) h f = absurd (omega (arith, f.meets))
turned (suc zero) (suc (suc zero)) h f = absurd (omega (arith, f.meets))
turned (suc zero) (suc (suc (suc zero))) h f = absurd (omega (arith, f.meets))
turned (suc (suc zero)) zero h f = absurd (omega (arith, f.meets))
turned (suc (suc zero)) (suc zero) h f = absurd (omega (arith, f.meets))
turned (suc (suc zero)) (suc (suc zero)) h f = absurd (omega (arith, f.meets))
turned (suc (suc zero)) (suc (suc (suc zero))) h f = back
turned (suc (suc (suc zero))) zero h f = absurd (omega (arith, f.meets))
turned (suc (suc (suc zero))) (suc zero) h f = on
turned (suc (suc (suc zero))) (suc (suc zero)) h f = again
turned (suc (suc (suc zero))) (suc (suc (suc zero))) h f = absurd (omega (arith, f.meets))
turned (suc (suc (suc (suc l)))) k h f = absurd (omega arith)
turned zero (suc (suc (suc (suc k)))) h f = absurd (omega (arith, f.line))
turned (suc zero) (suc (suc (suc (suc k)))) h f = absurd (omega (arith, f.line))
turned (suc (suc zero)) (suc (suc (suc (suc k)))) h f = absurd (omega (arith, f.line))
turned (suc (suc (suc zero))) (suc (suc (suc (suc k)))) h f = absurd (omega (arith, f.line))

-- The least way from each line to node 2.
abbrev way : ℕ → List ℕ
way zero = 0 ∷ 2 ∷ 3 ∷ 1 ∷ []
way (suc zero) = 1 ∷ []
way (suc (suc zero)) = 2 ∷ 3 ∷ 1 ∷ []
way (suc (suc (suc l))) = 3 ∷ 1 ∷ []

-- A list to node 2 is that way, or longer.
data Way (ls : List ℕ) : Type 0 where
  least : ls ≡ way (first_of ls) → Way ls
  longer : total around (way (first_of ls)) < total around ls → Way ls

step : {l k : ℕ} (ls : List ℕ) → Turned l k → Way (k ∷ ls) → Way (l ∷ k ∷ ls)
unfolding computing
step ls out (Way.least e) = Way.least (ap (λ (x : List ℕ). 0 ∷ x) e)
step ls out (longer h) = longer (omega arith)
step ls back (Way.least e) = Way.least (ap (λ (x : List ℕ). 2 ∷ x) e)
step ls back (longer h) = longer (omega arith)
step ls on (Way.least e) = Way.least (ap (λ (x : List ℕ). 3 ∷ x) e)
step ls on (longer h) = longer (omega arith)
step ls again (Way.least e) = longer (omega (arith, ap (total around) e))
step ls again (longer h) = longer (omega arith)

last_step : (l : ℕ) → l < 4 → (line_at around l).end ≡ 2 → Way (l ∷ [])
unfolding computing
last_step zero h e = absurd (omega (arith, e))
last_step (suc zero) h e = Way.least refl
last_step (suc (suc zero)) h e = absurd (omega (arith, e))
last_step (suc (suc (suc zero))) h e = absurd (omega (arith, e))
last_step (suc (suc (suc (suc l)))) h e = absurd (omega arith)

ways : {ls : List ℕ} → Connected around ls → (line_at around (last_of ls)).end ≡ 2 → Way ls
unfolding last_of
ways (single {l = l} h) e = last_step l h e
ways (linked {l = l} {k = k} {ls = ls} h f c) e = step ls (turned l k h f) (ways c e)

-- So the least way from line 0 to node 2 goes by way of node 3 and passes node 1 twice, and it is the only reading.
abbrev pub round_leg : Leg
round_leg = leg 0 2 3 any

round_allowed : Allowed around round_leg (0 ∷ 2 ∷ 3 ∷ 1 ∷ [])
unfolding computing finding
round_allowed = search (connects, arith)

module _ (ls : List ℕ) (first : first_of ls ≡ 0) where
  not_shorter : Way ls → 18_000 ≤ total around ls
  unfolding computing
  not_shorter (Way.least e) = omega (arith, ap (total around) e, ap (λ (l : ℕ). total around (way l)) first)
  not_shorter (longer h) = omega (arith, ap (λ (l : ℕ). total around (way l)) first)

  the_same : Way ls → total around ls ≤ 18_000 → ls ≡ 0 ∷ 2 ∷ 3 ∷ 1 ∷ []
  unfolding computing
  the_same (Way.least e) h = e ∙ ap way first
  the_same (longer k) h = absurd (omega (arith, ap (λ (l : ℕ). total around (way l)) first))

from_node_0 : (l : ℕ) → l < 4 → (line_at around l).start ≡ 0 → l ≡ 0
unfolding computing
from_node_0 zero h e = refl
from_node_0 (suc zero) h e = absurd (omega (arith, e))
from_node_0 (suc (suc zero)) h e = absurd (omega (arith, e))
from_node_0 (suc (suc (suc zero))) h e = absurd (omega (arith, e))
from_node_0 (suc (suc (suc (suc l)))) h e = absurd (omega arith)

pub twice_through_a_node : Only around round_leg (0 ∷ 2 ∷ 3 ∷ 1 ∷ [])
unfolding computing
twice_through_a_node =
    record {
      reading = record {
        allowed = round_allowed;
        distanced = refl;
        least = λ other a same. not_shorter other (sym same) (ways a.connected a.ends);
      };
      only = λ other r.
          let first = from_node_0 (first_of other) (first_known r.allowed.connected) r.allowed.starts in
          the_same other first (ways r.allowed.connected r.allowed.ends) (r.least (0 ∷ 2 ∷ 3 ∷ 1 ∷ []) round_allowed first);
    }
