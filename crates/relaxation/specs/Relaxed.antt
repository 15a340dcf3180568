-- What is promised where a line is taken into account at one that can follow it.
use Rattle.work_area.specs.Area.{search_from, lengths_from, last_barred_from, ban_chain}
use Rattle.model.specs.Map.{Map}
use Rattle.search_cells.specs.Area.{several, key_weight, length_to, predecessor, marked, queued, line_of, key_of}
use Rattle.std.specs.Prelude.{ℕ, ◌+◌, ◌/◌, ◌<◌, ◌≡◌, Bool, true, List, ◌≢◌, ◌⊎◌}
use Rattle.model.specs.Lines.{line_at, turn_among, Follows}
use Rattle.buffers.specs.Kept.{Kept}
use Rattle.relaxation.specs.declared.Going.{Going}
use Rattle.search_cells.specs.Promises.{Free, Put, Sent, Inserted}
use Rattle.relaxation.specs.Underway.{FreeReached, Counted, Task, Underway, Grew}

-- `r` is `x` with `note` noted too.
pub record Noted (x note r : ℕ) : Type 0 where
  pub first : x ≡ 0 → r ≡ note
  pub same : x ≡ note → r ≡ note
  pub again : 0 < x → x ≢ note → r ≡ several

-- `note` is noted at line `j`.
pub record TieNoted (note j : ℕ) (w v : List ℕ) : Type 0 where
  pub now : ℕ
  pub noted : Noted (predecessor w j) note now
  pub length : length_to v j ≡ length_to w j
  pub here : predecessor v j ≡ now
  pub kept : Kept (lengths_from + j) (lengths_from + j + 1) w v

-- Line `j` is reached: put on the list, sent or not, and put into the queue where it is sent.
pub record Arrived (m : Map) (limit place j note x count end : ℕ) (w v : List ℕ) (count' end' : ℕ) : Type 0 where
  pub first : List ℕ
  pub second : List ℕ
  pub sent : Bool
  pub put : Put j note x count w first
  pub nears : Sent m limit j first second sent
  pub counted : count' ≡ count + 1
  pub queue : ((sent ≡ true) × (end' ≡ end + 1) × Inserted place end (key_of x j) second v) ⊎ ((sent ≢ true) × (end' ≡ end) × (v ≡ second))

-- A note that line `l` may leave at those that follow it: its own; or, where it is free, several, if another free line is as near to the same node.
pub record Twin (m : Map) (lines : ℕ) (w : List ℕ) (l : ℕ) : Type 0 where
  pub free : Free m l
  pub other : ℕ
  pub reached : FreeReached m lines w other
  pub ends : (line_at m other).end ≡ (line_at m l).end
  pub alike : length_to w other ≡ length_to w l
  pub differ : other ≢ l

abbrev pub Notable : Map → ℕ → List ℕ → ℕ → ℕ → Type 0
Notable m lines w l note = (note ≡ l + 1) ⊎ ((note ≡ several) × Twin m lines w l)

-- The lines into which a turn from the line that goes on is banned are marked by it.
abbrev pub Told : Map → ℕ → List ℕ → Going → Type 0
Told m lines w g = 0 < g.chain → (j : ℕ) → j < lines → turn_among m.bans g.line j ≡ true → marked w j ≡ g.line

-- The line at place `place` of the queue goes on, with what is noted for it.
pub record Goes (m : Map) (lines place end : ℕ) (w : List ℕ) (g : Going) : Type 0 where
  pub inside : place < end
  pub at : line_of (queued w place) ≡ g.line
  pub found : queued w place / key_weight ≡ g.length
  pub chain : g.chain ≡ ban_chain m.bans g.line
  pub notable : Notable m lines w g.line g.note
  pub told : Told m lines w g

-- The line is taken into account at line `j`.
pub record Relaxed (q : Task) (lines class limit place : ℕ) (g : Going) (j : ℕ) (w v : List ℕ) (count end : ℕ) : Type 0 where
  pub underway : Underway q lines class limit place count end v
  pub grew : Grew q.map lines class g.length w v
  pub kept : Kept search_from last_barred_from w v
  pub here : Follows q.map g.line j → Counted q.map class limit g.note g.line j v
  pub head : queued v place ≡ queued w place
  pub marks : (k : ℕ) → k < lines → marked v k ≡ marked w k
  pub inside : place < end
