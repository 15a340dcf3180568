-- What the steps promise one another by which a search goes on from a line.
use Rattle.work_area.specs.Area.{search_from, search_to, next_from, last_barred_from, ban_chain, ban_second, ban_earlier}
use Rattle.model.specs.Map.{Map}
use Rattle.search_cells.specs.Area.{far, several, key_weight, latest, length_to, next_leaving, listed, marked, Marked, nearest_free, queued, named, line_of, key_of}
use Rattle.std.specs.Prelude.{ℕ, ◌+◌, ◌-◌, ◌/◌, ◌≤◌, ◌<◌, ◌≡◌, true, List, ◌≢◌, ◌⊎◌, get_or, Option, None}
use Rattle.std.specs.Option.{ForSome}
use Rattle.model.specs.Lines.{line_at, turn_among, Follows}
use Rattle.buffers.specs.Kept.{Kept}
use Rattle.relaxation.specs.declared.Going.{Going}
use Rattle.expansion.specs.declared.Pair.{Pair}
use Rattle.search_cells.specs.Promises.{Free}
use Rattle.relaxation.specs.Underway.{FreeReached, Counted, Task, Underway, Grew}
use Rattle.relaxation.specs.Relaxed.{Notable, Told, Goes}

-- What is noted for line `l`, by the cell of the node where it ends.
pub record NoteFor (m : Map) (l chain : ℕ) (w : List ℕ) (r : ℕ) : Type 0 where
  pub alone : nearest_free w (line_at m l).end ≡ 0 → r ≡ l + 1
  pub over : 0 < nearest_free w (line_at m l).end → length_to w (named (nearest_free w (line_at m l).end)) < length_to w l → r ≡ 0
  pub own : 0 < nearest_free w (line_at m l).end → length_to w l ≤ length_to w (named (nearest_free w (line_at m l).end)) →
      (0 < chain) ⊎ (nearest_free w (line_at m l).end < several) → r ≡ l + 1
  pub many : several ≤ nearest_free w (line_at m l).end → length_to w l ≤ length_to w (named (nearest_free w (line_at m l).end)) → chain ≡ 0 → r ≡ several

-- Line `l` has nothing to do: a nearer free line that ends at the same node is reached.
pub record Over (m : Map) (lines : ℕ) (w : List ℕ) (l : ℕ) : Type 0 where
  pub other : ℕ
  pub reached : FreeReached m lines w other
  pub ends : (line_at m other).end ≡ (line_at m l).end
  pub nearer : length_to w other < length_to w l

-- The line at place `place` of the queue goes on, with what is noted for it, or it has nothing to do. If it has, and is free, then no other free line is as
-- near to the same node unless several are noted.
pub record GoesOn (m : Map) (lines place : ℕ) (w : List ℕ) (g : Going) : Type 0 where
  pub at : line_of (queued w place) ≡ g.line
  pub found : queued w place / key_weight ≡ g.length
  pub chain : g.chain ≡ ban_chain m.bans g.line
  pub over : g.note ≡ 0 → Over m lines w g.line
  pub notable : 0 < g.note → Notable m lines w g.line g.note
  pub alone : 0 < g.note → Free m g.line → (k : ℕ) → FreeReached m lines w k → (line_at m k).end ≡ (line_at m g.line).end →
      length_to w k ≤ length_to w g.line → k ≢ g.line → g.note ≡ several

-- The line goes on, from `w` to `v`: the search is under way, and the line is still at its place.
pub record Went (q : Task) (lines class limit place : ℕ) (g : Going) (w v : List ℕ) (count end : ℕ) : Type 0 where
  pub underway : Underway q lines class limit place count end v
  pub grew : Grew q.map lines class g.length w v
  pub kept : Kept search_from last_barred_from w v
  pub inside : place < end
  pub head : queued v place ≡ queued w place
  pub marks : (k : ℕ) → k < lines → marked v k ≡ marked w k

-- And then it is taken into account at each line that can follow it, where it has something to do.
pub record WentAlong (q : Task) (lines class limit place : ℕ) (g : Going) (w v : List ℕ) (count end : ℕ) : Type 0 where
  pub went : Went q lines class limit place g w v count end
  pub counted : 0 < g.note → (j : ℕ) → Follows q.map g.line j → Counted q.map class limit g.note g.line j v

-- Or at each of those into which the turn from line `other` is banned.
pub record WentAlongBans (q : Task) (lines class limit place : ℕ) (g : Going) (other : ℕ) (w v : List ℕ) (count end : ℕ) : Type 0 where
  pub went : Went q lines class limit place g w v count end
  pub goes : Goes q.map lines place end v g
  pub counted : (j : ℕ) → turn_among q.map.bans other j ≡ true → Follows q.map g.line j →
      Counted q.map class limit g.note g.line j v

-- Line `o` has banned turns, ends where line `l` does, and stands before `key` in the queue.
pub record GoneBefore (m : Map) (lines l key : ℕ) (w : List ℕ) (o : ℕ) : Type 0 where
  pub inside : o < lines
  pub ends : (line_at m o).end ≡ (line_at m l).end
  pub barred : Free m o → ⊥
  pub earlier : key_of (length_to w o) o < key

-- Two such lines.
pub record PairBefore (m : Map) (lines l key : ℕ) (w : List ℕ) (p : Pair) : Type 0 where
  pub one : GoneBefore m lines l key w p.one
  pub other : GoneBefore m lines l key w p.other
  pub differ : p.one ≢ p.other

-- Only marks and the cells of the last lines with banned turns are changed, and what is marked is so.
pub record Aside (m : Map) (lines : ℕ) (w v : List ℕ) : Type 0 where
  pub nexts : (k : ℕ) → k < lines → (next_leaving v k ≡ next_leaving w k) × (listed v k ≡ listed w k)
  pub marks : Marked m lines w → Marked m lines v
  pub kept : Kept next_from search_to w v

-- Line `l` marks the lines into which a turn from it is banned.
pub record Marks (m : Map) (lines l : ℕ) (w v : List ℕ) : Type 0 where
  pub aside : Aside m lines w v
  pub told : (j : ℕ) → j < lines → turn_among m.bans l j ≡ true → marked v j ≡ l

-- What a line does before its walks: such a pair for it, or none, and the lines that it may not turn into are marked.
pub record WalksBegun (m : Map) (lines place : ℕ) (g : Going) (w v : List ℕ) (pair : Option Pair) : Type 0 where
  pub before : ForSome pair (λ p. PairBefore m lines g.line (queued w place) w p)
  pub barred : ForSome pair (λ p. Free m g.line → ⊥)
  pub some : ForSome pair (λ p. 0 < g.note)
  pub told : 0 < g.note → Told m lines v g
  pub aside : Aside m lines w v

-- A walk along the turns that are banned from another line, or, where there is none, along the lines that leave a node: where it starts, what line is at
-- `at`, and where it goes on.
pub record Starts (m : Map) (lines l note : ℕ) (other : Option ℕ) (r : ℕ) : Type 0 where
  pub bans : ForSome other (λ o. r ≡ ban_chain m.bans o)
  pub goes : other ≡ None → 0 < note → r ≡ latest m (line_at m l).end lines
  pub still : other ≡ None → note ≡ 0 → r ≡ 0

pub record WalkLine (w : List ℕ) (other : Option ℕ) (at r : ℕ) : Type 0 where
  pub bans : ForSome other (λ o. r ≡ get_or w (ban_second (at - 1)) 0)
  pub node : other ≡ None → r ≡ at - 1

pub record WalkNext (m : Map) (w : List ℕ) (other : Option ℕ) (at r : ℕ) : Type 0 where
  pub bans : ForSome other (λ o. r ≡ get_or w (ban_earlier (at - 1)) 0)
  pub node : other ≡ None → r ≡ latest m (line_at m (at - 1)).start (at - 1)

-- What a walk needs: the line stands at the place and, before one along bans, goes on, and the other line ends where it does.
pub record Sets (m : Map) (lines place end : ℕ) (g : Going) (other : Option ℕ) (w : List ℕ) : Type 0 where
  pub inside : place < end
  pub on : other ≡ None → GoesOn m lines place w g
  pub goes : ForSome other (λ o. Goes m lines place end w g)
  pub told : 0 < g.note → Told m lines w g
  pub ends : ForSome other (λ o. (line_at m o).end ≡ (line_at m g.line).end)

-- What it does.
pub record Walked (q : Task) (lines class limit place : ℕ) (g : Going) (other : Option ℕ) (w v : List ℕ) (count end : ℕ) : Type 0 where
  pub node : other ≡ None → WentAlong q lines class limit place g w v count end
  pub bans : ForSome other (λ o. WentAlongBans q lines class limit place g o w v count end)

-- The search has gone on from the line at place `place`.
pub record Expanded (q : Task) (lines class limit place : ℕ) (w v : List ℕ) (count end : ℕ) : Type 0 where
  pub underway : Underway q lines class limit (place + 1) count end v
  pub same : (k : ℕ) → k < lines → length_to w k < far → length_to v k ≡ length_to w k
  pub kept : Kept search_from search_to w v
