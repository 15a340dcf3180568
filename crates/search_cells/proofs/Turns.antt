-- The banned turns of a chain: the second line of each is a line, it starts where the first one ends, and the turn into it is banned.
-- And where there is none, what follows another line with the same end can follow.
use Rattle.work_area.specs.Area.{ban_at, ban_second, ban_chain}
use Rattle.search_cells.specs.Area.{Mirrored}
use Rattle.model.specs.Map.{greatest_ban_count, Map}
use Rattle.model.specs.Lines.{line_at, turn_among, Follows}
use Prim.Native.Nat.{ℕ, ◌-◌, ◌≤◌, ◌<◌}
use mathlib.Core.Path.{◌≡◌, ◌∙◌, ap, sym}
use mathlib.Core.Bool.{true}
use mathlib.Core.List.{List}
use native.Mathlib.Omega.{arith}
use lib.ListN.{length, get_or}
use Rattle.banned_turns.proofs.Chains.{WalkAt, among_at, walk_start, walk_end}
use Rattle.banned_turns.proofs.Fitting.{fits_second, fits_at, meets_second}
use Rattle.way_lengths.proofs.Follows.{follows_unless}

-- The walk along the chain of line `l` is at `x`.
module _ {w : List ℕ} {m : Map} {n l k x : ℕ} (h : Mirrored w n m) (at : WalkAt m.bans l k x) (pos : 0 < x) where
  pub ban_in : x ≤ greatest_ban_count
  ban_in = omega (arith, at.within, h.bans_held.few)

  inside : x - 1 < length m.bans
  inside = omega (arith, at.within)

  second_is : get_or w (ban_second (x - 1)) 0 ≡ (ban_at m.bans (x - 1)).second
  second_is = h.bans_held.seconds (x - 1) inside

  first_is : (ban_at m.bans (x - 1)).first ≡ l
  first_is = at.from (x - 1) (omega arith)

  pub second_in : get_or w (ban_second (x - 1)) 0 < n
  second_in = omega (arith, second_is, h.line_count, fits_second m.lines _ (fits_at m.lines m.bans (x - 1) inside h.formed.bans_fit))

  pub second_starts : (line_at m (get_or w (ban_second (x - 1)) 0)).start ≡ (line_at m l).end
  second_starts = rw second_is (meets_second m (x - 1) inside h.formed.bans_fit ∙ ap (λ (l : ℕ). (line_at m l).end) first_is)

  pub second_banned : turn_among m.bans l (get_or w (ban_second (x - 1)) 0) ≡ true
  second_banned = rw (← first_is, second_is) (among_at m.bans (x - 1) inside)

-- After a line from which no turn is banned a line can follow that follows another with the same end.
module _ {m : Map} {l j : ℕ} where
  pub follows_free : {w : List ℕ} {n k : ℕ} → Mirrored w n m → ban_chain m.bans k ≡ 0 → (line_at m k).end ≡ (line_at m l).end → Follows m l j → Follows m k j
  follows_free {k = k} h free = follows_unless (walk_end h.bans_held k j 0 (omega arith) (walk_start h.bans_held k j 0 (sym free)))
