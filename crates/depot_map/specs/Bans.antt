-- A banned turn read from the map's bytes (W1): its two numbers, whether it fits its lines, and where it stands.
use Rattle.std.specs.Prelude.{ℕ, ◌+◌, ◌≤◌, ◌<◌, ◌≡◌, Bool, true, List, [], ◌∷◌, ◌++◌, Option, Some, None, Result, is_some, length, drop}
use Rattle.model.specs.Map.{Turn, MapAnswer, read_ban, all_fitting}
use Rattle.buffers.specs.Kept.{Kept}
use Rattle.work_area.specs.Area.{bans_from, bans_to, BansHeld}
use Rattle.work_area.specs.Mirror.{with_turn, mirror_turns}
use Rattle.work_area.specs.Held.{held_lines}
use Rattle.depot_map.specs.declared.field.Fault.{Fault}
use Rattle.depot_map.specs.Part.{go_on}
use Rattle.depot_map.specs.declared.ban.Ban.{Ban}

-- These banned turns were read: whether all fit their lines, and if so they are in the work area, mirrored, each once.
pub record BansTaken (w : List ℕ) (lines : ℕ) (bans : List Turn) (fits : Bool) : Type 0 where
  pub tested : fits ≡ all_fitting (held_lines w lines) bans
  pub held : fits ≡ true → BansHeld w lines (mirror_turns bans)

-- The same, and how many stand there.
pub record BansCounted (w : List ℕ) (lines : ℕ) (bans : List Turn) (s : Option ℕ) : Type 0 where
  pub taken : BansTaken w lines bans (is_some s)
  pub counted : (n : ℕ) → s ≡ Some n → n ≡ length (mirror_turns bans)

-- A count, if there is one, is less than `k`.
abbrev pub Below : ℕ → Option ℕ → Type 0
Below k None = Unit {0}
Below k (Some n) = n < k

-- A turn of the mirrored map is put behind `count` others, unless it is one of them.
pub record BanAdded (t : Turn) (count lines : ℕ) (w v : List ℕ) (r : ℕ) : Type 0 where
  pub held : (bans : List Turn) → BansHeld w lines bans → count ≡ length bans → BansHeld v lines (with_turn bans t)
  pub counted : (bans : List Turn) → BansHeld w lines bans → count ≡ length bans → r ≡ length (with_turn bans t)
  pub one : r ≤ count + 1
  pub kept : Kept bans_from bans_to w v

-- One turn more is taken: it is put, mirrored, if it and all before it fit their lines.
pub record BanSorted (t : Turn) (lines : ℕ) (s : Option ℕ) (w v : List ℕ) (r : Option ℕ) : Type 0 where
  pub sorts : (bans : List Turn) → BansCounted w lines bans s → BansCounted v lines (bans ++ t ∷ []) r
  pub one : (k : ℕ) → Below k s → Below (k + 1) r
  pub kept : Kept bans_from bans_to w v

-- One banned turn more, or a number of it that is refused.
pub record BanRead (bytes : List ℕ) (from : ℕ) (r : Result Ban Fault) : Type 0 where
  pub goes : (rest : Turn → List ℕ → MapAnswer) →
      read_ban (drop from bytes) rest ≡ go_on (λ (b : Ban). rest (record { first = b.first; second = b.second }) (drop b.next bytes)) r
