-- The banned turns in the work area, on the way to the other way round.
use Rattle.std.specs.Prelude.{ℕ, ◌≤◌, ◌<◌, ◌≡◌, List, map, ◌≢◌, length, get_or}
use Rattle.model.specs.Map.{Turn, greatest_ban_count}
use Rattle.buffers.specs.Kept.{Kept}
use Rattle.work_area.specs.Area.{bans_from, bans_to, ban_head, ban_second, ban_earlier, ban_at, latest_ban, BansHeld}
use Rattle.work_area.specs.Mirror.{mirror_turn}

-- Each turn is one of two of so many lines.
abbrev pub Known : ℕ → List Turn → Type 0
Known lines bans = (i : ℕ) → i < length bans → ((ban_at bans i).first < lines) × ((ban_at bans i).second < lines)

-- With each turn from line `l` stands 1 + the one before it, or 0.
pub record ChainStands (bans : List Turn) (l : ℕ) (w : List ℕ) : Type 0 where
  pub few : length bans ≤ greatest_ban_count
  pub earlier : (i : ℕ) → i < length bans → (ban_at bans i).first ≡ l → get_or w (ban_earlier i) 0 ≡ latest_ban bans l i

-- With each turn from line `l` stands the line in its place, and nothing else is changed.
pub record ChainNamed (bans : List Turn) (l : ℕ) (w v : List ℕ) : Type 0 where
  pub named : (i : ℕ) → i < length bans → (ban_at bans i).first ≡ l → get_or v (ban_earlier i) 0 ≡ l
  pub others : (k : ℕ) → ((i : ℕ) → i < length bans → (ban_at bans i).first ≡ l → k ≢ ban_earlier i) → get_or v k 0 ≡ get_or w k 0
  pub same : length v ≡ length w

-- The turns stand in the area in pairs: each has its first line where the one before it stood. Every chain is empty.
pub record Paired (w : List ℕ) (lines : ℕ) (bans : List Turn) : Type 0 where
  pub few : length bans ≤ greatest_ban_count
  pub heads : (l : ℕ) → l < lines → get_or w (ban_head l) 0 ≡ 0
  pub seconds : (i : ℕ) → i < length bans → get_or w (ban_second i) 0 ≡ (ban_at bans i).second
  pub firsts : (i : ℕ) → i < length bans → get_or w (ban_earlier i) 0 ≡ (ban_at bans i).first

-- They do so after a change of the banned turns alone.
pub record FirstsNamed (lines : ℕ) (bans : List Turn) (w v : List ℕ) : Type 0 where
  pub paired : Paired v lines bans
  pub kept : Kept bans_from bans_to w v

-- The turns are held the other way round, after such a change.
pub record BansTurned (lines : ℕ) (bans : List Turn) (w v : List ℕ) : Type 0 where
  pub held : BansHeld v lines (map mirror_turn bans)
  pub kept : Kept bans_from bans_to w v
