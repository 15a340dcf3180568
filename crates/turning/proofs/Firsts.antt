-- The chains are gone through, line by line: each turn has its first line then, and every chain is empty.
use Prim.Native.Nat.{ℕ, ◌≤◌, ◌<◌}
use mathlib.Core.Path.{◌≡◌}
use mathlib.Core.List.{List}
use lib.ListN.{length, get_or}
use Rattle.model.specs.Map.{Turn, greatest_ban_count}
use Rattle.buffers.specs.Kept.{Kept}
use Rattle.work_area.specs.Area.{bans_from, bans_to, ban_head, ban_second, ban_earlier, ban_at, latest_ban, ban_chain}
use Rattle.turning.specs.Bans.{Known, FirstsNamed}

-- The chains of the lines below `l` are gone through.
pub record Naming (lines : ℕ) (bans : List Turn) (l : ℕ) (w v : List ℕ) : Type 0 where
  pub few : length bans ≤ greatest_ban_count
  pub named : (i : ℕ) → i < length bans → (ban_at bans i).first < l → get_or v (ban_earlier i) 0 ≡ (ban_at bans i).first
  pub left : (i : ℕ) → i < length bans → l ≤ (ban_at bans i).first → get_or v (ban_earlier i) 0 ≡ latest_ban bans (ban_at bans i).first i
  pub empty : (k : ℕ) → k < l → get_or v (ban_head k) 0 ≡ 0
  pub heads : (k : ℕ) → l ≤ k → k < lines → get_or v (ban_head k) 0 ≡ ban_chain bans k
  pub seconds : (i : ℕ) → i < length bans → get_or v (ban_second i) 0 ≡ (ban_at bans i).second
  pub kept : Kept bans_from bans_to w v

module _ {lines : ℕ} {bans : List Turn} {w : List ℕ} where
  pub naming_all : {v : List ℕ} → Known lines bans → Naming lines bans lines w v → FirstsNamed lines bans w v
  naming_all known at =
      record {
        paired = record { few = at.few; heads = at.empty; seconds = at.seconds; firsts = λ i i<. at.named i i< (known i i<).0 };
        kept = at.kept;
      }
