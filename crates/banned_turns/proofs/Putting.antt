-- A banned turn that is put: what is stored, and what is left as it was.
use Prim.Native.Nat.{ℕ, ◌+◌, ◌≤◌, ◌<◌}
use mathlib.Core.Path.{◌∙◌}
use mathlib.Core.List.{List}
use native.Mathlib.Omega.{arith}
use lib.ListN.{length, get_or, set, length-set}
use lib.Seq.{get_or-set_same, get_or-set_other}
use Rattle.model.specs.Map.{Turn, greatest_ban_count, greatest_line_count}
use Rattle.model.specs.Work.{work_length}
use Rattle.buffers.specs.Kept.{Kept}
use Rattle.work_area.specs.Area.{bans_from, bans_to, ban_head, ban_second, ban_earlier}
use Rattle.banned_turns.specs.Put.{BanPut}

-- ---- three numbers stored

module _ (w : List ℕ) (i : ℕ) (t : Turn) (full : work_length ≤ length w) (low : i < greatest_ban_count) (known : t.first < greatest_line_count) where
  abbrev one : List ℕ
  one = set w (ban_second i) t.second

  abbrev two : List ℕ
  two = set one (ban_earlier i) (get_or w (ban_head t.first) 0)

  abbrev three : List ℕ
  three = set two (ban_head t.first) (i + 1)

  pub stores : BanPut i t w three
  stores =
      record {
        second =
            get_or-set_other two (ban_head t.first) (ban_second i) (i + 1) 0 (omega arith)
            ∙ get_or-set_other one (ban_earlier i) (ban_second i) _ 0 (omega arith) ∙ get_or-set_same w (ban_second i) t.second 0 (omega arith);
        earlier =
            get_or-set_other two (ban_head t.first) (ban_earlier i) (i + 1) 0 (omega arith)
            ∙ get_or-set_same one (ban_earlier i) _ 0 (simp length-set (omega arith));
        head = get_or-set_same two (ban_head t.first) (i + 1) 0 (simp length-set (omega arith));
        others = λ k a b c.
            get_or-set_other two (ban_head t.first) k (i + 1) 0 c ∙ get_or-set_other one (ban_earlier i) k _ 0 b ∙ get_or-set_other w (ban_second i) k t.second 0 a;
        same = simp length-set;
      }

-- A turn that is put changes nothing before the banned turns and behind them.
pub put_kept : {i : ℕ} {t : Turn} {w v : List ℕ} → i < greatest_ban_count → t.first < greatest_line_count → BanPut i t w v → Kept bans_from bans_to w v
put_kept low known put =
    record {
      same = put.same;
      below = λ k h. put.others k (omega arith) (omega arith) (omega arith);
      above = λ k h. put.others k (omega arith) (omega arith) (omega arith);
    }
