-- The end of the map's bytes, with the nodes, the lines and the banned turns read.
use Prim.Native.Nat.{ℕ, ◌≤◌, ◌<◌}
use mathlib.Core.Path.{◌≡◌, sym, ap₂}
use mathlib.Core.Bool.{Bool, cond}
use mathlib.Core.List.{List}
use lib.ListN.{length, drop, drop_of_length-le}
use lib.Seq.{drop-cons}
use Rattle.model.specs.Refusal.{row}
use Rattle.model.specs.Map.{Node, Line, Turn, whole, refused, ended, clash, all_fitting}

module _ (bytes : List ℕ) (at : ℕ) (nodes : List Node) (lines : List Line) (bans : List Turn) where
  pub left_over : at < length bytes → ended (drop at bytes) nodes lines bans ≡ refused (row 2)
  unfolding ended
  left_over h = rw (drop-cons bytes at 0 h)

  pub none_over : length bytes ≤ at → (t u : Bool) → t ≡ clash nodes → u ≡ all_fitting lines bans →
      ended (drop at bytes) nodes lines bans ≡
      cond t (refused (row 6)) (cond u (whole (record { nodes = nodes; lines = lines; bans = bans })) (refused (row 23)))
  unfolding ended
  none_over h t u e f =
      rw (drop_of_length-le bytes h)
      (ap₂ (λ (b c : Bool). cond b (refused (row 6)) (cond c (whole (record { nodes = nodes; lines = lines; bans = bans })) (refused (row 23))))
      (sym e) (sym f))
