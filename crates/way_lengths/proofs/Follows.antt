-- What is used of `Follows`, and what decides it. No other module looks inside it.
use Rattle.model.specs.Map.{Map}
use Prim.Native.Nat.{ℕ, ◌<◌}
use mathlib.Core.Path.{◌≡◌, sym, ◌∙◌}
use mathlib.Core.Bool.{true, false}
use native.Mathlib.Omega.{arith}
use lib.ListN.{length}
use Rattle.model.specs.Lines.{line_at, turn_among, banned, Follows}

module _ {m : Map} {l j : ℕ} where
  -- A line that can follow is a line, and it starts where the other ends: so it is in the adjacency list of that node.
  pub known : Follows m l j → j < length m.lines
  known f = f.line

  pub meets : Follows m l j → (line_at m j).start ≡ (line_at m l).end
  meets f = sym f.meets

  -- After a line with the same end it can follow too, unless that turn is banned.
  pub follows_unless : {k : ℕ} → turn_among m.bans k j ≡ false → (line_at m k).end ≡ (line_at m l).end → Follows m l j → Follows m k j
  unfolding banned
  follows_unless allowed e f = record { line = f.line; meets = e ∙ f.meets; allowed = allowed }

  -- A line that starts where the other ends can follow it, unless the turn is banned.
  pub barred : turn_among m.bans l j ≡ true → Follows m l j → ⊥
  unfolding banned
  barred t f = let e = f.allowed in let z : ◌≡◌ {A = ℕ} 0 1 = cc in omega arith

  pub follow : j < length m.lines → (line_at m j).start ≡ (line_at m l).end → turn_among m.bans l j ≡ false → Follows m l j
  unfolding banned
  follow j< e t = record { line = j<; meets = sym e; allowed = t }
