-- What every map that decodes is held to (paper 01, "The depot map"; paper 02, W1 and W3). That it is, is `well_formed` in proofs/Decoded.antt.
use Rattle.std.specs.Prelude.{ℕ, ◌≤◌, ◌<◌, ◌≡◌, ◌≢◌, true, false, length}
use Rattle.model.specs.Map.{Node, Line, Map, greatest_node_count, greatest_line_count, greatest_line_length, greatest_ban_count, clash, all_fitting}
use Rattle.model.specs.Lines.{line_at, node_at}

pub record NodeOk (a : Node) : Type 0 where
  pub lon : a.lon ≤ 35_999_998
  pub lat : a.lat ≤ 18_000_000

pub record LineOk (nodes : ℕ) (l : Line) : Type 0 where
  pub start : l.start < nodes
  pub end : l.end < nodes
  pub differ : l.start ≢ l.end
  pub some : 1 ≤ l.length
  pub long : l.length ≤ greatest_line_length
  pub frc : l.frc ≤ 7
  pub fow : l.fow ≤ 7
  pub out : l.out < 32
  pub back : l.back < 32

pub record WellFormed (m : Map) : Type 0 where
  pub node_ok : (v : ℕ) → v < length m.nodes → NodeOk (node_at m v)
  pub line_ok : (l : ℕ) → l < length m.lines → LineOk (length m.nodes) (line_at m l)
  pub two_nodes : 2 ≤ length m.nodes
  pub few_nodes : length m.nodes ≤ greatest_node_count
  pub one_line : 1 ≤ length m.lines
  pub few_lines : length m.lines ≤ greatest_line_count
  pub distinct : clash m.nodes ≡ false
  pub few_bans : length m.bans ≤ greatest_ban_count
  pub bans_fit : all_fitting m.lines m.bans ≡ true
