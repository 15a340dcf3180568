-- What stands in the work area, read back as nodes and lines.
use Rattle.std.specs.Prelude.{ℕ, zero, suc, ◌+◌, List, [], ◌∷◌, ◌++◌, get_or}
use Rattle.model.specs.Map.{Node, Line}
use Rattle.work_area.specs.Area.{node_place, line_place, latitude, end_node, line_length, line_frc, line_fow, sector_out, sector_back}

unfoldable pub held_node : List ℕ → ℕ → Node
held_node w i = record { lon = get_or w (node_place i) 0; lat = get_or w (node_place i + latitude) 0 }

-- A line whose first number stands at `at`.
unfoldable pub line_from : List ℕ → ℕ → Line
line_from w at =
    record {
      start = get_or w at 0;
      end = get_or w (at + end_node) 0;
      length = get_or w (at + line_length) 0;
      frc = get_or w (at + line_frc) 0;
      fow = get_or w (at + line_fow) 0;
      out = get_or w (at + sector_out) 0;
      back = get_or w (at + sector_back) 0;
    }

unfoldable pub held_line : List ℕ → ℕ → Line
held_line w i = line_from w (line_place i)

-- The first `n` of some numbered things.
unfoldable pub numbered : {A : Type 0} → (ℕ → A) → ℕ → List A
numbered f zero = []
numbered f (suc n) = numbered f n ++ f n ∷ []

abbrev pub held_nodes : List ℕ → ℕ → List Node
held_nodes w n = numbered (held_node w) n

abbrev pub held_lines : List ℕ → ℕ → List Line
held_lines w n = numbered (held_line w) n
