-- The mirrored map: every line the other way round, from its end to its start, and every turn too, each listed once. A search goes along it: back
-- from the end of a leg.
use Rattle.std.specs.Prelude.{cond, List, [], ◌∷◌, ◌++◌, map}
use Rattle.model.specs.Map.{Line, Turn, Map}
use Rattle.model.specs.Lines.{turn_among}

abbrev pub mirror_line : Line → Line
mirror_line l =
    record { start = l.end; end = l.start; length = l.length; frc = l.frc; fow = l.fow; out = l.back; back = l.out }

abbrev pub mirror_turn : Turn → Turn
mirror_turn t = record { first = t.second; second = t.first }

-- Some turns with one more behind them, unless it is among them.
unfoldable pub with_turn : List Turn → Turn → List Turn
with_turn ts t = cond (turn_among ts t.first t.second) ts (ts ++ t ∷ [])

-- The turns of a list the other way round, each listed once, behind those of another list.
unfoldable pub mirror_behind : List Turn → List Turn → List Turn
mirror_behind done [] = done
mirror_behind done (t ∷ ts) = mirror_behind (with_turn done (mirror_turn t)) ts

abbrev pub mirror_turns : List Turn → List Turn
mirror_turns ts = mirror_behind [] ts

abbrev pub mirror : Map → Map
mirror m = record { nodes = m.nodes; lines = map mirror_line m.lines; bans = mirror_turns m.bans }
