-- The map that was read is held by the work area, and so what `read_map` answers is right.
use Rattle.work_area.specs.Area.{node_size, node_place, line_size, line_place, node_numbers, line_numbers, BansHeld, Holds}
use Rattle.model.specs.Map.{Node, Line, Turn, Map, whole, refused, decode}
use Rattle.model.specs.Work.{work_length}
use Prim.Native.Nat.{ℕ, zero, suc, ◌+◌, ◌≤◌, ◌<◌}
use mathlib.Core.Path.{◌≡◌, refl, sym, ap, subst, ◌∙◌}
use mathlib.Core.List.{List}
use native.Mathlib.Nat.{add-zero}
use native.Mathlib.Omega.{arith}
use lib.ListN.{length, get_or}
use Rattle.model.specs.Refusal.{refusal_of}
use Rattle.model.specs.declared.Refusal.{Refusal}
use Rattle.model.specs.Lines.{node_at, line_at}
use Rattle.model.proofs.Decoded.{well_formed}
use Rattle.work_area.specs.Mirror.{mirror_turns}
use Rattle.work_area.specs.Held.{held_node, held_line, held_nodes, held_lines}
use Rattle.depot_map.specs.Stage.{Answered}
use Rattle.depot_map.specs.Answer.{WholeMap, MapAnswers, MapIsRead}
use Rattle.std.specs.Prelude.{Result, Ok, Err}
use Rattle.depot_map.specs.declared.Counts.{Counts}
use Rattle.work_area.proofs.Held.{listed_length, listed_at, line_number}

node_number : (w : List ℕ) (i k : ℕ) → k < node_size → get_or w (node_place i + k) 0 ≡ get_or (node_numbers (held_node w i)) k 0
unfolding held_node
node_number w i zero l = rw add-zero
node_number w i (suc zero) l = refl
node_number w i (suc (suc k)) l = absurd (omega arith)

module _ (w : List ℕ) (nodes lines : ℕ) (bans : List Turn) where
  abbrev held : Map
  held = record { nodes = held_nodes w nodes; lines = held_lines w lines; bans = bans }

  node_held : (i k : ℕ) → i < nodes → k < node_size → get_or w (node_place i + k) 0 ≡ get_or (node_numbers (node_at held i)) k 0
  unfolding node_at
  node_held i k h l = node_number w i k l ∙ ap (λ (x : Node). get_or (node_numbers x) k 0) (sym (listed_at (held_node w) nodes i _ h))

  line_held : (i k : ℕ) → i < lines → k < line_size → get_or w (line_place i + k) 0 ≡ get_or (line_numbers (line_at held i)) k 0
  unfolding line_at held_line
  line_held i k h l = line_number w (line_place i) k l ∙ ap (λ (x : Line). get_or (line_numbers x) k 0) (sym (listed_at (held_line w) lines i _ h))

  holds : (bytes : List ℕ) → work_length ≤ length w → decode bytes ≡ whole held → BansHeld w lines (mirror_turns bans) → Holds w nodes lines held
  holds bytes full e b =
      record {
        full = full;
        formed = well_formed held bytes e;
        node_count = listed_length (held_node w) nodes;
        line_count = listed_length (held_line w) lines;
        node_held = node_held;
        line_held = line_held;
        bans_held = b;
      }

-- What `read_map` answers, from what its stages answer.
pub answers : (bytes w : List ℕ) (r : Result Counts Refusal) → work_length ≤ length w → Answered w r (decode bytes) → MapAnswers bytes w r
answers bytes w (Ok n) full e =
    record { map = held w n.nodes n.lines e.bans; decodes = e.comes; held = holds w n.nodes n.lines e.bans bytes full e.comes e.held }
answers bytes w (Err why) full e = e

-- The answer, once it is known which it is.
module _ {bytes w v : List ℕ} {r : Result Counts Refusal} (a : MapIsRead bytes w v r) where
  pub read_whole : {n : Counts} → r ≡ Ok n → WholeMap bytes v n.nodes n.lines
  read_whole e = subst (λ (q : Result Counts Refusal). MapAnswers bytes v q) e a.answers

  pub read_refused : {why : Refusal} → r ≡ Err why → decode bytes ≡ refused (refusal_of why)
  read_refused e = subst (λ (q : Result Counts Refusal). MapAnswers bytes v q) e a.answers
