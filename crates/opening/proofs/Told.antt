-- A map that is read and linked is opened; and what is known of it once the answer is known.
use Prim.Native.Nat.{ℕ}
use mathlib.Core.Path.{◌≡◌, subst}
use mathlib.Core.List.{List}
use native.Mathlib.Omega.{arith}
use Rattle.model.specs.declared.Refusal.{Refusal}
use Rattle.model.specs.Refusal.{refusal_of}
use Rattle.model.specs.Map.{Map, refused, decode}
use Rattle.buffers.specs.Kept.{Kept}
use Rattle.buffers.proofs.Kept.{kept_over}
use Rattle.work_area.specs.Mirror.{mirror}
use Rattle.search_cells.specs.Area.{Mirrored}
use Rattle.search_cells.proofs.Holding.{mirrored}
use Rattle.model.specs.Work.{work_length}
use Rattle.work_area.proofs.Holding.{held, held_kept}
use Rattle.depot_map.specs.Answer.{WholeMap}
use Rattle.search_cells.specs.Promises.{Linked}
use Rattle.opening.specs.declared.Opened.{Opened}
use Rattle.std.specs.Prelude.{Result, Ok, Err}
use Rattle.opening.specs.Opened.{ReadyMap, OpenAnswers, MapOpened}

pub opened : {bytes w u v : List ℕ} {nodes lines : ℕ} → WholeMap bytes u nodes lines → Kept 0 work_length w u →
    ((m : Map) → Mirrored u lines m → Linked u lines m v) → MapOpened bytes w v (Ok (record { nodes = nodes; lines = lines }))
opened whole kept links =
    let h = held whole.held in
    let l = links (mirror whole.map) (mirrored h) in
    record {
      answers = record {
        map = whole.map;
        decodes = whole.decodes;
        set = record { held = held_kept (omega arith) l.kept h; chained = l.chained };
        node_count = whole.held.node_count;
      };
      kept = kept_over (omega arith) kept l.kept;
    }

module _ {bytes w v : List ℕ} {r : Result Opened Refusal} (o : MapOpened bytes w v r) where
  pub opened_ready : {ready : Opened} → r ≡ Ok ready → ReadyMap bytes v ready.nodes ready.lines
  opened_ready e = subst (λ (q : Result Opened Refusal). OpenAnswers bytes v q) e o.answers

  pub opened_refused : {why : Refusal} → r ≡ Err why → decode bytes ≡ refused (refusal_of why)
  opened_refused e = subst (λ (q : Result Opened Refusal). OpenAnswers bytes v q) e o.answers
