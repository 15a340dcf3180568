-- The stages of reading a map, each from the one after it. `S` is what the stage is defined to be.
use Rattle.work_area.specs.Area.{lines_from, codes_from}
use Rattle.model.specs.Map.{greatest_line_count, greatest_node_count, Node, Line, MapAnswer, refused, read_line, decode_lines, decode_nodes, decode}
use Rattle.model.specs.Work.{work_length}
use Prim.Native.Nat.{ℕ, suc, ◌+◌, ◌-◌, ◌≤◌, ◌<◌}
use mathlib.Core.Path.{◌≡◌, sym, ap, subst, ◌∙◌}
use mathlib.Core.List.{List, [], ◌∷◌, ◌++◌}
use native.Mathlib.Omega.{arith}
use lib.ListN.{length, drop}
use Rattle.model.specs.declared.Refusal.{Refusal}
use Rattle.model.specs.Refusal.{Refused, refusal_of}
use Rattle.buffers.specs.Kept.{Kept}
use Rattle.work_area.specs.Held.{numbered, held_node, held_nodes, held_lines}
use Rattle.depot_map.specs.Part.{fault_of, go_on, NodeRead, LineRead}
use Rattle.depot_map.specs.declared.field.Fault.{Fault}
use Rattle.depot_map.specs.Stage.{Answered, Stage}
use Rattle.depot_map.specs.Answer.{MapIsRead}
use Rattle.std.specs.Prelude.{Result, Ok, Err, IsErrAnd}
use Rattle.std.proofs.lemmas.Result.{err_from_is_err_and}
use Rattle.depot_map.specs.declared.Counts.{Counts}
use Rattle.buffers.proofs.Kept.{kept_none, kept_then, kept_within, kept_over}
use Rattle.work_area.proofs.Held.{listed_length, nodes_same, nodes_more, lines_more}
use Rattle.depot_map.proofs.Whole.{answers}

-- ---- any stage

pub stage_refused : {S : MapAnswer} {low : ℕ} {w v : List ℕ} {why : Refusal} → S ≡ refused (refusal_of why) → Kept low work_length w v →
    Stage S low w v (Err why)
stage_refused e kept = record { right = e; kept = kept }

-- What a `?` returns is the refusal that the fault is.
pub stage_faulty : {S : MapAnswer} {low : ℕ} {w v : List ℕ} {n : Refused} (r : Result Counts Refusal) → IsErrAnd r (λ told. refusal_of told ≡ n) →
    S ≡ refused n → Kept low work_length w v → Stage S low w v r
stage_faulty r told e kept = let p = err_from_is_err_and r told in rw p.1 (stage_refused (e ∙ ap refused (sym p.2)) kept)

pub stage_then : {S T : MapAnswer} {low next : ℕ} {w v u : List ℕ} {r : Result Counts Refusal} → S ≡ T → Kept low work_length w v → low ≤ next →
    Stage T next v u r → Stage S low w u r
stage_then {u = u} {r = r} e kept h s =
    record { right = subst (Answered u r) (sym e) s.right; kept = kept_then kept (kept_within h (omega arith) s.kept) }

-- ---- the lines

-- The first `i` lines are in the work area, which was `w` and is `v`, and the next one starts at byte `at`.
pub record LinesRead (S : MapAnswer) (bytes : List ℕ) (at nodes count i : ℕ) (w v : List ℕ) : Type 0 where
  pub within : i ≤ count
  pub kept : Kept lines_from work_length w v
  pub left : S ≡ decode_lines (count - i) (drop at bytes) (held_nodes w nodes) (held_lines v i)

pub lines_none : (bytes : List ℕ) (at nodes count : ℕ) (w : List ℕ) →
    LinesRead (decode_lines count (drop at bytes) (held_nodes w nodes) []) bytes at nodes count 0 w w
unfolding numbered
lines_none bytes at nodes count w =
    let all : count - 0 ≡ count = omega arith in
    record { within = omega arith; kept = kept_none; left = rw all }

module _ {S : MapAnswer} {bytes : List ℕ} {at nodes count i : ℕ} {w v : List ℕ} (so_far : LinesRead S bytes at nodes count i w v) where
  module _ {u : List ℕ} {r : Result ℕ Fault} (more : i < count) (few : count ≤ greatest_line_count) (one : LineRead bytes at (nodes - 1) i v u r) where
    line_kept : Kept lines_from work_length w u
    line_kept = kept_over (omega arith) so_far.kept one.kept

    line_turn : S ≡ go_on (λ (next : ℕ). decode_lines (count - (i + 1)) (drop next bytes) (held_nodes w nodes) (held_lines u (i + 1))) r
    unfolding decode_lines
    line_turn =
        let next : count - i ≡ suc (count - (i + 1)) = omega arith in
        rw next at so_far.left
        ∙ ap (λ (n : ℕ). read_line (n - 1) (drop at bytes) (λ line after. decode_lines (count - (i + 1)) after (held_nodes w nodes) (held_lines v i ++ line ∷ [])))
        (listed_length (held_node w) nodes)
        ∙ one.goes _
        ∙ ap (λ (l : List Line). go_on (λ (next : ℕ). decode_lines (count - (i + 1)) (drop next bytes) (held_nodes w nodes) l) r) (sym (lines_more i one.kept))

  pub lines_on : {u : List ℕ} {next : ℕ} → i < count → count ≤ greatest_line_count → LineRead bytes at (nodes - 1) i v u (Ok next) → LinesRead S bytes next nodes count (i + 1) w u
  lines_on more few one = record { within = omega arith; kept = line_kept more few one; left = line_turn more few one }

  pub lines_off : {u : List ℕ} {why : Fault} (r : Result Counts Refusal) → i < count → count ≤ greatest_line_count →
      IsErrAnd r (λ told. refusal_of told ≡ fault_of why) → LineRead bytes at (nodes - 1) i v u (Err why) → Stage S lines_from w u r
  lines_off r more few told one = stage_faulty r told (line_turn more few one) (line_kept more few one)

  pub lines_end : {u : List ℕ} {r : Result Counts Refusal} → count ≤ i → nodes ≤ greatest_node_count →
      Stage (decode_lines 0 (drop at bytes) (held_nodes v nodes) (held_lines v count)) codes_from v u r → Stage S lines_from w u r
  lines_end h few s =
      let none : count - i ≡ 0 = omega (arith, so_far.within) in
      let all : i ≡ count = omega (arith, so_far.within) in
      let same = nodes_same so_far.kept nodes (omega arith) in
      stage_then (rw all at (rw none at so_far.left) ∙ ap (λ (n : List Node). decode_lines 0 (drop at bytes) n (held_lines v count)) (sym same)) so_far.kept
      (omega arith) s

-- ---- the nodes

pub record NodesRead (S : MapAnswer) (bytes : List ℕ) (at count i : ℕ) (w v : List ℕ) : Type 0 where
  pub within : i ≤ count
  pub kept : Kept 0 work_length w v
  pub left : S ≡ decode_nodes (count - i) (drop at bytes) (held_nodes v i)

pub nodes_none : (bytes : List ℕ) (at count : ℕ) (w : List ℕ) → NodesRead (decode_nodes count (drop at bytes) []) bytes at count 0 w w
unfolding numbered
nodes_none bytes at count w =
    let all : count - 0 ≡ count = omega arith in
    record { within = omega arith; kept = kept_none; left = rw all }

module _ {S : MapAnswer} {bytes : List ℕ} {at count i : ℕ} {w v : List ℕ} (so_far : NodesRead S bytes at count i w v) where
  module _ {u : List ℕ} {r : Result ℕ Fault} (more : i < count) (few : count ≤ greatest_node_count) (one : NodeRead bytes at i v u r) where
    node_kept : Kept 0 work_length w u
    node_kept = kept_over (omega arith) so_far.kept one.kept

    node_turn : S ≡ go_on (λ (next : ℕ). decode_nodes (count - (i + 1)) (drop next bytes) (held_nodes u (i + 1))) r
    unfolding decode_nodes
    node_turn =
        let next : count - i ≡ suc (count - (i + 1)) = omega arith in
        rw next at so_far.left ∙ one.goes _
        ∙ ap (λ (l : List Node). go_on (λ (next : ℕ). decode_nodes (count - (i + 1)) (drop next bytes) l) r) (sym (nodes_more i one.kept))

  pub nodes_on : {u : List ℕ} {next : ℕ} → i < count → count ≤ greatest_node_count → NodeRead bytes at i v u (Ok next) → NodesRead S bytes next count (i + 1) w u
  nodes_on more few one = record { within = omega arith; kept = node_kept more few one; left = node_turn more few one }

  pub nodes_off : {u : List ℕ} {why : Fault} (r : Result Counts Refusal) → i < count → count ≤ greatest_node_count →
      IsErrAnd r (λ told. refusal_of told ≡ fault_of why) → NodeRead bytes at i v u (Err why) → Stage S 0 w u r
  nodes_off r more few told one = stage_faulty r told (node_turn more few one) (node_kept more few one)

  pub nodes_end : {u : List ℕ} {r : Result Counts Refusal} → count ≤ i →
      Stage (decode_nodes 0 (drop at bytes) (held_nodes v count)) lines_from v u r → Stage S 0 w u r
  nodes_end h s =
      let none : count - i ≡ 0 = omega (arith, so_far.within) in
      let all : i ≡ count = omega (arith, so_far.within) in
      stage_then (rw all at (rw none at so_far.left)) so_far.kept (omega arith) s

-- ---- the first stage

pub map_is_read : {bytes w v : List ℕ} {r : Result Counts Refusal} → work_length ≤ length w → Stage (decode bytes) 0 w v r → MapIsRead bytes w v r
map_is_read {bytes} {w} {v} {r} full s = record { answers = answers bytes v r (omega (arith, s.kept.same)) s.right; kept = s.kept }
