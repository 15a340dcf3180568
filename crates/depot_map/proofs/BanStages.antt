-- The last stages of reading a map, each from the one after it: the banned turns, and the end of the bytes. `S` is what the stage is defined to be.
use Prim.Native.Nat.{ℕ, suc, ◌+◌, ◌-◌, ◌≤◌, ◌<◌}
use mathlib.Core.Path.{◌≡◌, refl, sym, ap₂, subst, ◌∙◌}
use mathlib.Core.Bool.{Bool, true, false}
use mathlib.Core.List.{List, [], ◌∷◌, ◌++◌}
use native.Mathlib.Omega.{arith}
use lib.ListN.{length, drop}
use Rattle.model.specs.declared.Refusal.{Refusal}
use Rattle.model.specs.Map.{Node, Line, Turn, MapAnswer, whole, ended, read_ban, decode_bans, clash, all_fitting, greatest_node_count, greatest_line_count}
use Rattle.model.specs.Work.{work_length}
use Rattle.buffers.specs.Kept.{Kept, Filled}
use Rattle.buffers.proofs.Kept.{kept_none, kept_then, kept_within}
use Rattle.work_area.specs.Area.{codes_from, codes_to, bans_from}
use Rattle.work_area.specs.Mirror.{mirror_behind}
use Rattle.work_area.specs.Held.{held_nodes, held_lines}
use Rattle.work_area.proofs.Held.{nodes_same, lines_same}
use Rattle.work_area.proofs.Holding.{bans_kept}
use Rattle.banned_turns.proofs.Chains.{bans_none}
use Rattle.depot_map.specs.Stage.{Answered, Stage}
use Rattle.model.specs.Refusal.{refusal_of}
use Rattle.depot_map.specs.declared.field.Fault.{Fault}
use Rattle.depot_map.specs.Part.{fault_of}
use Rattle.depot_map.specs.Bans.{Below, BansTaken, BansCounted, BanSorted, BanRead}
use Rattle.std.specs.Prelude.{Option, Some, None, Result, Ok, Err, IsErrAnd, is_some}
use Rattle.depot_map.specs.declared.Counts.{Counts}
use Rattle.depot_map.specs.declared.ban.Ban.{Ban}
use Rattle.depot_map.proofs.Ended.{none_over}
use Rattle.depot_map.proofs.Stages.{stage_faulty, stage_then}

-- ---- the end of the bytes

pub stage_whole : {w v : List ℕ} {bans : List Turn} (bytes : List ℕ) (at nodes lines : ℕ) → nodes ≤ greatest_node_count → lines ≤ greatest_line_count →
    length bytes ≤ at → Kept codes_from codes_to w v → false ≡ clash (held_nodes w nodes) → BansTaken w lines bans true →
    Stage (ended (drop at bytes) (held_nodes w nodes) (held_lines w lines) bans) codes_from w v (Ok (record { nodes = nodes; lines = lines }))
stage_whole {w} {v} {bans} bytes at nodes lines few_nodes few_lines h kept e taken =
    record {
      right = record {
        bans = bans;
        comes =
            none_over bytes at (held_nodes w nodes) (held_lines w lines) bans h false true e taken.tested
            ∙ ap₂ (λ (n : List Node) (l : List Line). whole (record { nodes = n; lines = l; bans = bans })) (sym (nodes_same kept nodes (omega arith)))
            (sym (lines_same kept lines (omega arith)));
        held = bans_kept (omega arith) kept (taken.held refl);
      };
      kept = kept_within (omega arith) (omega arith) kept;
    }

pub all_taken : {w : List ℕ} {lines : ℕ} {bans : List Turn} {fits : Bool} → fits ≡ true → BansTaken w lines bans fits → BansTaken w lines bans true
all_taken {w} {lines} {bans} e taken = subst (λ (b : Bool). BansTaken w lines bans b) e taken

-- ---- the banned turns

pub below_less : {j k : ℕ} (s : Option ℕ) → Below j s → j ≤ k → Below k s
below_less None h l = tt
below_less (Some n) h l = omega arith

-- The first `i` turns are read, and where all of them fit their lines they are in the work area, which was `w` and is `v`.
pub record BansRead (S : MapAnswer) (bytes : List ℕ) (at nodes lines count i : ℕ) (s : Option ℕ) (w v : List ℕ) : Type 0 where
  pub within : i ≤ count
  pub few : Below (i + 1) s
  pub kept : Kept bans_from work_length w v
  pub bans : List Turn
  pub left : S ≡ decode_bans (count - i) (drop at bytes) (held_nodes w nodes) (held_lines w lines) bans
  pub counted : BansCounted v lines bans s

pub bans_start : {bytes : List ℕ} {at nodes lines count : ℕ} {w v : List ℕ} → lines ≤ greatest_line_count → Filled bans_from greatest_line_count 0 w v →
    BansRead (decode_bans count (drop at bytes) (held_nodes v nodes) (held_lines v lines) []) bytes at nodes lines count 0
    (Some 0) v v
unfolding all_fitting mirror_behind
bans_start {count = count} few none =
    let all : count - 0 ≡ count = omega arith in
    record {
      within = omega arith;
      few = omega arith;
      kept = kept_none;
      bans = [];
      left = rw all;
      counted = record { taken = record { tested = refl; held = λ e. bans_none few none }; counted = λ n e. cc };
    }

-- The stage goes on after the heads of the chains are made empty.
pub after_none : (bytes : List ℕ) (at count : ℕ) {nodes lines : ℕ} {w v u : List ℕ} {r : Result Counts Refusal} → Filled bans_from greatest_line_count 0 w v → nodes ≤ greatest_node_count → lines ≤ greatest_line_count →
    Stage (decode_bans count (drop at bytes) (held_nodes v nodes) (held_lines v lines) []) codes_from v u r →
    Stage (decode_bans count (drop at bytes) (held_nodes w nodes) (held_lines w lines) []) codes_from w u r
after_none bytes at count {nodes} {lines} none few_nodes few_lines s =
    stage_then
    (ap₂ (λ (n : List Node) (l : List Line). decode_bans count (drop at bytes) n l []) (sym (nodes_same none.kept nodes (omega arith)))
    (sym (lines_same none.kept lines (omega arith))))
    (kept_within (omega arith) (omega arith) none.kept) (omega arith) s

module _ {S : MapAnswer} {bytes : List ℕ} {at nodes lines count i : ℕ} {s : Option ℕ} {w v : List ℕ} (so_far : BansRead S bytes at nodes lines count i s w v) where
  module _ (more : i < count) where
    pub bans_on : {u : List ℕ} {b : Ban} {r : Option ℕ} → BanRead bytes at (Ok b) → BanSorted (record { first = b.first; second = b.second }) lines s v u r →
        BansRead S bytes b.next nodes lines count (i + 1) r w u
    unfolding decode_bans
    bans_on {b = b} read sorted =
        let one : count - i ≡ suc (count - (i + 1)) = omega arith in
        record {
          within = omega arith;
          few = sorted.one (i + 1) so_far.few;
          kept = kept_then so_far.kept sorted.kept;
          bans = so_far.bans ++ record { first = b.first; second = b.second } ∷ [];
          left = rw one at so_far.left ∙ read.goes _;
          counted = sorted.sorts so_far.bans so_far.counted;
        }

    pub ban_off : {why : Fault} (r : Result Counts Refusal) → IsErrAnd r (λ told. refusal_of told ≡ fault_of why) → BanRead bytes at (Err why) →
        Stage S codes_from w v r
    unfolding decode_bans
    ban_off r told read =
        let one : count - i ≡ suc (count - (i + 1)) = omega arith in
        stage_faulty r told (rw one at so_far.left ∙ read.goes _) (kept_within (omega arith) (omega arith) so_far.kept)

  pub bans_end : {u : List ℕ} {r : Result Counts Refusal} → count ≤ i → nodes ≤ greatest_node_count → lines ≤ greatest_line_count →
      ((bans : List Turn) → BansTaken v lines bans (is_some s) → Stage (ended (drop at bytes) (held_nodes v nodes) (held_lines v lines) bans) codes_from v u r) →
      Stage S codes_from w u r
  unfolding decode_bans
  bans_end h few_nodes few_lines ends =
      let none : count - i ≡ 0 = omega (arith, so_far.within) in
      let same = nodes_same so_far.kept nodes (omega arith) in
      let same_lines = lines_same so_far.kept lines (omega arith) in
      stage_then
      (rw none at so_far.left
      ∙ ap₂ (λ (n : List Node) (l : List Line). ended (drop at bytes) n l so_far.bans) (sym same) (sym same_lines))
      (kept_within (omega arith) (omega arith) so_far.kept) (omega arith) (ends so_far.bans so_far.counted.taken)
