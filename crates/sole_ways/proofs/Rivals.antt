-- Other lines that arrive where the stretch's own does: one that is as near is a rival, and where there is none the own way to the line is sole to the node.
use Prim.Native.Nat.{ℕ, ◌-◌, ◌≤◌, ◌<◌}
use mathlib.Core.Path.{◌≡◌, refl, sym, ◌∙◌, ap, subst}
use mathlib.Core.Logic.{◌≢◌}
use mathlib.Core.List.{List}
use native.Mathlib.Decide.{ℕ_discrete}
use native.Mathlib.Omega.{arith}
use Rattle.model.specs.Map.{Line, Map}
use Rattle.model.specs.Lines.{line_at, total, first_of, last_of}
use Rattle.model.proofs.Joining.{last_known}
use Rattle.work_area.specs.Mirror.{mirror}
use Rattle.work_area.proofs.Mirrored.{line_mirrored}
use Rattle.way_lengths.specs.Ways.{line, node, Way, OnlyWay}
use Rattle.search_cells.specs.Area.{Searched, length_to, latest}
use Rattle.search_cells.proofs.Leaving.{OnList, list_start, list_none, list_next, list_less, list_passed}
use Rattle.ways.proofs.Back.{near, short}
use Rattle.sole_ways.specs.SoleWays.{SoleUnder, Rival}

-- A way to a node ends with a line that arrives there, and a way to such a line is one to the node.
to_line : {m : Map} {c v : ℕ} {first : ℕ} {ls : List ℕ} → Way m c (line first) (node v) ls → Way m c (line first) (line (last_of ls)) ls
to_line w = record { connected = w.connected; starts = w.starts; ends = refl; classes = w.classes }

to_node : {m : Map} {c l : ℕ} {first v : ℕ} {ls : List ℕ} → (line_at m l).end ≡ v → Way m c (line first) (line l) ls → Way m c (line first) (node v) ls
to_node {m} e w = record { connected = w.connected; starts = w.starts; ends = ap (λ (x : ℕ). (line_at m x).end) w.ends ∙ e; classes = w.classes }

module _ {m : Map} {lines c limit first own : ℕ} {w ls : List ℕ} (s : Searched (mirror m) lines c (line first) limit w) (own< : own < lines)
    (d : length_to w own ≤ limit) (starts : first_of ls ≡ first) (o : OnlyWay (mirror m) c (line first) (line own) (length_to w own) ls) where
  pub no_rival : (Rival m lines own w → ⊥) → SoleUnder (mirror m) c ls (node (line_at (mirror m) own).end)
  no_rival none = record { only = λ other way no_longer. go other (subst (λ (x : ℕ). Way (mirror m) c (line x) (node (line_at (mirror m) own).end) other) starts way) no_longer (ℕ_discrete (last_of other) own) }
    where
      go : (other : List ℕ) → Way (mirror m) c (line first) (node (line_at (mirror m) own).end) other → total (mirror m) other ≤ total (mirror m) ls → Dec (last_of other ≡ own) → other ≡ ls
      go other way le (yes e) =
          let way' = subst (λ (x : ℕ). Way (mirror m) c (line first) (line x) other) e (to_line way) in
          o.only other way' (omega (arith, o.sum, (near s own own< d).least other way'))
      go other way le (no differs) =
          let last< : last_of other < lines = omega (arith, last_known way.connected, s.held.line_count) in
          absurd
          (none
          (record {
            rival = last_of other;
            known = last<;
            differs = differs;
            ends = way.ends;
            near = omega (arith, o.sum, short s last< (to_line way) (omega (arith, o.sum)));
          }))

  pub rival_found : Rival m lines own w → SoleUnder (mirror m) c ls (node (line_at (mirror m) own).end) → ⊥
  rival_found r sole =
      let le = r.near in
      let q = (near s r.rival r.known (omega arith)).some in
      let way = subst (λ (x : ℕ). Way (mirror m) c (line x) (node (line_at (mirror m) own).end) q.list) (sym starts) (to_node r.ends q.way) in
      let same = sole.only q.list way (omega (arith, q.sum, o.sum)) in
      r.differs (sym q.way.ends ∙ ap last_of same ∙ o.way.ends)

-- ---- along the list of the lines that arrive

-- None of the lines that are passed is a rival.
pub record Passed (m : Map) (lines own : ℕ) (w : List ℕ) (at : ℕ) : Type 0 where
  pub list : OnList m lines (line_at (mirror m) own).end at
  pub passed : (l : ℕ) → l < lines → (line_at m l).start ≡ (line_at (mirror m) own).end → at ≤ l → l ≢ own → length_to w l ≤ length_to w own → ⊥

ends_mirrored : (m : Map) (l : ℕ) → (line_at (mirror m) l).end ≡ (line_at m l).start
ends_mirrored m l = ap (λ (x : Line). x.end) (line_mirrored m l)

module _ {m : Map} {lines own : ℕ} {w : List ℕ} where
  pub passed_start : {at : ℕ} → at ≡ latest m (line_at (mirror m) own).end lines → Passed m lines own w at
  passed_start e =
      record {
        list = list_start m lines (line_at (mirror m) own).end e;
        passed = λ l l< there le d k. list_none m lines (line_at (mirror m) own).end e l l< there le;
      }

  module _ {at : ℕ} (k : Passed m lines own w at) where
    pub passed_less : {next : ℕ} → 0 < at → next ≡ latest m (line_at m (at - 1)).start (at - 1) → next < at
    passed_less some e = list_less k.list some e

    pub passed_on : {next : ℕ} → 0 < at → next ≡ latest m (line_at m (at - 1)).start (at - 1) →
        ((at - 1 ≢ own) × (length_to w (at - 1) ≤ length_to w own) → ⊥) → Passed m lines own w next
    passed_on some e none =
        record {
          list = list_next k.list some e;
          passed = list_passed k.list some e (λ l. l ≢ own → length_to w l ≤ length_to w own → ⊥) k.passed (λ d le. none (d, le));
        }

    pub passed_found : 0 < at → (at - 1 ≢ own) × (length_to w (at - 1) ≤ length_to w own) → Rival m lines own w
    passed_found some both =
        record {
          rival = at - 1;
          known = omega (arith, k.list.within);
          differs = both.0;
          ends = ends_mirrored m (at - 1) ∙ k.list.joined some;
          near = both.1;
        }

    pub passed_end : at ≡ 0 → Rival m lines own w → ⊥
    passed_end e r = k.passed r.rival r.known (sym (ends_mirrored m r.rival) ∙ r.ends) (omega arith) r.differs r.near
