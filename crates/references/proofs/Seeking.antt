-- The search for a node, one node at a time, on a map that the work area holds.
use Prim.Native.Nat.{ℕ, ◌+◌, ◌*◌, ◌<◌}
use mathlib.Core.Path.{◌≡◌, sym, subst, ◌∙◌}
use mathlib.Core.Bool.{Bool, true, false}
use mathlib.Core.List.{List}
use native.Mathlib.Numerals.{add-one}
use native.Mathlib.Omega.{arith}
use lib.ListN.{length, get_or, drop}
use lib.Seq.{drop-cons, drop-length}
use Rattle.model.specs.Map.{Node, Map}
use Rattle.model.specs.Lines.{node_at}
use Rattle.model.specs.Locate.{found, missing, seek}
use Rattle.work_area.specs.Area.{Holds}
use Rattle.work_area.proofs.Holding.{lon_at, lat_at}
use Rattle.references.specs.declared.node.Sought.{Sought}
use Rattle.std.proofs.Common.{Option, Some, None, Ok, Err}
use Rattle.std.specs.Option.{ok_or}
use Rattle.model.specs.declared.Refusal.{Refusal}
use Rattle.references.specs.Node.{passes, Finds}

module _ (test : Node → Bool) (nodes : List Node) (v : ℕ) (d : Node) (h : v < length nodes) where
  seek_here : test (get_or nodes v d) ≡ true → seek test v (drop v nodes) ≡ found v
  unfolding seek
  seek_here t = rw (drop-cons nodes v d h, t, seek)

  seek_on : test (get_or nodes v d) ≡ false → seek test v (drop v nodes) ≡ seek test (v + 1) (drop (v + 1) nodes)
  unfolding seek
  seek_on t = rw (drop-cons nodes v d h, t, seek, add-one v)

-- The answer for node `v` of a map, which has been asked of each node before it.
module _ {work : List ℕ} {nodes lines : ℕ} {m : Map} (holds : Holds work nodes lines m) (sought : Sought) (v : ℕ) (known : v < nodes) {r : Bool}
    (answer : (a : Node) → a.lon ≡ get_or work (2 * v) 0 → a.lat ≡ get_or work (2 * v + 1) 0 → r ≡ passes sought a)
    (before : seek (passes sought) 0 m.nodes ≡ seek (passes sought) v (drop v m.nodes)) where
  answered : passes sought (node_at m v) ≡ r
  answered = sym (answer (node_at m v) (sym (lon_at holds v known)) (sym (lat_at holds v known)))

  inside : v < length m.nodes
  inside = omega (arith, holds.node_count)

  pub found_here : r ≡ true → seek (passes sought) 0 m.nodes ≡ found v
  unfolding node_at
  found_here t = before ∙ seek_here (passes sought) m.nodes v _ inside (answered ∙ t)

  pub not_here : r ≡ false → seek (passes sought) 0 m.nodes ≡ seek (passes sought) (v + 1) (drop (v + 1) m.nodes)
  unfolding node_at
  not_here t = before ∙ seek_on (passes sought) m.nodes v _ inside (answered ∙ t)

pub not_any : {work : List ℕ} {nodes lines : ℕ} {m : Map} → Holds work nodes lines m → (test : Node → Bool) (v : ℕ) → v ≡ nodes →
    seek test v (drop v m.nodes) ≡ missing
unfolding seek
not_any {m = m} holds test v e =
    let all : v ≡ length m.nodes = omega (arith, holds.node_count) in
    rw (all, drop-length m.nodes, seek)

-- What a search says once it is known whether a refusal stands in its answer's place.
module _ {work : List ℕ} {nodes : ℕ} {sought : Sought} {r : Option ℕ} (finds : Finds work nodes sought r) (why : Refusal) where
  pub node_found : {v : ℕ} → ok_or r why ≡ Ok v →
      (v < nodes) × ((m : Map) (lines : ℕ) → Holds work nodes lines m → seek (passes sought) 0 m.nodes ≡ found v)
  node_found {v} e =
      let is : r ≡ Some v = grind arith in
      let f = subst (λ (q : Option ℕ). Finds work nodes sought q) is finds in (f.below, f.first)

  pub node_missing : {given : Refusal} → ok_or r why ≡ Err given →
      (given ≡ why) × ((m : Map) (lines : ℕ) → Holds work nodes lines m → seek (passes sought) 0 m.nodes ≡ missing)
  node_missing {given} e =
      let is : r ≡ None = grind arith in
      let same : given ≡ why = grind arith in
      (same, (subst (λ (q : Option ℕ). Finds work nodes sought q) is finds).first)
