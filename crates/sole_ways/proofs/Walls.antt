-- Walls: no leg that has both ends of another way that is as short is a sole way; and how such a way is found, line by line from its end.
use Prim.Native.Nat.{ℕ, ◌+◌, ◌-◌, ◌≤◌, ◌<◌}
use mathlib.Core.Path.{◌≡◌, sym, ◌∙◌, ap, subst}
use mathlib.Core.Logic.{◌≢◌, ⊎_elim}
use mathlib.Core.List.{List, [], ◌∷◌, ◌++◌}
use native.Mathlib.Decide.{dec_lt}
use native.Mathlib.Nat.{eq-or-lt_of_le}
use native.Mathlib.Omega.{arith}
use borrow.Author.Tests.{ne_eqb}
use lib.ListN.{length, get_or}
use lib.Seq.{slice, length-slice}
use Rattle.model.specs.Map.{Map}
use Rattle.model.specs.Lines.{line_at, Connected, lowest, first_of, last_of}
use Rattle.way_lengths.specs.declared.Terminus.{Terminus}
use Rattle.way_lengths.specs.Ways.{line, node, Way}
use Rattle.way_lengths.proofs.Plain.{total_more, way_more, same_before}
use Rattle.sole_ways.specs.declared.wall.Wall.{Wall}
use Rattle.sole_ways.specs.SoleWays.{SoleUnder, SoleLeg, Walled}
use Rattle.sole_ways.proofs.Slices.{slice_then, first_of_slice, last_of_slice, slice_more, total_slice_more, lowest_then, lowest_slice_more, slice_connected, next_follows}
use Rattle.sole_ways.proofs.Sole.{way_wider, sole_later, sole_upto, own_ends}

module _ {m : Map} (s : List ℕ) (joint : Connected m s) where
  -- A part that is sole is so from each of its positions.
  sole_from : {c : ℕ} {to : Terminus} (i q j : ℕ) → i ≤ q → q < j → j ≤ length s → lowest m (slice i j s) ≤ c → SoleUnder m c (slice i j s) to →
      SoleUnder m c (slice q j s) to
  sole_from {c} {to} i q j h l inside low sole = ⊎_elim same later (eq-or-lt_of_le {n = i} {m = q} h)
    where
      same : i ≡ q → SoleUnder m c (slice q j s) to
      same e = subst (λ (x : ℕ). SoleUnder m c (slice x j s) to) e sole

      later : i < q → SoleUnder m c (slice q j s) to
      later less =
          let parts = slice_then i q j s h (omega arith) inside in
          sole_later (slice i q s) (slice q j s) (omega (arith, length-slice i q s (omega arith))) (omega (arith, length-slice q j s inside))
          (subst (Connected m) parts (slice_connected s i j (omega arith) inside joint))
          (omega (arith, lowest_then m s i q j h (omega arith) inside, low))
          (subst (λ (ls : List ℕ). SoleUnder m c ls to) parts sole)

  module _ {wall : Wall} (k : Walled m s wall) where
    some : wall.from < wall.to
    some = k.ordered

    -- The other way is not the stretch's.
    other_way : k.other ≡ slice wall.from wall.to s → ⊥
    other_way e = k.differs (sym k.way.ends ∙ ap last_of e ∙ last_of_slice s wall.from wall.to some (omega (arith, k.inside)))

    starts : (j : ℕ) → wall.from < j → j ≤ length s → {c : ℕ} {to : Terminus} {ls : List ℕ} → Way m c (line (get_or s wall.from 0)) to ls →
        Way m c (line (first_of (slice wall.from j s))) to ls
    starts j h l {c} {to} {ls} w = subst (λ (x : ℕ). Way m c (line x) to ls) (sym (first_of_slice s wall.from j h l)) w

    -- A part up to the line where the two ways meet, and one up to the node before it.
    not_to_line : {c : ℕ} → wall.class ≤ c → (line_at m (get_or s wall.to 0)).frc ≤ c →
        SoleUnder m c (slice wall.from (wall.to + 1) s) (line (get_or s wall.to 0)) → ⊥
    not_to_line {c} class low sole =
        let after : wall.to + 1 ≤ length s = omega (arith, k.inside) in
        let way = way_more (way_wider {d = c} class k.way) k.follows low in
        let same = sole.only (k.other ++ get_or s wall.to 0 ∷ []) (starts (wall.to + 1) (omega (arith, some)) after way)
        (omega (
          arith,
          k.short,
          total_more m k.other (get_or s wall.to 0),
          total_slice_more s wall.from wall.to (omega (arith, some)) k.inside m,
        )) in
        other_way (same_before _ _ (get_or s wall.to 0) (same ∙ slice_more s wall.from wall.to (omega (arith, some)) k.inside))

    not_to_node : {c : ℕ} → wall.class ≤ c → SoleUnder m c (slice wall.from wall.to s) (node (line_at m (get_or s (wall.to - 1) 0)).end) → ⊥
    not_to_node {c} class sole =
        let own = next_follows s wall.to (omega (arith, some)) k.inside joint in
        let way : Way m c (line (get_or s wall.from 0)) (node (line_at m (get_or s (wall.to - 1) 0)).end) k.other =
        record {
          connected = k.way.connected;
          starts = k.way.starts;
          ends = ap (λ (x : ℕ). (line_at m x).end) k.way.ends ∙ k.follows.meets ∙ sym own.meets;
          classes = omega (arith, k.way.classes, class);
        }
        in
        other_way (sole.only k.other (starts wall.to some (omega (arith, k.inside)) way) k.short)

    -- No leg that has both ends of the other way is a sole way.
    pub barred : (i j : ℕ) → i ≤ wall.from → wall.to ≤ j → j ≤ length s → wall.class ≤ lowest m (slice i j s) → SoleLeg m s i j → ⊥
    barred i j h l inside class sole = go (dec_lt wall.to j)
      where
        go : Dec (wall.to < j) → ⊥
        go (yes further) =
            let at : wall.to + 1 - 1 ≡ wall.to = omega arith in
            let upto = sole_upto s joint i (wall.to + 1) j (omega (arith, some)) (omega arith) inside (own_ends m s j) (omega arith) sole.sole in
            let lows = lowest_then m s i (wall.to + 1) j (omega (arith, some)) (omega arith) inside in
            let last = lowest_slice_more s i wall.to (omega (arith, some)) k.inside m in
            not_to_line class (omega (arith, lows, last))
            (subst (λ (x : ℕ). SoleUnder m (lowest m (slice i j s)) (slice wall.from (wall.to + 1) s) (line (get_or s x 0))) at
            (sole_from i wall.from (wall.to + 1) h (omega (arith, some)) (omega arith) (omega (arith, lows)) upto))
        go (no here) =
            let e : j ≡ wall.to = omega (arith, here) in
            let differs : j ≢ length s = λ z. omega (arith, k.inside, e, z) in
            let ends : SoleUnder m (lowest m (slice i j s)) (slice i j s) (node (line_at m (get_or s (j - 1) 0)).end) = rw (ne_eqb j (length s) differs) at sole.sole in
            let later = sole_from i wall.from j h (omega (arith, some)) inside (omega arith) ends in
            not_to_node class
            (subst (λ (x : ℕ). SoleUnder m (lowest m (slice i j s)) (slice wall.from x s) (node (line_at m (get_or s (x - 1) 0)).end)) e later)
