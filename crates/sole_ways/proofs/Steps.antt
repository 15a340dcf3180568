-- One step further along the stretch's lines after a search: they are the only way again, or another way is as short.
use Prim.Native.Nat.{ℕ, ◌+◌, ◌-◌, ◌≤◌, ◌<◌}
use mathlib.Core.Path.{◌≡◌, sym, ◌∙◌, ap, subst}
use mathlib.Core.List.{List, [], ◌∷◌, ◌++◌}
use native.Mathlib.Decide.{dec_lt, ℕ_discrete}
use native.Mathlib.Omega.{arith}
use Rattle.model.specs.Map.{Map}
use Rattle.model.specs.Lines.{line_at, Follows, total, first_of}
use Rattle.way_lengths.specs.Ways.{line, Way, OnlyWay}
use Rattle.way_lengths.proofs.Plain.{total_more, way_more}
use Rattle.way_lengths.proofs.Follows.{known}
use Rattle.search_cells.specs.Area.{Searched, Tie, Predecessors, several, length_to, predecessor}
use Rattle.search_cells.proofs.Holding.{few}
use Rattle.ways.proofs.Back.{near, short, tie_near, only_step, two_ties}
use Rattle.sole_ways.specs.SoleWays.{SoleUnder}

module _ {m : Map} {n c limit first : ℕ} {w : List ℕ} (s : Searched m n c (line first) limit w) where
  -- The only way of the length found is the only one that is no longer.
  pub sole_of : {l : ℕ} {ls : List ℕ} → l < n → length_to w l ≤ limit → first_of ls ≡ first → OnlyWay m c (line first) (line l) (length_to w l) ls →
      SoleUnder m c ls (line l)
  sole_of {l} {ls} l< d e o =
      record {
        only = λ other way no_longer.
            let way' = subst (λ (x : ℕ). Way m c (line x) (line l) other) e way in
            o.only other way' (omega (arith, o.sum, (near s l l< d).least other way'));
      }

  module _ {a b : ℕ} {ls : List ℕ} (a< : a < n) (d : length_to w a ≤ limit) (o : OnlyWay m c (line first) (line a) (length_to w a) ls)
      (f : Follows m a b) (class : (line_at m b).frc ≤ c) (within : length_to w a + (line_at m b).length ≤ limit) where
    b< : b < n
    b< = let k = known f in omega (arith, s.held.line_count)

    further : Way m c (line first) (line b) (ls ++ b ∷ [])
    further = way_more o.way f class

    further_sum : total m (ls ++ b ∷ []) ≡ length_to w a + (line_at m b).length
    further_sum = omega (arith, total_more m ls b, o.sum)

    found_short : length_to w b ≤ length_to w a + (line_at m b).length
    found_short = omega (arith, further_sum, short s b< further (omega (arith, further_sum)))

    -- The line is reached from line `a` alone.
    pub step_on : length_to w b ≡ length_to w a + (line_at m b).length → predecessor w b ≡ a + 1 →
        OnlyWay m c (line first) (line b) (length_to w b) (ls ++ b ∷ [])
    step_on e p =
        let known-few = few s.held in
        let before = s.tied b b< (omega arith) in
        let is : predecessor w b - 1 ≡ a = omega arith in
        let tie : Tie m w a b = record { known = omega (arith, s.held.line_count); follows = f; equal = sym e } in
        only_step s b< (omega arith) {p = a} tie
        (λ x t. before.one (omega arith) (omega arith) x (tie_near s b< (omega arith) t).0 t ∙ is) o

    -- It is reached by a shorter way, or from another line too.
    pub step_off : first_of (ls ++ b ∷ []) ≡ first → ((length_to w b ≡ length_to w a + (line_at m b).length) × (predecessor w b ≡ a + 1) → ⊥) →
        SoleUnder m c (ls ++ b ∷ []) (line b) → ⊥
    step_off starts not_on sole = go (ℕ_discrete (length_to w b) (length_to w a + (line_at m b).length))
      where
        same : (other : List ℕ) → Way m c (line first) (line b) other → total m other ≤ length_to w b → other ≡ ls ++ b ∷ []
        same other way le =
            sole.only other (subst (λ (x : ℕ). Way m c (line x) (line b) other) (sym starts) way) (omega (arith, further_sum, found_short, le))

        go : Dec (length_to w b ≡ length_to w a + (line_at m b).length) → ⊥
        go (no differs) =
            let r = (near s b b< (omega (arith, found_short))).some in
            differs (sym r.sum ∙ ap (total m) (same r.list r.way (omega (arith, r.sum))) ∙ further_sum)
        go (yes e) = tied (ℕ_discrete (predecessor w b) 0) (dec_lt (predecessor w b) several)
          where
            before : Predecessors m w n b (predecessor w b)
            before = s.tied b b< (omega arith)

            own : Tie m w a b
            own = record { known = omega (arith, s.held.line_count); follows = f; equal = sym e }

            tied : Dec (predecessor w b ≡ 0) → Dec (predecessor w b < several) → ⊥
            tied (yes none) one = before.none none a a< own
            tied (no some) (yes one) =
                let is = before.one (omega arith) one a a< own in
                not_on (e, omega (arith, is))
            tied (no some) (no many) =
                let t = before.many (omega (arith, many)) in
                let two = two_ties s b< (omega arith) t.2 t.3 t.4 in
                two.differ
                (same two.one.list two.one.way (omega (arith, two.one.sum))
                ∙ sym (same two.other.list two.other.way (omega (arith, two.other.sum))))
