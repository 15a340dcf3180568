-- The verdicts on first lines, after a search back from a terminus of a leg.
use Prim.Native.Nat.{ℕ, ◌+◌, ◌≤◌, ◌<◌}
use mathlib.Core.Path.{◌≡◌}
use mathlib.Core.List.{List}
use mathlib.Core.Logic.{⊎_elim}
use Rattle.model.specs.Field.{distance}
use Rattle.model.specs.Map.{Map}
use Rattle.model.specs.Lines.{line_at, leaving}
use Rattle.way_lengths.specs.declared.Terminus.{Terminus}
use Rattle.search_cells.specs.Area.{Listing, Among, listed, length_to}
use Rattle.ways.specs.Told.{Told}
use Rattle.ways.specs.declared.Ways.{Ways}
use Rattle.fields.specs.declared.leg.Leg.{Leg}
use Rattle.fields.specs.declared.leg.Reading.{Reading}
use Rattle.fields.specs.declared.leg.Verdict.{Verdict}
use Rattle.fields.specs.Leg.{attributes_in, leg_in}
use Rattle.legs.specs.Verdict.{FirstOf, judge_of, both_of, Ready, Says, StandsIn, unread, several, ReadingTo, ReadingFrom, ReadingAmong}
use Rattle.legs.proofs.Joining.{says_same, says_both}
use Rattle.buffers.proofs.Cases.{le_or_lt}
use Rattle.ways.proofs.Back.{found_least, found_none}
use Rattle.legs.proofs.Readings.{none, other_length, judged}
use Rattle.legs.proofs.Lines.{no_place, place_more, place_other, place_apart, every_place, first_reached, not_leaving, not_here}
use Rattle.model.specs.Reading as definitions
use Rattle.fields.specs.declared.leg.Verdict.TheVariants as verdict

module _ {m : Map} {lines : ℕ} {leg : Leg} {to : Terminus} {limit : ℕ} {w : List ℕ} (ready : Ready m lines leg to limit w) (first : ℕ) where
  pub line_verdict : (line_at m first).start ≡ leg.from → leaving m first ≡ attributes_in leg.leaves → (ways : Ways) →
      Told m lines leg.lowest first to limit w ways → Says m (ReadingFrom m (leg_in leg) first to) (StandsIn w) (judge_of ways first leg.distance)
  unfolding leg_in
  line_verdict from leaves ways told = judged ready.limited ready.terminus (record { from = from; leaves = leaves }) lines w ways told

  -- The least length from the line does not give D.
  pub other_distance : first < lines → (line_at m first).start ≡ leg.from → leaving m first ≡ attributes_in leg.leaves →
      (distance (length_to w first) ≡ leg.distance → ⊥) → (ls : List ℕ) → ReadingFrom m (leg_in leg) first to ls → ⊥
  unfolding leg_in
  other_distance first< from leaves differs ls r =
      let start : FirstOf m (leg_in leg) first = record { from = from; leaves = leaves } in
      ⊎_elim
      (λ near. other_length ready.limited ready.terminus start near (found_least ready.searched first< near) differs ls r)
      (λ far. none ready.limited ready.terminus start (found_none ready.searched first< far) ls r)
      (le_or_lt (length_to w first) limit)

  pub other_line : (leaving m first ≡ attributes_in leg.leaves → ⊥) → (ls : List ℕ) → ReadingFrom m (leg_in leg) first to ls → ⊥
  unfolding leg_in
  other_line differs ls r = not_leaving first differs ls r

  pub elsewhere : ((line_at m first).start ≡ leg.from → ⊥) → (ls : List ℕ) → ReadingFrom m (leg_in leg) first to ls → ⊥
  unfolding leg_in
  elsewhere differs ls r = not_here first differs ls r

-- First lines place by place of the list: none yet, one more, and all.
module _ {m : Map} {leg : definitions.Leg} {to : Terminus} {N : Reading → List ℕ → Type 0} {w : List ℕ} {n : ℕ} where
  pub lines_none : Says m (ReadingAmong m leg (Among w n 0) to) N verdict.Unread
  lines_none = unread (λ ls r. no_place ls r)

  pub lines_more : (i l : ℕ) → listed w i ≡ l + 1 → l < n → (Among w n i l → ⊥) → {a b : Verdict} →
      Says m (ReadingAmong m leg (Among w n i) to) N a → Says m (ReadingFrom m leg l to) N b →
      Says m (ReadingAmong m leg (Among w n (i + 1)) to) N (both_of a b)
  lines_more i l at l< new s t =
      says_same (place_more i l at l<) (place_other i l at)
      (says_both (place_apart i l at new) (λ r ls e n. n) (λ r ls e q o n. n) s t)

pub lines_all : {m : Map} {lines : ℕ} {leg : Leg} {to : Terminus} {limit count i : ℕ} {w : List ℕ} {N : Reading → List ℕ → Type 0} {v : Verdict} →
    Ready m lines leg to limit w → Listing w lines count → count ≤ i →
    Says m (ReadingAmong m (leg_in leg) (Among w lines i) to) N v → Says m (ReadingTo m (leg_in leg) to) N v
unfolding leg_in
lines_all ready listing c≤ s =
    says_same every_place (first_reached ready.held.line_count ready.searched ready.limited listing c≤) s

-- Several from some lines are several.
pub lines_several : {m : Map} {leg : definitions.Leg} {to : Terminus} {P : ℕ → Type 0} {N : Reading → List ℕ → Type 0} →
    Says m (ReadingAmong m leg P to) N verdict.Several → Says m (ReadingTo m leg to) N verdict.Several
lines_several (several t) =
    several
    (record { one = t.one; other = t.other; first = every_place _ t.first; second = every_place _ t.second; differ = t.differ })
