-- The legs before leg `k` have one reading each, and of leg `k` the termini that were asked are judged.
use Rattle.std.proofs.Common.{◌≡◌, ◌-◌, ◌<◌, length}
use Rattle.model.specs.Map.{Map}
use Rattle.search_cells.specs.Area.{Set}
use Rattle.fields.specs.declared.leg.Verdict.TheVariants.{Unread, Several}
use Rattle.references.specs.Formed.{legs_in}
use Rattle.references.specs.Legs.{legs_on}
use Rattle.reference_legs.specs.Legs.{PlacesIn}
use Rattle.reference_legs.proofs.Candidates.{Tried}
use Rattle.reference_legs.proofs.Gathering.{Gathering}
use Rattle.reference_legs.proofs.read_legs.Given as goal

abbrev pub invariant-loop-k : goal.invariant-loop-k
invariant-loop-k l =
    (m : Map) → Set m l.lines l.fn.work → PlacesIn m l.reference.points l.places →
    Gathering m l.lines (legs_in l.reference l.places) l.k (legs_on l.reference.bytes.now l.reference.points l.places l.k (l.reference.points - l.k)) l.work l.fn.out l.out l.sums

abbrev pub invariant-loop-at : goal.invariant-loop-at
invariant-loop-at l =
    record {
      one : l.found ≡ Several → ⊥;
      unread : l.found ≡ Unread → l.out ≡ l.initial.out;
      tried : (m : Map) → Set m l.lines l.initial.work → l.leg.to < length m.nodes →
          Tried m l.lines l.leg l.sums.count l.initial.out l.out l.initial.work l.work l.at l.found;
    }

abbrev pub decreases-loop-at : goal.decreases-loop-at
decreases-loop-at l = l.at
