-- What stands in the work area after a search back from a terminus of a leg.
use Rattle.work_area.specs.Area.{search_from, search_to}
use Rattle.model.specs.Map.{Map}
use Prim.Native.Nat.{ℕ}
use mathlib.Core.Path.{◌≡◌}
use mathlib.Core.List.{List}
use native.Mathlib.Omega.{arith}
use Rattle.model.specs.Lines.{arriving}
use Rattle.work_area.specs.Mirror.{mirror}
use Rattle.way_lengths.specs.declared.Terminus.{Terminus}
use Rattle.way_lengths.specs.Ways.{line}
use Rattle.fields.specs.declared.leg.Attributes.{Attributes}
use Rattle.fields.specs.Leg.{LongestLeg, attributes_in, arrival_in, leg_in}
use Rattle.buffers.specs.Kept.{Kept}
use Rattle.search_cells.specs.Area.{Set}
use Rattle.search.specs.Promises.{Finished}
use Rattle.buffers.proofs.Kept.{kept_none, kept_within}
use Rattle.work_area.proofs.Holding.{held_kept}
use Rattle.fields.specs.declared.leg.Leg.{Leg}
use Rattle.fields.specs.declared.leg.Verdict.{Verdict}
use Rattle.legs.specs.Verdict.{Ready, Judged, Says, StandsIn, unread, TerminusOf, ReadingTo}
use Rattle.legs.proofs.Lines.{not_arriving}
use Rattle.model.specs.Reading as definitions
use Rattle.fields.specs.declared.leg.Verdict.TheVariants as verdict

-- The search back from a terminus is done, and the work area is still ready for another.
pub record Done (m : Map) (lines : ℕ) (leg : Leg) (to : Terminus) (limit : ℕ) (w v : List ℕ) : Type 0 where
  pub ready : Ready m lines leg to limit v
  pub set : Set m lines v
  pub kept : Kept search_from search_to w v

module _ {m : Map} {lines : ℕ} {leg : Leg} {to : Terminus} {limit : ℕ} {w : List ℕ} where
  pub searched : {v : List ℕ} → Set m lines w → LongestLeg leg.distance limit → TerminusOf m (leg_in leg) to →
      Finished (mirror m) lines leg.lowest to limit w v → Done m lines leg to limit w v
  searched set longest terminus f =
      let held = held_kept (omega arith) f.kept set.held in
      record {
        ready = record {
          held = held;
          searched = f.searched;
          limited = record { within = longest.within; holds = longest.holds };
          terminus = terminus;
        };
        set = record { held = held; chained = f.chained };
        kept = kept_within (omega arith) (omega arith) f.kept;
      }

  pub judged_by : {v : List ℕ} {r : Verdict} → Done m lines leg to limit w v → Says m (ReadingTo m (leg_in leg) to) (StandsIn v) r →
      Judged m lines (ReadingTo m (leg_in leg) to) (StandsIn v) w v r
  judged_by d s = record { says = s; set = d.set; kept = d.kept }

-- A last line of other attributes.
pub not_last : {m : Map} {lines : ℕ} (leg : Leg) (last : ℕ) (a : Attributes) {w : List ℕ} → arrival_in leg.arrival ≡ definitions.matching (attributes_in a) →
    Set m lines w → (arriving m last ≡ attributes_in a → ⊥) → Judged m lines (ReadingTo m (leg_in leg) (line last)) (StandsIn w) w w verdict.Unread
unfolding leg_in
not_last leg last a e set differs = record { says = unread (not_arriving last e differs); set = set; kept = kept_none }
