-- Sole ways and readings: a leg that may be used is a sole way, and a sole way whose first line is alone is the only reading to its own terminus.
use Prim.Native.Nat.{ℕ, ◌≤◌, ◌<◌}
use mathlib.Core.Path.{◌≡◌, refl, sym, ◌∙◌, ap, subst}
use mathlib.Core.List.{List}
use native.Mathlib.Decide.{dec_lt}
use native.Mathlib.Omega.{arith}
use lib.ListN.{length, get_or}
use lib.Seq.{slice}
use Rattle.model.specs.Map.{Map}
use Rattle.model.specs.Field.{distance}
use Rattle.model.specs.Lines.{line_at, total, lowest, first_of, last_of, leaving}
use Rattle.model.specs.Reading.{Leg, Allowed, SameEnds, Reading}
use Rattle.model.specs.Choice.{leg_of, good}
use Rattle.way_lengths.specs.declared.Terminus.{Terminus}
use Rattle.way_lengths.specs.Ways.{line, Ends, Way}
use Rattle.legs.specs.Verdict.{TerminusOf}
use Rattle.legs.proofs.Readings.{EndOf, end_of}
use Rattle.point_choice.specs.Cuts.{Tested}
use Rattle.sole_ways.specs.SoleWays.{Marks, SoleWay, SoleLeg}
use Rattle.sole_ways.proofs.Marks.{mark_sound, mark_complete}
use Rattle.sole_ways.proofs.Slices.{last_of_slice}
use Rattle.leg_tests.specs.LegTests.{leg_from, Fits, Alone, Own, Sole, OwnRead, Sifted, OnLeg, OwnLines}
use Rattle.leg_tests.proofs.Trials.{leg_lines, only_first, trial_of}

-- Lines that are the only reading of their leg to a terminus are a sole way there.
module _ {m : Map} {leg : Leg} {ls : List ℕ} {to : Terminus} (terminus : TerminusOf m leg to) (reading : Reading m leg ls) (ends : Ends m to (last_of ls))
    (lowest-is : leg.lowest ≡ lowest m ls) {os : List ℕ} (way : Way m (lowest m ls) (line (first_of ls)) to os) (short : total m os ≤ total m ls) where
  end : EndOf m leg to
  end = end_of terminus

  other_allowed : Allowed m leg os
  other_allowed =
      let a = reading.allowed in
      record {
        connected = way.connected;
        starts = ap (λ (l : ℕ). (line_at m l).start) way.starts ∙ a.starts;
        leaves = ap (leaving m) way.starts ∙ a.leaves;
        ends = end.ends os way.ends;
        arrives = end.arrives os way.ends;
        classes = omega (arith, lowest-is, way.classes);
        within = omega (arith, a.within, short);
      }

  same_total : total m os ≡ total m ls
  same_total = omega (arith, reading.least os other_allowed (end.same ls os (sym way.starts) ends way.ends), short)

  -- What has the ends of the one has those of the other.
  same_too : (other : List ℕ) → Allowed m leg other → SameEnds leg.arrival os other → SameEnds leg.arrival ls other
  same_too other a s = end.same ls other (sym way.starts ∙ end.first os other s) ends (end.there os other way.ends s a)

  other_reading : Reading m leg os
  other_reading =
      record {
        allowed = other_allowed;
        distanced = ap distance same_total ∙ reading.distanced;
        least = λ other a s. omega (arith, same_total, reading.least other a (same_too other a s));
      }

module _ {m : Map} {lines : ℕ} {s : List ℕ} {i j : ℕ} {to : Terminus} (own : Own m lines s j to) (t : OnLeg m lines s i j) where
  leg_terminus : TerminusOf m (leg_from m s i j) to
  leg_terminus = own.serves.terminus i t.ordered

  pub sole_way_of : Sole m (leg_from m s i j) (slice i j s) to → Ends m to (last_of (slice i j s)) → SoleWay m (slice i j s) to
  unfolding leg_of
  sole_way_of sole ends =
      record {
        only = λ os way short. sole.only os
            (record { reading = other_reading leg_terminus (sole.own ends) ends refl way short; ends = way.ends });
      }

  -- A sole way whose first line is alone.
  module _ (lone : Alone m lines s i) (all : length m.lines ≡ lines) (sole : SoleWay m (slice i j s) to) (o : OwnLines m (leg_from m s i j) (slice i j s) to (get_or s i 0) (total m (slice i j s))) where
    as_way : (other : List ℕ) → Allowed m (leg_from m s i j) other → first_of other ≡ first_of (slice i j s) → Ends m to (last_of other) →
        Way m (lowest m (slice i j s)) (line (first_of (slice i j s))) to other
    unfolding leg_of
    as_way other a first ends = record { connected = a.connected; starts = first; ends = ends; classes = a.classes }

    own_reading : Reading m (leg_from m s i j) (slice i j s)
    own_reading =
        let e = end_of leg_terminus in
        record {
          allowed = o.allowed;
          distanced = o.distanced;
          least = λ other a same.
              least other a (e.first (slice i j s) other same) (e.there (slice i j s) other o.ends same a);
        }
      where
        least : (other : List ℕ) → Allowed m (leg_from m s i j) other → first_of (slice i j s) ≡ first_of other → Ends m to (last_of other) →
            total m (slice i j s) ≤ total m other
        least other a first ends = go (dec_lt (total m other) (total m (slice i j s)))
          where
            go : Dec (total m other < total m (slice i j s)) → total m (slice i j s) ≤ total m other
            go (yes shorter) =
                absurd (omega (arith, shorter, ap (total m) (sole.only other (as_way other a (sym first) ends) (omega (arith, shorter)))))
            go (no not_shorter) = omega (arith, not_shorter)

    pub alone_sole : Sole m (leg_from m s i j) (slice i j s) to
    alone_sole =
        record {
          own = λ x. own_reading;
          only = λ other r.
              let f = only_first (trial_of t refl refl) all lone other r in
              let first : first_of other ≡ first_of (slice i j s) = f.starts ∙ sym o.starts in
              let e = end_of leg_terminus in
              sole.only other (as_way other r.reading.allowed first r.ends)
              (r.reading.least (slice i j s) o.allowed (e.same other (slice i j s) first r.ends o.ends));
        }

module _ {m : Map} {lines : ℕ} {s : List ℕ} {i j : ℕ} (t : OnLeg m lines s i j) where
  -- A leg that may be used is a sole way.
  pub good_sole : {to : Terminus} → Own m lines s j to → Tested (good m) s i j → SoleLeg m s i j
  good_sole {to} own g =
      let ends = subst (Ends m to) (sym (last_of_slice s i j t.ordered t.inside)) own.ends in
      let sole : Sole m (leg_from m s i j) (slice i j s) to = record { own = λ x. g.only.reading; only = λ other r. g.only.only other r.reading } in
      record {
        within = g.only.reading.allowed.within;
        sole = subst (SoleWay m (slice i j s)) (sym own.is) (sole_way_of own t sole ends);
      }

  module _ {to : Terminus} (own : Own m lines s j to) (sole : SoleLeg m s i j) where
    -- A sole way whose first line is alone, and whose differences fit, is read alone.
    pub alone_read : length m.lines ≡ lines → Alone m lines s i → Fits m (slice i j s) → OwnRead m s i j to
    alone_read all lone fit =
        record {
          usual = record { fit = fit; within = sole.within };
          sole = alone_sole own t lone all (subst (SoleWay m (slice i j s)) own.is sole.sole) (leg_lines (trial_of t refl refl) own sole.within);
        }

    -- By the number that a search gave it.
    pub searched_read : {x y : ℕ} → x ≡ 1 → Fits m (slice i j s) → Marks (Sole m (leg_from m s i j) (slice i j s) to) y → Sifted (OwnRead m s i j to) x y
    searched_read {y = y} e fit says =
        record {
          still = λ one. e;
          holds = λ one. record { usual = record { fit = fit; within = sole.within }; sole = mark_sound y says one };
          stays = λ one o. mark_complete y says o.sole;
        }

-- The same by a question alone.
pub sifted_so : {P : Type 0} {x y : ℕ} → x ≡ 1 → Marks P y → Sifted P x y
sifted_so {y = y} e says = record { still = λ one. e; holds = λ one. mark_sound y says one; stays = λ one p. mark_complete y says p }
