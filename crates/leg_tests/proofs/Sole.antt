-- Whether a leg's own lines are its only reading to a terminus, by the verdict on its readings there.
use Prim.Native.Nat.{ℕ}
use mathlib.Core.Path.{◌≡◌, sym, ◌∙◌, ap, subst}
use mathlib.Core.List.{List}
use native.Mathlib.Omega.{arith}
use Rattle.model.specs.Map.{Map}
use Rattle.model.specs.Lines.{total, first_of, last_of}
use Rattle.model.specs.Reading.{Leg, Reading}
use Rattle.way_lengths.specs.declared.Terminus.{Terminus}
use Rattle.way_lengths.specs.Ways.{Ends}
use Rattle.fields.specs.declared.leg.Verdict.TheVariants.{Unread, One, Several}
use Rattle.legs.specs.Verdict.{OneList, Says, Anywhere, unread, one, several, ReadingTo}
use Rattle.legs.proofs.Readings.{end_of}
use Rattle.leg_tests.specs.LegTests.{Sole, OwnLines}
use Rattle.fields.specs.declared.leg.Reading as Numbers

-- The own terminus.
module _ {m : Map} {leg : Leg} {ls : List ℕ} {to : Terminus} {first len : ℕ} (o : OwnLines m leg ls to first len) where
  -- The own lines as a reading to their terminus.
  mine : Sole m leg ls to → ReadingTo m leg to ls
  mine s = record { reading = s.own o.ends; ends = o.ends }

  pub none_here : Says m (ReadingTo m leg to) Anywhere Unread → Sole m leg ls to → ⊥
  none_here (unread never) s = never ls (mine s)

  module _ {r : Numbers.Reading} where
    -- The one list is the leg's own.
    the_one : {ks : List ℕ} → OneList m (ReadingTo m leg to) r ks → Sole m leg ls to → ls ≡ ks
    the_one k s = k.only ls (mine s)

    pub one_other_first : Says m (ReadingTo m leg to) Anywhere (One r) → (r.first ≡ first → ⊥) → Sole m leg ls to → ⊥
    one_other_first (one {ls = ks} k n) differs s = differs (sym k.first ∙ ap first_of (sym (the_one k s)) ∙ o.starts)

    pub one_other_length : Says m (ReadingTo m leg to) Anywhere (One r) → (r.length ≡ len → ⊥) → Sole m leg ls to → ⊥
    one_other_length (one {ls = ks} k n) differs s = differs (sym k.sum ∙ ap (total m) (sym (the_one k s)) ∙ o.sum)

    -- Lines with the same ends and length are a reading too, so they are the one.
    pub one_own : Says m (ReadingTo m leg to) Anywhere (One r) → r.first ≡ first → r.length ≡ len → Sole m leg ls to
    one_own (one {ls = ks} k n) e size =
        let end = end_of o.terminus in
        let starts : first_of ks ≡ first_of ls = k.first ∙ e ∙ sym o.starts in
        let sum : total m ks ≡ total m ls = k.sum ∙ size ∙ sym o.sum in
        let reading : Reading m leg ls =
        record {
          allowed = o.allowed;
          distanced = o.distanced;
          least = λ other a s. omega (
            arith,
            sum,
            k.holds.reading.least other a
                (end.same ks other (starts ∙ end.first ls other s) k.holds.ends (end.there ls other o.ends s a)),
          );
        } in
        let same : ls ≡ ks = k.only ls (record { reading = reading; ends = o.ends }) in
        record { own = λ x. reading; only = λ other x. k.only other x ∙ sym same }

-- A terminus that the own lines do not end at.
module _ {m : Map} {leg : Leg} {ls : List ℕ} {to : Terminus} (differs : Ends m to (last_of ls) → ⊥) where
  pub none_elsewhere : Says m (ReadingTo m leg to) Anywhere Unread → Sole m leg ls to
  none_elsewhere (unread never) = record { own = λ e. absurd (differs e); only = λ other r. absurd (never other r) }

  pub one_elsewhere : {r : Numbers.Reading} → Says m (ReadingTo m leg to) Anywhere (One r) → Sole m leg ls to → ⊥
  one_elsewhere (one {ls = ks} k n) s = differs (subst (λ (x : List ℕ). Ends m to (last_of x)) (s.only ks k.holds) k.holds.ends)

pub several_not : {m : Map} {leg : Leg} {ls : List ℕ} {to : Terminus} → Says m (ReadingTo m leg to) Anywhere Several → Sole m leg ls to → ⊥
several_not (several t) s = t.differ (s.only t.one t.first ∙ sym (s.only t.other t.second))
