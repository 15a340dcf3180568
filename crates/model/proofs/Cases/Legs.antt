-- The readings of a leg on a small map, by looking at every way between its nodes.
use Prim.Native.Nat.{ℕ, ◌≤◌}
use mathlib.Core.Path.{◌≡◌, refl, ap}
use mathlib.Core.Bool.{true}
use mathlib.Core.List.{List, [], ◌∷◌}
use native.Mathlib.Omega.{arith}
use lib.ListN.{length}
use Rattle.model.specs.Map.{Map}
use Rattle.model.specs.Field.{distance}
use Rattle.model.specs.Lines.{total, LineAttributes}
use Rattle.model.specs.Reading.{Leg, SameEnds, Allowed, Reading, Only, Unread}
use Rattle.model.proofs.Cases.Ways.{Every, every, upward, ways, in_ways}

module _ (m : Map) (leg : Leg) (up : upward m (length m.lines) ≡ true) where
  -- What makes a list least.
  abbrev NotLonger : List ℕ → List ℕ → Type 0
  NotLonger ls other = Allowed m leg other → SameEnds leg.arrival ls other → total m ls ≤ total m other

  -- A reading, the only one, and none, by looking at every way.
  pub reading : (ls : List ℕ) → Allowed m leg ls → distance (total m ls) ≡ leg.distance → Every (NotLonger ls) (ways m leg) → Reading m leg ls
  reading ls a d least =
      record {
        allowed = a;
        distanced = omega (arith, d);
        least = λ other b same. omega (arith, every (NotLonger ls) least (in_ways m leg up other b) b same);
      }

  pub only : (ls : List ℕ) → Reading m leg ls → Every (λ other. Reading m leg other → other ≡ ls) (ways m leg) → Only m leg ls
  only ls r others =
      record {
        reading = r;
        only = λ other q. every (λ other. Reading m leg other → other ≡ ls) others (in_ways m leg up other q.allowed) q;
      }

  -- Where there is one way and it is allowed.
  pub sole : (ls : List ℕ) → Allowed m leg ls → distance (total m ls) ≡ leg.distance → ways m leg ≡ ls ∷ [] → Only m leg ls
  sole ls a d e = only ls (reading ls a d (rw e (λ b same. omega arith, tt))) (rw e (λ r. refl, tt))

  pub unread : Every (λ ls. Reading m leg ls → ⊥) (ways m leg) → Unread m leg
  unread others ls r = every (λ ls. Reading m leg ls → ⊥) others (in_ways m leg up ls r.allowed) r

pub sectors : {a b : LineAttributes} → a ≡ b → a.sector ≡ b.sector
sectors e = ap (λ (a : LineAttributes). a.sector) e

pub forms : {a b : LineAttributes} → a ≡ b → a.fow ≡ b.fow
forms e = ap (λ (a : LineAttributes). a.fow) e

pub road_classes : {a b : LineAttributes} → a ≡ b → a.frc ≡ b.frc
road_classes e = ap (λ (a : LineAttributes). a.frc) e
