-- The termini of a leg, one after another: the verdict so far, and its lines in the buffer.
use Prim.Native.Nat.{ℕ, suc, ◌+◌, ◌-◌, ◌≤◌, ◌<◌}
use mathlib.Core.Path.{◌≡◌, refl, ap, subst, ◌∙◌}
use mathlib.Core.List.{List, [], ◌∷◌}
use native.Mathlib.Omega.{arith}
use lib.ListN.{length, get_or}
use Rattle.model.specs.Map.{Map}
use Rattle.model.specs.Lines.{Connected}
use Rattle.way_lengths.specs.declared.Terminus.{Terminus}
use Rattle.search_cells.specs.Area.{lines_from}
use Rattle.fields.specs.declared.leg.Leg.{Leg}
use Rattle.fields.specs.declared.leg.Reading.{Reading}
use Rattle.fields.specs.declared.leg.Verdict.{Verdict}
use Rattle.fields.specs.declared.leg.Verdict.TheVariants.{Unread, One, Several}
use Rattle.fields.specs.Leg.{arrival_in, leg_in}
use Rattle.legs.specs.Verdict.{both_of, Says, StandsIn, ReadingTo, ToLines, Judged}
use Rattle.references.specs.Legs.{leg_at, legs_on}
use Rattle.reference_legs.specs.declared.Sums.{Sums}
use Rattle.reference_legs.specs.Legs.{Put, PutOne, Inserted, PlacesIn}
use Rattle.reference_legs.specs.TerminusAt.{next_at, terminus_at}
use Rattle.reference_legs.proofs.OneMore.{Walked, walk_on}
use Rattle.reference_legs.proofs.Gathering.{Gathering}
use Rattle.model.specs.Reading as definitions

-- The legs from leg `k` on: that leg, and those after it.
legs_next : (bytes places : List ℕ) (points k : ℕ) → k < points →
    legs_on bytes points places k (points - k) ≡ leg_at bytes points places k ∷ legs_on bytes points places (k + 1) (points - (k + 1))
unfolding legs_on
legs_next bytes places points k h = let more : points - k ≡ suc (points - (k + 1)) = omega arith in rw (more, legs_on)

pub legs_end : (bytes places : List ℕ) (points k : ℕ) → points ≤ k → legs_on bytes points places k (points - k) ≡ []
unfolding legs_on
legs_end bytes places points k h = let none : points - k ≡ 0 = omega arith in rw (none, legs_on)

-- A leg that is to be read: it is the first of those left, and its end node is one of the map.
module _ (m : Map) (bytes places : List ℕ) {points k : ℕ} (leg : Leg) (e : leg_in leg ≡ leg_at bytes points places k) (h : k < points) where
  pub leg_next : {lines : ℕ} {all : List definitions.Leg} {w before out : List ℕ} {s : Sums} →
      Gathering m lines all k (legs_on bytes points places k (points - k)) w before out s →
      Gathering m lines all k (leg_in leg ∷ legs_on bytes points places (k + 1) (points - (k + 1))) w before out s
  leg_next g = rw e (rw (legs_next bytes places points k h) at g)

  pub leg_to : PlacesIn m points places → leg.to < length m.nodes
  unfolding leg_in leg_at
  leg_to known = let to : leg.to ≡ get_or places (k + 1) 0 = ap (λ (l : definitions.Leg). l.to) e in omega (arith, to, known (k + 1) (omega arith))

-- The termini before `at` have been judged, with the lines of the one reading in the buffer from number `from` on. The buffer was `before` and is `out`.
abbrev pub Tried : Map → ℕ → Leg → ℕ → List ℕ → List ℕ → List ℕ → List ℕ → ℕ → Verdict → Type 0
Tried m lines leg from before out w v at found = Walked m lines leg (λ r ls. Inserted from ls before out) w v at found

-- Where neither verdict has a reading, nothing is written.
pub both_unread : (a b : Verdict) → both_of a b ≡ Unread → (a ≡ Unread) × (b ≡ Unread)
unfolding both_of
both_unread Unread b e = (refl, e)
both_unread (One r) Unread e = absurd (let z : ◌≡◌ {A = ℕ} 0 1 = cc in omega arith)
both_unread (One r) (One q) e = absurd (let z : ◌≡◌ {A = ℕ} 0 1 = cc in omega arith)
both_unread (One r) Several e = absurd (let z : ◌≡◌ {A = ℕ} 0 1 = cc in omega arith)
both_unread Several b e = absurd (let z : ◌≡◌ {A = ℕ} 0 1 = cc in omega arith)

inserted_one : {u : List ℕ} (from : ℕ) {before after : List ℕ} {r : Reading} (ls : List ℕ) → PutOne u from before after r → length ls ≡ r.count →
    StandsIn u r ls → Inserted from ls before after
inserted_one {u} from {before} {after} {r} ls put count e fits =
    rw (count, e) (put.fits (omega arith))

-- One terminus more.
pub tried_on : {m : Map} {lines : ℕ} {leg : Leg} (from : ℕ) {before out after w v u : List ℕ} {at next : ℕ} {found more : Verdict} →
    (found ≡ Unread → out ≡ before) → Put u from out after more → Tried m lines leg from before out w v at found → 0 < at →
    Judged m lines (ReadingTo m (leg_in leg) (terminus_at (arrival_in leg.arrival) leg.to at)) (StandsIn u) v u more →
    next ≡ next_at m (arrival_in leg.arrival) at → Tried m lines leg from before after w u next (both_of found more)
tried_on from unread put k pos j e =
    walk_on (λ r ls none n. rw (put.unread none) n)
    (λ r ls none is o n. inserted_one from ls (rw (unread none) at (put.one r is)) o.count n)
    k pos j e

pub unread_on : {from : ℕ} {before out after u : List ℕ} (found more : Verdict) → (found ≡ Unread → out ≡ before) → Put u from out after more →
    both_of found more ≡ Unread → after ≡ before
unread_on found more unread put e = let n = both_unread found more e in put.unread n.1 ∙ unread n.0

-- What is to be written is connected.
pub standing : {m : Map} {lines : ℕ} {leg : definitions.Leg} {to : Terminus} {w u : List ℕ} {more : Verdict} →
    Judged m lines (ReadingTo m leg to) (StandsIn u) w u more → (r : Reading) → more ≡ One r → Connected m (lines_from u r.first r.count)
standing {m} {leg = leg} {to} {u = u} j r e = go (subst (λ (v : Verdict). Says m (ReadingTo m leg to) (StandsIn u) v) e j.says)
  where
    go : Says m (ReadingTo m leg to) (StandsIn u) (One r) → Connected m (lines_from u r.first r.count)
    go (Says.one o n) = rw n at o.holds.reading.allowed.connected

-- Several readings to some termini are several of the leg.
pub several_tried : {m : Map} {lines : ℕ} {leg : Leg} {N : Reading → List ℕ → Type 0} {w v : List ℕ} {at : ℕ} {found : Verdict} →
    found ≡ Several → Walked m lines leg N w v at found → Judged m lines (definitions.Reading m (leg_in leg)) N w v found
several_tried {m} {leg = leg} {N} {at = at} {found} e k = record { says = rw e (go (rw e at k.judged.says)); set = k.judged.set; kept = k.judged.kept }
  where
    go : Says m (ToLines m (leg_in leg) at) N Several → Says m (definitions.Reading m (leg_in leg)) N Several
    go (Says.several t) =
        Says.several (record { one = t.one; other = t.other; first = t.first.reading; second = t.second.reading; differ = t.differ })
