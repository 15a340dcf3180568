-- What the ways of least length from a first line to a terminus say of the readings of a leg.
use Prim.Native.Nat.{ℕ, zero, suc, ◌-◌, ◌≤◌}
use mathlib.Core.Path.{◌≡◌, refl, sym, ◌∙◌, ap}
use mathlib.Core.Bool.{Bool, true, false, cond}
use mathlib.Core.List.{List}
use native.Mathlib.Nat.{le_antisymm}
use native.Mathlib.Omega.{arith}
use lib.ListN.{length}
use lib.Dec.{eqb}
use borrow.Author.Tests.{eqb-true, eqb-false}
use Rattle.model.specs.Map.{Map}
use Rattle.model.specs.Field.{distance}
use Rattle.model.specs.Lines.{line_at, total, first_of, last_of, leaving, arriving}
use Rattle.model.specs.Reading.{Leg, Arrives, Allowed, SameEnds, Reading, greatest_leg_length}
use Rattle.way_lengths.specs.declared.Terminus.{Terminus}
use Rattle.way_lengths.specs.Ways.{line, Ends, Way, Least, OnlyWay, Two, Beyond}
use Rattle.search_cells.specs.Area.{predecessor, lines_from}
use Rattle.ways.specs.Told.{Told}
use Rattle.ways.specs.declared.Ways.{Ways}
use Rattle.ways.specs.declared.Ways.TheVariants.{Nothing, Several, One}
use Rattle.legs.specs.Verdict.{LimitFor, TerminusOf, at_node, at_line, ReadingFrom, FirstOf, TwoLists, Says, StandsIn, unread, one, several, judge_of}
use Rattle.fields.specs.declared.leg.Verdict.TheVariants as verdict

-- A terminus of a leg: the lists that end there end as the leg says, and those that the leg allows with the same ends end there too.
pub record EndOf (m : Map) (leg : Leg) (to : Terminus) : Type 0 where
  pub arrives : (ls : List ℕ) → Ends m to (last_of ls) → Arrives m leg.arrival ls
  pub ends : (ls : List ℕ) → Ends m to (last_of ls) → (line_at m (last_of ls)).end ≡ leg.to
  pub same : (a b : List ℕ) → first_of a ≡ first_of b → Ends m to (last_of a) → Ends m to (last_of b) → SameEnds leg.arrival a b
  pub there : (a b : List ℕ) → Ends m to (last_of a) → SameEnds leg.arrival a b → Allowed m leg b → Ends m to (last_of b)
  pub first : (a b : List ℕ) → SameEnds leg.arrival a b → first_of a ≡ first_of b

pub end_of : {m : Map} {leg : Leg} {to : Terminus} → TerminusOf m leg to → EndOf m leg to
end_of (at_node e) =
    record {
      arrives = λ ls h. rw e tt;
      ends = λ ls h. h;
      same = λ a b s h k. rw e s;
      there = λ a b h s allowed. allowed.ends;
      first = λ a b s. rw e at s;
    }
end_of {m} (at_line e ends) =
    record {
      arrives = λ ls h. rw e (ap (arriving m) h);
      ends = λ ls h. ap (λ (l : ℕ). (line_at m l).end) h ∙ ends;
      same = λ a b s h k. rw e (s, h ∙ sym k);
      there = λ a b h s allowed. sym (rw e at s).1 ∙ h;
      first = λ a b s. (rw e at s).0;
    }

module _ {m : Map} {leg : Leg} {first limit : ℕ} {to : Terminus} (limited : LimitFor leg.distance limit) (terminus : TerminusOf m leg to)
    (start : FirstOf m leg first) where
  end : EndOf m leg to
  end = end_of terminus

  allowed : {ls : List ℕ} → Way m leg.lowest (line first) to ls → total m ls ≤ greatest_leg_length → Allowed m leg ls
  allowed {ls} w short =
      record {
        connected = w.connected;
        starts = ap (λ (l : ℕ). (line_at m l).start) w.starts ∙ start.from;
        leaves = ap (leaving m) w.starts ∙ start.leaves;
        ends = end.ends ls w.ends;
        arrives = end.arrives ls w.ends;
        classes = w.classes;
        within = short;
      }

  way : {ls : List ℕ} → Allowed m leg ls → first_of ls ≡ first → Ends m to (last_of ls) → Way m leg.lowest (line first) to ls
  way a starts ends = record { connected = a.connected; starts = starts; ends = ends; classes = a.classes }

  -- A reading is within the limit.
  within : {ls : List ℕ} → Reading m leg ls → total m ls ≤ limit
  within r = limited.holds _ r.allowed.within (omega (arith, r.distanced))

  pub none : Beyond m leg.lowest (line first) to limit → (ls : List ℕ) → ReadingFrom m leg first to ls → ⊥
  none beyond ls r = omega (arith, beyond ls (way r.reading.allowed r.starts r.ends), within r.reading)

  module _ {d : ℕ} (near : d ≤ limit) (least : Least m leg.lowest (line first) to d) where
    -- A reading has the least length, which gives D.
    length_is : {ls : List ℕ} → ReadingFrom m leg first to ls → total m ls ≡ d
    length_is {ls} r =
        let w = way r.reading.allowed r.starts r.ends in
        let s = least.some in
        let short : total m s.list ≤ greatest_leg_length = omega (arith, s.sum, limited.within) in
        let same = end.same ls s.list (r.starts ∙ sym s.way.starts) r.ends s.way.ends in
        le_antisymm (omega (arith, r.reading.least s.list (allowed s.way short) same, s.sum)) (least.least ls w)

    gives : {ls : List ℕ} → ReadingFrom m leg first to ls → distance d ≡ leg.distance
    gives r = ap distance (sym (length_is r)) ∙ r.reading.distanced

    -- A way of that length is a reading, where it gives D.
    reading : {ls : List ℕ} → distance d ≡ leg.distance → Way m leg.lowest (line first) to ls → total m ls ≡ d → ReadingFrom m leg first to ls
    reading {ls} e w sum =
        record {
          reading = record {
            allowed = allowed w (omega (arith, sum, limited.within));
            distanced = ap distance sum ∙ e;
            least = λ other a same.
                let starts : first_of other ≡ first = sym (end.first ls other same) ∙ w.starts in
                omega (arith, sum, least.least other (way a starts (end.there ls other w.ends same a)));
          };
          starts = w.starts;
          ends = w.ends;
        }

    pub other_length : (distance d ≡ leg.distance → ⊥) → (ls : List ℕ) → ReadingFrom m leg first to ls → ⊥
    other_length differs ls r = differs (gives r)

    pub two : distance d ≡ leg.distance → Two m leg.lowest (line first) to d → TwoLists (ReadingFrom m leg first to)
    two e t =
        record {
          one = t.one.list;
          other = t.other.list;
          first = reading e t.one.way t.one.sum;
          second = reading e t.other.way t.other.sum;
          differ = t.differ;
        }

    pub one_reading : {list : List ℕ} → distance d ≡ leg.distance → OnlyWay m leg.lowest (line first) to d list →
        ReadingFrom m leg first to list × ((other : List ℕ) → ReadingFrom m leg first to other → other ≡ list)
    one_reading {list} e o = (
      reading e o.way o.sum,
      λ other r. o.only other (way r.reading.allowed r.starts r.ends) (length_is r),
    )

-- The lines from a first one on, as they stand in a work area.
count_is : (w : List ℕ) (first count : ℕ) → length (lines_from w first count) ≡ count
count_is w first zero = refl
count_is w first (suc count) = ap suc (count_is w (predecessor w first - 1) count)

-- The verdict on the ways that were found.
module _ {m : Map} {leg : Leg} {first limit : ℕ} {to : Terminus} (limited : LimitFor leg.distance limit) (terminus : TerminusOf m leg to)
    (start : FirstOf m leg first) (lines : ℕ) (w : List ℕ) where
  pub judged : (ways : Ways) → Told m lines leg.lowest first to limit w ways →
      Says m (ReadingFrom m leg first to) (StandsIn w) (judge_of ways first leg.distance)
  unfolding judge_of
  judged Nothing beyond = unread (none limited terminus start beyond)
  judged (Several length) t = go (eqb (distance length) leg.distance) refl
    where
      go : (b : Bool) → eqb (distance length) leg.distance ≡ b → Says m (ReadingFrom m leg first to) (StandsIn w) (cond b verdict.Several verdict.Unread)
      go true e = several (two limited terminus start t.within t.least (eqb-true _ _ e) t.two)
      go false e = unread (other_length limited terminus start t.within t.least (eqb-false _ _ e))
  judged (One last length count) (o, ends, some, few) = go (eqb (distance length) leg.distance) refl
    where
      go : (b : Bool) → eqb (distance length) leg.distance ≡ b →
          Says m (ReadingFrom m leg first to) (StandsIn w)
          (cond b (verdict.One (record { first = first; last = last; length = length; count = count })) verdict.Unread)
      go true e =
          let k = one_reading limited terminus start o.within o.least (eqb-true _ _ e) o.only in
          one {ls = lines_from w first count}
          (record { holds = k.0; only = k.1; first = k.0.starts; last = ends; sum = o.only.sum; count = count_is w first count })
          refl
      go false e = unread (other_length limited terminus start o.within o.least (eqb-false _ _ e))
