-- The legs one after another, and of each its termini.
use Rattle.std.proofs.Common.{◌≡◌, ◌-◌, arith, refl, sym, ◌∙◌, ℕ}
use Rattle.fields.specs.declared.leg.Reading.{Reading}
use Rattle.fields.specs.declared.leg.Verdict.{Verdict}
use Rattle.fields.specs.declared.leg.Verdict.TheVariants.{Unread, One, Several}
use Rattle.fields.specs.Leg.{arrival_in, leg_in}
use Rattle.reference_legs.specs.TerminusAt.{next_at}
use Rattle.reference_legs.proofs.OneMore.{next_less, walk_start, walk_end}
use Rattle.reference_legs.proofs.Gathering.{none_counted, gather_none, gather_on, gather_unread, gather_several, gather_end, read_bounds, read_first}
use Rattle.reference_legs.proofs.Candidates.{Tried, leg_next, leg_to, legs_end, tried_on, unread_on, standing, several_tried}
use Rattle.reference_legs.proofs.read_legs.Goals as goal

-- A verdict that is not one reading and not several.
neither : (found : Verdict) → ((r : Reading) → found ≡ One r → ⊥) → (found ≡ Several → ⊥) → found ≡ Unread
neither Unread one several = refl
neither (One r) one several = absurd (one r refl)
neither Several one several = absurd (several refl)

pub loop-k-init : goal.loop-k-init
loop-k-init c m set places =
    let whole : c.args.reference.points - 0 ≡ c.args.reference.points = omega arith in
    rw (whole, none_counted _ c.default-sums.ensures) (gather_none set)

pub first_terminus-at-requires : goal.first_terminus-at-requires
first_terminus-at-requires c =
    let p = c.requires.set in
    (p.0, (c.loop-k.invariant p.0 p.1 p.2).set, leg_to p.0 c.args.reference.bytes.now c.args.places.now _ c.leg_at-leg.ensures c.loop-k-test.true p.2)

pub loop-at-init : goal.loop-at-init
loop-at-init c = record {
  one = λ e. (let z : ◌≡◌ {A = ℕ} 0 1 = cc in omega arith);
  unread = λ e. refl;
  tried = λ m set to. walk_start _ set (c.first_terminus-at.ensures m set to);
}

pub read_terminus-more-requires : goal.read_terminus-more-requires
read_terminus-more-requires c =
    let p = c.requires.set in
    let to = leg_to p.0 c.args.reference.bytes.now c.args.places.now _ c.leg_at-leg.ensures c.loop-k-test.true p.2 in
    let k = c.loop-at.invariant.tried p.0 (c.loop-k.invariant p.0 p.1 p.2).set to in
    record { at_nonzero = (c.loop-at-test.true, k.inside); set = (p.0, k.judged.set, to, k.stands c.loop-at-test.true) }

pub put_reading-requires : goal.put_reading-requires
put_reading-requires c =
    let p = c.requires.set in
    let to = leg_to p.0 c.args.reference.bytes.now c.args.places.now _ c.leg_at-leg.ensures c.loop-k-test.true p.2 in
    let k = c.loop-at.invariant.tried p.0 (c.loop-k.invariant p.0 p.1 p.2).set to in
    let j = c.read_terminus-more.ensures p.0 k.judged.set to (k.stands c.loop-at-test.true) in
    (p.0, _, j.set.held, standing j)

pub next_terminus-at-requires : goal.next_terminus-at-requires
next_terminus-at-requires c =
    let p = c.requires.set in
    let to = leg_to p.0 c.args.reference.bytes.now c.args.places.now _ c.leg_at-leg.ensures c.loop-k-test.true p.2 in
    let k = c.loop-at.invariant.tried p.0 (c.loop-k.invariant p.0 p.1 p.2).set to in
    let j = c.read_terminus-more.ensures p.0 k.judged.set to (k.stands c.loop-at-test.true) in
    record { at_nonzero = (c.loop-at-test.true, k.inside); set = (p.0, j.set) }

pub loop-at-smaller : goal.loop-at-smaller
loop-at-smaller c =
    let p = c.requires.set in
    let to = leg_to p.0 c.args.reference.bytes.now c.args.places.now _ c.leg_at-leg.ensures c.loop-k-test.true p.2 in
    let k = c.loop-at.invariant.tried p.0 (c.loop-k.invariant p.0 p.1 p.2).set to in
    let j = c.read_terminus-more.ensures p.0 k.judged.set to (k.stands c.loop-at-test.true) in
    let less = next_less p.0 (leg_in c.leg_at-leg.result) j.set.held.line_count (arrival_in c.leg_at-leg.result.arrival) c.loop-at.at c.loop-at-test.true in
    omega (arith, less, c.next_terminus-at.ensures p.0 j.set)

pub loop-at-preserved : goal.loop-at-preserved
loop-at-preserved c =
    record {
      one = c.in_default.not-Several;
      unread = λ e. unread_on c.loop-at.found c.read_terminus-more.result c.loop-at.invariant.unread c.put_reading.ensures (sym c.both-found.ensures ∙ e);
      tried = λ m set to.
          let k = c.loop-at.invariant.tried m set to in
          let j = c.read_terminus-more.ensures m k.judged.set to (k.stands c.loop-at-test.true) in
          rw c.both-found.ensures
          (tried_on c.loop-k.sums.count c.loop-at.invariant.unread c.put_reading.ensures k c.loop-at-test.true j (c.next_terminus-at.ensures m j.set));
    }

pub barred_with-barred-requires : goal.barred_with-barred-requires
barred_with-barred-requires c =
    let p = c.requires.set in
    let to = leg_to p.0 c.args.reference.bytes.now c.args.places.now _ c.leg_at-leg.ensures c.loop-k-test.true p.2 in
    let k = c.loop-at.invariant.tried p.0 (c.loop-k.invariant p.0 p.1 p.2).set to in
    let j = walk_end k (omega arith) in
    let first = read_first (rw c.in-One.is at j.says) in
    record { first_lt_lines = omega (arith, first, j.set.held.line_count); held = (p.0, j.set.held) }

pub with_leg-sums-requires-clause-count_le_greatest_leg_length : goal.with_leg-sums-requires-clause-count_le_greatest_leg_length
with_leg-sums-requires-clause-count_le_greatest_leg_length c =
    let p = c.requires.set in
    let to = leg_to p.0 c.args.reference.bytes.now c.args.places.now _ c.leg_at-leg.ensures c.loop-k-test.true p.2 in
    let k = c.loop-at.invariant.tried p.0 (c.loop-k.invariant p.0 p.1 p.2).set to in
    let j = walk_end k (omega arith) in
    read_bounds j.set.held.formed (rw c.in-One.is at j.says)

pub loop-k-preserved : goal.loop-k-preserved
loop-k-preserved c m set places =
    let to = leg_to m c.args.reference.bytes.now c.args.places.now _ c.leg_at-leg.ensures c.loop-k-test.true places in
    let g = leg_next m c.args.reference.bytes.now c.args.places.now _ c.leg_at-leg.ensures c.loop-k-test.true (c.loop-k.invariant m set places) in
    let k = c.loop-at.invariant.tried m g.set to in
    let j = walk_end k (omega arith) in
    rw (c.with_leg-sums.ensures, c.barred_with-barred.ensures m j.set.held) (gather_on g c.loop-k.auto.out j.set (rw c.in-One.is at j.says))

pub returns-in-Several : goal.returns-in-Several
returns-in-Several c m set places =
    let to = leg_to m c.args.reference.bytes.now c.args.places.now _ c.leg_at-leg.ensures c.loop-k-test.true places in
    let g = leg_next m c.args.reference.bytes.now c.args.places.now _ c.leg_at-leg.ensures c.loop-k-test.true (c.loop-k.invariant m set places) in
    let k = c.loop-at.invariant.tried m g.set to in
    let j = c.read_terminus-more.ensures m k.judged.set to (k.stands c.loop-at-test.true) in
    let leg = c.leg_at-leg.result in
    let next = next_at m (arrival_in leg.arrival) c.loop-at.at in
    let tried : Tried m c.args.lines leg c.loop-k.sums.count c.loop-k.out c.put_reading.new.out c.loop-k.work c.read_terminus-more.new.work next
    c.both-found.result =
    rw c.both-found.ensures (tried_on c.loop-k.sums.count c.loop-at.invariant.unread c.put_reading.ensures k c.loop-at-test.true j refl) in
    let t = several_tried c.in-Several.is tried in
    record { tells = gather_several g (rw c.in-Several.is at t.says); set = t.set }

pub returns-in_default-found : goal.returns-in_default-found
returns-in_default-found c m set places =
    let to = leg_to m c.args.reference.bytes.now c.args.places.now _ c.leg_at-leg.ensures c.loop-k-test.true places in
    let g = leg_next m c.args.reference.bytes.now c.args.places.now _ c.leg_at-leg.ensures c.loop-k-test.true (c.loop-k.invariant m set places) in
    let k = c.loop-at.invariant.tried m g.set to in
    let j = walk_end k (omega arith) in
    let none = neither c.loop-at.found c.in_default-found.not-One c.loop-at.invariant.one in
    record { tells = gather_unread g (rw none at j.says); set = j.set }

pub returns-after-loop-k : goal.returns-after-loop-k
returns-after-loop-k c m set places =
    let g = c.loop-k.invariant m set places in
    record { tells = gather_end (rw (legs_end c.args.reference.bytes.now c.args.places.now c.args.reference.points c.loop-k.k (omega arith)) at g); set = g.set }
