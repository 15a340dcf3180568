-- `test_last_column` meets its contract: after the own last line, those that end at the node are tested one after another.
use Rattle.leg_tests.proofs.Walking.{Testing, testing_start, testing_on, testing_end, testing_sole, ends_there, column_again, column_after}
use Rattle.leg_tests.proofs.Sifting.{noted_kept}
use Rattle.leg_tests.proofs.Termini.{own_line}
use Rattle.leg_tests.specs.LegTests.{Own, Noted, SoleColumn, ColumnSifted}
use Rattle.stretches.specs.Attributes.{attributes_by}
use Rattle.fields.specs.Leg.{attributes_in}
use Rattle.search_cells.proofs.Holding.{mirrored}
use Rattle.search_cells.proofs.Leaving.{latest_le}
use Rattle.search_cells.specs.Area.{Set, latest}
use Rattle.way_lengths.specs.Ways.{line}
use Rattle.work_area.specs.Mirror.{mirror}
use Rattle.model.specs.Lines.{line_at, Connected, arriving}
use Rattle.model.specs.Map.{Map}
use lib.ListN.{length, get_or}
use mathlib.Core.Path.{◌≡◌, refl, ◌∙◌, ap}
use mathlib.Core.Bool.{true, false}
use Prim.Native.Nat.{ℕ, ◌-◌}
use native.Mathlib.Omega.{arith}
use borrow.Author.Rules.{rules}
use Rattle.leg_tests.proofs.test_last_column.Statement.{statement}
use Rattle.leg_tests.proofs.test_last_column.Tie as tie

abbrev invariant-loop : tie.invariant-loop-at
invariant-loop work₀ list table₀ j arrives v at₀ work table at =
    let lines = list.lines in
    let stretch = list.numbers.now in
    (length work ≡ length work₀) × (length table ≡ length table₀) ×
    ((m : Map) → Connected m stretch → ColumnSifted m lines stretch (length stretch) (line (get_or stretch (length stretch - 1) 0)) true table₀ table₀ work₀ work₀ →
    Noted m lines stretch table₀ → SoleColumn m stretch (length stretch) table₀ → Testing m lines stretch table₀ table work₀ work at)

abbrev decreases-loop : tie.decreases-loop-at
decreases-loop work₀ list table₀ j arrives v at₀ work table at = at

-- The own last line is the legs' own terminus, and they are tested by it.
own : (c : tie.After-wide invariant-loop decreases-loop) → let a = c.args in let s = a.stretch.numbers.now in
    (m : Map) → Set m a.stretch.lines a.work.now → Connected m s → Own m a.stretch.lines s (length s) (line c.wide.result)
own c m set joint =
    rw c.wide.ensures.0 (own_line set.held c.args.stretch.numbers.now c.args.stretch.known c.requires.0.0)

owned : (c : tie.After-test_column invariant-loop decreases-loop) →
    let a = c.args in
    let s = a.stretch.numbers.now in
    let o = c.test_column in
    (m : Map) → Set m a.stretch.lines a.work.now → Connected m s → Noted m a.stretch.lines s a.table.now → SoleColumn m s (length s) a.table.now →
    ColumnSifted m a.stretch.lines s (length s) (line (get_or s (length s - 1) 0)) true a.table.now o.new.table a.work.now o.new.work
owned c m set joint noted sole =
    rw c.wide.ensures.0 at (c.test_column.ensures m set joint (own c.before.before.before m set joint) noted sole)

same-attributes : (c : tie.After-attributes_of-arrives invariant-loop decreases-loop) →
    let a = c.args in
    let s = a.stretch.numbers.now in
    (m : Map) → Set m a.stretch.lines c.test_column.new.work → attributes_in c.attributes_of-arrives.result ≡ arriving m (get_or s (length s - 1) 0)
unfolding attributes_by arriving
same-attributes c m set = c.attributes_of-arrives.ensures m set.held

-- What is known at the loop.
module _ (c : tie.After-first_leaving-at invariant-loop decreases-loop) where
  again : let a = c.args in let s = a.stretch.numbers.now in let o = c.test_column in
      (m : Map) → Set m a.stretch.lines a.work.now → Connected m s → Noted m a.stretch.lines s a.table.now → SoleColumn m s (length s) a.table.now →
      ColumnSifted m a.stretch.lines s (length s) (line (get_or s (length s - 1) 0)) true o.new.table o.new.table o.new.work o.new.work
  again m set joint noted sole = column_again (owned c.before.before.before.before.before.before.before m set joint noted sole)

  noted_now : let a = c.args in let s = a.stretch.numbers.now in let o = c.test_column in
      (m : Map) → Set m a.stretch.lines a.work.now → Connected m s → Noted m a.stretch.lines s a.table.now → SoleColumn m s (length s) a.table.now →
      Noted m a.stretch.lines s o.new.table
  noted_now m set joint noted sole =
      noted_kept m c.args.stretch.lines c.args.stretch.numbers.now c.requires.0.0 (owned c.before.before.before.before.before.before.before m set joint noted sole).kept noted

  sole_now : let a = c.args in let s = a.stretch.numbers.now in let o = c.test_column in
      (m : Map) → Set m a.stretch.lines a.work.now → Connected m s → Noted m a.stretch.lines s a.table.now → SoleColumn m s (length s) a.table.now →
      SoleColumn m s (length s) o.new.table
  sole_now m set joint noted sole i h one = sole i h (((owned c.before.before.before.before.before.before.before m set joint noted sole).sifted i h).still one)

sub_wide : tie.Need-overflow_sub-j invariant-loop decreases-loop
sub_wide c = search rules

mul_wide : tie.Need-offset_bounds-stretch-j invariant-loop decreases-loop
mul_wide c = search rules

shared-slice-read-wide : tie.Need-bounds-stretch-j invariant-loop decreases-loop
shared-slice-read-wide c = search rules

wide-requires : tie.Need-wide-requires invariant-loop decreases-loop
wide-requires c κs = tt

test-column-requires : tie.Need-test_column-requires invariant-loop decreases-loop
test-column-requires c κs =
    let p = c.requires in
    let q = p.1 in
    ((p.0.0, omega arith, p.0.1, p.0.2), (q.0, q.1, q.2, own c.before.before q.0 q.1 q.2, q.3, q.4))

sub-attributes-of : tie.Need-overflow_sub-j-2 invariant-loop decreases-loop
sub-attributes-of c = search rules

attributes-of-requires : tie.Need-attributes_of-arrives-requires invariant-loop decreases-loop
attributes-of-requires c κs =
    let q = c.requires.1 in
    let set = (owned c.before.before.before.before q.0 q.1 q.2 q.3 q.4).worked.set in
    ((omega (arith, c.requires.0.0), omega arith), (q.0, set.held))

sub-node-of : tie.Need-overflow_sub-j-3 invariant-loop decreases-loop
sub-node-of c = search rules

node-of-requires : tie.Need-node_of-v-requires invariant-loop decreases-loop
node-of-requires c κs =
    let q = c.requires.1 in
    let set = (owned c.before.before.before.before.before q.0 q.1 q.2 q.3 q.4).worked.set in
    ((omega (arith, c.requires.0.0), omega arith), (q.0, set.held))

first-leaving-requires : tie.Need-first_leaving-at-requires invariant-loop decreases-loop
first-leaving-requires c κs =
    let q = c.requires.1 in
    let set = (owned c.before.before.before.before.before.before q.0 q.1 q.2 q.3 q.4).worked.set in
    (mirror q.0, mirrored set.held, set.chained, (c.node_of-v.ensures q.0 set.held).1)

loop-holds : tie.Need-loop-at-init invariant-loop decreases-loop
loop-holds c = (
  refl,
  refl,
  λ m joint o noted sole.
      let set = o.worked.set in
      let v = c.node_of-v.ensures m set.held in
      testing_start joint c.first_leaving-at.result
      (c.first_leaving-at.ensures (mirror m) (mirrored set.held) set.chained v.1 ∙ ap (λ (x : ℕ). latest (mirror m) x c.args.stretch.lines) v.0) o,
)

-- The legs after the test of the next last line.
column : (c : tie.After-test_candidate invariant-loop decreases-loop) →
    let at-loop = c.before.before.before.before in
    let at-first-leaving = at-loop.before in
    let a = c.args in
    let s = a.stretch.numbers.now in
    let l = c.loop-at in
    let b = c.test_column.new.table in
    let v = c.test_column.new.work in
    (m : Map) → Connected m s → ColumnSifted m a.stretch.lines s (length s) (line (get_or s (length s - 1) 0)) true b b v v → Noted m a.stretch.lines s b → SoleColumn m s (length s) b →
    ColumnSifted m a.stretch.lines s (length s) (line (l.at - 1)) false l.table c.test_candidate.new.table l.work c.test_candidate.new.work
column c m joint o noted sole =
    let at-loop-test = c.before.before.before in
    let at-loop = at-loop-test.before in
    let at-first-leaving = at-loop.before in
    let l = c.loop-at in
    let k = l.invariant.2 m joint o noted sole in
    c.test_candidate.ensures m k.worked.set joint (ends_there m (l.at - 1) (k.list.joined c.loop-at-test.true))
    (same-attributes c.before.before.before.before.before.before.before m o.worked.set)
    (noted_kept m c.args.stretch.lines c.args.stretch.numbers.now c.requires.0.0 k.kept noted) k.owned (testing_sole joint sole k)

sub-test-candidate : tie.Need-overflow_sub-at invariant-loop decreases-loop
sub-test-candidate c = search rules

test-candidate-requires : tie.Need-test_candidate-requires invariant-loop decreases-loop
test-candidate-requires c κs =
    let p = c.requires in
    let q = p.1 in
    let m = q.0 in
    let l = c.loop-at in
    let some = c.loop-at-test.true in
    let o = again c.before.before.before.before m q.1 q.2 q.3 q.4 in
    let noted = noted_now c.before.before.before.before m q.1 q.2 q.3 q.4 in
    let sole = sole_now c.before.before.before.before m q.1 q.2 q.3 q.4 in
    let k = l.invariant.2 m q.2 o noted sole in (
      (p.0.0, p.0.1, omega (arith, p.0.2, l.invariant.1, c.test_column.auto.table), omega (arith, some, k.list.within)),
      (
        m,
        k.worked.set,
        q.2,
        ends_there m (l.at - 1) (k.list.joined some),
        same-attributes c.before.before.before.before.before.before m o.worked.set,
        noted_kept m c.args.stretch.lines c.args.stretch.numbers.now p.0.0 k.kept noted,
        k.owned,
        testing_sole q.2 sole k,
      ),
    )

next-leaving-requires : tie.Need-next_leaving-at-requires invariant-loop decreases-loop
next-leaving-requires c κs =
    let q = c.requires.1 in
    let m = q.0 in
    let o = again c.before.before.before.before.before.before.before.before.before m q.1 q.2 q.3 q.4 in
    let noted = noted_now c.before.before.before.before.before.before.before.before.before m q.1 q.2 q.3 q.4 in
    let sole = sole_now c.before.before.before.before.before.before.before.before.before m q.1 q.2 q.3 q.4 in
    let k = c.loop-at.invariant.2 m q.2 o noted sole in
    let r = column c.before.before.before.before m q.2 o noted sole in
    ((c.loop-at-test.true, k.list.within), (mirror m, mirrored r.worked.set.held, r.worked.set.chained))

loop-less : tie.Need-loop-at-smaller invariant-loop decreases-loop
loop-less c =
    let q = c.requires.1 in
    let m = q.0 in
    let at = c.loop-at.at in
    let r = column c.before.before.before.before.before m q.2 (again c.before.before.before.before.before.before.before.before.before.before m q.1 q.2 q.3 q.4) (noted_now c.before.before.before.before.before.before.before.before.before.before m q.1 q.2 q.3 q.4)
    (sole_now c.before.before.before.before.before.before.before.before.before.before m q.1 q.2 q.3 q.4)
    in
    omega (
      arith,
      c.loop-at-test.true,
      c.next_leaving-at.ensures (mirror m) (mirrored r.worked.set.held) r.worked.set.chained,
      latest_le (mirror m) (line_at (mirror m) (at - 1)).start (at - 1),
    )

loop-again : tie.Need-loop-at-preserved invariant-loop decreases-loop
loop-again c = (
  c.test_candidate.auto.work ∙ c.loop-at.invariant.0,
  c.test_candidate.auto.table ∙ c.loop-at.invariant.1,
  λ m joint o noted sole.
      let r = column c.before.before.before.before.before m joint o noted sole in
      testing_on joint (c.loop-at.invariant.2 m joint o noted sole) c.loop-at-test.true
      (c.next_leaving-at.ensures (mirror m) (mirrored r.worked.set.held) r.worked.set.chained) r,
)

same_length : tie.Need-shape_of-work invariant-loop decreases-loop
same_length c = c.loop-at.invariant.0 ∙ c.test_column.auto.work

same-length-2 : tie.Need-shape_of-table invariant-loop decreases-loop
same-length-2 c = c.loop-at.invariant.1 ∙ c.test_column.auto.table

returns : tie.Need-returns invariant-loop decreases-loop
returns c m set joint noted sole =
    let o = again c.before.before m set joint noted sole in
    column_after (owned c.before.before.before.before.before.before.before.before.before m set joint noted sole)
    (testing_end joint (omega (arith, c.loop-at-test.false))
    (c.loop-at.invariant.2 m joint o (noted_now c.before.before m set joint noted sole) (sole_now c.before.before m set joint noted sole)))

pub test_last_column_spec : {M : Type 1} → statement M
test_last_column_spec =
    tie.close
    (tie.spec
    invariant-loop
    decreases-loop
    sub_wide
    mul_wide
    shared-slice-read-wide
    wide-requires
    test-column-requires
    sub-attributes-of
    attributes-of-requires
    sub-node-of
    node-of-requires
    first-leaving-requires
    loop-holds
    sub-test-candidate
    test-candidate-requires
    next-leaving-requires
    loop-less
    loop-again
    same_length
    same-length-2
    returns)
