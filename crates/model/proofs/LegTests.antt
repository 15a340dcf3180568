-- Leg tests "in order of the leg's start, then its end; it makes that many, or one for each leg if that is fewer" (W7): turns go in that order, and what a
-- number of tests leaves of the choices of points. More tests make more legs tested good, and leave fewer that are good or untested.
use Prim.Native.Nat.{ℕ, zero, suc, ◌+◌, ◌-◌, ◌≤◌, ◌<◌}
use mathlib.Core.Path.{◌≡◌, refl, ap}
use mathlib.Core.Bool.{Bool}
use mathlib.Core.List.{List, [], ◌∷◌}
use native.Mathlib.Decide.{dec_lt}
use native.Mathlib.Omega.{arith}
use lib.ListN.{length, length-append}
use Rattle.model.specs.Map.{Map}
use Rattle.model.specs.Reading.{joined}
use Rattle.model.specs.Choice.{LegTest, good, Usable, final, before, Choice}
use Rattle.model.specs.LegTests.{legs_before, turn, leg_count, tests_made, GoodOrUntested, tested_good, good_or_untested}
use Rattle.model.proofs.Joining.{connected, filled, Inside, same_inside, first_inside, rest_inside}

-- ---- the order of the tests

legs_before_lem : (n at d : ℕ) → legs_before n at ≤ legs_before n (at + d)
unfolding legs_before
legs_before_lem n at zero = let same : at + 0 ≡ at = omega arith in rw same (omega arith)
legs_before_lem n at (suc d) = let same : at + suc d ≡ suc (at + d) = omega arith in rw same (omega (arith, legs_before_lem n at d))

-- A leg's turn comes before the legs that start later, whatever their ends.
pub turn_by_start : (n at at' len len' : ℕ) → at < at' → at + len ≤ n → 0 < len' → turn n at len < turn n at' len'
unfolding turn legs_before
turn_by_start n at at' len len' h inside some =
    let gap : suc at + (at' - suc at) ≡ at' = omega arith in
    let more : legs_before n (suc at) ≤ legs_before n at' = rw gap at (legs_before_lem n (suc at) (at' - suc at)) in
    omega (arith, more)

-- Of two legs with one start, before the one that ends later.
pub turn_by_end : (n at len len' : ℕ) → len < len' → turn n at len < turn n at len'
unfolding turn
turn_by_end n at len len' h = omega arith

-- Turns go from 1 to the count of legs.
pub turn_first : (n at len : ℕ) → 0 < len → 1 ≤ turn n at len
unfolding turn
turn_first n at len some = omega arith

pub turn_last : (n at len : ℕ) → 0 < len → at + len ≤ n → turn n at len ≤ leg_count n
unfolding turn leg_count legs_before
turn_last n at len some inside =
    let gap : suc at + (n - suc at) ≡ n = omega arith in
    let more : legs_before n (suc at) ≤ legs_before n n = rw gap at (legs_before_lem n (suc at) (n - suc at)) in
    omega (arith, more)

-- A leg of `n` lines whose turn it is.
pub record TurnOf (n t : ℕ) : Type 0 where
  pub at : ℕ
  pub len : ℕ
  pub some : 0 < len
  pub inside : at + len ≤ n
  pub is : turn n at len ≡ t

-- Every number from 1 to the count of legs is a leg's turn.
turn_below : (n t at : ℕ) → at ≤ n → 1 ≤ t → t ≤ legs_before n at → TurnOf n t
unfolding legs_before turn
turn_below n t zero h some few = absurd (omega arith)
turn_below n t (suc at) h some few = go (dec_lt (legs_before n at) t) (turn_below n t at (omega arith) some)
  where
    go : Dec (legs_before n at < t) → (t ≤ legs_before n at → TurnOf n t) → TurnOf n t
    go (yes past) earlier = record { at = at; len = t - legs_before n at; some = omega arith; inside = omega arith; is = omega arith }
    go (no not_past) earlier = earlier (omega (arith, not_past))

pub turn_each : (n t : ℕ) → 1 ≤ t → t ≤ leg_count n → TurnOf n t
unfolding leg_count
turn_each n t some few = turn_below n t n (omega arith) some few

-- ---- how many tests are made

pub tests_more : (n tests more : ℕ) → tests ≤ more → tests_made n tests ≤ tests_made n more
unfolding tests_made
tests_more n tests more h = omega arith

-- No more than were allowed.
pub tests_within : (n tests : ℕ) → tests_made n tests ≤ tests
unfolding tests_made
tests_within n tests = omega arith

-- With tests for all legs, so many.
pub tests_all : (n tests : ℕ) → leg_count n ≤ tests → tests_made n tests ≡ leg_count n
unfolding tests_made
tests_all n tests h = omega arith

-- More lines have more legs.
more_lines : (n d at : ℕ) → legs_before n at ≤ legs_before (n + d) at
unfolding legs_before
more_lines n d zero = omega arith
more_lines n d (suc at) = omega (arith, more_lines n d at)

pub count_more : (n k : ℕ) → n ≤ k → leg_count n ≤ leg_count k
unfolding leg_count
count_more n k h =
    let gap : n + (k - n) ≡ k = omega arith in
    let wider : legs_before n n ≤ legs_before k n = rw gap at (more_lines n (k - n) n) in
    let longer : legs_before k n ≤ legs_before k k = rw gap at (legs_before_lem k n (k - n)) in
    omega (arith, wider, longer)

-- The most legs that a stretch has.
pub most_legs : leg_count 64 ≡ 2_080
unfolding leg_count legs_before
most_legs = refl

-- ---- choices by one test are choices by another

-- What the one test passes, of legs that these lines may have, the other passes.
abbrev Gives : LegTest → LegTest → List ℕ → Type 0
Gives test test' lines = (at : ℕ) (last : Bool) (ls : List ℕ) → at + length ls ≤ length lines → Inside ls lines → test at last ls → test' at last ls

module _ {test test' : LegTest} {lines : List ℕ} (gives : Gives test test' lines) where
  usable_as : {at : ℕ} {lss : List (List ℕ)} → at + length (joined lss) ≤ length lines → Inside (joined lss) lines → Usable test at lss → Usable test' at lss
  unfolding joined
  usable_as within inside (final {ls = ls} t) = final (gives _ _ _ (omega (arith, length-append ls [])) (first_inside ls [] inside) t)
  usable_as within inside (before {ls = ls} {ks = ks} {lss = lss} t u) =
      let sum = length-append ls (joined (ks ∷ lss)) in
      before (gives _ _ _ (omega (arith, sum)) (first_inside ls (ks ∷ lss) inside) t) (usable_as (omega (arith, sum)) (rest_inside ls (ks ∷ lss) inside) u)

  pub choice_as : {legs : List (List ℕ)} → Choice test lines legs → Choice test' lines legs
  choice_as c = record { usable = usable_as (omega (arith, ap length c.whole)) (same_inside c.whole) c.usable; whole = c.whole }

-- No empty list of lines passes a test.
abbrev pub Filled : LegTest → Type 0
Filled test = (at : ℕ) (last : Bool) (ls : List ℕ) → test at last ls → 0 < length ls

pub good_filled : (m : Map) → Filled (good m)
good_filled m at last ls g = filled (connected g)

module _ {test : LegTest} (some : Filled test) (lines : List ℕ) (made : ℕ) where
  pub tested_filled : Filled (tested_good test lines made)
  tested_filled at last ls t = some at last ls t.good

  pub untested_filled : Filled (good_or_untested test lines made)
  untested_filled at last ls (GoodOrUntested.good t) = some at last ls t
  untested_filled at last ls (GoodOrUntested.untested h late) = h

module _ {test : LegTest} {lines : List ℕ} {legs : List (List ℕ)} where
  -- What was tested good is good, and so good or untested.
  pub tested_good_lem : {made : ℕ} → Choice (tested_good test lines made) lines legs → Choice test lines legs
  tested_good_lem c = choice_as (λ at last ls within inside t. t.good) c

  pub good_as_untested : {made : ℕ} → Choice test lines legs → Choice (good_or_untested test lines made) lines legs
  good_as_untested c = choice_as (λ at last ls within inside t. GoodOrUntested.good t) c

  -- With more tests.
  pub tested_more : {made more : ℕ} → made ≤ more → Choice (tested_good test lines made) lines legs → Choice (tested_good test lines more) lines legs
  tested_more h c = choice_as (λ at last ls within inside t. record { tested = omega (arith, t.tested); good = t.good }) c

  pub untested_fewer : {made more : ℕ} → made ≤ more → Choice (good_or_untested test lines more) lines legs → Choice (good_or_untested test lines made) lines legs
  untested_fewer {made} {more} h c = choice_as fewer c
    where
      fewer : Gives (good_or_untested test lines more) (good_or_untested test lines made) lines
      fewer at last ls within inside (GoodOrUntested.good t) = GoodOrUntested.good t
      fewer at last ls within inside (GoodOrUntested.untested some late) = GoodOrUntested.untested some (omega arith)

  -- With tests for all legs.
  pub all_tested : Filled test → Choice test lines legs → Choice (tested_good test lines (leg_count (length lines))) lines legs
  all_tested some c = choice_as (λ at last ls within inside t. record { tested = turn_last _ at _ (some at last ls t) within; good = t }) c

  pub all_untested : Choice (good_or_untested test lines (leg_count (length lines))) lines legs → Choice test lines legs
  all_untested c = choice_as each c
    where
      each : Gives (good_or_untested test lines (leg_count (length lines))) test lines
      each at last ls within inside (GoodOrUntested.good t) = t
      each at last ls within inside (GoodOrUntested.untested some late) = absurd (omega (arith, turn_last (length lines) at (length ls) some within))
