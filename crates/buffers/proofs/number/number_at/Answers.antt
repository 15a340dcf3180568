-- A group more, and the last one, by the lemmas of proofs/Groups.antt.
use Rattle.std.proofs.Common.{arith, refl, sym, ap, ◌∙◌, ◌≡◌, ◌≤◌, ◌⊎◌, length, drop, List, ℕ, suc, ◌+◌, ◌-◌, ◌*◌, ◌<◌, ◌^◌, get_or, add-one, subst, Some, None, Result, Ok, Err}
use Rattle.std.proofs.Math.Nat.{mul-le-mul_right, pow-suc}
use borrow.Author.Tests.{false-ltb}
use Rattle.std.specs.Result.{OkIff, result_ok}
use Rattle.std.proofs.lemmas.Result.{OkIff-at_ok, OkIff-at_err}
use Rattle.std.proofs.lemmas.Option.{none-some, same_Some}
use Rattle.model.specs.Number.{Number, got, faulty, number, groups}
use Rattle.buffers.proofs.Got.{byte_read}
use Rattle.buffers.proofs.Groups.{none_left, more, padded, whole, large, weight_low}
use Rattle.buffers.proofs.number.number_at.Goals as goal

-- Five groups at most: after i of them, one more and 4 - i behind it.
turn : (i weight value : ℕ) (bs : List ℕ) {r : Number} → i < 5 → groups (5 - i) weight value bs ≡ r →
    groups (suc (4 - i)) weight value bs ≡ r
turn i weight value bs h e = let s : 5 - i ≡ suc (4 - i) = omega arith in rw s at e

-- Bounds on what a group adds: groups have seven bits, and a weight is at most 128 to the power of 4.
light : (i weight b : ℕ) → i < 5 → weight ≡ 128 ^ i → b ≤ 127 → (weight ≤ 268_435_456) × (b * weight ≤ 127 * weight)
light i weight b h e low = (omega (arith, weight_low i h), mul-le-mul_right weight low)

-- A sum that fits 32 bits or not, by what `try_from` answers.
some_fits : {E : Type 0} (r : Result ℕ E) (P : Type 0) (v x : ℕ) → OkIff r P v → Some x ≡ result_ok r → P × (x ≡ v)
some_fits {E} (Ok y) P v x h e = let d = OkIff-at_ok {E = E} (Ok y) P v y h refl in (d.0, same_Some _ _ e ∙ d.1)
some_fits {E} (Err y) P v x h e = absurd (none-some x (sym e))

none_fits : {E : Type 0} (r : Result ℕ E) (P : Type 0) (v : ℕ) → OkIff r P v → None ≡ result_ok r → P → ⊥
none_fits {E} (Ok y) P v h e = absurd (none-some y e)
none_fits {E} (Err y) P v h e = OkIff-at_err {T = ℕ} (Err y) P v y h refl

-- The lemmas on a group, for a byte that is known by a name.
module _ (bytes : List ℕ) (at weight value n b : ℕ) (here : at < length bytes) (is : get_or bytes at 0 ≡ b) where
  one_more : 128 ≤ b →
      groups (suc n) weight value (drop at bytes) ≡ groups n (weight * 128) (value + (b - 128) * weight) (drop (at + 1) bytes)
  one_more h = subst (λ x. 128 ≤ x → groups (suc n) weight value (drop at bytes) ≡ groups n (weight * 128) (value + (x - 128) * weight) (drop (at + 1) bytes)) is (more bytes at weight value n here) h

  module _ (low : b < 128) (kept : ((b ≡ 0) × (weight ≡ 1)) ⊎ (b ≡ 0 → ⊥)) where
    last_whole : value + b * weight < 2 ^ 32 → groups (suc n) weight value (drop at bytes) ≡ got (value + b * weight) (drop (at + 1) bytes)
    last_whole h = rw (← is) (whole bytes at weight value n here (rw is low) (rw is kept) (rw is h))

    last_large : (value + b * weight < 2 ^ 32 → ⊥) → groups (suc n) weight value (drop at bytes) ≡ faulty
    last_large h = large bytes at weight value n here (rw is low) (rw is kept) (rw is (omega (arith, h)))

pub loop-i-init : goal.loop-i-init
unfolding number
loop-i-init c = record { weight_is = refl; below = omega arith; to_come = refl }

pub returns-in_err-get : goal.returns-in_err-get
returns-in_err-get c =
    let l = c.loop-i in
    rw c.from_residual.ensures
    (sym (none_left _ _ _ _ _ (false-ltb _ _ c.in_err-get.ensures.lookup.0)) ∙ turn l.i _ _ _ c.loop-i-test.true l.invariant.to_come)

pub returns-then-weight-ne1 : goal.returns-then-weight-ne1
returns-then-weight-ne1 c =
    let l = c.loop-i in
    let b = byte_read c.args.map.now l.at _ c.from-b.result c.in_ok-get.ensures.lookup.0 c.in_ok-get.ensures.lookup.1 c.from-b.ensures in
    sym (padded _ _ _ _ _ b.0 (b.1 ∙ c.if-b-eq0.true) c.if-weight-ne1.true) ∙ turn l.i _ _ _ c.loop-i-test.true l.invariant.to_come

pub overflow_mul-b : goal.overflow_mul-b
overflow_mul-b c =
    omega (arith, light c.loop-i.i c.loop-i.weight c.from-b.result (omega arith) c.loop-i.invariant.weight_is (omega arith))

pub overflow_add-value : goal.overflow_add-value
overflow_add-value c =
    omega (arith, light c.loop-i.i c.loop-i.weight c.from-b.result (omega arith) c.loop-i.invariant.weight_is (omega arith))

pub returns-in_err-x : goal.returns-in_err-x
returns-in_err-x c =
    let l = c.loop-i in
    let b = byte_read c.args.map.now l.at _ c.from-b.result c.in_ok-get.ensures.lookup.0 c.in_ok-get.ensures.lookup.1 c.from-b.ensures in
    let large_sum = none_fits c.try_from.result _ _ c.try_from.ensures c.in_err-x.ensures.value in
    rw c.from_residual-in_err-x.ensures
    (sym (last_large _ _ _ _ _ _ b.0 b.1 c.if-b-lt-GROUP.true c.else-b-eq0.either large_sum) ∙ turn l.i _ _ _ c.loop-i-test.true l.invariant.to_come)

pub returns-then-b-lt-GROUP : goal.returns-then-b-lt-GROUP
returns-then-b-lt-GROUP c =
    let l = c.loop-i in
    let b = byte_read c.args.map.now l.at _ c.from-b.result c.in_ok-get.ensures.lookup.0 c.in_ok-get.ensures.lookup.1 c.from-b.ensures in
    let sum = some_fits c.try_from.result _ _ _ c.try_from.ensures c.in_ok-x.ensures.value in
    rw sum.1
    (sym (last_whole _ _ _ _ _ _ b.0 b.1 c.if-b-lt-GROUP.true c.else-b-eq0.either sum.0) ∙ turn l.i _ _ _ c.loop-i-test.true l.invariant.to_come)

pub overflow_mul-value : goal.overflow_mul-value
overflow_mul-value c =
    let l = c.loop-i in
    omega (arith, light l.i l.weight (c.from-b.result - 128) (omega arith) l.invariant.weight_is (omega arith))

pub overflow_add-value-in-loop-i : goal.overflow_add-value-in-loop-i
overflow_add-value-in-loop-i c =
    let l = c.loop-i in
    omega (arith, light l.i l.weight (c.from-b.result - 128) (omega arith) l.invariant.weight_is (omega arith))

pub overflow_mul-weight : goal.overflow_mul-weight
overflow_mul-weight c =
    let l = c.loop-i in
    omega (arith, light l.i l.weight (c.from-b.result - 128) (omega arith) l.invariant.weight_is (omega arith))

pub loop-i-preserved : goal.loop-i-preserved
loop-i-preserved c =
    let l = c.loop-i in
    let b = byte_read c.args.map.now l.at _ c.from-b.result c.in_ok-get.ensures.lookup.0 c.in_ok-get.ensures.lookup.1 c.from-b.ensures in
    let e : 5 - (l.i + 1) ≡ 4 - l.i = omega arith in
    record {
      weight_is = rw add-one (rw pow-suc (ap (λ x. x * 128) l.invariant.weight_is));
      below = omega (arith, light l.i l.weight (c.from-b.result - 128) (omega arith) l.invariant.weight_is (omega arith));
      to_come = rw e (sym (one_more _ _ _ _ _ _ b.0 b.1 c.if-b-lt-GROUP.false) ∙ turn l.i _ _ _ c.loop-i-test.true l.invariant.to_come);
    }

pub returns : goal.returns
unfolding groups
returns c = let e : 5 - c.loop-i.i ≡ 0 = omega arith in rw e at c.loop-i.invariant.to_come
