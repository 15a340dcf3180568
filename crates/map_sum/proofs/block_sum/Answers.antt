-- A byte more, and the whole block.
use Rattle.std.proofs.Common.{arith, ◌≡◌, ◌+◌, ◌<◌, drop, length, List, ℕ, ℤ, subst}
use borrow.Author.Rules.{rules}
use Rattle.map_sum.proofs.Partials.{Partial, partial_none, partial_again, partial_all}
use Rattle.map_sum.proofs.block_sum.Goals as goal

whole : (bs : List ℕ) (ws vs : List ℤ) (i : ℕ) (z : ℤ) → ws ≡ vs → i ≡ 64 → Partial bs ws i z → Partial bs vs 64 z
whole bs ws vs i z e h p = subst (λ (us : List ℤ). Partial bs us 64 z) e (subst (λ (n : ℕ). Partial bs ws n z) h p)

pub loop-i-init : goal.loop-i-init
loop-i-init c = record { by_low = partial_none _ _; by_high = partial_none _ _ }

pub loop-i-preserved : goal.loop-i-preserved
loop-i-preserved c =
    let l = c.loop-i in
    let map = c.args.map.now in
    let low = c.weighed-low_sum in
    let high = c.weighed-high_sum in
    let inside : c.args.at + l.i < length map = omega (arith, c.requires.0) in
    record {
      by_low = partial_again map c.args.low.now c.args.at l.i inside _ low.result l.invariant.by_low c.loop-i-test.true (search rules) low.ensures.0 low.ensures.1;
      by_high = partial_again map c.args.high.now c.args.at l.i inside _ high.result l.invariant.by_high c.loop-i-test.true (search rules) high.ensures.0 high.ensures.1;
    }

pub returns : goal.returns
returns c =
    let l = c.loop-i in
    let bs = drop c.args.at c.args.map.now in
    let done : l.i ≡ 64 = omega arith in (
      partial_all bs _ _ c.joined.result
          (whole bs _ _ l.i _ c.requires.2 done l.invariant.by_high)
          (whole bs _ _ l.i _ c.requires.1 done l.invariant.by_low)
          c.joined.ensures.0,
      c.joined.ensures.1,
    )
