-- A digit more, and the first one.
use Rattle.std.proofs.Common.{arith, ◌≡◌, ◌≤◌, ◌<◌, List, ◌∙◌, ap, ℕ, ◌++◌, ◌-◌, suc, length, drop}
use lib.ListN.{drop_of_length-le}
use Rattle.model.specs.Text.{digits, decimal}
use mathlib.Core.List.{append-nil}
use Rattle.answer_text.proofs.Digits.{digit_first, digit_more}
use Rattle.answer_text.proofs.put_digits.Goals as goal

pub loop-i-init : goal.loop-i-init
unfolding decimal
loop-i-init c =
    let all : length c.args.digits.now ≤ 20 = omega (arith, c.requires) in
    ap (λ (l : List ℕ). digits 20 c.args.number ++ l) (drop_of_length-le c.args.digits.now all) ∙ append-nil (digits 20 c.args.number)

pub returns-then-rest-lt10 : goal.returns-then-rest-lt10
returns-then-rest-lt10 c =
    let l = c.loop-i in
    let inside : l.i - 1 < length l.digits = omega (arith, c.requires) in
    let same : suc (l.i - 1) ≡ l.i = omega arith in
    let first = digit_first (l.i - 1) l.rest l.digits inside c.if-rest-lt10.true in
    (omega arith, first ∙ ap (λ (k : ℕ). digits k l.rest ++ drop k l.digits) same ∙ l.invariant)

pub loop-i-preserved : goal.loop-i-preserved
loop-i-preserved c =
    let l = c.loop-i in
    let inside : l.i - 1 < length l.digits = omega (arith, c.requires) in
    let same : suc (l.i - 1) ≡ l.i = omega arith in
    let more = digit_more (l.i - 1) l.rest l.digits inside c.if-rest-lt10.false in
    more ∙ ap (λ (k : ℕ). digits k l.rest ++ drop k l.digits) same ∙ l.invariant

pub returns : goal.returns
unfolding digits
returns c =
    let l = c.loop-i in
    let none : 0 ≡ l.i = omega arith in
    (omega arith, ap (λ (k : ℕ). digits k l.rest ++ drop k l.digits) none ∙ l.invariant)
