-- An open reference with bytes is closed where it fits.
use Rattle.std.proofs.Common.{arith, ◌≡◌, sym, ◌∙◌, ap, ℕ, ◌+◌, true, false}
use borrow.Author.Tests.{eq-eqb, ne_eqb}
use Rattle.model.specs.MessageCall.{fits, closing}
use Rattle.message_laws.proofs.Fitting.{behind_finished, fit_of}
use Rattle.message.proofs.close_reference.Goals as goal

pub returns-in_default : goal.returns-in_default
unfolding closing
returns-in_default c = simp c.in_default.is

pub returns-then-added-eq0 : goal.returns-then-added-eq0
unfolding closing
returns-then-added-eq0 c = simp (c.in-Open.is, eq-eqb _ _ c.if-added-eq0.true)

pub returns-then-not-fitting : goal.returns-then-not-fitting
unfolding closing
returns-then-not-fitting c =
    let same : 0 + c.in-Open.added ≡ c.in-Open.added = omega arith in
    let e : fits c.in-Open.finished c.in-Open.added 16_384 ≡ false =
    ap (λ (n : ℕ). fits c.in-Open.finished n 16_384) (sym same) ∙ sym c.fitting.ensures ∙ c.if-not-fitting.true in
    simp (c.in-Open.is, ne_eqb _ _ c.if-added-eq0.false, e)

pub end_of-requires : goal.end_of-requires
end_of-requires c =
    let f = fit_of c.in-Open.finished (0 + c.in-Open.added) 16_384 (sym c.fitting.ensures ∙ c.if-not-fitting.false) in
    omega (arith, f.short, f.in_most, behind_finished c.in-Open.finished (0 + c.in-Open.added))

pub returns : goal.returns
unfolding closing
returns c =
    let same : 0 + c.in-Open.added ≡ c.in-Open.added = omega arith in
    let e : fits c.in-Open.finished c.in-Open.added 16_384 ≡ true =
    ap (λ (n : ℕ). fits c.in-Open.finished n 16_384) (sym same) ∙ sym c.fitting.ensures ∙ c.if-not-fitting.false in
    simp (c.in-Open.is, ne_eqb _ _ c.if-added-eq0.false, e, c.end_of.ensures)
