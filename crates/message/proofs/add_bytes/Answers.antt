-- None is open, nothing is to be added, there is no room, or the rest of the buffer is lent to `extend`.
use Rattle.std.proofs.Common.{arith, ◌≡◌, sym, ◌∙◌, ap, ℕ, ◌+◌, ◌≤◌, List, ◌++◌, length, take, true}
use lib.ListN.{length-drop}
use Rattle.buffers.proofs.Lent.{tail_lent, tail_back}
use Rattle.model.specs.MessageCall.{fits, extended}
use Rattle.message_laws.proofs.Fitting.{behind_finished, end_is, Fit, fit_of}
use Rattle.message.proofs.Adding.{none_open, nothing_more, no_room, more}
use Rattle.message.proofs.add_bytes.Goals as goal

-- What fits is inside the buffer.
inside : (f n : ℕ) {room : ℕ} → fits f n room ≡ true → Fit f n room × (f ≤ room)
inside f n {room} e = let k = fit_of f n room e in (k, omega (arith, k.in_room, behind_finished f n))

pub returns-in_default : goal.returns-in_default
returns-in_default c = none_open c.in_default.is

pub returns-then-portion-eq0 : goal.returns-then-portion-eq0
returns-then-portion-eq0 c = nothing_more _ _ c.in-Open.is c.if-portion-eq0.true

pub returns-then-not-fitting : goal.returns-then-not-fitting
returns-then-not-fitting c = no_room _ _ c.in-Open.is c.if-portion-eq0.false (sym c.fitting.ensures ∙ c.if-not-fitting.true)

pub slice_bounds-extend-count : goal.slice_bounds-extend-count
slice_bounds-extend-count c = (inside c.in-Open.finished _ (sym c.fitting.ensures ∙ c.if-not-fitting.false)).1

pub slice_bounds-extend-start : goal.slice_bounds-extend-start
slice_bounds-extend-start c = omega (arith, (inside c.in-Open.finished _ (sym c.fitting.ensures ∙ c.if-not-fitting.false)).1)

pub extend-requires : goal.extend-requires
extend-requires c =
    let f = c.in-Open.finished in
    let n = c.in-Open.added + length c.args.portion.now in
    let k = inside f n (sym c.fitting.ensures ∙ c.if-not-fitting.false) in
    let b = c.args.buffer.now in
    omega (arith, k.0.short, k.0.in_room, behind_finished f n, end_is f n, ap length (tail_lent f b), length-drop f b)

pub overflow_add-result : goal.overflow_add-result
overflow_add-result c =
    omega (arith, (inside c.in-Open.finished (c.in-Open.added + length c.args.portion.now) (sym c.fitting.ensures ∙ c.if-not-fitting.false)).0.short)

pub returns : goal.returns
returns c =
    let a = c.args in
    let f = c.in-Open.finished in
    let buffer = a.buffer.now in
    let lent = c.extend in
    more buffer a.portion.now c.in-Open.is c.if-portion-eq0.false (sym c.fitting.ensures ∙ c.if-not-fitting.false)
    (tail_back f buffer lent.new.part
    ∙ ap (λ (l : List ℕ). take f buffer ++ l)
    (lent.ensures ∙ ap (λ (l : List ℕ). extended c.in-Open.added l a.portion.now) (tail_lent f buffer)))
