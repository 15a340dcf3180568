-- By the first bytes of the length.
use Rattle.std.proofs.Common.{arith, ◌≤◌, sym, ◌∙◌, ap, ap₂, subst, ℕ, ◌+◌, ◌*◌, ◌-◌, get_or, drop, ⊎_elim}
use lib.ListN.{drop_of_length-le}
use borrow.Author.Tests.{false-ltb}
use Rattle.model.specs.Message.{Next, of_length, next}
use Rattle.buffers.proofs.Got.{byte_read}
use Rattle.message_laws.proofs.Nexts.{next_none}
use Rattle.message_laws.proofs.Shapes.{one_byte_next, cut_length, padded_length, two_byte_next, longer_length}
use Rattle.message_list.specs.Entry.{EntryIs}
use Rattle.message_list.proofs.entry_at.Goals as goal

pub returns-in_err-get : goal.returns-in_err-get
returns-in_err-get c =
    rw c.from_residual.ensures (ap next (drop_of_length-le c.args.message.now (false-ltb _ _ c.in_err-get.ensures.lookup.0)) ∙ next_none)

pub returns-then-first-lt-GROUP : goal.returns-then-first-lt-GROUP
returns-then-first-lt-GROUP c =
    let message = c.args.message.now in
    let at = c.args.at in
    let first = byte_read message at _ c.from-first.result c.in_ok-get.ensures.lookup.0 c.in_ok-get.ensures.lookup.1 c.from-first.ensures in
    let is = one_byte_next message at first.0 (omega (arith, first)) in
    subst (λ (what : Next). EntryIs message what c.entry_of.result)
    (sym (is ∙ ap (λ (x : ℕ). of_length x (drop (at + 1) message)) first.1)) c.entry_of.ensures

pub returns-in_err-get-2 : goal.returns-in_err-get-2
returns-in_err-get-2 c =
    let message = c.args.message.now in
    let at = c.args.at in
    let first = byte_read message at _ c.from-first.result c.in_ok-get.ensures.lookup.0 c.in_ok-get.ensures.lookup.1 c.from-first.ensures in
    rw c.from_residual-in_err-get-2.ensures
    (cut_length message at first.0 (omega (arith, first)) (false-ltb _ _ c.in_err-get-2.ensures.lookup.0))

pub returns-then-second-eq-PADDING : goal.returns-then-second-eq-PADDING
returns-then-second-eq-PADDING c =
    let message = c.args.message.now in
    let at = c.args.at in
    let first = byte_read message at _ c.from-first.result c.in_ok-get.ensures.lookup.0 c.in_ok-get.ensures.lookup.1 c.from-first.ensures in
    let second = byte_read message (at + 1) _ c.from-second.result c.in_ok-get-2.ensures.lookup.0 c.in_ok-get-2.ensures.lookup.1 c.from-second.ensures in
    let follows : 128 ≤ get_or message at 0 = omega (arith, first) in
    ⊎_elim
    (λ w. padded_length message at first.0 follows second.0 (second.1 ∙ w))
    (λ w. longer_length message at first.0 follows second.0 (omega (arith, second, w.1)))
    c.then-second-eq-PADDING.either

pub returns : goal.returns
returns c =
    let message = c.args.message.now in
    let at = c.args.at in
    let first = byte_read message at _ c.from-first.result c.in_ok-get.ensures.lookup.0 c.in_ok-get.ensures.lookup.1 c.from-first.ensures in
    let second = byte_read message (at + 1) _ c.from-second.result c.in_ok-get-2.ensures.lookup.0 c.in_ok-get-2.ensures.lookup.1 c.from-second.ensures in
    let is =
    two_byte_next message at first.0 (omega (arith, first)) second.0 (omega (arith, first, c.type_inv.message at)) (λ z. omega (arith, second))
    (omega (arith, second)) in
    subst (λ (what : Next). EntryIs message what c.entry_of-2.result)
    (sym (is ∙ ap₂ (λ (x y : ℕ). of_length (x - 128 + y * 128) (drop (at + 2) message)) first.1 second.1)) c.entry_of-2.ensures
