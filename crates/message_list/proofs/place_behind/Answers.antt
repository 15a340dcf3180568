-- A reference more is passed, or the list stops; and what stands behind those that are passed.
use Rattle.std.proofs.Common.{arith, ◌≡◌, ◌+◌, ◌-◌, ◌<◌, ap, ◌∙◌, ℕ, List, length, drop, length-drop, Option, Some, None}
use Rattle.std.specs.Option.{unwrap_or}
use Rattle.model.specs.Message.{next, start_of_number, end_of_number}
use Rattle.message_list.specs.declared.Part.{Part}
use Rattle.message_list.specs.Entry.{EntryIs}
use Rattle.message_laws.proofs.Nexts.{next_shorter}
use Rattle.message_laws.proofs.Parts.{Asked, asked_start, asked_stop, asked_here, asked_later}
use Rattle.message_list.proofs.place_behind.Goals as goal

-- The list stops there.
stopped : {n : ℕ} {message : List ℕ} {at left : ℕ} → Asked n message at left → EntryIs message (next (drop at message)) None →
    (e : Part) → (e.start ≡ at) × (e.end ≡ at) → (e.start ≡ start_of_number n message) × (e.end ≡ end_of_number n message)
stopped a h e is = let s = asked_stop a h in (is.0 ∙ s.0, is.1 ∙ s.1)

-- No more is to pass, if a byte is left at all: it is what stands there, or the list stops.
last : {n : ℕ} {message : List ℕ} {at left : ℕ} → Asked n message at left → (at < length message → left ≡ 0) →
    (r : Option Part) → EntryIs message (next (drop at message)) r →
    (e : Part) → (e.start ≡ at) × (e.end ≡ at) → (p : Part) → p ≡ unwrap_or r e → (p.start ≡ start_of_number n message) × (p.end ≡ end_of_number n message)
last {message = message} {at = at} a none (Some q) h e is p s =
    let left = none (omega (arith, next_shorter (drop at message) _ _ h.is, length-drop at message, length-drop q.end message)) in
    let w = asked_here a _ _ h.ordered h.inside h.is left in
    (ap (λ (x : Part). x.start) s ∙ w.0, ap (λ (x : Part). x.end) s ∙ w.1)
last a none None h e is p s = let w = stopped a h e is in (ap (λ (x : Part). x.start) s ∙ w.0, ap (λ (x : Part). x.end) s ∙ w.1)

pub loop-i-init : goal.loop-i-init
loop-i-init c =
    let p = c.requires in
    let all : c.args.n - 0 ≡ c.args.n = omega arith in
    rw all (asked_start _ _ p.by_index.0 p.by_index.1 _ p.message_len_bound.0 p.message_len_bound.1 p.by_index.2, omega arith)

pub returns-in_default : goal.returns-in_default
returns-in_default c = stopped c.loop-i.invariant.0 c.in_default.ensures c.empty.result c.empty.ensures

pub loop-i-preserved : goal.loop-i-preserved
loop-i-preserved c =
    let s = c.in-Some.ensures in
    let one : c.args.n - (c.loop-i.i + 1) ≡ c.args.n - c.loop-i.i - 1 = omega arith in
    let later = asked_later c.loop-i.invariant.0 _ _ s.ordered s.inside s.is (omega arith) in
    rw one (later.1, omega (arith, later.0, c.loop-i.invariant.1))

pub returns : goal.returns
returns c =
    last c.loop-i.invariant.0 (λ h. omega (arith, h, c.loop-i.invariant.1))
    c.entry_at-2.result c.entry_at-2.ensures c.empty-2.result c.empty-2.ensures c.unwrap_or.result c.unwrap_or.ensures
