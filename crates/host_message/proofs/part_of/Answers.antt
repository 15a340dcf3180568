-- A place is in the first 16,384 bytes.
use Rattle.std.proofs.Common.{arith, ◌≡◌, ◌-◌, length}
use Rattle.model.specs.Message.{reference_number}
use Rattle.model.specs.HostMessage.{host_part}
use Rattle.message_laws.proofs.Parts.{placed_in}
use Rattle.host_message.specs.Held.{as_part}
use Rattle.host_message.proofs.part_of.Goals as goal

pub overflow_cast-result : goal.overflow_cast-result
overflow_cast-result c = omega (arith, placed_in c.args.n c.args.message.now, c.place-part.ensures)

pub overflow_sub-result : goal.overflow_sub-result
overflow_sub-result c = omega (arith, placed_in c.args.n c.args.message.now, c.place-part.ensures)

pub overflow_cast-result-2 : goal.overflow_cast-result-2
overflow_cast-result-2 c = omega (arith, placed_in c.args.n c.args.message.now, c.place-part.ensures)

pub returns : goal.returns
unfolding as_part host_part
returns c =
    let n = c.args.n in
    let message = c.args.message.now in
    let p = placed_in n message in
    let r = c.place-part in
    let count : r.result.end - r.result.start ≡ length (reference_number n message) = omega (arith, p.counted, r.ensures) in
    rw (count, r.ensures.0)
