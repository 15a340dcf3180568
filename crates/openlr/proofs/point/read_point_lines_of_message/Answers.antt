-- What the reader answers with the room that the host has, handed over.
use Rattle.std.proofs.Common.{ℕ, ◌≡◌, ◌/◌, min, length, subst, rules}
use Rattle.model.specs.Work.{work_length}
use Rattle.model.proofs.Answering.{answered_by}
use Rattle.model.specs.OfMessage.{PointReadsOfMessage}
use Rattle.openlr.proofs.HostCalls.{room_is, lent_is}
use Rattle.openlr.proofs.PointCalls.{can_hand, host_answered}
use Rattle.openlr.proofs.point.read_point_lines_of_message.Goals as goal

pub handed-requires : goal.handed-requires
handed-requires c =
    let a = c.args in
    let is : c.min-room.result ≡ min (length a.lines.now / 4) (length a.numbers.now) = search rules in
    let call = c.read_point_of_message_into-answer in
    can_hand a.numbers.now a.lines.now call.new.numbers c.min-room.result is c.requires call.auto.numbers call.ensures

pub returns : goal.returns
returns c =
    let a = c.args in
    let is : c.min-room.result ≡ min (length a.lines.now / 4) (length a.numbers.now) = search rules in
    let call = c.read_point_of_message_into-answer in
    record {
      answered =
          answered_by
          (λ o h.
          subst (λ (n : ℕ). PointReadsOfMessage a.map.now a.message.now a.reference.now work_length n o) (room_is a.numbers.now a.lines.now c.min-room.result is c.requires) h)
          (host_answered call.ensures
          (lent_is a.numbers.now a.lines.now call.new.numbers c.min-room.result is c.requires call.auto.numbers)
          c.handed.ensures);
    }
