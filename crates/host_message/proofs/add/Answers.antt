-- The answer and the buffer of the message that the host means.
use Rattle.std.proofs.Common.{◌∙◌, sym, ap, subst, length}
use Rattle.model.specs.declared.Message.{Message}
use Rattle.model.specs.MessageCall.{adding, buffer_added}
use Rattle.model.specs.HostMessage.{host_message}
use Rattle.host_message.specs.Held.{NarrowAnswer}
use Rattle.host_message.proofs.Narrow.{narrow_adding}
use Rattle.host_message.proofs.add.Goals as goal

pub told-requires : goal.told-requires
told-requires c = subst NarrowAnswer (sym c.add_bytes.ensures.answers) (narrow_adding _ _ _ c.from.ensures.1)

pub returns : goal.returns
returns c =
    let a = c.add_bytes.ensures in
    let m = c.from.ensures.0 in
    let buffer = c.args.buffer.now in
    let portion = c.args.portion.now in
    record {
      answers = c.told.ensures ∙ ap (host_message _) (a.answers ∙ ap (λ (m : Message). adding m (length buffer) portion) m);
      buffer_after = a.buffer_after ∙ ap (λ (m : Message). buffer_added m buffer portion) m;
    }
