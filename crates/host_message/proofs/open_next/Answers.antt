-- The answer of the message that the host means.
use Rattle.std.proofs.Common.{◌∙◌, sym, ap, subst}
use Rattle.model.specs.MessageCall.{opening}
use Rattle.model.specs.HostMessage.{host_message}
use Rattle.host_message.specs.Held.{NarrowAnswer}
use Rattle.host_message.proofs.Narrow.{narrow_opening}
use Rattle.host_message.proofs.open_next.Goals as goal

pub told-requires : goal.told-requires
told-requires c = subst NarrowAnswer (sym c.open_reference.ensures) (narrow_opening _ c.from.ensures.1)

pub returns : goal.returns
returns c = c.told.ensures ∙ ap (host_message _) (c.open_reference.ensures ∙ ap opening c.from.ensures.0)
