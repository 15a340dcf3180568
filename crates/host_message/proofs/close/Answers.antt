-- The answer of the message that the host means.
use Rattle.std.proofs.Common.{◌∙◌, sym, ap, subst}
use Rattle.model.specs.MessageCall.{closing}
use Rattle.model.specs.HostMessage.{host_message}
use Rattle.host_message.specs.Held.{NarrowAnswer}
use Rattle.host_message.proofs.Narrow.{narrow_closing}
use Rattle.host_message.proofs.close.Goals as goal

pub told-requires : goal.told-requires
told-requires c = subst NarrowAnswer (sym c.close_reference.ensures) (narrow_closing _ c.from.ensures.1)

pub returns : goal.returns
returns c = c.told.ensures ∙ ap (host_message _) (c.close_reference.ensures ∙ ap closing c.from.ensures.0)
