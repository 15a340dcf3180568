-- A front that cannot be read stops the list at the first byte.
use Rattle.std.proofs.Common.{◌∙◌}
use Rattle.message_laws.proofs.Parts.{asked_unread}
use Rattle.message_list.proofs.place_in.Goals as goal

pub returns-in-None : goal.returns-in-None
returns-in-None c = let s = asked_unread _ _ c.requires c.in-None.ensures in (c.empty.ensures.0 ∙ s.0, c.empty.ensures.1 ∙ s.1)
