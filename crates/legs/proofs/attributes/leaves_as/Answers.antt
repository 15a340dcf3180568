-- The numbers in the work area are the line's.
use Rattle.legs.proofs.Lines.{leaving_at}
use Rattle.legs.proofs.attributes.leaves_as.Goals as goal

pub returns : goal.returns
returns c m h = rw (leaving_at h _ c.requires.l_lt_lines) c.has_attributes.ensures
