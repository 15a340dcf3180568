-- The span where there is no byte.
use Rattle.model.specs.Span.{unflagged}
use Rattle.reader.proofs.ending.span.Goals as goal

pub returns-in-None : goal.returns-in-None
returns-in-None c = rw c.in-None.is unflagged
