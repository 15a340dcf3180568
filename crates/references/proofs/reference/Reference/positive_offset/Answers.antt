-- The first offset byte is inside, since the bytes have one for each flag.
use Rattle.std.proofs.Common.{◌∙◌}
use borrow.Author.Tests.{eqb-true}
use Rattle.model.specs.Reference.{flags, positive, reference_at}
use Rattle.references.proofs.Form.{first_inside}
use Rattle.references.proofs.reference.Reference.positive_offset.Goals as goal

pub offset_at-requires : goal.offset_at-requires
unfolding flags
offset_at-requires c = λ flagged. first_inside _ _ _ _ (rw (← c.byte_r-r.ensures.0) at c.args.self.sound.sized) (eqb-true _ _ flagged)

pub returns : goal.returns
unfolding positive reference_at
returns c = c.offset_at.ensures ∙ rw c.byte_r-r.ensures.0
