-- The second offset byte is inside, since the bytes have one for each flag.
use Rattle.std.proofs.Common.{◌∙◌}
use borrow.Author.Tests.{eqb-true}
use Rattle.model.specs.Reference.{flags, negative, reference_at}
use Rattle.references.proofs.Form.{second_inside}
use Rattle.references.proofs.reference.Reference.negative_offset.Goals as goal

pub offset_at-requires : goal.offset_at-requires
unfolding flags
offset_at-requires c = λ flagged. second_inside _ _ _ _ (rw (← c.byte_r-r.ensures.0) at c.args.self.sound.sized) (eqb-true _ _ flagged)

pub returns : goal.returns
unfolding negative reference_at
returns c = c.offset_at.ensures ∙ rw c.byte_r-r.ensures.0
