-- A longer message is cut.
use Rattle.std.proofs.Common.{arith, sym, ◌∙◌}
use lib.Seq.{length-take-le}
use Rattle.message_laws.proofs.Parts.{cut_start, cut_end}
use Rattle.message_list.proofs.place.Goals as goal

pub slice_bounds-place_in-end : goal.slice_bounds-place_in-end
slice_bounds-place_in-end c = sym (length-take-le 16_384 c.args.message.now (omega arith))

pub place_in-requires : goal.place_in-requires
place_in-requires c = omega (arith, length-take-le 16_384 c.args.message.now (omega arith))

pub returns-then-message-gt-LONGEST_MESSAGE : goal.returns-then-message-gt-LONGEST_MESSAGE
returns-then-message-gt-LONGEST_MESSAGE c = (c.place_in.ensures.0 ∙ cut_start _ _, c.place_in.ensures.1 ∙ cut_end _ _)
