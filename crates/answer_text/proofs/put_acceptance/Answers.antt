-- Five words and numbers, one behind another.
use Rattle.model.specs.Text.{acceptance}
use Rattle.answer_text.proofs.Putting.{put_both}
use Rattle.answer_text.proofs.put_acceptance.Goals as goal

pub returns : goal.returns
unfolding acceptance
returns c =
    let spans = put_both (put_both c.put_number-lines.ensures c.put_number-least.ensures) c.put_number-greatest.ensures in
    put_both (put_both spans c.put_number-other.ensures) c.put_number.ensures
