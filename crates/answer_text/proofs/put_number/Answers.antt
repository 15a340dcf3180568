-- The number behind the word.
use Rattle.model.specs.Text.{numbered}
use Rattle.answer_text.proofs.Putting.{put_both}
use Rattle.answer_text.proofs.put_number.Goals as goal

pub returns : goal.returns
unfolding numbered
returns c = put_both c.put-next.ensures c.put_decimal.ensures
