-- The number, and behind it the point or leg, by the variant.
use Rattle.std.proofs.Common.{◌∙◌, ap}
use Rattle.model.specs.Refusal.{refusal_of}
use Rattle.model.specs.Text.{numbered, refused_word}
use Rattle.answer_text.proofs.Putting.{put_both, put_same}
use Rattle.answer_text.proofs.Refusals.{with_place, without_place_lem}
use Rattle.answer_text.proofs.put_refusal.Goals as goal

pub returns-in-NoNode : goal.returns-in-NoNode
unfolding refusal_of
returns-in-NoNode c =
    put_same (with_place c.number_of.ensures (ap refusal_of c.in-NoNode.is)) (put_both c.put_number-end.ensures c.put_number.ensures)

pub returns-in-NoReading : goal.returns-in-NoReading
unfolding refusal_of
returns-in-NoReading c =
    put_same (with_place c.number_of.ensures (ap refusal_of c.in-NoReading.is)) (put_both c.put_number-end.ensures c.put_number-in-NoReading.ensures)

pub returns-in-SeveralReadings : goal.returns-in-SeveralReadings
unfolding refusal_of
returns-in-SeveralReadings c =
    put_same (with_place c.number_of.ensures (ap refusal_of c.in-SeveralReadings.is)) (put_both c.put_number-end.ensures c.put_number-in-SeveralReadings.ensures)

pub returns-in_default : goal.returns-in_default
returns-in_default c =
    let others = c.in_default in
    put_same
    (ap (numbered refused_word) c.number_of.ensures
    ∙ without_place_lem c.args.why others.not-NoNode others.not-NoReading others.not-SeveralReadings)
    c.put_number-end.ensures
