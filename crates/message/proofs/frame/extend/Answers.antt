-- Room is made, and then come the portion and the length.
use Rattle.std.proofs.Common.{arith, sym, ◌∙◌, ap, ℕ, ◌+◌, take, drop}
use Rattle.message.proofs.Rooms.{put_together}
use Rattle.message.proofs.frame.extend.Goals as goal

pub returns : goal.returns
returns c =
    let a = c.args in
    let r = c.make_room in
    let w = c.length_bytes in
    let o = c.copy in
    c.put_length.ensures
    ∙ put_together a.added a.portion.now a.part.now r.new.part o.new.into w.result w.ensures.0 (omega (arith, w.ensures.0)) r.auto.part
    (ap (λ (n : ℕ). take a.added (drop n r.new.part)) w.ensures.0 ∙ r.ensures.0)
    (ap (λ (n : ℕ). drop (n + a.added) r.new.part) w.ensures.0 ∙ r.ensures.1
    ∙ sym (ap (λ (n : ℕ). drop (n + a.added) a.part.now) w.ensures.0))
    o.ensures
