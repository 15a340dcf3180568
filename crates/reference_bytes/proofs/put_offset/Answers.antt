-- An offset of 0 has no byte.
use Rattle.std.proofs.Common.{◌∙◌, sym, ap, List, [], ◌∷◌, ℕ, arith}
use Rattle.buffers.specs.Placed.{put_at}
use Rattle.buffers.proofs.Placing.{put_none}
use Rattle.reference_bytes.proofs.Bytes.{no_part, one_part}
use Rattle.reference_bytes.proofs.put_offset.Goals as goal

pub returns-then-offset-eq0 : goal.returns-then-offset-eq0
returns-then-offset-eq0 c =
    let a = c.args in
    let e = no_part a.leg a.offset c.if-offset-eq0.true in
    (omega (arith, e.0), sym (ap (λ (l : List ℕ). put_at a.at l a.bytes.now) e.1 ∙ put_none a.at a.bytes.now))

pub put1-requires : goal.put1-requires
put1-requires c =
    let a = c.args in
    (c.offset_byte.ensures.1, omega (arith, c.requires.1, (one_part a.leg a.offset c.if-offset-eq0.false).0))

pub returns : goal.returns
returns c =
    let a = c.args in
    let e = one_part a.leg a.offset c.if-offset-eq0.false in
    (omega (arith, e.0), c.put1.ensures ∙ ap (λ (l : List ℕ). put_at a.at l a.bytes.now) (ap (λ (b : ℕ). b ∷ []) c.offset_byte.ensures.0 ∙ sym e.1))
