-- The front is made apart, and copied where it fits.
use Rattle.std.proofs.Common.{arith}
use Rattle.front.proofs.Fronts.{front_copied}
use Rattle.front.proofs.put_front.Goals as goal

pub returns : goal.returns
returns c =
    let a = c.args in
    let m = c.make_front-count in (
      m.ensures.0,
      omega (arith, m.ensures.0, c.if-buffer-count.false),
      front_copied a.map.now _ m.new.made a.buffer.now _ m.result m.ensures.0 m.ensures.2 c.copy.ensures,
    )
