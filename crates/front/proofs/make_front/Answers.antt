-- Two numbers, one behind the other.
use Rattle.std.proofs.Common.{arith}
use Rattle.front.proofs.Fronts.{front_made, front_length}
use Rattle.front.proofs.make_front.Goals as goal

pub returns : goal.returns
returns c =
    let a = c.args in
    let n = c.put_number-count in
    let k = c.put_number in
    let s = c.map_sum-sum in (
      front_length a.map.now a.made.now n.new.bytes k.new.bytes n.result s.result s.ensures n.ensures.0 k.result k.ensures.0,
      omega (arith, n.ensures.1, k.ensures.1),
      front_made a.map.now a.made.now n.new.bytes k.new.bytes n.result s.result s.ensures n.ensures.0 n.ensures.2 k.ensures.2,
    )
