-- `equal_codes` meets its contract: codes, empty buckets, and then node by node.
use Rattle.equal_codes.proofs.EqualCodes.{found_after, coded_same}
use native.Mathlib.Omega.{arith}
use Rattle.equal_codes.proofs.equal_codes.Goals as goal

pub some_met-requires : goal.some_met-requires
some_met-requires c =
    let e = c.empty_buckets in
    let p = c.put_codes in (
      omega (arith, c.requires, p.auto.work, e.auto.work),
      omega arith,
      coded_same e.ensures.kept (omega arith) p.ensures.coded,
      e.ensures.chains,
    )

pub returns : goal.returns
returns c =
    found_after (omega arith) c.put_codes.ensures c.empty_buckets.ensures c.some_met.ensures
