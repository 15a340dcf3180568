-- `add_to_bucket` meets its contract: two stores.
use Rattle.equal_codes.proofs.Chains.{linked_kept, chains_more}
use native.Mathlib.Omega.{arith}
use Rattle.equal_codes.proofs.add_to_bucket.Goals as goal

pub returns : goal.returns
returns c =
    let w = c.args.work.now in
    let j = c.args.j in
    let h = c.bucket-h.result in
    record {
      chains = chains_more w j h (omega arith) (omega arith) (omega arith) c.bucket-h.ensures.0 c.requires.2;
      kept = linked_kept w j h (omega arith) (omega arith) (omega arith);
    }
