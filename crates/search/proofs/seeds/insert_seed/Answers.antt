-- Behind the first, or before it.
use Rattle.std.proofs.Common.{arith}
use Rattle.std.proofs.Common.{get_or-set_same}
use Rattle.work_area.specs.Area.{queue_from}
use Rattle.search.proofs.SeedQueue.{seed_behind, seed_before}
use Rattle.search.proofs.seeds.insert_seed.Goals as goal

pub returns-then-head-key : goal.returns-then-head-key
returns-then-head-key c = let o = c.if-end-eq0.false in seed_behind (c.insert.ensures 0 (omega arith) c.if-head-key.true)

pub returns : goal.returns
returns c =
    let p = c.requires in
    let o = c.if-end-eq0.false in
    let t = c.if-head-key.false in
    let w = c.args.work.now in
    let first = get_or-set_same w queue_from c.args.key 0 (omega arith) in
    seed_before w (omega arith) (omega arith) (omega arith) (c.insert-2.ensures 0 (omega arith) (omega (arith, first)))
