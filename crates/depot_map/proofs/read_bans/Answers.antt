-- `read_bans` meets its contract: after `i` turns the first `i` banned turns are read.
use native.Mathlib.Omega.{arith}
use Rattle.depot_map.proofs.BanStages.{after_none, bans_start, bans_on, ban_off, bans_end, below_less}
use Rattle.depot_map.proofs.read_bans.Goals as goal

pub loop-i-init : goal.loop-i-init
loop-i-init c = bans_start c.requires.2 c.fill.ensures

pub returns-in_err-ban : goal.returns-in_err-ban
returns-in_err-ban c =
    let pre = c.requires in
    after_none c.args.map.now c.args.from c.args.count c.fill.ensures pre.1 pre.2
    (ban_off c.loop-i.invariant (omega arith) c.from_residual.result c.from_residual.ensures.1 c.in_err-ban.ensures)

pub put_fitting-taken-requires : goal.put_fitting-taken-requires
put_fitting-taken-requires c =
    let inv = c.loop-i.invariant in
    record {
      work_length_in_bounds = (omega (arith, inv.kept.same, c.fill.ensures.kept.same), below_less c.loop-i.taken inv.few (omega arith), omega arith);
      bans_counted = (inv.bans, inv.counted);
    }

pub loop-i-preserved : goal.loop-i-preserved
loop-i-preserved c = bans_on c.loop-i.invariant (omega arith) c.in_ok-ban.ensures c.put_fitting-taken.ensures

pub returns : goal.returns
returns c =
    let pre = c.requires in
    after_none c.args.map.now c.args.from c.args.count c.fill.ensures pre.1 pre.2
    (bans_end c.loop-i.invariant (omega arith) pre.1 pre.2 (rw c.is_some.ensures at c.finish.ensures))
