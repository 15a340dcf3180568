-- `put_once` meets its contract: the chain is asked, and the turn is put if it is not there.
use Rattle.depot_map.proofs.Adding.{add_old, add_new}
use Rattle.depot_map.proofs.ban.put_once.Goals as goal

pub returns-then-in_chain : goal.returns-then-in_chain
returns-then-in_chain c =
    add_old (λ bans held. c.in_chain.ensures bans _ held (c.bans_from-chain.ensures bans held)) c.if-in_chain.true

pub returns : goal.returns
returns c =
    let pre = c.requires.work_length_in_bounds in
    add_new (λ bans held. c.in_chain.ensures bans _ held (c.bans_from-chain.ensures bans held)) c.if-in_chain.false pre.1 pre.2 pre.4 c.put_ban.ensures
