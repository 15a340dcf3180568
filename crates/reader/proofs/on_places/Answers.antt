-- A leg that fails, or the answer for all legs with their lines written.
use Rattle.std.proofs.Common.{arith}
use Rattle.model.proofs.Answering.{passed_on}
use Rattle.reader.proofs.Answers.{kept_lines, leg_failed, all_read, none_read, counted}
use Rattle.reader.proofs.on_places.Goals as goal

pub returns-in_err-sums : goal.returns-in_err-sums
returns-in_err-sums c m set places found =
    let passed = passed_on c.from_residual.result c.from_residual.ensures.1 in
    rw passed (leg_failed found (c.in_err-sums.ensures m set places).tells)

pub returns-in_err-found : goal.returns-in_err-found
returns-in_err-found c m set places found =
    let passed = passed_on c.from_residual-in_err-found.result c.from_residual-in_err-found.ensures.1 in
    let all = (c.in_ok-sums.ensures m set places).tells in
    rw passed (none_read found all.read (c.in_err-found.ensures m all.lists all.sums))

pub put_lines-requires : goal.put_lines-requires
put_lines-requires c =
    let p = c.requires.set in
    let done = c.in_ok-sums.ensures p.0 p.1 p.2 in
    let k = counted (c.in_ok-found.ensures p.0 done.tells.lists done.tells.sums) in
    record { points_lt_places = (c.requires.points_lt_places, k.1); set = (p.0, done.set, p.2) }

pub returns : goal.returns
returns c m set places found =
    let done = c.in_ok-sums.ensures m set places in
    let all = done.tells in
    let ended = c.in_ok-found.ensures m all.lists all.sums in
    let k = counted ended in
    all_read found all.read ended
    (c.put_lines.ensures m done.set places all.lists all.read k.0 (λ fits. kept_lines _ _ _ _ k.0 (omega (arith, fits, c.read_legs.auto)) all.laid))
