-- `put_fitting` meets its contract: a turn is put if it and all before it fit.
use mathlib.Core.Path.{sym, ◌∙◌}
use native.Mathlib.Omega.{arith}
use Rattle.work_area.specs.Held.{held_line}
use Rattle.work_area.proofs.Held.{listed_length}
use Rattle.banned_turns.proofs.Fitting.{fits_first, fits_second}
use Rattle.depot_map.proofs.Adding.{sort_off, sort_unfit, sort_fit}
use Rattle.depot_map.proofs.ban.put_fitting.Goals as goal

pub returns-in_err-count : goal.returns-in_err-count
returns-in_err-count c = rw (c.in_err-count.was, c.from_residual.ensures) sort_off

pub returns-then-not-fits : goal.returns-then-not-fits
returns-then-not-fits c = rw c.in_ok-count.was (sort_unfit c.fits.ensures c.if-not-fits.true)

pub put_once-requires-clause-work_length_in_bounds : goal.put_once-requires-clause-work_length_in_bounds
put_once-requires-clause-work_length_in_bounds c =
    let pre = c.requires.work_length_in_bounds in
    let few = rw c.in_ok-count.was at pre.1 in
    let fit = sym c.fits.ensures ∙ c.if-not-fits.false in
    let all = listed_length (held_line c.args.work.now) c.args.lines in
    (pre.0, few, pre.2, omega (arith, fits_first _ _ fit, all), omega (arith, fits_second _ _ fit, all))

pub returns : goal.returns
returns c = rw c.in_ok-count.was (sort_fit c.fits.ensures c.if-not-fits.false c.requires.work_length_in_bounds.2 c.put_once.ensures)
