-- None for a line that is free or has nothing to do.
use Rattle.std.proofs.Common.{◌∙◌, arith}
use Rattle.std.proofs.lemmas.Option.{none-some}
use Rattle.search_cells.proofs.Holding.{held_kept, few}
use Rattle.expansion.proofs.Marking.{aside_none, aside_then, aside_last}
use Rattle.expansion.proofs.AtPlace.{waiting, place_few}
use Rattle.expansion.proofs.begin_walks.Goals as goal

pub returns-then-going-eq0-2 : goal.returns-then-going-eq0-2
returns-then-going-eq0-2 c =
    λ q class limit count end g inside o. record {
      before = λ p e. absurd (none-some p e);
      barred = λ p e. absurd (none-some p e);
      some = λ p e. absurd (none-some p e);
      told = λ z. absurd (omega (arith, c.if-going-eq0-2.true));
      aside = aside_none;
    }

pub overflow_add-key : goal.overflow_add-key
overflow_add-key c = let k = place_few c.requires.5 c.requires.6 in omega arith

pub offset_bounds-work-place : goal.offset_bounds-work-place
offset_bounds-work-place c = let k = place_few c.requires.5 c.requires.6 in omega arith

pub bounds-work-place : goal.bounds-work-place
bounds-work-place c =
    let k = place_few c.requires.5 c.requires.6 in
    let full = c.requires.5.held.full in
    omega arith

pub mark_bans-requires : goal.mark_bans-requires
mark_bans-requires c =
    let p = c.requires in
    ((waiting p.5 (_, omega arith, p.6, p.7.at)).0, (_, held_kept (omega arith) c.keep_last.ensures p.5.held, p.7.chain))

pub returns : goal.returns
returns c =
    λ q class limit count end g inside o.
    let y = c.if-going-eq0.false in
    let z = c.if-going-eq0-2.false in
    let kept = c.keep_last.ensures in
    let marks = c.mark_bans.ensures _ (held_kept (omega arith) kept g.held) o.chain in
    record {
      before = c.pair_before-pair.ensures _ g.held;
      barred = λ p e free. y (o.chain ∙ free);
      some = λ p e. omega (arith, z);
      told = λ some barred. marks.told;
      aside = aside_then (aside_last (few g.held) kept) marks.aside;
    }
