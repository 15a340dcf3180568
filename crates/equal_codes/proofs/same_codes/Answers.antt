-- `same_codes` meets its contract: the codes are compared where they stand.
use mathlib.Core.Path.{sym, ◌∙◌}
use borrow.Author.Tests.{eq-eqb, ne_eqb}
use Rattle.equal_codes.proofs.EqualCodes.{same_by}
use Rattle.equal_codes.proofs.same_codes.Goals as goal

pub returns-then-work-a : goal.returns-then-work-a
returns-then-work-a c = sym (same_by _ _ _ _ c.requires.3 c.requires.4 (eq-eqb _ _ c.if-work-a.true))

pub returns-else-work-a : goal.returns-else-work-a
returns-else-work-a c = let other = ne_eqb _ _ c.if-work-a.false in other ∙ sym (same_by _ _ _ _ c.requires.3 c.requires.4 other)
