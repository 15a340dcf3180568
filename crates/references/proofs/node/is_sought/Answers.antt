-- `is_sought` asks each of the two tests of both coordinates.
use Rattle.std.proofs.Common.{sym, ◌∙◌}
use borrow.Author.Tests.{eq-eqb, ne_eqb}
use Rattle.model.specs.Locate.{has_codes}
use Rattle.references.specs.Node.{passes}
use Rattle.references.proofs.node.is_sought.Goals as goal

pub returns-then-longitude_code-lon_code : goal.returns-then-longitude_code-lon_code
unfolding passes has_codes
returns-then-longitude_code-lon_code c a e f =
    let same-lon = sym (c.longitude_code.ensures a e) ∙ c.if-longitude_code-lon_code.true in
    simp (c.in-Codes.is, eq-eqb _ _ same-lon, c.latitude_code.ensures a f)

pub returns-else-longitude_code-lon_code : goal.returns-else-longitude_code-lon_code
unfolding passes has_codes
returns-else-longitude_code-lon_code c a e f =
    ne_eqb _ _ c.if-longitude_code-lon_code.false
    ∙ sym (simp (c.in-Codes.is, ne_eqb _ _ (λ q. c.if-longitude_code-lon_code.false (c.longitude_code.ensures a e ∙ q))))

pub returns-then-lon-at_lon : goal.returns-then-lon-at_lon
unfolding passes
returns-then-lon-at_lon c a e f =
    c.moved.ensures ∙ sym (simp (c.in-Moved.is, f, eq-eqb _ _ (sym (e ∙ c.if-lon-at_lon.true))))

pub returns-else-lon-at_lon : goal.returns-else-lon-at_lon
unfolding passes
returns-else-lon-at_lon c a e f =
    ne_eqb _ _ c.if-lon-at_lon.false ∙ sym (simp (c.in-Moved.is, ne_eqb _ _ (λ q. c.if-lon-at_lon.false (sym (q ∙ e)))))
