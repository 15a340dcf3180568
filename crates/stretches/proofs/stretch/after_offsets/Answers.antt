-- The negative offset drops lines of what the positive one leaves.
use Rattle.std.proofs.Common.{◌≡◌, ◌∙◌, ◌+◌, ◌-◌, ℕ, ap, sym, take, drop, arith, length-drop}
use Rattle.model.specs.Stretch.{stretch_of}
use Rattle.stretches.proofs.Stretches.{both_ends, lent_rest}
use Rattle.stretches.proofs.stretch.after_offsets.Goals as goal

pub returns : goal.returns
returns c m h =
    let ls = c.args.stretch.numbers.now in
    let front = c.skip_front-front.result in
    let back = c.skip_back-back.result in
    let lent = lent_rest ls front.at in
    let e : front.at + back.at - front.at ≡ back.at = omega arith in
    record {
      ordered = omega arith;
      inside = omega (arith, rw (c.part.ensures.0, lent) at c.skip_back-back.ensures.0, length-drop front.at ls);
      same = both_ends m ls _ _ front.at back.at _ _ (c.skip_front-front.ensures.1 m h) (rw (c.part.ensures.0, lent) at (c.skip_back-back.ensures.1 m (rw c.part.ensures.1 h)))
          ∙ ap (λ (k : ℕ). stretch_of (take k (drop front.at ls)) front.offset back.offset) (sym e);
    }
