-- One more position is told.
use Rattle.std.proofs.Common.{ℕ, ◌+◌, ◌<◌, refl, List, [], ◌∷◌, length, arith}
use native.Mathlib.Nat.{eq-or-lt_of_le}
use mathlib.Core.Logic.{inl, inr, ⊎_elim}
use lib.ListN.{set, length-set, replicate}
use lib.Seq.{get_or-set_same, get_or-set_other}
use Rattle.point_choice.specs.Cuts.{Fewest, FirstCut, TellsFewest}
use Rattle.point_choice.proofs.Routes.{arrived}
use Rattle.point_choice.proofs.fewest.Goals as goal

counted : {good : ℕ → ℕ → Type 0} {n i to legs : ℕ} → FirstCut good n i to legs → Fewest good n i legs
counted {to = to} (inl (cs, b, e)) = inl (to ∷ cs, b, e)
counted (inr w) = inr w

tells_more : {good : ℕ → ℕ → Type 0} {n : ℕ} (best : List ℕ) {i legs : ℕ} → i < length best → Fewest good n i legs → TellsFewest good n best (i + 1) →
    TellsFewest good n (set best i legs) i
tells_more best {i} {legs} l f tells k h m =
    ⊎_elim (λ e. rw (← e, get_or-set_same best i legs 0) f) (λ lt. rw (get_or-set_other best i k legs 0 (omega arith)) (tells k (omega arith) m))
    (eq-or-lt_of_le h)

pub loop-i-init : goal.loop-i-init
loop-i-init c =
    record {
      whole = simp length-set;
      told = tells_more (replicate 65 65) (omega arith) (inl ([], arrived, refl)) (λ k h m. absurd (omega arith));
    }

pub first_cut-requires-clause-tells_fewest : goal.first_cut-requires-clause-tells_fewest
first_cut-requires-clause-tells_fewest c k h m = c.loop-i.invariant.told k (omega arith) m

pub loop-i-preserved : goal.loop-i-preserved
loop-i-preserved c =
    let at = c.loop-i in
    record {
      whole = simp length-set at.invariant.whole;
      told = tells_more at.best (omega arith) (counted c.first_cut.ensures) (λ k h m. at.invariant.told k (omega arith) m);
    }

pub returns : goal.returns
returns c k h m = c.loop-i.invariant.told k (omega arith) m
