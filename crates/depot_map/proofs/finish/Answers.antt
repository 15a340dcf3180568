-- `finish` meets its contract: left-over bytes, equal codes, a turn that does not fit, or a whole map.
use mathlib.Core.Path.{sym, ◌∙◌}
use mathlib.Core.Bool.{true, false}
use native.Mathlib.Omega.{arith}
use Rattle.model.specs.Refusal.{refusal_of}
use Rattle.buffers.proofs.Kept.{kept_none, kept_within}
use Rattle.depot_map.proofs.Ended.{left_over, none_over}
use Rattle.depot_map.proofs.Stages.{stage_refused}
use Rattle.depot_map.proofs.BanStages.{stage_whole, all_taken}
use Rattle.depot_map.proofs.finish.Goals as goal

pub returns-then-at-map : goal.returns-then-at-map
unfolding refusal_of
returns-then-at-map c = λ bans taken. stage_refused (left_over _ _ _ _ _ c.if-at-map.true) kept_none

pub returns-then-equal_codes : goal.returns-then-equal_codes
unfolding refusal_of
returns-then-equal_codes c =
    λ bans taken.
    let k = c.equal_codes.ensures in
    stage_refused (none_over _ _ _ _ _ c.if-at-map.false true _ (sym c.if-equal_codes.true ∙ k.found) taken.tested)
    (kept_within (omega arith) (omega arith) k.kept)

pub returns-then-not-fitting : goal.returns-then-not-fitting
unfolding refusal_of
returns-then-not-fitting c =
    λ bans taken.
    let k = c.equal_codes.ensures in
    stage_refused
    (none_over _ _ _ _ _ c.if-at-map.false false false (sym c.if-equal_codes.false ∙ k.found) (sym c.if-not-fitting.true ∙ taken.tested))
    (kept_within (omega arith) (omega arith) k.kept)

pub returns : goal.returns
returns c =
    λ bans taken.
    let k = c.equal_codes.ensures in
    let few = c.requires in
    stage_whole _ _ _ _ few.1 few.2 c.if-at-map.false k.kept (sym c.if-equal_codes.false ∙ k.found) (all_taken c.if-not-fitting.false taken)
