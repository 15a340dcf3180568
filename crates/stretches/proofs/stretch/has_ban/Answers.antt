-- Each pair of neighbours is banned, or it leaves the question to the lines behind it.
use Rattle.std.proofs.Common.{◌≡◌, ℕ, Bool, refl, sym, ◌∙◌, arith}
use mathlib.Core.Path.{ap₂}
use Rattle.model.specs.Map.{Map}
use Rattle.model.specs.Lines.{turn_among, banned}
use Rattle.work_area.proofs.Holding.{few}
use Rattle.stretches.proofs.Stretches.{pair_here, pair_on, pair_none}
use Rattle.stretches.proofs.stretch.has_ban.Goals as goal

-- What the code's `banned` answers of two lines.
ban_at : (m : Map) (a b : ℕ) {x y : ℕ} {r t : Bool} → x ≡ a → y ≡ b → r ≡ turn_among m.bans x y → r ≡ t → banned m a b ≡ t
unfolding banned
ban_at m a b e f g h = ap₂ (turn_among m.bans) (sym e) (sym f) ∙ sym g ∙ h

pub loop-i-init : goal.loop-i-init
loop-i-init c m h = refl

pub banned-requires : goal.banned-requires
banned-requires c =
    let p = c.requires in
    let held = p.held.1 in
    (omega (arith, c.args.stretch.known c.loop-i.i c.loop-i-test.true), few held, held.full, (p.held.0.bans, held.bans_held))

pub returns-then-banned : goal.returns-then-banned
returns-then-banned c m h =
    sym (c.loop-i.invariant m h
    ∙ pair_here (banned m) _ _ (omega arith) c.loop-i-test.true (ban_at m _ _ c.wide-l.ensures.0 c.wide-k.ensures.0 (c.banned.ensures m.bans h.bans_held) c.if-banned.true))

pub loop-i-preserved : goal.loop-i-preserved
loop-i-preserved c m h =
    c.loop-i.invariant m h
    ∙ pair_on (banned m) _ _ (omega arith) c.loop-i-test.true (ban_at m _ _ c.wide-l.ensures.0 c.wide-k.ensures.0 (c.banned.ensures m.bans h.bans_held) c.if-banned.false)

pub returns : goal.returns
returns c m h = sym (c.loop-i.invariant m h ∙ pair_none (banned m) _ c.loop-i.i (omega arith))
