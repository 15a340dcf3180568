-- Two bytes.
use Rattle.std.proofs.Common.{ℕ, ◌+◌, ◌*◌, ◌∙◌, refl, ap, ap₂, [], ◌∷◌, arith}
use Rattle.model.specs.Reference.{byte_p}
use Rattle.fields.specs.Leg.{attributes_in}
use Rattle.buffers.specs.Placed.{put_at}
use Rattle.buffers.proofs.Placing.{put_then}
use Rattle.reference_bytes.specs.Put.{last_bytes}
use Rattle.reference_bytes.proofs.put_last.Goals as goal

pub returns : goal.returns
unfolding last_bytes attributes_in byte_p
returns c =
    let a = c.args in
    let p = a.a.frc * 8 + a.a.fow in
    let r = c.flag.result + c.flag-2.result + a.a.sector in
    c.put1-2.ensures ∙ ap (put_at (a.at + 1) (r ∷ [])) c.put1.ensures
    ∙ put_then a.at (p ∷ []) a.bytes.now (omega (arith, c.requires.3)) (a.at + 1) refl (r ∷ []) (omega (arith, c.requires.3))
    ∙ ap₂ (λ (x y : ℕ). put_at a.at (p ∷ (x + y + a.a.sector) ∷ []) a.bytes.now) c.flag.ensures.0 c.flag-2.ensures.0
