-- "Spans and refusal 19 follow the new byte" (W6): byte 0 and byte 255 on every leg, what the greatest offset of a leg gives, and that there is no byte past 255.
use Prim.Native.Nat.{ℕ, ◌+◌, ◌*◌, ◌-◌, ◌/◌, ◌≤◌, ◌<◌}
use mathlib.Core.Path.{◌≡◌, sym}
use native.Mathlib.Omega.{arith}
use Rattle.model.specs.declared.Span.{Span}
use Rattle.model.specs.Field.{greatest_offset_byte, offset_byte}
use Rattle.model.specs.Reference.{byte}
use Rattle.model.specs.Span.{Gives, SpanRead, flagged, NoOffset, no_offset}
use Rattle.model.proofs.Nearest.{past, not_past, offset_byte_lem}
use Rattle.model.proofs.Spans.{high_end, low_end}

abbrev span : ℕ → ℕ → Span
span least greatest = record { least = least; greatest = greatest }

-- Byte 0: on a leg of up to 512 not even offset 1 gives it.
pub byte_0_nowhere : (leg : ℕ) → leg ≤ 512 → NoOffset leg (byte 0)
byte_0_nowhere leg short = no_offset {b = 0} λ o (g : Gives leg 0 o). omega (arith, short, g.above, high_end g g (omega arith))

pub byte_0_span : (leg : ℕ) → 512 < leg → SpanRead leg (byte 0) (span 1 ((leg - 1) / 512))
byte_0_span leg long =
    let zero : (o : ℕ) → 0 < o → 512 * o < leg → Gives leg 0 o =
    λ o h k. record { above = h; inside = omega (arith, k); same = omega (arith, not_past leg o (omega (arith, long)) 0 (omega (arith, k))) } in
    flagged (zero 1 (omega arith) (omega (arith, long))) (zero ((leg - 1) / 512) (omega (arith, long)) (omega (arith, long)))
    λ o (g : Gives leg 0 o). (g.above, omega (arith, high_end g g (omega arith)))

-- Byte 255 is given from 509 512ths of the leg on; on a leg of up to 170 its greatest offset is before them.
module _ (leg : ℕ) where
  from_254 : (o : ℕ) → Gives leg greatest_offset_byte o → 509 * leg ≤ 512 * o
  from_254 o g = omega (arith, low_end g g 254 (omega arith))

  pub byte_255_nowhere : leg ≤ 170 → NoOffset leg (byte greatest_offset_byte)
  byte_255_nowhere short = no_offset {b = greatest_offset_byte} λ o (g : Gives leg greatest_offset_byte o). omega (arith, short, g.inside, from_254 o g)

  gives_255 : (o : ℕ) → 509 * leg ≤ 512 * o → 0 < leg → offset_byte leg o ≡ greatest_offset_byte
  gives_255 o h some = omega (arith, past leg o some 254 (omega arith) (omega (arith, h)), offset_byte_lem leg o)

  pub greatest_offset : 170 < leg → offset_byte leg (leg - 1) ≡ greatest_offset_byte
  greatest_offset long = gives_255 (leg - 1) (omega (arith, long)) (omega (arith, long))

  pub byte_255_span : 170 < leg → SpanRead leg (byte greatest_offset_byte) (span ((509 * leg + 511) / 512) (leg - 1))
  byte_255_span long =
      let last : (o : ℕ) → 509 * leg ≤ 512 * o → o < leg → Gives leg greatest_offset_byte o =
      λ o h k. record { above = omega (arith, h, long); inside = k; same = gives_255 o h (omega (arith, long)) } in
      flagged (last ((509 * leg + 511) / 512) (omega arith) (omega (arith, long))) (last (leg - 1) (omega (arith, long)) (omega (arith, long)))
      λ o (g : Gives leg greatest_offset_byte o). (omega (arith, from_254 o g), omega (arith, g.inside))

  -- On a leg of 512 times `n` its ends are three 512ths apart, less one centimetre: a lesser bound would not do.
  pub byte_255_widest : (n : ℕ) → 0 < n → leg ≡ 512 * n → SpanRead leg (byte greatest_offset_byte) (span (509 * n) (512 * n - 1))
  byte_255_widest n some e =
      let least : (509 * leg + 511) / 512 ≡ 509 * n = omega (arith, e) in
      let greatest : leg - 1 ≡ 512 * n - 1 = omega (arith, e) in
      rw (sym least, sym greatest) (byte_255_span (omega (arith, some, e)))

  pub past_255_nowhere : (b : ℕ) → greatest_offset_byte < b → NoOffset leg (byte b)
  past_255_nowhere b h = no_offset {b = b} λ o (g : Gives leg b o). omega (arith, h, g.same, offset_byte_lem leg o)
