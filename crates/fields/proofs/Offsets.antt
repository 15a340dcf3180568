-- The offsets on a leg whose byte is greater than `b` start half way past `b` 256ths of the leg, rounded up; and a span from two such starts.
use Prim.Native.Nat.{ℕ, ◌+◌, ◌*◌, ◌-◌, ◌/◌, ◌≤◌, ◌<◌}
use mathlib.Core.Path.{◌≡◌, ap}
use native.Mathlib.Nat.{mul-le-mul_right}
use native.Mathlib.Omega.{arith}
use Rattle.model.specs.Field.{greatest_offset_byte}
use Rattle.model.specs.Reference.{byte}
use Rattle.model.specs.Span.{Gives, SpanRead, flagged, NoOffset, no_offset}
use Rattle.model.proofs.Nearest.{past, not_past, offset_byte_lem}
use Rattle.fields.specs.Offset.{FirstOffset}

-- A byte's own 512ths, and those before and past them, are on the leg.
pub own_within : (leg b : ℕ) → b ≤ greatest_offset_byte → 2 * b * leg ≤ 510 * leg
own_within leg b small = mul-le-mul_right leg (omega (arith, small))

pub own_some : (leg b : ℕ) → 0 < b → 2 * leg ≤ 2 * b * leg
own_some leg b some = mul-le-mul_right {m = 2} {n = 2 * b} leg (omega (arith, some))

pub past_within : (leg b : ℕ) → b ≤ greatest_offset_byte → (2 * b * leg + leg + 511) / 512 ≤ leg
past_within leg b small = omega (arith, own_within leg b small)

pub half_past : (leg b : ℕ) → b < greatest_offset_byte → FirstOffset leg (b + 1) ((2 * b * leg + leg + 511) / 512)
half_past leg b small =
    record {
      above = λ some. omega (arith, some);
      before = λ o h k.
          let some : 0 < leg = omega (arith, k, past_within leg b (omega (arith, small))) in
          omega (arith, not_past leg o some b (omega (arith, k)));
      from = λ o h k.
          let some : 0 < leg = omega (arith, k) in
          omega (arith, past leg o some b small (omega (arith, h)));
    }

-- Half way before a byte is half way past the one below.
pub half_before : (leg b : ℕ) → 0 < b → b ≤ greatest_offset_byte → FirstOffset leg b ((2 * b * leg - leg + 511) / 512)
half_before leg b some small =
    let below : b - 1 + 1 ≡ b = omega (arith, some) in
    let same : 2 * (b - 1) * leg + leg ≡ 2 * b * leg - leg = omega (arith, ap (λ (n : ℕ). 2 * n * leg) below) in
    let start = half_past leg (b - 1) (omega (arith, some, small)) in
    rw (below, same) at start

pub before_within : (leg b : ℕ) → b ≤ greatest_offset_byte → (2 * b * leg - leg + 511) / 512 ≤ leg
before_within leg b small = omega (arith, own_within leg b small)

-- No offset gives more than 255.
pub none_from : (leg b : ℕ) → greatest_offset_byte < b → FirstOffset leg b leg
none_from leg b great =
    record {
      above = λ some. some;
      before = λ o h k. omega (arith, great, offset_byte_lem leg o);
      from = λ o h k. absurd (omega (arith, h, k));
    }

-- Where the offsets of byte `b` and those of the next byte start.
module _ (leg b r s : ℕ) (f : FirstOffset leg b r) (g : FirstOffset leg (b + 1) s) (within : s ≤ leg) where
  -- An offset gives `b` just where it lies between the two.
  gives : (o : ℕ) → 0 < o → r ≤ o → o < s → Gives leg b o
  gives o h l k =
      record {
        above = h;
        inside = omega (arith, within);
        same = omega (arith, f.from o l (omega (arith, within)), g.before o h k);
      }

  given : (o : ℕ) → Gives leg b o → (r ≤ o) × (o < s)
  given o h =
      let low : o < r → ⊥ = λ k. omega (arith, f.before o h.above k) in
      let high : s ≤ o → ⊥ = λ k. omega (arith, g.from o k h.inside) in
      (omega arith, omega arith)

  pub span : r < s → SpanRead leg (byte b) (record { least = r; greatest = s - 1 })
  span h =
      let a : 0 < r = f.above (omega (arith, within)) in
      flagged (gives r a (omega arith) h) (gives (s - 1) (omega arith) (omega arith) (omega arith))
      (λ o k. ((given o k).0, omega (arith, (given o k).1)))

  pub nowhere : s ≤ r → NoOffset leg (byte b)
  nowhere h = no_offset (λ (o : ℕ) (k : Gives leg b o). omega (arith, (given o k).0, (given o k).1))
