-- "Round an offset byte to the nearest 256th, an exact half upwards, and to write 255 where that gives 256" (W6): `nearest`, `half_up` and `rounded`; and
-- which offsets of a leg give more than a byte, `past`.
use Prim.Native.Nat.{ℕ, ◌+◌, ◌*◌, ◌-◌, ◌≤◌, ◌<◌}
use mathlib.Core.Path.{◌≡◌}
use native.Mathlib.Nat.{le-div_iff_mul-le, div-lt_iff_lt-mul, div-mul-le_self, lt-div-mul-add, mul-le-mul_right, le_antisymm}
use native.Mathlib.Decide.{dec_lt}
use native.Mathlib.Omega.{arith}
use Rattle.model.specs.Field.{offset_steps, nearest_step, greatest_offset_byte, offset_byte}
use Rattle.model.proofs.Every.{Byte}

-- How far an offset is from `k` 256ths of its leg, times 256.
abbrev pub away : ℕ → ℕ → ℕ → ℕ
away leg offset k = (offset_steps * offset - k * leg) + (k * leg - offset_steps * offset)

-- `k` 256ths of the leg are the nearest to an offset, and where two are as near, the greater.
pub record Nearest (leg offset k : ℕ) : Type 0 where
  pub least : (j : ℕ) → away leg offset k ≤ away leg offset j
  pub upwards : (j : ℕ) → away leg offset j ≡ away leg offset k → j ≤ k

-- There is one such number only.
pub nearest_only : {leg offset j k : ℕ} → Nearest leg offset j → Nearest leg offset k → j ≡ k
nearest_only {j = j} {k = k} a b =
    le_antisymm (b.upwards j (le_antisymm (a.least k) (b.least j))) (a.upwards k (le_antisymm (b.least j) (a.least k)))

module _ (leg offset : ℕ) (some : 0 < leg) where
  abbrev step : ℕ
  step = nearest_step leg offset

  twice : 0 < 2 * leg
  twice = omega (arith, some)

  from : 2 * (step * leg) ≤ 512 * offset + leg
  unfolding nearest_step
  from = omega (arith, div-mul-le_self (512 * offset + leg) (2 * leg))

  to : 512 * offset < 2 * (step * leg) + leg
  unfolding nearest_step
  to = omega (arith, lt-div-mul-add {a = 512 * offset + leg} twice)

  -- A number of 256ths further down is no nearer, and one further up is further away.
  below : (j : ℕ) → j < step → away leg offset step ≤ away leg offset j
  below j h = omega (arith, from, to, mul-le-mul_right {m = j + 1} {n = step} leg (omega (arith, h)))

  above : (j : ℕ) → step < j → away leg offset step < away leg offset j
  above j h = omega (arith, from, to, mul-le-mul_right {m = step + 1} {n = j} leg (omega (arith, h)))

  pub nearest : Nearest leg offset step
  nearest = record { least = least; upwards = λ j e. upwards j e }
    where
      least : (j : ℕ) → away leg offset step ≤ away leg offset j
      least j = go (dec_lt j step) (dec_lt step j)
        where
          go : Dec (j < step) → Dec (step < j) → away leg offset step ≤ away leg offset j
          go (yes h) k = below j h
          go (no h) (yes k) = omega (arith, above j k)
          go (no h) (no k) = let same : step ≡ j = omega (arith, h, k) in rw same (omega arith)

      upwards : (j : ℕ) → away leg offset j ≡ away leg offset step → j ≤ step
      upwards j e = go (dec_lt step j)
        where
          go : Dec (step < j) → j ≤ step
          go (yes k) = absurd (omega (arith, above j k, e))
          go (no k) = omega (arith, k)

  -- An offset exactly half between `k` and `k` + 1 of them gives the greater.
  pub half_up : (k : ℕ) → 512 * offset ≡ (2 * k + 1) * leg → step ≡ k + 1
  unfolding nearest_step
  half_up k e =
      let least : k + 1 ≤ step = (le-div_iff_mul-le twice).1 (omega (arith, e)) in
      let most : step < k + 2 = (div-lt_iff_lt-mul twice).1 (omega (arith, e, some)) in
      omega (arith, least, most)

  -- An offset gives a greater byte than `b` from a half past `b` 256ths on.
  pub past : (b : ℕ) → b < greatest_offset_byte → (2 * b + 1) * leg ≤ 512 * offset → b < offset_byte leg offset
  unfolding nearest_step offset_byte
  past b small h =
      let reached : b + 1 ≤ step = (le-div_iff_mul-le twice).1 (omega (arith, h)) in
      omega (arith, reached, small)

  pub not_past : (b : ℕ) → 512 * offset < (2 * b + 1) * leg → offset_byte leg offset ≤ b
  unfolding nearest_step offset_byte
  not_past b h =
      let before : step < b + 1 = (div-lt_iff_lt-mul twice).1 (omega (arith, h)) in
      omega (arith, before)

-- The byte of the offset whose nearest number of 256ths is `k`: that number, and 255 for 256, which is the greatest.
pub record Rounded (leg offset k : ℕ) : Type 0 where
  pub few : k ≤ offset_steps
  pub itself : k < offset_steps → offset_byte leg offset ≡ k
  pub last : k ≡ offset_steps → offset_byte leg offset ≡ greatest_offset_byte

pub rounded : (leg offset k : ℕ) → offset < leg → Nearest leg offset k → Rounded leg offset k
unfolding nearest_step offset_byte
rounded leg offset k inside n =
    let some : 0 < leg = omega (arith, inside) in
    let same : nearest_step leg offset ≡ k = nearest_only (nearest leg offset some) n in
    let small : nearest_step leg offset < 257 = (div-lt_iff_lt-mul (twice leg offset some)).1 (omega (arith, inside)) in
    record {
      few = omega (arith, same, small);
      itself = λ h. omega (arith, same, h);
      last = λ h. omega (arith, same, h);
    }

pub offset_byte_lem : (leg offset : ℕ) → Byte (offset_byte leg offset)
unfolding offset_byte
offset_byte_lem leg offset = omega arith
