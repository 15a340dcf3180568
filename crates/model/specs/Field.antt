-- The values of a reference's fields (paper 01, "The bytes"; document 000, section 7).
use Rattle.std.specs.Prelude.{ℕ, ◌+◌, ◌*◌, ◌-◌, ◌/◌, ◌%◌, min, cond, leb}

-- "Code of a coordinate c": the size of the code is |c| × 16,777,216 ÷ 36,000,000 plus a half, cut.
unfoldable pub code_size : ℕ → ℕ
code_size c = (c * 33_554_432 + 36_000_000) / 72_000_000

-- The code as 24 bits, two's complement. A coordinate is held as the map stores it, with `half` added to it.
unfoldable pub code : ℕ → ℕ → ℕ
code half c = cond (leb half c) (code_size (c - half)) ((16_777_216 - code_size (half - c)) % 16_777_216)

-- "D is the leg's length divided by 5,860, rounded down" (W8). 5,860 centimetres are OpenLR's 58.6 m.
abbrev pub distance_step : ℕ
distance_step = 5_860

unfoldable pub distance : ℕ → ℕ
distance length = length / distance_step

-- "Round an offset byte to the nearest 256th, an exact half upwards" (W6): 256 × offset ÷ leg length plus a half, cut.
abbrev pub offset_steps : ℕ
offset_steps = 256

unfoldable pub nearest_step : ℕ → ℕ → ℕ
nearest_step leg offset = (2 * offset_steps * offset + leg) / (2 * leg)

-- "And to write 255 where that gives 256" (W6).
abbrev pub greatest_offset_byte : ℕ
greatest_offset_byte = 255

unfoldable pub offset_byte : ℕ → ℕ → ℕ
offset_byte leg offset = min greatest_offset_byte (nearest_step leg offset)
