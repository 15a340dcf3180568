-- The work area and the buffers of a call: how much of the area is used, and what a call leaves in what it was lent (paper 01, "Refused, by place").
use Rattle.std.specs.Prelude.{ℕ, cond, List, ◌++◌, length, drop, replicate, ltb}

-- "The work area becomes 14,336 numbers, for refusal 1 and for the zeros after a call" (W1).
abbrev pub work_length : ℕ
work_length = 14_336

-- "After every call but refusal 1 the first" 14,336 "of the work area are zero and the rest unchanged; refusal 1 changes nothing."
unfoldable pub cleared : List ℕ → List ℕ
cleared work = cond (ltb (length work) work_length) work (replicate work_length 0 ++ drop work_length work)

-- "The result stands first in its buffer, the rest unchanged."
unfoldable pub placed : {A : Type 0} → List A → List A → List A
placed result buffer = result ++ drop (length result) buffer
