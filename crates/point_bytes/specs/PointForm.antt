-- The form of a point's bytes, and the marks that make a line reference's bytes with two points those of a point along line (paper 02, W5).
use Rattle.std.specs.Prelude.{ℕ, ◌+◌, ◌*◌, ◌%◌, ◌≡◌, List, get_or, set, Result, Ok, Err}
use Rattle.model.specs.declared.Refusal.{Refusal}
use Rattle.model.specs.Refusal.{refusal_of}
use Rattle.model.specs.Reference.{status_byte}
use Rattle.model.specs.PointAlong.{point_status, parsed, refused, point_along_at, parse_point}

-- What a form says of the bytes: refused with 12 to 15, or a point along line.
abbrev pub FormOf : List ℕ → Result (Unit {0}) Refusal → Type 0
FormOf bytes (Ok _) = parse_point bytes ≡ parsed (point_along_at bytes)
FormOf bytes (Err why) = parse_point bytes ≡ refused (refusal_of why)

-- Three marks put on a line reference's bytes: the status, and bits 7 and 6 of each P.
unfoldable pub with_marks : ℕ → ℕ → List ℕ → List ℕ
with_marks orientation side bs = set (set (set bs 0 point_status) 7 (orientation * 64 + get_or bs 7 0)) 14 (side * 64 + get_or bs 14 0)

-- And taken off.
unfoldable pub without_marks : List ℕ → List ℕ
without_marks bs = set (set (set bs 0 status_byte) 7 (get_or bs 7 0 % 64)) 14 (get_or bs 14 0 % 64)
