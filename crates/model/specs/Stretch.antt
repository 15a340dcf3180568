-- A stretch, the paper's word for the lines an office marks with its two offsets, and what remains of it (paper 01, "A stretch"; refusals 7 to 9; W1, 21).
use Rattle.std.specs.Prelude.{ℕ, ◌+◌, ◌-◌, Bool, true, false, cond, ◌||◌, not, List, [], ◌∷◌, reverse, length, ltb, leb, eqb}
use Rattle.model.specs.Map.{Map}
use Rattle.model.specs.Lines.{line_at, banned, total}
use Rattle.model.specs.Refusal.{Refused, row}

-- Line numbers in order, and the positive and the negative offset in centimetres (W8).
pub record Stretch : Type 0 where
  pub lines : List ℕ
  pub pos : ℕ
  pub neg : ℕ

-- "1 to 64 line numbers."
abbrev pub greatest_stretch : ℕ
greatest_stretch = 64

-- Refusal 7: "no such line".
unfoldable pub unknown : Map → List ℕ → Bool
unknown m [] = false
unknown m (l ∷ ls) = leb (length m.lines) l || unknown m ls

-- Whether some two lines that stand next to each other are a faulty pair.
unfoldable pub some_pair : (ℕ → ℕ → Bool) → List ℕ → Bool
some_pair faulty [] = false
some_pair faulty (l ∷ []) = false
some_pair faulty (l ∷ k ∷ ls) = faulty l k || some_pair faulty (k ∷ ls)

-- Refusal 8: "a line does not end where the next starts". It looks at ends and starts alone, whatever is banned.
unfoldable pub apart : Map → ℕ → ℕ → Bool
apart m l k = not (eqb (line_at m l).end (line_at m k).start)

abbrev pub gap : Map → List ℕ → Bool
gap m ls = some_pair (apart m) ls

-- Refusal 21 (W1): "a stretch as given, skipped lines included, contains a banned pair".
abbrev pub banned_pair : Map → List ℕ → Bool
banned_pair m ls = some_pair (banned m) ls

-- Lines left after an offset has dropped those that it covers, and what is left of the offset.
pub record Skipped : Type 0 where
  pub lines : List ℕ
  pub offset : ℕ

-- "While the positive offset is not below the first line's length, that line is dropped and the offset lowered by it."
unfoldable pub skip : Map → ℕ → List ℕ → Skipped
skip m offset [] = record { lines = []; offset = offset }
skip m offset (l ∷ ls) =
    elim (leb (line_at m l).length offset) [
      | true ↦ skip m (offset - (line_at m l).length) ls
      | false ↦ record { lines = l ∷ ls; offset = offset }
    ]

-- "Likewise the negative offset at the end." What remains of a stretch.
unfoldable pub remaining : Map → Stretch → Stretch
remaining m s =
    let front = skip m s.pos s.lines in
    let back = skip m s.neg (reverse front.lines) in
    record { lines = reverse back.lines; pos = front.offset; neg = back.offset }

-- A stretch as given, refused with 7, 8, 21 ("after 8", W1) or 9, or what remains of it.
pub data StretchAnswer : Type 0 where
  remains : Stretch → StretchAnswer
  refused : Refused → StretchAnswer

unfoldable pub check_stretch : Map → Stretch → StretchAnswer
check_stretch m s =
    cond (eqb (length s.lines) 0 || ltb greatest_stretch (length s.lines) || unknown m s.lines) (refused (row 7))
    (cond (gap m s.lines) (refused (row 8))
    (cond (banned_pair m s.lines) (refused (row 21))
    (cond (leb (total m s.lines) (s.pos + s.neg)) (refused (row 9)) (remains (remaining m s)))))

-- A stretch by its parts, as a caller gives them: the lines, the positive and the negative offset.
abbrev pub stretch_of : List ℕ → ℕ → ℕ → Stretch
stretch_of lines pos neg = record { lines = lines; pos = pos; neg = neg }
