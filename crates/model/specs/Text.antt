-- The text that the program prints for an outcome of the reader, byte by byte (paper 01, "The tie at the ridge").
use Rattle.std.specs.Prelude.{ℕ, zero, suc, ◌+◌, ◌/◌, ◌%◌, ◌≡◌, true, false, List, [], ◌∷◌, ◌++◌, length, take, ltb, Err, Ok}
use Rattle.model.specs.declared.Span.{Span}
use Rattle.model.specs.Answer.{ReadAnswer}
use Rattle.model.specs.Refusal.{Refused, row, row_at, refusal_of}
use Rattle.model.specs.Work.{work_length}
use Rattle.model.specs.Outcome.{ReadOutcome, read, Reads}

-- A number in decimal digits, at most `most` of them: those of its tens, then the last. The digit 0 is byte 48.
unfoldable pub digits : ℕ → ℕ → List ℕ
digits zero x = []
digits (suc most) x =
    elim (ltb x 10) [
      | true ↦ (48 + x) ∷ []
      | false ↦ digits most (x / 10) ++ ((48 + x % 10) ∷ [])
    ]

-- No number of 64 bits has more digits.
abbrev pub most_digits : ℕ
most_digits = 20

unfoldable pub decimal : ℕ → List ℕ
decimal x = digits most_digits x

-- The fixed words, letter by letter, with the spaces around them: "lines ", " pos ", " neg ", "refused ", a space alone, and the end of a row.
abbrev pub lines_word : List ℕ
lines_word = 108 ∷ 105 ∷ 110 ∷ 101 ∷ 115 ∷ 32 ∷ []

abbrev pub pos_word : List ℕ
pos_word = 32 ∷ 112 ∷ 111 ∷ 115 ∷ 32 ∷ []

abbrev pub neg_word : List ℕ
neg_word = 32 ∷ 110 ∷ 101 ∷ 103 ∷ 32 ∷ []

abbrev pub refused_word : List ℕ
refused_word = 114 ∷ 101 ∷ 102 ∷ 117 ∷ 115 ∷ 101 ∷ 100 ∷ 32 ∷ []

abbrev pub space : List ℕ
space = 32 ∷ []

abbrev pub row_end : List ℕ
row_end = 10 ∷ []

-- A word and a number behind it.
unfoldable pub numbered : List ℕ → ℕ → List ℕ
numbered word x = word ++ decimal x

-- Each of the numbers, with the word before it.
unfoldable pub each : List ℕ → List ℕ → List ℕ
each word [] = []
each word (x ∷ xs) = numbered word x ++ each word xs

-- "First the count and the offset spans": lines 2 pos 499 501 neg 0 0.
unfoldable pub acceptance : ℕ → Span → Span → List ℕ
acceptance count pos neg =
    numbered lines_word count
    ++ numbered pos_word pos.least
    ++ numbered space pos.greatest
    ++ numbered neg_word neg.least
    ++ numbered space neg.greatest

-- "A refusal prints `refused` and its number, then the point or leg if it has one": refused 18 0.
unfoldable pub refusal : Refused → List ℕ
refusal (row n) = numbered refused_word n
refusal (row_at n k) = numbered refused_word n ++ numbered space k

-- What the program prints: the first row, "then a line number each", on a row of its own.
unfoldable pub text : ReadOutcome → List ℕ
text (read ls pos neg) = acceptance (length ls) pos neg ++ each row_end ls ++ row_end
text (ReadOutcome.refused r) = refusal r ++ row_end

-- "The program reads map.bin and ref.bin, has a line buffer of 1,024 numbers, and prints": the bytes for those of the two files.
abbrev pub printed_lines : ℕ
printed_lines = 1_024

pub record Prints (mb ref bytes : List ℕ) : Type 0 where
  pub outcome : ReadOutcome
  pub reads : Reads mb ref work_length printed_lines outcome
  pub bytes_are : bytes ≡ text outcome

-- The outcome that an answer of the reader tells, with the line buffer as the call left it.
unfoldable pub told : ReadAnswer → List ℕ → ReadOutcome
told (Ok found) lines = read (take found.count lines) found.positive found.negative
told (Err why) lines = ReadOutcome.refused (refusal_of why)
