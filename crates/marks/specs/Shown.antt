-- What a test program prints of the buffers behind a call, and of a writer's answer.
use Rattle.std.specs.Prelude.{ℕ, min, Bool, true, false, List, [], ◌∷◌, ◌++◌, length, Ok, Err}
use Rattle.model.specs.Answer.{WriteAnswer, PointWriteAnswer}
use Rattle.model.specs.Refusal.{number_of, refusal_of}
use Rattle.model.specs.Text.{numbered, refused_word}
use Rattle.cases.specs.Sum.{sum_from}
use Rattle.answer_text.specs.Put.{Put}
use Rattle.marks.specs.Marks.{mark_of, Marked, Cleared}

-- The texts " work kept", " work cleared" and " work changed", and when each is the one.
pub data WorkText (work : List ℕ) : List ℕ → Type 0 where
  kept : Marked mark_of work 0 (length work) →
      WorkText work (32 ∷ 119 ∷ 111 ∷ 114 ∷ 107 ∷ 32 ∷ 107 ∷ 101 ∷ 112 ∷ 116 ∷ [])
  cleared : (Marked mark_of work 0 (length work) → ⊥) → Cleared work →
      WorkText work (32 ∷ 119 ∷ 111 ∷ 114 ∷ 107 ∷ 32 ∷ 99 ∷ 108 ∷ 101 ∷ 97 ∷ 114 ∷ 101 ∷ 100 ∷ [])
  changed : (Marked mark_of work 0 (length work) → ⊥) → (Cleared work → ⊥) →
      WorkText work (32 ∷ 119 ∷ 111 ∷ 114 ∷ 107 ∷ 32 ∷ 99 ∷ 104 ∷ 97 ∷ 110 ∷ 103 ∷ 101 ∷ 100 ∷ [])

-- The texts " rest kept" and " rest changed".
unfoldable pub rest_text : Bool → List ℕ
rest_text true = 32 ∷ 114 ∷ 101 ∷ 115 ∷ 116 ∷ 32 ∷ 107 ∷ 101 ∷ 112 ∷ 116 ∷ []
rest_text false = 32 ∷ 114 ∷ 101 ∷ 115 ∷ 116 ∷ 32 ∷ 99 ∷ 104 ∷ 97 ∷ 110 ∷ 103 ∷ 101 ∷ 100 ∷ []

-- A text that is one of some, put into a buffer.
pub record Shown (Texts : List ℕ → Type 0) (at : ℕ) (before after : List ℕ) (end : ℕ) : Type 0 where
  pub text : List ℕ
  pub is_one : Texts text
  pub put : Put at text before after end

-- The words "bytes ", " tests ", " excess " and " sum ".
abbrev pub bytes_word : List ℕ
bytes_word = 98 ∷ 121 ∷ 116 ∷ 101 ∷ 115 ∷ 32 ∷ []

abbrev pub tests_word : List ℕ
tests_word = 32 ∷ 116 ∷ 101 ∷ 115 ∷ 116 ∷ 115 ∷ 32 ∷ []

abbrev pub excess_word : List ℕ
excess_word = 32 ∷ 101 ∷ 120 ∷ 99 ∷ 101 ∷ 115 ∷ 115 ∷ 32 ∷ []

abbrev pub sum_word : List ℕ
sum_word = 32 ∷ 115 ∷ 117 ∷ 109 ∷ 32 ∷ []

-- A sum over the bytes that are in the buffer.
unfoldable pub sum_text : ℕ → List ℕ → List ℕ
sum_text n bytes = numbered sum_word (sum_from bytes 0 (min n (length bytes)) 0)

-- A writer's answer: the count of bytes, the leg tests made, the excess, and the sum; or the refusal's number.
unfoldable pub written_text : WriteAnswer → List ℕ → List ℕ
written_text (Ok made) bytes =
    ((numbered bytes_word made.bytes ++ numbered tests_word made.tests) ++ numbered excess_word made.excess) ++ sum_text made.bytes bytes
written_text (Err why) bytes = numbered refused_word (number_of (refusal_of why))

-- The same of the writer of points.
unfoldable pub point_written_text : PointWriteAnswer → List ℕ → List ℕ
point_written_text (Ok n) bytes = numbered bytes_word n ++ sum_text n bytes
point_written_text (Err why) bytes = numbered refused_word (number_of (refusal_of why))
