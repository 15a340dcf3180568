-- Refusals by their numbers, 0 where there is none: of a map, and of a call of a reader. And what a call of a writer comes to, as a number.
use Rattle.std.specs.Prelude.{ℕ, ◌≡◌, cond, List, Result, Ok, Err, ltb}
use Rattle.model.specs.Map.{MapAnswer, whole, decode}
use Rattle.model.specs.Work.{work_length}
use Rattle.model.specs.declared.Refusal.{Refusal}
use Rattle.model.specs.Refusal.{number_of, refusal_of}
use Rattle.model.specs.Answer.{ReadAnswer, PointReadAnswer, WriteAnswer, PointWriteAnswer}
use Rattle.model.specs.Stretch.{Stretch}
use Rattle.model.specs.Call.{ReadCall, WriteCall}
use Rattle.model.specs.PointAlong.{GivenPoint, PointReadCall, PointWriteCall}

unfoldable pub refused_by : MapAnswer → ℕ
refused_by (whole m) = 0
refused_by (MapAnswer.refused r) = number_of r

unfoldable pub map_refusal : ℕ → List ℕ → ℕ
map_refusal work bytes = cond (ltb work work_length) 1 (refused_by (decode bytes))

abbrev pub refusal_number : {A : Type 0} → Result A Refusal → ℕ
refusal_number (Ok a) = 0
refusal_number (Err why) = number_of (refusal_of why)

-- A call of the reader whose answer has this number.
pub record ReadNumber (mb ref work lines : List ℕ) (n : ℕ) (work' lines' : List ℕ) : Type 0 where
  pub answer : ReadAnswer
  pub call : ReadCall mb ref work lines answer work' lines'
  pub same : n ≡ refusal_number answer

abbrev pub written_number : WriteAnswer → ℕ
written_number (Ok w) = w.bytes
written_number (Err why) = number_of (refusal_of why)

-- A call of the writer whose answer has this number.
pub record WriteNumber (mb : List ℕ) (s : Stretch) (tests : ℕ) (work bytes : List ℕ) (n : ℕ) (work' bytes' : List ℕ) : Type 0 where
  pub answer : WriteAnswer
  pub call : WriteCall mb s tests work bytes answer work' bytes'
  pub same : n ≡ written_number answer

-- The same of the calls with points.
pub record PointReadNumber (mb ref work lines : List ℕ) (n : ℕ) (work' lines' : List ℕ) : Type 0 where
  pub answer : PointReadAnswer
  pub call : PointReadCall mb ref work lines answer work' lines'
  pub same : n ≡ refusal_number answer

abbrev pub point_written_number : PointWriteAnswer → ℕ
point_written_number (Ok n) = n
point_written_number (Err why) = number_of (refusal_of why)

pub record PointWriteNumber (mb : List ℕ) (p : GivenPoint) (work bytes : List ℕ) (n : ℕ) (work' bytes' : List ℕ) : Type 0 where
  pub answer : PointWriteAnswer
  pub call : PointWriteCall mb p work bytes answer work' bytes'
  pub same : n ≡ point_written_number answer
