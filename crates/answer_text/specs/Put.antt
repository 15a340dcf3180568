-- Bytes put into a buffer, as many as fit, and the first row of an answer.
use Rattle.std.specs.Prelude.{ℕ, ◌+◌, ◌-◌, ◌≤◌, min, ◌≡◌, List, length, take, Ok, Err}
use Rattle.buffers.specs.Placed.{put_at}
use Rattle.model.specs.Answer.{ReadAnswer}
use Rattle.model.specs.Refusal.{refusal_of}
use Rattle.model.specs.Text.{acceptance, refusal}

-- Bytes put over those from `at` on, as far as the buffer goes, and where they end. The last two follow: they are what lending the part before the end asks.
pub record Put (at : ℕ) (bytes before after : List ℕ) (end : ℕ) : Type 0 where
  pub buffer_after : after ≡ put_at at (take (length before - at) bytes) before
  pub end_is : end ≡ min (at + length bytes) (length before)
  pub within : end ≤ length after
  pub counts : end ≡ length (take end after)

-- The first row of an answer, without the end of the row.
unfoldable pub head_of : ReadAnswer → List ℕ
head_of (Ok found) = acceptance found.count found.positive found.negative
head_of (Err why) = refusal (refusal_of why)
