-- What a host's writer wrote, of stretches or of points: where it answers refusal 0, the first bytes of the buffer are those that it wrote, and they are as many
-- as it answers.
use Prim.Native.Nat.{ℕ}
use mathlib.Core.Path.{◌≡◌, refl, sym, ap, ◌∙◌}
use mathlib.Core.List.{List}
use lib.ListN.{length, take, drop}
use lib.Seq.{take_at}
use Rattle.model.specs.Refusal.{Refused, number_of}
use Rattle.model.specs.Outcome.{WriteOutcome, written}
use Rattle.model.specs.Work.{placed}
use Rattle.model.specs.PointAlong.{PointWriteOutcome, point_bytes_after}
use Rattle.model.specs.Call.{Answered}
use Rattle.model.specs.Host.{HostWritten, host_written, host_bytes_after, HostPointWritten, host_point_written}

first_bytes : (bs buffer : List ℕ) → take (length bs) (placed bs buffer) ≡ bs
unfolding placed
first_bytes bs buffer = take_at bs (drop (length bs) buffer) (length bs) refl

-- Some bytes were written so, they stand first in the buffer, and the count is theirs.
pub record HostWrote (Wrote : List ℕ → Type 0) (before after : List ℕ) (count : ℕ) : Type 0 where
  pub list : List ℕ
  pub writes : Wrote list
  pub size : count ≡ length list
  pub placed_so : after ≡ placed list before
  pub first : take count after ≡ list

wrote : {Wrote : List ℕ → Type 0} {before after : List ℕ} {count : ℕ} (bs : List ℕ) → Wrote bs → count ≡ length bs → after ≡ placed bs before →
    HostWrote Wrote before after count
wrote {before = before} bs w size f = record { list = bs; writes = w; size = size; placed_so = f; first = rw (size, f) (first_bytes bs before) }

-- ---- of stretches

-- Some bytes are written, with some tests made and some excess.
abbrev pub WithTests : (WriteOutcome → Type 0) → List ℕ → Type 0
WithTests Asks bs = (made excess : ℕ) × Asks (written bs made excess)

module _ (Asks : WriteOutcome → Type 0) (never-0 : (why : Refused) → Asks (WriteOutcome.refused why) → number_of why ≡ 0 → ⊥) (before after : List ℕ)
    (a : HostWritten) (zero : a.refusal ≡ 0) where
  by_outcome : (o : WriteOutcome) → Asks o → a ≡ host_written o → after ≡ host_bytes_after o before → HostWrote (WithTests Asks) before after a.bytes
  unfolding host_written host_bytes_after
  by_outcome (written bs made excess) w e f = wrote bs (made, excess, w) (ap (λ (x : HostWritten). x.bytes) e) f
  by_outcome (WriteOutcome.refused why) w e f = absurd (never-0 why w (sym (ap (λ (x : HostWritten). x.refusal) e) ∙ zero))

  pub wrote_by : Answered (λ given o. given ≡ host_written o) host_bytes_after Asks before after a → HostWrote (WithTests Asks) before after a.bytes
  wrote_by c = by_outcome c.outcome c.asked c.answers c.buffer_after

-- ---- of points

module _ (Asks : PointWriteOutcome → Type 0) (never-0 : (why : Refused) → Asks (PointWriteOutcome.refused why) → number_of why ≡ 0 → ⊥)
    (before after : List ℕ) (a : HostPointWritten) (zero : a.refusal ≡ 0) where
  by_point_outcome : (o : PointWriteOutcome) → Asks o → a ≡ host_point_written o → after ≡ point_bytes_after o before →
      HostWrote (λ bs. Asks (PointWriteOutcome.written bs)) before after a.bytes
  unfolding host_point_written point_bytes_after
  by_point_outcome (PointWriteOutcome.written bs) w e f = wrote bs w (ap (λ (x : HostPointWritten). x.bytes) e) f
  by_point_outcome (PointWriteOutcome.refused why) w e f = absurd (never-0 why w (sym (ap (λ (x : HostPointWritten). x.refusal) e) ∙ zero))

  pub point_wrote_by : Answered (λ given o. given ≡ host_point_written o) point_bytes_after Asks before after a →
      HostWrote (λ bs. Asks (PointWriteOutcome.written bs)) before after a.bytes
  point_wrote_by c = by_point_outcome c.outcome c.asked c.answers c.buffer_after
