-- The claim of W5 for a C host: what its writer of points wrote its reader of points hands back.
use Rattle.std.specs.Prelude.{ℕ, ◌≤◌, ◌≡◌, List, length, take}
use Rattle.model.specs.declared.Span.{Span}
use Rattle.model.specs.Work.{placed}
use Rattle.model.specs.PointAlong.{read, GivenPoint, own_leg}
use Rattle.model.specs.Host.{word_bytes, HostPoint, host_point, HostPointReadCall, HostPointWritten, HostPointWriteCall}
use Rattle.model.specs.PointTrip.{PointBack, PointsAlike}

-- A host's call of the reader is answered with that one line, in four bytes, this span, the orientation and the side, and with nothing else, for every line
-- buffer that holds a line.
pub record HostPointReadAs (mb bytes : List ℕ) (p : GivenPoint) (span : Span) : Type 0 where
  pub accepts : (before : List ℕ) → 4 ≤ length before →
      HostPointReadCall mb bytes before (host_point (read (own_leg p) span p.orientation p.side)) (placed (word_bytes (own_leg p)) before)
  pub nothing_else : (before after : List ℕ) (a : HostPoint) → 4 ≤ length before → HostPointReadCall mb bytes before a after →
      (a ≡ host_point (read (own_leg p) span p.orientation p.side)) × (after ≡ placed (word_bytes (own_leg p)) before)

-- The claim of the bytes that a host's writer wrote for a point, and what the host's reader answers to them.
pub record HostPointBack (mb : List ℕ) (p : GivenPoint) (bytes : List ℕ) : Type 0 where
  pub back : PointBack mb p bytes
  pub reads : HostPointReadAs mb bytes p back.span

-- Accepted is refusal 0; a point's bytes are the first of the byte buffer, as many as the writer answers.
pub record HostPointTrip : Type 0 where
  pub back : (mb : List ℕ) (p : GivenPoint) (before after : List ℕ) (a : HostPointWritten) → HostPointWriteCall mb p before a after → a.refusal ≡ 0 →
      HostPointBack mb p (take a.bytes after)
  pub alike : (mb : List ℕ) (p q : GivenPoint) (before after before' after' : List ℕ) (a b : HostPointWritten) → HostPointWriteCall mb p before a after →
      HostPointWriteCall mb q before' b after' → a.refusal ≡ 0 → b.refusal ≡ 0 → take a.bytes after ≡ take b.bytes after' →
      PointsAlike mb (take a.bytes after) p q
