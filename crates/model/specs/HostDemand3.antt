-- Demand 3 for a C host (paper 01, "The product", second paragraph; "The words of demand 3"): what its writer wrote its reader hands back.
use Rattle.std.specs.Prelude.{ℕ, ◌*◌, ◌≤◌, ◌≡◌, List, length, take}
use Rattle.model.specs.declared.Span.{Span}
use Rattle.model.specs.Stretch.{Stretch, remaining}
use Rattle.model.specs.Outcome.{read}
use Rattle.model.specs.Work.{placed}
use Rattle.model.specs.Host.{word_bytes, host_stretch, HostRead, host_read, HostReadCall, HostWritten, HostWriteCall}
use Rattle.model.specs.Demand3.{ReadBack, Alike}

-- A host's call of the reader is answered with these lines, "each line number as four bytes, low byte first", and these spans, and with nothing else,
-- for every line buffer that holds them: "a line buffer holds a quarter of its bytes, rounded down".
pub record HostReadAs (mb bytes lines : List ℕ) (pos neg : Span) : Type 0 where
  pub accepts : (before : List ℕ) → 4 * length lines ≤ length before →
      HostReadCall mb bytes before (host_read (read lines pos neg)) (placed (word_bytes lines) before)
  pub nothing_else : (before after : List ℕ) (a : HostRead) → 4 * length lines ≤ length before → HostReadCall mb bytes before a after →
      (a ≡ host_read (read lines pos neg)) × (after ≡ placed (word_bytes lines) before)

-- Demand 3 of the bytes that a host's writer wrote for a stretch, and what the host's reader answers to them.
pub record HostBack (mb : List ℕ) (s : Stretch) (tests : ℕ) (bytes : List ℕ) : Type 0 where
  pub back : ReadBack mb s tests bytes
  pub reads : HostReadAs mb bytes (remaining back.map s).lines back.pos back.neg

-- "Accepted means that no refusal is given": refusal 0. "A stretch's bytes are the first of the byte buffer, as many as the count of bytes that the
-- writer answers."
pub record HostDemand3 : Type 0 where
  pub back : (mb stretch : List ℕ) (pos neg tests : ℕ) (before after : List ℕ) (a : HostWritten) → HostWriteCall mb stretch pos neg tests before a after →
      a.refusal ≡ 0 → HostBack mb (host_stretch stretch pos neg) tests (take a.bytes after)
  pub alike : (mb stretch stretch' : List ℕ) (pos neg tests pos' neg' tests' : ℕ) (before after before' after' : List ℕ) (a b : HostWritten) →
      HostWriteCall mb stretch pos neg tests before a after → HostWriteCall mb stretch' pos' neg' tests' before' b after' → a.refusal ≡ 0 →
      b.refusal ≡ 0 → take a.bytes after ≡ take b.bytes after' →
      Alike mb (take a.bytes after) (host_stretch stretch pos neg) (host_stretch stretch' pos' neg') tests tests'
