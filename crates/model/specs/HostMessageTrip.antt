-- The claim of W10 for a C host: what its writers wrote, sent in a message and asked for, its readers hand back out of the message on the same map bytes.
use Rattle.std.specs.Prelude.{ℕ, ◌*◌, ◌≤◌, ◌<◌, ◌≡◌, List, [], length, take, drop, get_or}
use Rattle.model.specs.declared.Span.{Span}
use Rattle.model.specs.Stretch.{Stretch, remaining}
use Rattle.model.specs.Work.{placed}
use Rattle.model.specs.Outcome.{read}
use Rattle.model.specs.PointAlong.{GivenPoint, own_leg, PointReadOutcome}
use Rattle.model.specs.Host.{word_bytes, host_stretch, HostRead, host_read, HostWritten, HostWriteCall, HostPoint, host_point, HostPointWritten, HostPointWriteCall}
use Rattle.model.specs.Demand3.{ReadBack}
use Rattle.model.specs.PointTrip.{PointBack}
use Rattle.model.specs.MessageHistory.{finished, Call, after, room}
use Rattle.model.specs.HostMessage.{HostMessage, host_part, HostBegun}
use Rattle.model.specs.OfMessage.{HostReadOfMessageCall, HostPointReadOfMessageCall}

-- The bytes that the host is told of for number n: so many from a place on.
abbrev pub part_bytes : ℕ → List ℕ → List ℕ
part_bytes n message = take (host_part n message).bytes (drop (host_part n message).start message)

-- As `HostReadAs` of demand 3 and `HostPointReadAs` of W5, with the message beside the reference's bytes.
pub record HostReadOutAs (mb message bytes lines : List ℕ) (pos neg : Span) : Type 0 where
  pub accepts : (before : List ℕ) → 4 * length lines ≤ length before →
      HostReadOfMessageCall mb message bytes before (host_read (read lines pos neg)) (placed (word_bytes lines) before)
  pub nothing_else : (before after : List ℕ) (a : HostRead) → 4 * length lines ≤ length before → HostReadOfMessageCall mb message bytes before a after →
      (a ≡ host_read (read lines pos neg)) × (after ≡ placed (word_bytes lines) before)

pub record HostPointReadOutAs (mb message bytes : List ℕ) (p : GivenPoint) (span : Span) : Type 0 where
  pub accepts : (before : List ℕ) → 4 ≤ length before →
      HostPointReadOfMessageCall mb message bytes before (host_point (PointReadOutcome.read (own_leg p) span p.orientation p.side))
      (placed (word_bytes (own_leg p)) before)
  pub nothing_else : (before after : List ℕ) (a : HostPoint) → 4 ≤ length before → HostPointReadOfMessageCall mb message bytes before a after →
      (a ≡ host_point (PointReadOutcome.read (own_leg p) span p.orientation p.side)) × (after ≡ placed (word_bytes (own_leg p)) before)

pub record HostOutOf (mb : List ℕ) (s : Stretch) (tests : ℕ) (message : List ℕ) (n : ℕ) : Type 0 where
  pub back : ReadBack mb s tests (part_bytes n message)
  pub reads : HostReadOutAs mb message (part_bytes n message) (remaining back.map s).lines back.pos back.neg

pub record HostPointOutOf (mb : List ℕ) (p : GivenPoint) (message : List ℕ) (n : ℕ) : Type 0 where
  pub back : PointBack mb p (part_bytes n message)
  pub reads : HostPointReadOutAs mb message (part_bytes n message) p back.span

-- As `Sent`, for a host.
pub record HostSent (mb bytes : List ℕ) (n : ℕ) (message : List ℕ) : Type 0 where
  pub b₀ : List ℕ
  pub calls : List Call
  pub h : HostMessage
  pub buffer : List ℕ
  pub begun : HostBegun mb b₀ calls h buffer
  pub there : n < length (finished (after mb (room b₀) calls))
  pub closed : get_or (finished (after mb (room b₀) calls)) n [] ≡ bytes
  pub message_is : message ≡ take h.bytes buffer

pub record HostMessageTrip : Type 0 where
  pub back : (mb message : List ℕ) (n : ℕ) (stretch : List ℕ) (pos neg tests : ℕ) (before bytes : List ℕ) (a : HostWritten) →
      HostWriteCall mb stretch pos neg tests before a bytes → a.refusal ≡ 0 → HostSent mb (take a.bytes bytes) n message →
      HostOutOf mb (host_stretch stretch pos neg) tests message n
  pub point_back : (mb message : List ℕ) (n : ℕ) (p : GivenPoint) (before bytes : List ℕ) (a : HostPointWritten) →
      HostPointWriteCall mb p before a bytes → a.refusal ≡ 0 → HostSent mb (take a.bytes bytes) n message → HostPointOutOf mb p message n
