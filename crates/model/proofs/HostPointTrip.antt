-- The claim of W5 for a C host, proved: from the claim over the definitions, and that refusal 0 is no refusal.
use Prim.Native.Nat.{ℕ, ◌/◌, ◌≤◌, ◌<◌, min}
use mathlib.Core.Path.{◌≡◌, refl, sym, ◌∙◌, subst}
use mathlib.Core.List.{List}
use native.Mathlib.Omega.{arith}
use lib.ListN.{length}
use Rattle.model.specs.Work.{work_length, placed}
use Rattle.model.specs.PointAlong.{read, GivenPoint, own_leg, written, PointWrites}
use Rattle.model.specs.Host.{greatest_host_lines, word_bytes, host_room, host_point, host_point_lines_after, HostPointReadCall, HostPointWritten, HostPointWriteCall}
use Rattle.model.specs.PointTrip.{PointBack}
use Rattle.model.specs.HostPointTrip.{HostPointReadAs, HostPointBack, HostPointTrip}
use Rattle.model.proofs.PointRows.{no_point_write_refusal_is_0}
use Rattle.model.proofs.PointTrip.{point_trip}
use Rattle.model.proofs.CallsOnce.{host_point_read_once}
use Rattle.model.proofs.HostWrote.{HostWrote, point_wrote_by}

module _ (mb bytes : List ℕ) (p : GivenPoint) (given : PointBack mb p bytes) where
  reads : HostPointReadAs mb bytes p given.span
  unfolding host_room host_point_lines_after
  reads =
      let accepts : (before : List ℕ) → 4 ≤ length before →
      HostPointReadCall mb bytes before (host_point (read (own_leg p) given.span p.orientation p.side)) (placed (word_bytes (own_leg p)) before) =
      λ before enough.
      let holds : 0 < min (length before / 4) greatest_host_lines = omega (arith, enough) in
      record {
        answered = record {
          outcome = read (own_leg p) given.span p.orientation p.side;
          asked = given.reads.accepts work_length (host_room (length before)) (omega arith) holds;
          answers = refl;
          buffer_after = refl;
        };
      } in
      record { accepts = accepts; nothing_else = λ before after a enough call. host_point_read_once call (accepts before enough) }

  handed : HostPointBack mb p bytes
  handed = record { back = given; reads = reads }

pub host_point_wrote : {mb : List ℕ} {p : GivenPoint} {before after : List ℕ} {a : HostPointWritten} → HostPointWriteCall mb p before a after →
    a.refusal ≡ 0 → HostWrote (λ bs. PointWrites mb p work_length (length before) (written bs)) before after a.bytes
host_point_wrote {mb} {p} {before} {after} {a} c zero =
    point_wrote_by (PointWrites mb p work_length (length before)) (no_point_write_refusal_is_0 mb p work_length (length before)) before after a zero
    c.answered

pub host_point_trip : HostPointTrip
host_point_trip =
    record {
      back = λ mb p before after a call zero.
          let k = host_point_wrote call zero in
          rw k.first (handed mb k.list p (point_trip.back mb k.list p work_length (length before) k.writes));
      alike = λ mb p q before after before' after' a b call call' zero zero' same.
          let k = host_point_wrote call zero in
          let j = host_point_wrote call' zero' in
          let one : j.list ≡ k.list = sym j.first ∙ sym same ∙ k.first in
          let writes = subst (λ (bs : List ℕ). PointWrites mb q work_length (length before') (written bs)) one j.writes in
          rw k.first (point_trip.alike mb k.list p q work_length work_length (length before) (length before') k.writes writes);
    }
