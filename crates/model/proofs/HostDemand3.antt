-- Demand 3 for a C host, proved: from demand 3, and that refusal 0 is no refusal.
use Prim.Native.Nat.{ℕ, ◌*◌, ◌/◌, ◌≤◌, min}
use mathlib.Core.Path.{◌≡◌, refl, sym, subst, ◌∙◌}
use mathlib.Core.List.{List}
use native.Mathlib.Omega.{arith}
use lib.ListN.{length}
use Rattle.model.specs.Map.{Map}
use Rattle.model.specs.Stretch.{Stretch, remaining, greatest_stretch}
use Rattle.model.specs.Outcome.{read, written, Writes}
use Rattle.model.specs.Work.{work_length, placed}
use Rattle.model.specs.Host.{greatest_host_lines, word_bytes, host_stretch, host_room, host_read, host_lines_after, HostReadCall, HostWritten, HostWriteCall}
use Rattle.model.specs.Demand3.{ReadBack}
use Rattle.model.specs.HostDemand3.{HostReadAs, HostBack, HostDemand3}
use Rattle.model.proofs.Rows.{no_write_refusal_is_0}
use Rattle.model.proofs.Outcomes.{written_of}
use Rattle.model.proofs.Demand3.{demand3}
use Rattle.model.proofs.CallsOnce.{host_read_once}
use Rattle.model.proofs.HostWrote.{HostWrote, WithTests, wrote_by}

-- ---- what is written is read

module _ (mb bytes : List ℕ) (s : Stretch) (tests room made excess : ℕ) (writes : Writes mb s tests work_length room (written bytes made excess)) where
  given : ReadBack mb s tests bytes
  given = demand3.back mb bytes s tests work_length room made excess writes

  -- At most 64 lines are left, and so 1,024 hold them.
  few : length (remaining given.map s).lines ≤ greatest_stretch
  few =
      let k = written_of mb s tests bytes made excess room work_length writes in
      let same : given.map ≡ k.0 = cc (given.decodes, k.1.decodes) in
      subst (λ (m : Map). length (remaining m s).lines ≤ greatest_stretch) (sym same) k.1.left.few

  reads : HostReadAs mb bytes (remaining given.map s).lines given.pos given.neg
  unfolding host_room host_lines_after
  reads =
      let left = (remaining given.map s).lines in
      let accepts : (before : List ℕ) → 4 * length left ≤ length before →
      HostReadCall mb bytes before (host_read (read left given.pos given.neg)) (placed (word_bytes left) before) =
      λ before enough.
      let holds : length left ≤ min (length before / 4) greatest_host_lines = omega (arith, enough, few) in
      record {
        answered = record {
          outcome = read left given.pos given.neg;
          asked = given.reads.accepts work_length (host_room (length before)) (omega arith) holds;
          answers = refl;
          buffer_after = refl;
        };
      } in
      record { accepts = accepts; nothing_else = λ before after a enough call. host_read_once call (accepts before enough) }

  handed : HostBack mb s tests bytes
  handed = record { back = given; reads = reads }

-- ---- what a host's writer wrote

pub host_wrote : {mb stretch : List ℕ} {pos neg tests : ℕ} {before after : List ℕ} {a : HostWritten} →
    HostWriteCall mb stretch pos neg tests before a after → a.refusal ≡ 0 →
    HostWrote (WithTests (Writes mb (host_stretch stretch pos neg) tests work_length (length before))) before after a.bytes
host_wrote {mb} {stretch} {pos} {neg} {tests} {before} {after} {a} c zero =
    let s = host_stretch stretch pos neg in
    wrote_by (Writes mb s tests work_length (length before)) (no_write_refusal_is_0 mb s tests work_length (length before)) before after a zero c.answered

pub host_demand3 : HostDemand3
host_demand3 =
    record {
      back = λ mb stretch pos neg tests before after a call zero.
          let k = host_wrote call zero in
          rw k.first (handed mb k.list (host_stretch stretch pos neg) tests (length before) k.writes.0 k.writes.1 k.writes.2);
      alike = λ mb stretch stretch' pos neg tests pos' neg' tests' before after before' after' a b call call' zero zero' same.
          let k = host_wrote call zero in
          let j = host_wrote call' zero' in
          let one : j.list ≡ k.list = sym j.first ∙ sym same ∙ k.first in
          let writes = subst (λ (bs : List ℕ). WithTests (Writes mb (host_stretch stretch' pos' neg') tests' work_length (length before')) bs) one j.writes in
          rw k.first
          (demand3.alike mb k.list (host_stretch stretch pos neg) (host_stretch stretch' pos' neg') tests tests' work_length work_length (length before)
          (length before') k.writes.0 writes.0 k.writes.1 writes.1 k.writes.2 writes.2);
    }
