-- A host's writer that gives a refusal has written nothing, of stretches or of points.
use Prim.Native.Nat.{ℕ}
use mathlib.Core.Path.{◌≡◌, ap}
use mathlib.Core.Logic.{◌≢◌}
use mathlib.Core.List.{List}
use Rattle.model.specs.Outcome.{WriteOutcome, written}
use Rattle.model.specs.PointAlong.{PointWriteOutcome, point_bytes_after}
use Rattle.model.specs.Host.{HostWritten, host_written, host_bytes_after, HostPointWritten, host_point_written}
use Rattle.openlr.specs.Host.{as_written, as_point_written}
use Rattle.openlr.specs.declared.Written.{Written}
use Rattle.openlr.specs.declared.point.PointWritten.{PointWritten}

pub record Nothing (r : Written) (b b' : List ℕ) : Type 0 where
  pub bytes : r.bytes ≡ 0
  pub tests : r.tests ≡ 0
  pub excess : r.excess ≡ 0
  pub kept : b' ≡ b

pub nothing_written : {b b' : List ℕ} (r : Written) → r.refusal ≢ 0 → (o : WriteOutcome) → as_written r ≡ host_written o → b' ≡ host_bytes_after o b →
    Nothing r b b'
unfolding as_written host_written host_bytes_after
nothing_written r some (written bs made excess) e f = absurd (some (ap (λ (x : HostWritten). x.refusal) e))
nothing_written r some (WriteOutcome.refused why) e f =
    record {
      bytes = ap (λ (x : HostWritten). x.bytes) e;
      tests = ap (λ (x : HostWritten). x.tests) e;
      excess = ap (λ (x : HostWritten). x.excess) e;
      kept = f;
    }

pub no_point_written : {b b' : List ℕ} (r : PointWritten) → r.refusal ≢ 0 → (o : PointWriteOutcome) → as_point_written r ≡ host_point_written o →
    b' ≡ point_bytes_after o b → (r.bytes ≡ 0) × (b' ≡ b)
unfolding as_point_written host_point_written point_bytes_after
no_point_written r some (PointWriteOutcome.written bs) e f = absurd (some (ap (λ (x : HostPointWritten). x.refusal) e))
no_point_written r some (PointWriteOutcome.refused why) e f = (ap (λ (x : HostPointWritten). x.bytes) e, f)
