-- A point that a C program wrote and then read, from the claim for a C host and the contracts of the two functions.
use Prim.Native.Nat.{ℕ, ◌≤◌}
use mathlib.Core.Path.{◌≡◌, refl, ap, subst}
use mathlib.Core.Logic.{◌≢◌}
use mathlib.Core.List.{List}
use native.Mathlib.Omega.{arith}
use lib.ListN.{length, take, drop, length-append}
use Rattle.model.specs.Work.{placed}
use Rattle.model.specs.PointAlong.{GivenPoint}
use Rattle.model.specs.Host.{HostPoint, HostPointReadCall, HostPointWriteCall}
use Rattle.model.specs.PointTrip.{PointsAlike}
use Rattle.model.specs.HostPointTrip.{HostPointBack}
use Rattle.model.proofs.HostPointTrip.{host_point_wrote, host_point_trip}
use Rattle.openlr.specs.Host.{as_point_written}
use Rattle.openlr.specs.declared.point.PointWritten.{PointWritten}
use Rattle.host_trip.specs.PointTold.{HandedPoint, WrotePoint, NoPoint}
use Rattle.host_trip.proofs.Answered.{no_point_written}

-- ---- the writer's answer, by its refusal

module _ {mb : List ℕ} {p : GivenPoint} {b b' : List ℕ} (r : PointWritten) (call : HostPointWriteCall mb p b (as_point_written r) b') where
  pub wrote_point : r.refusal ≡ 0 → WrotePoint mb p b b' r.bytes
  unfolding as_point_written
  wrote_point zero = subst (λ (n : ℕ). HostPointWriteCall mb p b (record { refusal = n; bytes = r.bytes }) b') zero call

  pub no_point : r.refusal ≢ 0 → NoPoint mb p b b' r.refusal
  unfolding as_point_written
  no_point some =
      let k = no_point_written r some call.answered.outcome call.answered.answers call.answered.buffer_after in
      (subst (λ (n : ℕ). HostPointWriteCall mb p b (record { refusal = r.refusal; bytes = n }) b') k.0 call, some, k.1)

-- ---- what was written is read

module _ {mb : List ℕ} {p : GivenPoint} {b b' : List ℕ} {count : ℕ} (k : WrotePoint mb p b b' count) where
  pub point_fits : length b' ≡ length b → count ≤ length b'
  unfolding placed
  point_fits same =
      let w = host_point_wrote k refl in
      omega (arith, same, w.size, ap (λ (l : List ℕ). length l) w.placed_so, length-append w.list (drop (length w.list) b))

  pub handed_point : {l l' : List ℕ} {a : HostPoint} (bs : List ℕ) → bs ≡ take count b' → HostPointReadCall mb bs l a l' → HandedPoint mb p bs l l' a
  handed_point {l} {l'} {a} bs e call =
      let h : HostPointBack mb p bs = rw e (host_point_trip.back mb p b b' (record { refusal = 0; bytes = count }) k refl) in
      record { back = h.back; call = call; accepts = λ enough. h.reads.nothing_else l l' a enough call }

-- Two points with the same bytes.
pub points_alike : {mb : List ℕ} {p q : GivenPoint} {b b' o o' : List ℕ} {count size : ℕ} → WrotePoint mb p b b' count → WrotePoint mb q o o' size →
    take count b' ≡ take size o' → PointsAlike mb (take count b') p q
points_alike k j e = host_point_trip.alike _ _ _ _ _ _ _ _ _ k j refl refl e
