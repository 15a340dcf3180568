-- What a C program wrote and then read, from demand 3 for a C host and the contracts of the two functions.
use Prim.Native.Nat.{ℕ, ◌≤◌}
use mathlib.Core.Path.{◌≡◌, refl, ap, subst}
use mathlib.Core.Logic.{◌≢◌}
use mathlib.Core.List.{List}
use native.Mathlib.Omega.{arith}
use lib.ListN.{length, take, drop, length-append}
use Rattle.model.specs.Work.{placed}
use Rattle.model.specs.Host.{host_stretch, HostRead, HostReadCall, HostWriteCall}
use Rattle.model.specs.Demand3.{Alike}
use Rattle.model.specs.HostDemand3.{HostBack}
use Rattle.model.proofs.HostDemand3.{host_wrote, host_demand3}
use Rattle.openlr.specs.Host.{as_written}
use Rattle.openlr.specs.declared.Written.{Written}
use Rattle.host_trip.specs.Trip.{HandedBack, WroteSo, Wrote, NotWritten}
use Rattle.host_trip.proofs.Answered.{nothing_written}

-- ---- the writer's answer, by its refusal

module _ {mb stretch : List ℕ} {pos neg tests : ℕ} {b b' : List ℕ} (r : Written) (call : HostWriteCall mb stretch pos neg tests b (as_written r) b') where
  pub wrote_so : r.refusal ≡ 0 → WroteSo mb stretch pos neg tests b b' r.bytes r.tests r.excess
  unfolding as_written
  wrote_so zero =
      subst (λ (n : ℕ). HostWriteCall mb stretch pos neg tests b (record { refusal = n; bytes = r.bytes; tests = r.tests; excess = r.excess }) b') zero call

  pub not_written : r.refusal ≢ 0 → NotWritten mb stretch pos neg tests b b' r.refusal
  unfolding as_written
  not_written some =
      let k = nothing_written r some call.answered.outcome call.answered.answers call.answered.buffer_after in (
        rw (k.bytes, k.tests, k.excess) at call,
        some,
        k.kept,
      )

pub so_wrote : {mb stretch : List ℕ} {pos neg tests : ℕ} {b b' : List ℕ} {count made excess : ℕ} → WroteSo mb stretch pos neg tests b b' count made excess →
    Wrote mb stretch pos neg tests b b' count
so_wrote so = (_, _, so)

-- ---- what was written is read

module _ {mb stretch : List ℕ} {pos neg tests : ℕ} {b b' : List ℕ} {count : ℕ} (k : Wrote mb stretch pos neg tests b b' count) where
  pub bytes_fit : length b' ≡ length b → count ≤ length b'
  unfolding placed
  bytes_fit same =
      let w = host_wrote k.2 refl in
      omega (arith, same, w.size, ap (λ (l : List ℕ). length l) w.placed_so, length-append w.list (drop (length w.list) b))

  pub handed_back : {l l' : List ℕ} {a : HostRead} (bs : List ℕ) → bs ≡ take count b' → HostReadCall mb bs l a l' →
      HandedBack mb (host_stretch stretch pos neg) tests bs l l' a
  handed_back {l} {l'} {a} bs e call =
      let h : HostBack mb (host_stretch stretch pos neg) tests bs = rw e (host_demand3.back mb stretch pos neg tests b b' _ k.2 refl) in
      record { back = h.back; call = call; accepts = λ enough. h.reads.nothing_else l l' a enough call }

-- Two stretches with the same bytes.
pub alike : {mb s t : List ℕ} {pos neg tests pos' neg' tests' : ℕ} {b b' o o' : List ℕ} {count size : ℕ} → Wrote mb s pos neg tests b b' count →
    Wrote mb t pos' neg' tests' o o' size → take count b' ≡ take size o' →
    Alike mb (take count b') (host_stretch s pos neg) (host_stretch t pos' neg') tests tests'
alike k j e = host_demand3.alike _ _ _ _ _ _ _ _ _ _ _ _ _ _ _ k.2 j.2 refl refl e
