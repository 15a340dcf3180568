-- A line is put into the queue before any line of it is gone on from.
use Rattle.search_cells.specs.Area.{queued}
use Prim.Native.Nat.{ℕ, ◌+◌, ◌≤◌, ◌<◌}
use mathlib.Core.Path.{◌≡◌, refl, ◌∙◌}
use mathlib.Core.List.{List}
use mathlib.Core.Logic.{◌⊎◌, inl, inr, ⊎_elim}
use native.Mathlib.Omega.{arith}
use Rattle.work_area.specs.Area.{queue_from}
use lib.ListN.{length, set}
use lib.Seq.{get_or-set_same, get_or-set_other}
use Rattle.buffers.proofs.Kept.{kept_then, kept_within, kept_set}
use Rattle.search_cells.specs.Promises.{Inserted}
use Rattle.search.specs.Seeds.{InsertedSeed}
use Rattle.buffers.proofs.Cases.{le_or_lt}
use Rattle.relaxation.proofs.Queueing.{queued_in, ordered_more}

module _ {end key : ℕ} {w v : List ℕ} (s : Inserted 0 end key w v) where
  still_in : (k : ℕ) → k < end → (i : ℕ) × (i < end + 1) × (queued v i ≡ queued w k)
  still_in k k< =
      ⊎_elim (λ z. (k + 1, omega arith, s.moved k z k<)) (λ z. (k, omega arith, s.before k z)) (le_or_lt s.at k)

  pub seed_behind : InsertedSeed end key w v
  seed_behind =
      let t = s.inside in
      record {
        ordered = λ o i k i≤ k<. ordered_more s (λ i k p≤ i≤ k<. o i k i≤ k<) i k (omega arith) i≤ k<;
        queue = λ i i<.
            queued_in s (λ y. (y ≡ key) ⊎ ((k : ℕ) × (k < end) × (y ≡ queued w k))) (inl refl) (λ i p≤ i<. inr (i, i<, refl)) i (omega arith) i<;
        still = still_in;
        here = (s.at, omega arith, s.here);
        kept = kept_within (omega arith) (omega arith) s.kept;
      }

-- The new key is before all others: it takes the first place, and what stood there is put behind it.
module _ {end key : ℕ} (w : List ℕ) {v : List ℕ} (full : queue_from < length w) (some : 0 < end) (less : key < queued w 0)
    (s : Inserted 0 end (queued w 0) (set w queue_from key) v) where
  first_now : queued (set w queue_from key) 0 ≡ key
  first_now = get_or-set_same w queue_from key 0 full

  rest_now : (k : ℕ) → 0 < k → queued (set w queue_from key) k ≡ queued w k
  rest_now k pos = get_or-set_other w queue_from (queue_from + k) key 0 (omega arith)

  ordered_now : ((i k : ℕ) → i ≤ k → k < end → queued w i ≤ queued w k) → (i k : ℕ) → 0 ≤ i → i ≤ k → k < end →
      queued (set w queue_from key) i ≤ queued (set w queue_from key) k
  ordered_now o i k p≤ i≤ k< =
      ⊎_elim
      (λ z.
      let e : i ≡ 0 = omega arith in
      rw e
      (⊎_elim
      (λ y. let f : k ≡ 0 = omega arith in rw f (omega arith))
      (λ y. omega (arith, first_now, rest_now k y, o 0 k (omega arith) k<))
      (le_or_lt k 0)))
      (λ z. omega (arith, rest_now i z, rest_now k (omega arith), o i k i≤ k<))
      (le_or_lt i 0)

  pub seed_before : InsertedSeed end key w v
  seed_before =
      let b = s.behind in
      let t = s.inside in
      record {
        ordered = λ o i k i≤ k<. ordered_more s (ordered_now o) i k (omega arith) i≤ k<;
        queue = λ i i<.
            queued_in s (λ y. (y ≡ key) ⊎ ((k : ℕ) × (k < end) × (y ≡ queued w k))) (inr (0, some, refl))
            (λ i p≤ i<.
            ⊎_elim (λ z. inl (let e : i ≡ 0 = omega arith in rw e first_now)) (λ z. inr (i, i<, rest_now i z)) (le_or_lt i 0))
            i (omega arith) i<;
        still = λ k k<.
            ⊎_elim
            (λ z. let e : k ≡ 0 = omega arith in (s.at, omega arith, rw e s.here))
            (λ z. let a = still_in s k k< in (a.0, a.1, a.2 ∙ rest_now k z))
            (le_or_lt k 0);
        here = (0, omega arith, s.before 0 b ∙ first_now);
        kept = kept_then (kept_set queue_from key (omega arith) (omega arith)) (kept_within (omega arith) (omega arith) s.kept);
      }
