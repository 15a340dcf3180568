-- What stands in the queue where it is the same, and once a line is put into it.
use Rattle.search_cells.specs.Area.{queued, line_of}
use Prim.Native.Nat.{ℕ, ◌+◌, ◌-◌, ◌≤◌, ◌<◌}
use mathlib.Core.Path.{◌≡◌, sym, ◌∙◌, ap, subst}
use mathlib.Core.List.{List}
use mathlib.Core.Logic.{◌⊎◌, inl, inr, ⊎_elim}
use native.Mathlib.Nat.{eq-or-lt_of_le}
use native.Mathlib.Omega.{arith}
use Rattle.work_area.specs.Area.{queue_from}
use Rattle.model.specs.Map.{greatest_line_count, Map}
use mathlib.Core.Bool.{Bool}
use Rattle.relaxation.specs.Underway.{Waits}
use Rattle.search_cells.specs.Promises.{Put, Sent, Inserted}
use Rattle.buffers.proofs.Cases.{le_or_lt}

-- Up to where a line is put into it the queue is unchanged.
pub queue_kept : {m : Map} {limit j note x count : ℕ} {sent : Bool} {w u v : List ℕ} → Put j note x count w u → Sent m limit j u v sent → (i : ℕ) →
    i < greatest_line_count → queued v i ≡ queued w i
queue_kept p s i i< = s.kept.below (queue_from + i) (omega arith) ∙ p.rest (queue_from + i) (omega arith) (omega arith)

-- Where the queue is the same, so is what waits in it, and so is its order.
module _ {place end : ℕ} (w v : List ℕ) (same : (i : ℕ) → i < end → queued v i ≡ queued w i) where
  pub waits_same : {l : ℕ} → Waits place end w l → Waits place end v l
  waits_same y = (y.0, y.1, y.2, ap line_of (same y.0 y.2) ∙ y.3)

  pub ordered_same : ((i k : ℕ) → place ≤ i → i ≤ k → k < end → queued w i ≤ queued w k) → (i k : ℕ) → place ≤ i → i ≤ k → k < end → queued v i ≤ queued v k
  ordered_same o i k p≤ i≤ k< = omega (arith, same i (omega arith), same k k<, o i k p≤ i≤ k<)

three : (i k : ℕ) → (i < k) ⊎ ((i ≡ k) ⊎ (k < i))
three i k = ⊎_elim (λ z. inr (⊎_elim (λ e. inl (sym e)) (λ l. inr l) (eq-or-lt_of_le {n = k} {m = i} z))) (λ z. inl z) (le_or_lt k i)

module _ {place end key : ℕ} {w v : List ℕ} (s : Inserted place end key w v) where
  -- What stands behind the new key stood one place before.
  behind : (i : ℕ) → s.at < i → i < end + 1 → queued v i ≡ queued w (i - 1)
  behind i at< i< = let e : i - 1 + 1 ≡ i = omega arith in subst (λ (k : ℕ). queued v k ≡ queued w (i - 1)) e (s.moved (i - 1) (omega arith) (omega arith))

  pub queued_in : (P : ℕ → Type 0) → P key → ((i : ℕ) → place ≤ i → i < end → P (queued w i)) → (i : ℕ) → place ≤ i → i < end + 1 → P (queued v i)
  queued_in P new old i p≤ i< =
      let b = s.behind in
      let t = s.inside in
      ⊎_elim
      (λ z. rw (s.before i z) (old i p≤ (omega arith)))
      (⊎_elim
      (λ z. rw z (rw s.here new))
      (λ z. rw (behind i z i<) (old (i - 1) (omega arith) (omega arith))))
      (three i s.at)

  pub waits_more : {l : ℕ} → Waits place end w l → Waits place (end + 1) v l
  waits_more a =
      let i = a.0 in
      ⊎_elim
      (λ z. (i + 1, omega (arith, a.1), omega (arith, a.2), ap line_of (s.moved i z a.2) ∙ a.3))
      (λ z. (i, a.1, omega (arith, a.2), ap line_of (s.before i z) ∙ a.3))
      (le_or_lt s.at i)

  pub waits_new : {l : ℕ} → line_of key ≡ l → Waits place (end + 1) v l
  waits_new e = let b = s.behind in let t = s.inside in (s.at, omega arith, omega arith, ap line_of s.here ∙ e)

  pub ordered_more : ((i k : ℕ) → place ≤ i → i ≤ k → k < end → queued w i ≤ queued w k) → (i k : ℕ) → place ≤ i → i ≤ k → k < end + 1 → queued v i ≤ queued v k
  ordered_more o i k p≤ i≤ k< =
      let b = s.behind in
      let t = s.inside in
      ⊎_elim
      (λ x.
      ⊎_elim
      (λ y. omega (arith, s.before i x, s.before k y, o i k p≤ i≤ (omega arith)))
      (⊎_elim
      (λ y. rw y (omega (arith, s.before i x, s.here, s.least, o i (s.at - 1) p≤ (omega arith) (omega arith))))
      (λ y. omega (arith, s.before i x, behind k y k<, o i (k - 1) p≤ (omega arith) (omega arith))))
      (three k s.at))
      (⊎_elim
      (λ x.
      ⊎_elim
      (λ y. absurd (omega arith))
      (⊎_elim
      (λ y. let e : i ≡ k = x ∙ sym y in rw e (omega arith))
      (λ y. rw x (omega (arith, s.here, behind k y k<, s.greater (k - 1) (omega arith) (omega arith)))))
      (three k s.at))
      (λ x. omega (arith, behind i x (omega arith), behind k (omega arith) k<, o (i - 1) (k - 1) (omega arith) (omega arith) (omega arith))))
      (three i s.at)
