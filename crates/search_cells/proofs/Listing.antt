-- The list of the reached lines has one line more.
use Rattle.model.specs.Map.{greatest_line_count}
use Rattle.search_cells.specs.Area.{far, Listing, length_to, listed, reached}
use Prim.Native.Nat.{ℕ, ◌+◌, ◌-◌, ◌/◌, ◌≤◌, ◌<◌}
use mathlib.Core.Path.{◌≡◌, refl, sym, ◌∙◌, subst}
use mathlib.Core.List.{List}
use mathlib.Core.Logic.{◌≢◌}
use native.Mathlib.Omega.{arith}
use Rattle.search_cells.specs.Promises.{Put}
use Rattle.buffers.proofs.Cases.{here_or}
use Rattle.search_cells.proofs.Reached.{sum_less, count_le}

pub listing_more : {n count j note x : ℕ} {w v : List ℕ} → n ≤ greatest_line_count → j < n → far ≤ length_to w j → x < far → Put j note x count w v →
    Listing w n count → Listing v n (count + 1)
listing_more {n} {count} {j} {note} {x} {w} {v} n≤ j< fresh near d k =
    let c≤ = count_le k in
    record {
      some = here_or (λ i. i < count + 1 → (0 < listed v i) × (listed v i ≤ n)) count
          (λ i<. (omega (arith, d.last), omega (arith, d.last)))
          (λ i o i<. rw (d.list i (omega arith) o) (k.some i (omega (arith, o))));
      none = λ i c≤ i<. d.list i (omega arith) (λ z. omega arith) ∙ k.none i (omega arith) i<;
      every = here_or (λ l. l < n → length_to v l < far → (i : ℕ) × (i < count + 1) × (listed v i ≡ l + 1)) j
          (λ l< z. (count, omega arith, d.last))
          (λ l o l< z.
          let a = k.every l l< (omega (arith, (d.others l (omega arith) o).0)) in
          (a.0, omega (arith, a.1), d.list a.0 (omega (arith, a.1)) (λ t. omega (arith, a.1)) ∙ a.2));
      only = here_or (λ i. i < count + 1 → length_to v (listed v i - 1) < far) count
          (λ i<. let z : listed v count - 1 ≡ j = omega (arith, d.last) in rw z (omega (arith, d.found)))
          (λ i o i<. rw (d.list i (omega arith) o) (still i (omega (arith, o))));
      once = λ i l i< l<. once i i< l l<;
      room = omega (arith, k.room, more);
    }
  where
    c≤ : count ≤ n
    c≤ = count_le k

    same : (l : ℕ) → l < n → l ≢ j → length_to v l ≡ length_to w l
    same l l< o = (d.others l (omega arith) o).0

    more : reached w n < reached v n
    more =
        sum_less (λ l. 1 - length_to w l / far) (λ l. 1 - length_to v l / far) n j j< (omega (arith, d.found))
        (here_or (λ l. l < n → 1 - length_to w l / far ≤ 1 - length_to v l / far) j (λ l<. omega (arith, d.found)) (λ l o l<. omega (arith, same l l< o)))

    apart : (i : ℕ) → i < count → listed w i ≡ j + 1 → ⊥
    apart i i< z =
        let t : listed w i - 1 ≡ j = omega arith in
        omega (arith, subst (λ (l : ℕ). length_to w l < far) t (k.only i i<))

    still : (i : ℕ) → i < count → length_to v (listed w i - 1) < far
    still i i< =
        let a = k.some i i< in
        omega (arith, k.only i i<, same (listed w i - 1) (omega arith) (λ z. apart i i< (omega arith)))

    old : (i : ℕ) → i < count + 1 → i ≢ count → (i < count) × (listed v i ≡ listed w i)
    old i i< o = (omega (arith, o), d.list i (omega (arith, o, c≤)) o)

    once : (i : ℕ) → i < count + 1 → (l : ℕ) → l < count + 1 → listed v i ≡ listed v l → i ≡ l
    once =
        here_or (λ i. i < count + 1 → (l : ℕ) → l < count + 1 → listed v i ≡ listed v l → i ≡ l) count
        (λ i<.
        here_or (λ l. l < count + 1 → listed v count ≡ listed v l → count ≡ l) count
        (λ l< z. refl)
        (λ l o l< z. let a = old l l< o in absurd (apart l a.0 (sym a.1 ∙ sym z ∙ d.last))))
        (λ i o i<.
        let a = old i i< o in
        here_or (λ l. l < count + 1 → listed v i ≡ listed v l → i ≡ l) count
        (λ l< z. absurd (apart i a.0 (sym a.1 ∙ z ∙ d.last)))
        (λ l p l< z. let b = old l l< p in k.once i l a.0 b.0 (sym a.1 ∙ z ∙ b.1)))
