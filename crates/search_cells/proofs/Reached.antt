-- How many lines are reached, and that the list of them has no more.
use Prim.Native.Nat.{ℕ, zero, suc, ◌-◌, ◌/◌, ◌≤◌, ◌<◌}
use mathlib.Core.Path.{◌≡◌, refl, sym, ◌∙◌, subst}
use mathlib.Core.List.{List}
use mathlib.Core.Logic.{⊎_elim}
use native.Mathlib.Nat.{eq-or-lt_of_le}
use native.Mathlib.Omega.{arith}
use Rattle.search_cells.specs.Area.{length_to, listed, far, sum, reached, Listing}

pub sum_le : (f g : ℕ → ℕ) (n : ℕ) → ((l : ℕ) → l < n → f l ≤ g l) → sum f n ≤ sum g n
sum_le f g zero h = omega arith
sum_le f g (suc n) h = omega (arith, sum_le f g n (λ l l<. h l (omega arith)), h n (omega arith))

pub sum_less : (f g : ℕ → ℕ) (n j : ℕ) → j < n → f j < g j → ((l : ℕ) → l < n → f l ≤ g l) → sum f n < sum g n
sum_less f g zero j j< d h = absurd (omega arith)
sum_less f g (suc n) j j< d h =
    ⊎_elim
    (λ e. omega (arith, sum_le f g n (λ l l<. h l (omega arith)), subst (λ (k : ℕ). f k < g k) e d))
    (λ l. omega (arith, sum_less f g n j l d (λ l l<. h l (omega arith)), h n (omega arith)))
    (eq-or-lt_of_le {n = j} {m = n} (omega arith))

pub reached_le : (w : List ℕ) (n : ℕ) → reached w n ≤ n
reached_le w zero = omega arith
reached_le w (suc n) = omega (arith, reached_le w n)

ones : (n : ℕ) → sum (λ l. 1) n ≡ n
ones zero = refl
ones (suc n) = omega (arith, ones n)

-- Where a line is not reached there is room for it on the list.
pub room_left : {w : List ℕ} {n count j : ℕ} → Listing w n count → j < n → far ≤ length_to w j → count < n
room_left {w} {n} {count} {j} k j< far' =
    omega (arith, k.room, ones n, sum_less (λ l. 1 - length_to w l / far) (λ l. 1) n j j< (omega arith) (λ l l<. omega arith))

pub count_le : {w : List ℕ} {n count : ℕ} → Listing w n count → count ≤ n
count_le {w} {n} k = omega (arith, k.room, reached_le w n)

pub listing_none : {w : List ℕ} {n : ℕ} → ((l : ℕ) → l < n → far ≤ length_to w l) → ((i : ℕ) → i < n → listed w i ≡ 0) → Listing w n 0
listing_none all none =
    record {
      some = λ i i<. absurd (omega arith);
      none = λ i c i<. none i i<;
      every = λ l l< d. absurd (omega (arith, all l l<));
      only = λ i i<. absurd (omega arith);
      once = λ i k i<. absurd (omega arith);
      room = omega arith;
    }

-- The list is what it was where its cells and the lengths are.
pub listing_same : {n count : ℕ} {w v : List ℕ} → ((l : ℕ) → l < n → length_to v l ≡ length_to w l) →
    ((i : ℕ) → i < n → listed v i ≡ listed w i) → Listing w n count → Listing v n count
listing_same {n} {count} {w} {v} e f k =
    let c≤ = count_le k in
    record {
      some = λ i i<. rw (f i (omega arith)) (k.some i i<);
      none = λ i c i<. f i i< ∙ k.none i c i<;
      every = λ l l< d.
          let a = k.every l l< (omega (arith, e l l<)) in (a.0, a.1, f a.0 (omega (arith, a.1)) ∙ a.2);
      only = λ i i<. rw (f i (omega arith)) (let a = k.some i i< in omega (arith, e (listed w i - 1) (omega arith), k.only i i<));
      once = λ i j i< j< z. k.once i j i< j< (sym (f i (omega arith)) ∙ z ∙ f j (omega arith));
      room = omega
          (arith, k.room, sum_le (λ l. 1 - length_to w l / far) (λ l. 1 - length_to v l / far) n (λ l l<. omega (arith, e l l<)));
    }
