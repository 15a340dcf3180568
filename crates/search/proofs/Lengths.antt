-- Where nothing waits the lengths are least, and the notes are right.
use Rattle.search_cells.specs.Area.{several, length_to, predecessor, Tie, Tied}
use Prim.Native.Nat.{ℕ, ◌+◌, ◌-◌, ◌≤◌, ◌<◌}
use mathlib.Core.Path.{◌≡◌}
use mathlib.Core.List.{List}
use mathlib.Core.Logic.{⊎_elim}
use native.Mathlib.Omega.{arith}
use Rattle.model.specs.Lines.{Follows, total}
use Rattle.way_lengths.specs.Ways.{line, Distance}
use Rattle.relaxation.specs.Underway.{Task, Counted, Underway}
use Rattle.search.specs.Seeds.{Based}
use Rattle.way_lengths.proofs.Plain.{Grown, one, more, total_more, total_one, grown_of, last_known}
use Rattle.buffers.proofs.Cases.{le_or_lt}

module _ {q : Task} {n c limit place count end : ℕ} {w : List ℕ} (g : Underway q n c limit place count end w)
    (b : Based q.map n c q.from limit w) (done : end ≤ place) where
  all : (l j : ℕ) → l < n → length_to w l ≤ limit → Follows q.map l j → Counted q.map c limit (l + 1) l j w
  all l j l< near f =
      ⊎_elim
      (λ s. s j f)
      (⊎_elim (λ y. absurd (omega (arith, y.1, y.2))) (λ y. absurd (omega (arith, y.1.1, y.1.2))))
      (g.standing l l< (let s = g.small in omega arith))

  below : {l : ℕ} {r : List ℕ} → Grown q.map c q.from l r → total q.map r ≤ limit → length_to w l ≤ total q.map r
  below {l} (one i s k) t =
      let h = g.held.line_count in
      omega (arith, b l (omega arith) s k (omega (arith, total_one q.map l)), total_one q.map l)
  below (more {l} {j} {ls = r} p f k) t =
      let from = last_known p in
      let h = g.held in
      let e = total_more q.map r j in
      let d = below p (omega arith) in
      omega (arith, (all l j (omega arith) (omega arith) f).tight k (omega arith))

  pub settled : (l : ℕ) → l < n → Distance q.map c q.from limit (line l) (length_to w l)
  settled l l< =
      record {
        near = λ d. record {
          some = g.real l l< (let s = g.small in omega arith);
          least = λ r p. ⊎_elim (λ t. below (grown_of p) t) (λ t. omega arith) (le_or_lt (total q.map r) limit);
        };
        far = λ d r p. ⊎_elim (λ t. absurd (omega (arith, below (grown_of p) t))) (λ t. t) (le_or_lt (total q.map r) limit);
      }

  notes : {j : ℕ} → length_to w j ≤ limit → (l : ℕ) → Tie q.map w l j → (0 < predecessor w j) × (predecessor w j < several → l ≡ predecessor w j - 1)
  notes {j} near l t =
      let h = g.held in
      let from = t.known in
      let x = (all l j (omega arith) (omega (arith, t.equal)) t.follows).noted near t in
      (x.0, λ low. omega (arith, x.1 low))

  pub tied : Tied q.map n limit w
  tied j j< near =
      let h = g.held in
      let k = g.backed j j< (let s = g.small in omega arith) in
      record {
        none = λ z l l< t. omega (arith, (notes near l t).0);
        tie = k.one;
        one = λ a b l l< t. (notes near l t).1 b;
        below = λ a. ⊎_elim (λ z. omega arith) (λ z. let t = (k.one z a).known in omega arith) (le_or_lt (predecessor w j) 0);
        many = k.many;
      }
