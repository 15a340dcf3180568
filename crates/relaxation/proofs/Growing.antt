-- What a step of a search leaves as it was: lengths that are found, ties, and what is taken into account.
use Rattle.model.specs.Map.{Map}
use Rattle.model.specs.Reading.{greatest_leg_length}
use Rattle.search_cells.specs.Area.{far, length_to, Tie}
use Prim.Native.Nat.{ℕ, ◌≤◌, ◌<◌}
use mathlib.Core.Path.{◌≡◌, refl, ◌∙◌}
use mathlib.Core.List.{List}
use mathlib.Core.Logic.{inl, inr, ⊎_elim}
use native.Mathlib.Omega.{arith}
use lib.ListN.{length}
use Rattle.relaxation.specs.Underway.{FreeReached, Backed, Counted, Settled, Grew}
use Rattle.way_lengths.proofs.Follows.{known}
use Rattle.buffers.proofs.Cases.{le_or_lt}

pub grew_none : {m : Map} {n c d : ℕ} {w : List ℕ} → Grew m n c d w w
grew_none = record { same = λ k k< z. refl; notes = λ k k< z. inl refl; new = λ k k< z y. absurd (omega arith) }

pub grew_then : {m : Map} {n c d : ℕ} {u w v : List ℕ} → Grew m n c d u w → Grew m n c d w v → Grew m n c d u v
grew_then {m} {n} {c} {d} {u} {w} {v} r s =
    let reached : (k : ℕ) → k < n → length_to u k < far → length_to w k < far = λ k k< z. omega (arith, r.same k k< z) in
    record {
      same = λ k k< z. s.same k k< (reached k k< z) ∙ r.same k k< z;
      notes = λ k k< z.
          ⊎_elim
          (λ e. ⊎_elim (λ f. inl (f ∙ e)) (λ f. ⊎_elim (λ b. inr (inl b)) (λ b. inr (inr (omega arith))) f) (s.notes k k< (reached k k< z)))
          (λ e.
          ⊎_elim
          (λ b. ⊎_elim (λ f. inr (inl (omega arith))) (λ f. ⊎_elim (λ b. inr (inl b)) (λ o. absurd (omega arith)) f) (s.notes k k< (reached k k< z)))
          (λ o. inr (inr o))
          e)
          (r.notes k k< z);
      new = λ k k< z y.
          ⊎_elim
          (λ still. s.new k k< still y)
          (λ now. let a = r.new k k< z now in (a.0, omega (arith, a.1, s.same k k< now)))
          (le_or_lt far (length_to w k));
    }

module _ {m : Map} {n c d : ℕ} {w v : List ℕ} (r : Grew m n c d w v) where
  pub free_grew : {k : ℕ} → FreeReached m n w k → FreeReached m n v k
  free_grew a = record { line = a.line; free = a.free; reached = let z = a.reached in omega (arith, r.same _ a.line z) }

  module _ {a j : ℕ} (all : length m.lines ≡ n) (j< : j < n) where
    pub tie_grew : length_to w j < far → Tie m w a j → Tie m v a j
    tie_grew z t =
        let k = t.known in
        let e = t.equal in
        record { known = k; follows = t.follows; equal = omega (arith, r.same a (omega arith) (omega arith), r.same j j< z) }

    tie_back : length_to w a < far → length_to w j < far → Tie m v a j → Tie m w a j
    tie_back y z t =
        let k = t.known in
        record { known = k; follows = t.follows; equal = omega (arith, t.equal, r.same a (omega arith) y, r.same j j< z) }

  pub backed_grew : {j x : ℕ} → length m.lines ≡ n → j < n → length_to w j < far → Backed m w j x → Backed m v j x
  backed_grew all j< z b =
      record {
        one = λ p q. tie_grew all j< z (b.one p q);
        many = λ p. let t = b.many p in (t.0, t.1, tie_grew all j< z t.2, tie_grew all j< z t.3, t.4);
      }

  module _ {limit note l : ℕ} (small : limit ≤ greatest_leg_length) (all : length m.lines ≡ n) (l< : l < n) (z : length_to w l < far) where
    pub counted_grew : {j : ℕ} → j < n → Counted m c limit note l j w → Counted m c limit note l j v
    counted_grew {j} j< k = ⊎_elim fresh found (le_or_lt far (length_to w j))
      where
        found : length_to w j < far → Counted m c limit note l j v
        found y =
            let e = r.same l l< z in
            let f = r.same j j< y in
            record {
              tight = λ ok near. omega (arith, k.tight ok (omega arith));
              noted = λ near t.
                  let b = k.noted (omega arith) (tie_back all j< z y t) in
                  ⊎_elim
                  (λ s. rw s b)
                  (λ s. ⊎_elim (λ big. (omega arith, λ low. absurd (omega arith))) (λ o. absurd (omega (arith, b.0))) s)
                  (r.notes j j< y);
            }

        fresh : far ≤ length_to w j → Counted m c limit note l j v
        fresh y =
            let e = r.same l l< z in
            record {
              tight = λ ok near. absurd (omega (arith, k.tight ok (omega arith)));
              noted = λ near t.
                  let o = r.new j j< y (omega arith) in
                  absurd (omega (arith, t.equal, k.tight o.0 (omega (arith, t.equal))));
            }

  pub settled_grew : {limit l : ℕ} → limit ≤ greatest_leg_length → length m.lines ≡ n → l < n → length_to w l < far → Settled m c limit w l →
      Settled m c limit v l
  settled_grew small all l< z s j f = counted_grew small all l< z (let to = known f in omega arith) (s j f)
