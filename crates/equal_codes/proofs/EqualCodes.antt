-- Two nodes with the same pair of codes, looked for from the last node back, by the codes in the work area.
use Prim.Native.Nat.{ℕ, zero, suc, ◌+◌, ◌≤◌, ◌<◌}
use mathlib.Core.Path.{◌≡◌, refl, sym, ap, ap₂, subst, ◌∙◌}
use mathlib.Core.Bool.{Bool, true, false, ◌&&◌, ◌||◌, or-true, or-false, or_assoc}
use mathlib.Core.List.{List, [], ◌∷◌, ◌++◌}
use native.Mathlib.Decide.{dec_lt}
use native.Mathlib.Omega.{arith}
use lib.ListN.{length, get_or}
use lib.Seq.{sets}
use borrow.Author.Count.{below_more}
use lib.Dec.{eqb}
use borrow.Author.Tests.{eqb-true, eqb-false, eq-eqb, ne_eqb}
use Rattle.model.specs.Map.{Node, lon_code, lat_code, same_codes, among, clash, greatest_node_count}
use Rattle.buffers.specs.Kept.{Kept}
use Rattle.work_area.specs.Held.{held_node, numbered, held_nodes}
use Rattle.work_area.specs.Area.{codes_from, chains_from, codes_to}
use Rattle.equal_codes.specs.Codes.{codes_at, CodedAt, Coded, CodesPut, NoChains, EqualFound}
use Rattle.work_area.proofs.Held.{node_same, nodes_same}
use Rattle.buffers.proofs.Kept.{kept_over}
use Rattle.buffers.proofs.Stored.{stored, stored_first}

-- ---- tests joined by `or`

crossed : (p q r s : Bool) → ((p || q) || (r || s)) ≡ ((p || r) || (q || s))
crossed true q r s = refl
crossed false true true s = refl
crossed false true false s = refl
crossed false false r s = refl

-- A test over the first n, that grows by one test at a time.
module _ (p q : ℕ → Bool) (none : p zero ≡ false) (grows : (n : ℕ) → p (suc n) ≡ (p n || q n)) where
  any_false : (n : ℕ) → ((k : ℕ) → k < n → q k ≡ false) → p n ≡ false
  any_false zero h = none
  any_false (suc n) h = grows n ∙ ap₂ ◌||◌ (any_false n (λ k l. h k (omega arith))) (h n (omega arith))

  any_true : (n k : ℕ) → k < n → q k ≡ true → p n ≡ true
  any_true zero k l e = absurd (omega arith)
  any_true (suc n) k l e = grows n ∙ go (dec_lt k n) (λ h. any_true n k h e)
    where
      go : Dec (k < n) → (k < n → p n ≡ true) → (p n || q n) ≡ true
      go (yes h) f = ap (λ (x : Bool). x || q n) (f h)
      go (no h) f =
          let s : k ≡ n = omega arith in
          ap (λ (x : Bool). p n || x) (subst (λ (j : ℕ). q j ≡ true) s e) ∙ or-true (p n)

-- ---- the definitions, from the back

eqb_sym : (a b : ℕ) → eqb a b ≡ eqb b a
eqb_sym a b = go (eqb a b) refl
  where
    go : (t : Bool) → eqb a b ≡ t → eqb a b ≡ eqb b a
    go true e = e ∙ sym (eq-eqb b a (sym (eqb-true a b e)))
    go false e = e ∙ sym (ne_eqb b a (λ h. eqb-false a b e (sym h)))

same_sym : (a b : Node) → same_codes a b ≡ same_codes b a
unfolding same_codes
same_sym a b = ap₂ ◌&&◌ (eqb_sym (lon_code a) (lon_code b)) (eqb_sym (lat_code a) (lat_code b))

among_last : (a b : Node) (l : List Node) → among a (l ++ b ∷ []) ≡ (among a l || same_codes a b)
unfolding among
among_last a b [] = or-false (same_codes a b)
among_last a b (x ∷ l) =
    ap (λ (t : Bool). same_codes a x || t) (among_last a b l) ∙ sym (or_assoc (same_codes a x) (among a l) (same_codes a b))

clash_last : (a : Node) (l : List Node) → clash (l ++ a ∷ []) ≡ (clash l || among a l)
unfolding among clash
clash_last a [] = refl
clash_last a (x ∷ l) =
    ap₂ ◌||◌ (among_last x a l ∙ ap (λ (t : Bool). among x l || t) (same_sym x a)) (clash_last a l)
    ∙ crossed (among x l) (same_codes a x) (clash l) (among a l)

module _ (w : List ℕ) where
  module _ (a : Node) where
    among_none : among a (held_nodes w zero) ≡ false
    unfolding among numbered
    among_none = refl

    among_grows : (n : ℕ) → among a (held_nodes w (suc n)) ≡ (among a (held_nodes w n) || same_codes a (held_node w n))
    unfolding numbered
    among_grows n = among_last a (held_node w n) (held_nodes w n)

    pub among_false : (n : ℕ) → ((k : ℕ) → k < n → same_codes a (held_node w k) ≡ false) → among a (held_nodes w n) ≡ false
    among_false = any_false (λ n. among a (held_nodes w n)) (λ n. same_codes a (held_node w n)) among_none among_grows

    pub among_true : (n k : ℕ) → k < n → same_codes a (held_node w k) ≡ true → among a (held_nodes w n) ≡ true
    among_true = any_true (λ n. among a (held_nodes w n)) (λ n. same_codes a (held_node w n)) among_none among_grows

  clash_none : clash (held_nodes w zero) ≡ false
  unfolding clash numbered
  clash_none = refl

  clash_grows : (n : ℕ) → clash (held_nodes w (suc n)) ≡ (clash (held_nodes w n) || among (held_node w n) (held_nodes w n))
  unfolding numbered
  clash_grows n = clash_last (held_node w n) (held_nodes w n)

  pub clash_false : (n : ℕ) → ((k : ℕ) → k < n → among (held_node w k) (held_nodes w k) ≡ false) → clash (held_nodes w n) ≡ false
  clash_false = any_false (λ n. clash (held_nodes w n)) (λ n. among (held_node w n) (held_nodes w n)) clash_none clash_grows

  pub clash_true : (n k : ℕ) → k < n → among (held_node w k) (held_nodes w k) ≡ true → clash (held_nodes w n) ≡ true
  clash_true = any_true (λ n. clash (held_nodes w n)) (λ n. among (held_node w n) (held_nodes w n)) clash_none clash_grows

-- ---- the codes in the scratch

coded_at_same : {low high : ℕ} {w v : List ℕ} → Kept low high w v → (i : ℕ) → i < greatest_node_count → codes_at i + 2 ≤ low → CodedAt w i → CodedAt v i
coded_at_same kept i small h p =
    record {
      lon = kept.below (codes_at i) (omega arith) ∙ p.lon ∙ sym (ap lon_code (node_same kept i (omega arith)));
      lat = kept.below (codes_at i + 1) (omega arith) ∙ p.lat ∙ sym (ap lat_code (node_same kept i (omega arith)));
    }

-- They are kept where a change is from 9,216 on.
pub coded_same : {high : ℕ} {w v : List ℕ} → Kept chains_from high w v → {n : ℕ} → n ≤ greatest_node_count → Coded w n → Coded v n
coded_same kept few p i l = coded_at_same kept i (omega arith) (omega arith) (p i l)

pub among_same : {high : ℕ} {w v : List ℕ} → Kept chains_from high w v → (j : ℕ) → j < greatest_node_count →
    among (held_node v j) (held_nodes v j) ≡ among (held_node w j) (held_nodes w j)
among_same kept j small = ap₂ among (node_same kept j (omega arith)) (nodes_same kept j (omega arith))

-- One node's codes more.
pub codes_more : {w₀ w v : List ℕ} (i x y : ℕ) → i < greatest_node_count → chains_from ≤ length w → CodesPut i w₀ w → x ≡ lon_code (held_node w i) →
    y ≡ lat_code (held_node w i) → v ≡ sets w (codes_at i) (x ∷ y ∷ []) → CodesPut (i + 1) w₀ v
codes_more {w₀} {w} {v} i x y small fits p lon lat e =
    let s = stored (x ∷ y ∷ []) w (codes_at i) (omega arith) e in
    let same = node_same s.kept i (omega arith) in
    record {
      coded =
          below_more (CodedAt v) i (λ k l. coded_at_same s.kept k (omega arith) (omega arith) (p.coded k l))
          (record { lon = stored_first _ s ∙ lon ∙ sym (ap lon_code same); lat = s.held 1 (omega arith) ∙ lat ∙ sym (ap lat_code same) });
      kept = kept_over (omega arith) p.kept s.kept;
    }

-- So two nodes are compared by them. The test of the longitudes is `t`.
pub same_by : (w : List ℕ) (i j : ℕ) (t : Bool) → CodedAt w i → CodedAt w j → eqb (get_or w (codes_at i) 0) (get_or w (codes_at j) 0) ≡ t →
    same_codes (held_node w i) (held_node w j) ≡ (t && eqb (get_or w (codes_at i + 1) 0) (get_or w (codes_at j + 1) 0))
unfolding same_codes
same_by w i j t p q e =
    ap₂ ◌&&◌ (ap₂ eqb (sym p.lon) (sym q.lon) ∙ e) (ap₂ eqb (sym p.lat) (sym q.lat))

-- ---- the codes, the empty buckets, and then node by node

pub found_after : {w v₁ v₂ v₃ : List ℕ} {n : ℕ} {r : Bool} → n ≤ greatest_node_count → CodesPut n w v₁ → NoChains v₁ v₂ → EqualFound chains_from n v₂ v₃ r →
    EqualFound codes_from n w v₃ r
found_after {w} {v₂ = v₂} {n = n} few put none found =
    let k : Kept codes_from codes_to w v₂ =
    kept_over (omega arith) put.kept none.kept in
    record {
      found = found.found ∙ ap clash (nodes_same k n (omega arith));
      kept = kept_over (omega arith) k found.kept;
    }
