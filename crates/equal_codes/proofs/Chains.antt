-- Chains of the nodes that are in one bucket: none yet, one node more, and the walk along a chain that meets all nodes with given codes.
use Prim.Native.Nat.{ℕ, ◌+◌, ◌-◌, ◌≤◌, ◌<◌}
use mathlib.Core.Path.{◌≡◌, refl, sym, ap₂, subst, ◌∙◌}
use mathlib.Core.Bool.{Bool, true, false}
use mathlib.Core.List.{List}
use native.Mathlib.Decide.{dec_lt, ℕ_discrete}
use native.Mathlib.Omega.{arith}
use lib.ListN.{length, get_or, set, length-set}
use lib.Seq.{get_or-set_same, get_or-set_other}
use borrow.Author.Tests.{eqb-true}
use Rattle.model.specs.Map.{same_codes, greatest_node_count}
use Rattle.model.proofs.Tests.{both}
use Rattle.buffers.specs.Kept.{Kept}
use Rattle.work_area.specs.Held.{held_node}
use Rattle.work_area.specs.Area.{chains_from, codes_to, buckets}
use Rattle.equal_codes.specs.Codes.{codes_at, next_at, head_at, CodedAt, Coded, bucket_of, bucket_at, Last, Chains}
use Rattle.equal_codes.proofs.EqualCodes.{same_by}

-- ---- another bucket, other codes

module _ (w : List ℕ) (i j : ℕ) (p : CodedAt w i) (q : CodedAt w j) where
  same_bucket : same_codes (held_node w i) (held_node w j) ≡ true → bucket_at w j ≡ bucket_at w i
  unfolding bucket_at
  same_bucket e =
      let h = both _ _ (sym (same_by w i j _ p q refl) ∙ e) in
      ap₂ bucket_of (sym (eqb-true _ _ h.0)) (sym (eqb-true _ _ h.1))

  apart : (bucket_at w j ≡ bucket_at w i → ⊥) → same_codes (held_node w i) (held_node w j) ≡ false
  apart n = go (same_codes (held_node w i) (held_node w j)) refl
    where
      go : (t : Bool) → same_codes (held_node w i) (held_node w j) ≡ t → t ≡ false
      go true e = absurd (n (same_bucket e))
      go false e = refl

-- ---- buckets stay where the codes do

module _ {high : ℕ} {w v : List ℕ} (kept : Kept chains_from high w v) where
  bucket_same : (m : ℕ) → m < greatest_node_count → bucket_at v m ≡ bucket_at w m
  unfolding bucket_at
  bucket_same m h = ap₂ bucket_of (kept.below (codes_at m) (omega arith)) (kept.below (codes_at m + 1) (omega arith))

  last_same : {h j k : ℕ} → j ≤ greatest_node_count → Last w h j k → Last v h j k
  last_same s l =
      record {
        before = l.before;
        inside = λ m e. bucket_same m (let b = l.before in omega arith) ∙ l.inside m e;
        none = λ m a b e. l.none m a b (sym (bucket_same m (omega arith)) ∙ e);
      }

-- ---- node j goes to the front of its chain

module _ (w : List ℕ) (j h : ℕ) (small : j < greatest_node_count) (low : h < buckets) (fits : codes_to ≤ length w) where
  abbrev linked : List ℕ
  linked = set (set w (next_at j) (get_or w (head_at h) 0)) (head_at h) (j + 1)

  other : (k : ℕ) → (k ≡ next_at j → ⊥) → (k ≡ head_at h → ⊥) → get_or linked k 0 ≡ get_or w k 0
  other k a b =
      get_or-set_other (set w (next_at j) (get_or w (head_at h) 0)) (head_at h) k (j + 1) 0 b
      ∙ get_or-set_other w (next_at j) k (get_or w (head_at h) 0) 0 a

  head : get_or linked (head_at h) 0 ≡ j + 1
  head = get_or-set_same (set w (next_at j) (get_or w (head_at h) 0)) (head_at h) (j + 1) 0 (rw length-set (omega arith))

  next : get_or linked (next_at j) 0 ≡ get_or w (head_at h) 0
  next =
      get_or-set_other (set w (next_at j) (get_or w (head_at h) 0)) (head_at h) (next_at j) (j + 1) 0 (omega arith)
      ∙ get_or-set_same w (next_at j) (get_or w (head_at h) 0) 0 (omega arith)

  pub linked_kept : Kept chains_from codes_to w linked
  linked_kept =
      record {
        same = simp length-set;
        below = λ k l. other k (omega arith) (omega arith);
        above = λ k l. other k (omega arith) (omega arith);
      }

  module _ (is : h ≡ bucket_at w j) (c : Chains w j) where
    here : bucket_at linked j ≡ h
    here = bucket_same linked_kept j small ∙ sym is

    front : Last linked h (j + 1) (j + 1)
    front =
        record {
          before = omega arith;
          inside = λ m e. let s : j ≡ m = omega arith in subst (λ (i : ℕ). bucket_at linked i ≡ h) s here;
          none = λ m a b e. omega arith;
        }

    -- Another bucket's last.
    unmoved : (g : ℕ) → (g ≡ h → ⊥) → g < buckets → Last linked g (j + 1) (get_or w (head_at g) 0)
    unmoved g n s =
        let l = last_same linked_kept (omega arith) (c.heads g s) in
        record { before = let b = l.before in omega arith; inside = l.inside; none = λ m a b e. go m a b e (dec_lt m j) l }
      where
        go : (m : ℕ) → get_or w (head_at g) 0 ≤ m → m < j + 1 → bucket_at linked m ≡ g → Dec (m < j) → Last linked g j (get_or w (head_at g) 0) → ⊥
        go m a b e (yes d) l = l.none m a d e
        go m a b e (no d) l = let t : j ≡ m = omega arith in n (sym e ∙ subst (λ (i : ℕ). bucket_at linked i ≡ h) t here)

    head_of : (g : ℕ) → g < buckets → Dec (g ≡ h) → Last linked g (j + 1) (get_or linked (head_at g) 0)
    head_of g s (yes e) =
        subst (λ (x : ℕ). Last linked x (j + 1) (get_or linked (head_at x) 0)) (sym e)
        (subst (λ (k : ℕ). Last linked h (j + 1) k) (sym head) front)
    head_of g s (no n) =
        subst (λ (k : ℕ). Last linked g (j + 1) k) (sym (other (head_at g) (omega arith) (omega arith))) (unmoved g n s)

    next_of : (i : ℕ) → i < j + 1 → Dec (i < j) → Last linked (bucket_at linked i) i (get_or linked (next_at i) 0)
    next_of i l (yes d) =
        subst (λ (k : ℕ). Last linked (bucket_at linked i) i k) (sym (other (next_at i) (omega arith) (omega arith)))
        (subst (λ (g : ℕ). Last linked g i (get_or w (next_at i) 0)) (sym (bucket_same linked_kept i (omega arith)))
        (last_same linked_kept (omega arith) (c.nexts i d)))
    next_of i l (no d) =
        let e : j ≡ i = omega arith in
        subst (λ (x : ℕ). Last linked (bucket_at linked x) x (get_or linked (next_at x) 0)) e
        (subst (λ (k : ℕ). Last linked (bucket_at linked j) j k) (sym next)
        (subst (λ (g : ℕ). Last linked g j (get_or w (head_at h) 0)) (sym here)
        (last_same linked_kept (omega arith) (c.heads h low))))

    pub chains_more : Chains linked (j + 1)
    chains_more = record { heads = λ g s. head_of g s (ℕ_discrete g h); nexts = λ i l. next_of i l (dec_lt i j) }

-- No node is in a chain of heads that are all 0.
pub chains_none : (w : List ℕ) → ((h : ℕ) → h < buckets → get_or w (head_at h) 0 ≡ 0) → Chains w 0
chains_none w z =
    record {
      heads = λ h l.
          record {
            before = omega (arith, z h l);
            inside = λ m e. absurd (let o = z h l in omega arith);
            none = λ m a b e. omega arith;
          };
      nexts = λ i l. absurd (omega arith);
    }

-- ---- the walk along a chain: every node from `k` on has been seen to have other codes

pub record Walk (w : List ℕ) (j h k : ℕ) : Type 0 where
  pub before : k ≤ j
  pub inside : (m : ℕ) → k ≡ m + 1 → bucket_at w m ≡ h
  pub seen : (m : ℕ) → k ≤ m → m < j → same_codes (held_node w j) (held_node w m) ≡ false

module _ (w : List ℕ) (j h : ℕ) (is : h ≡ bucket_at w j) (coded : Coded w (j + 1)) (c : Chains w j) where
  elsewhere : (m : ℕ) → m < j → (bucket_at w m ≡ h → ⊥) → same_codes (held_node w j) (held_node w m) ≡ false
  elsewhere m l n = apart w j m (coded j (omega arith)) (coded m (omega arith)) (λ e. n (e ∙ sym is))

  pub walk_start : h < buckets → Walk w j h (get_or w (head_at h) 0)
  walk_start low =
      let l = c.heads h low in
      record { before = l.before; inside = l.inside; seen = λ m a b. elsewhere m b (λ e. l.none m a b e) }

  module _ (k : ℕ) (some : 0 < k) (v : Walk w j h k) where
    link_of : Last w (bucket_at w (k - 1)) (k - 1) (get_or w (next_at (k - 1)) 0)
    link_of = c.nexts (k - 1) (let b = v.before in omega arith)

    at : bucket_at w (k - 1) ≡ h
    at = v.inside (k - 1) (omega arith)

    pub walk_less : get_or w (next_at (k - 1)) 0 < k
    walk_less = let b = link_of.before in omega arith

    pub walk_on : same_codes (held_node w j) (held_node w (k - 1)) ≡ false → Walk w j h (get_or w (next_at (k - 1)) 0)
    walk_on f =
        record {
          before = (let b = link_of.before in let d = v.before in omega arith);
          inside = λ m e. link_of.inside m e ∙ at;
          seen = λ m a b. go m a b (dec_lt m (k - 1)) (ℕ_discrete m (k - 1));
        }
      where
        go : (m : ℕ) → get_or w (next_at (k - 1)) 0 ≤ m → m < j → Dec (m < k - 1) → Dec (m ≡ k - 1) →
            same_codes (held_node w j) (held_node w m) ≡ false
        go m a b (yes d) s = elsewhere m b (λ e. link_of.none m a d (e ∙ sym at))
        go m a b (no d) (yes s) = subst (λ (i : ℕ). same_codes (held_node w j) (held_node w i) ≡ false) (sym s) f
        go m a b (no d) (no s) = v.seen m (omega arith) b
