-- Of the lines that end at a node, which is nearest: how the cell of the node is brought up to date for one line more, and when it keeps its meaning.
use Rattle.model.specs.Map.{greatest_line_count, Map}
use Rattle.model.specs.Lines.{line_at}
use Rattle.search_cells.specs.Area.{several, length_to, named, Nearest, NearerBy, farther, nearest, alike}
use Prim.Native.Nat.{ℕ, ◌+◌, ◌≤◌, ◌<◌}
use mathlib.Core.Path.{◌≡◌, sym, ◌∙◌, ap, subst}
use mathlib.Core.List.{List}
use mathlib.Core.Logic.{◌⊎◌, ⊎_elim}
use native.Mathlib.Omega.{arith}
use Rattle.buffers.proofs.Cases.{le_or_lt}

-- The property `P'` has one line more, line `l`.
module _ {m : Map} {limit : ℕ} {w : List ℕ} {v x : ℕ} {P P' : ℕ → Type 0} (l : ℕ) (split : (k : ℕ) → P' k → (k ≡ l) ⊎ P k)
    (more : (k : ℕ) → P k → P' k) (c : Nearest m limit w P v x) where
  -- It does not end there, or it is past the limit, or another is nearer.
  pub nearest_same : ((line_at m l).end ≡ v → (limit < length_to w l) ⊎ ((0 < x) × (length_to w (named x) < length_to w l))) →
      Nearest m limit w P' v x
  nearest_same passes =
      record {
        none = λ z k a q.
            ⊎_elim (λ e. ⊎_elim (λ h. h) (λ h. absurd (omega (arith, h.0))) (there k e q)) (λ b. c.none z k b q) (split k a);
        holds = λ p. more _ (c.holds p);
        ends = c.ends;
        near = c.near;
        least = λ p k a q.
            ⊎_elim
            (λ e. ⊎_elim (λ h. omega (arith, c.near p)) (λ h. omega (arith, h.1)) (there k e q))
            (λ b. c.least p k b q)
            (split k a);
        one = λ p u k a q z.
            ⊎_elim
            (λ e. absurd (⊎_elim (λ h. omega (arith, c.near p)) (λ h. omega (arith, h.1)) (there k e q)))
            (λ b. c.one p u k b q z)
            (split k a);
        many = λ u. let b = c.many u in (b.0, more _ b.1, b.2, b.3, b.4);
      }
    where
      there : (k : ℕ) → k ≡ l → (line_at m k).end ≡ v → (limit < length_to w k) ⊎ ((0 < x) × (length_to w (named x) < length_to w k))
      there k e q = rw e (passes (rw e at q))

  -- It does not end there.
  pub nearest_farther : ((line_at m l).end ≡ v → ⊥) → Nearest m limit w P' v x
  nearest_farther d = nearest_same (λ q. absurd (d q))

  module _ (few : l < greatest_line_count) (held : P' l) (ends : (line_at m l).end ≡ v) where
    -- It is nearer than all others.
    nearest_new : {y : ℕ} → y ≡ l + 1 → length_to w l ≤ limit → (0 < x → length_to w l < length_to w (named x)) → Nearest m limit w P' v y
    nearest_new {y} z near less =
        let e : named y ≡ l = omega arith in
        record {
          none = λ p. absurd (omega arith);
          holds = λ p. rw e held;
          ends = λ p. rw e ends;
          near = λ p. rw e near;
          least = λ p k a q. rw e (⊎_elim (λ h. rw h (omega arith)) (λ b. omega (arith, beyond k b q)) (split k a));
          one = λ p u k a q t.
              ⊎_elim (λ h. h ∙ sym e) (λ b. absurd (omega (arith, beyond k b q, t ∙ ap (length_to w) e))) (split k a);
          many = λ u. absurd (omega arith);
        }
      where
        beyond : (k : ℕ) → P k → (line_at m k).end ≡ v → length_to w l < length_to w k
        beyond k a q =
            ⊎_elim
            (λ none. omega (arith, c.none (omega arith) k a q))
            (λ p. omega (arith, c.least p k a q, less p))
            (le_or_lt x 0)

    -- It is as near as the nearest of the others.
    nearest_also : (P l → ⊥) → {y : ℕ} → y ≡ named x + several → 0 < x → length_to w l ≡ length_to w (named x) → Nearest m limit w P' v y
    nearest_also new {y} z pos same =
        let e : named y ≡ named x = omega arith in
        record {
          none = λ p. absurd (omega arith);
          holds = λ p. rw e (more _ (c.holds pos));
          ends = λ p. rw e (c.ends pos);
          near = λ p. rw e (c.near pos);
          least = λ p k a q. rw e (⊎_elim (λ h. rw h (omega arith)) (λ b. c.least pos k b q) (split k a));
          one = λ p u. absurd (omega arith);
          many = λ u. (l, held, ends, same ∙ sym (ap (length_to w) e), λ h. new (subst P (sym (h ∙ e)) (c.holds pos)));
        }

    -- It ends there, and is new.
    pub nearest_by : (P l → ⊥) → {r : ℕ} → NearerBy limit w x l r → Nearest m limit w P' v r
    nearest_by new (farther e h) = rw e (nearest_same (λ q. h))
    nearest_by new (nearest e near less) = nearest_new e near less
    nearest_by new (alike e near pos same) = nearest_also new e pos same

-- Only the lengths to the lines with the property count.
pub nearest_lengths : {m : Map} {limit : ℕ} {w u : List ℕ} {v x : ℕ} {P Q : ℕ → Type 0} → Nearest m limit w P v x →
    ((k : ℕ) → P k → Q k) → ((k : ℕ) → Q k → P k) → ((k : ℕ) → P k → length_to u k ≡ length_to w k) → Nearest m limit u Q v x
nearest_lengths c to from e =
    record {
      none = λ z l a q. omega (arith, e l (from l a), c.none z l (from l a) q);
      holds = λ p. to _ (c.holds p);
      ends = c.ends;
      near = λ p. omega (arith, e _ (c.holds p), c.near p);
      least = λ p l a q. omega (arith, e l (from l a), e _ (c.holds p), c.least p l (from l a) q);
      one = λ p u l a q z. c.one p u l (from l a) q (sym (e l (from l a)) ∙ z ∙ e _ (c.holds p));
      many = λ u. let b = c.many u in (b.0, to _ b.1, b.2, e _ b.1 ∙ b.3 ∙ sym (e _ (c.holds (omega arith))), b.4);
    }
