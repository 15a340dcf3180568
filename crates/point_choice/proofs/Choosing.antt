-- The route to take over the legs that pass a test is the choice of points by that test.
use Prim.Native.Nat.{ℕ, suc, ◌+◌, ◌-◌, ◌≤◌, ◌<◌}
use mathlib.Core.Path.{◌≡◌, refl, sym, ap, subst, ◌∙◌}
use mathlib.Core.Logic.{◌⊎◌, inl, inr, ⊎_elim, ⊎_map}
use mathlib.Core.Bool.{Bool}
use mathlib.Core.List.{List, [], ◌∷◌, ◌++◌}
use native.Mathlib.Nat.{eq-or-lt_of_le}
use native.Mathlib.Omega.{arith}
use borrow.Author.Tests.{eq-eqb, ne_eqb}
use lib.ListN.{length, take, drop, length-append, length-drop, take-append-drop}
use lib.Seq.{slice, drop-length, length-slice, length-take-le, drop-append-le, drop-append_seam, take-append_seam, drop-drop, take-add, drop_at}
use lib.Dec.{eqb}
use Rattle.model.specs.Reading.{joined}
use Rattle.model.specs.Choice.{LegTest, Usable, final, before, Choice, MoreFirst, Preferred, Chosen}
use Rattle.point_choice.specs.Cuts.{Route, there, leg, FurtherFirst, same, more, later, Best, NoRoute, cut_legs, Sound, Complete, HasLines}
use Rattle.point_choice.proofs.Routes.{short}

-- Lines up to a cut, and the lines after it.
pub cut_at : (i j : ℕ) (l : List ℕ) → i ≤ j → j ≤ length l → slice i j l ++ drop j l ≡ drop i l
cut_at i j l h k =
    let e : length (take j l) ≡ j = length-take-le j l k in
    rw (← drop-append-le i (take j l) (drop j l) (omega arith), take-append-drop)

-- What is left after `i` is `ls` and then `rest`: both as parts of the whole, and their lengths.
module _ (i : ℕ) (ls rest l : List ℕ) (e : ls ++ rest ≡ drop i l) where
  front : i ≤ length l → slice i (i + length ls) l ≡ ls
  front h =
      rw (take-add i (length ls) l, drop_at (take i l) (take (length ls) (drop i l)) i (length-take-le i l h), ← e, take-append_seam)

  behind : drop (i + length ls) l ≡ rest
  behind = rw (← drop-drop (length ls) i l, ← e, drop-append_seam)

  sizes : length ls + length rest ≡ length l - i
  sizes = simp (length-append, length-drop) at (ap length e)

module _ (lines : List ℕ) where
  pub legs_count : (i : ℕ) (cs : List ℕ) → length (cut_legs lines i cs) ≡ length cs
  unfolding cut_legs
  legs_count i [] = refl
  legs_count i (j ∷ cs) = ap suc (legs_count j cs)

  pub whole : {good : ℕ → ℕ → Type 0} {i : ℕ} {cs : List ℕ} → Route good (length lines) i cs → joined (cut_legs lines i cs) ≡ drop i lines
  unfolding cut_legs joined
  whole there = sym (drop-length lines)
  whole (leg {i = i} {j = j} h g r) = rw (whole r) (cut_at i j lines (omega arith) (omega (arith, short r)))

  more_first : {good : ℕ → ℕ → Type 0} {i : ℕ} {cs os : List ℕ} → Route good (length lines) i cs → Route good (length lines) i os → FurtherFirst cs os →
      (cut_legs lines i cs ≡ cut_legs lines i os) ⊎ MoreFirst (cut_legs lines i cs) (cut_legs lines i os)
  unfolding cut_legs
  more_first r t same = inl refl
  more_first {i = i} (leg {j = a} h g r) (leg {j = b} k f t) (more l) =
      let s : length (slice i b lines) < length (slice i a lines) =
      omega (arith, length-slice i a lines (omega (arith, short r)), length-slice i b lines (omega (arith, short t))) in
      inr (MoreFirst.more s)
  more_first {i = i} (leg {j = j} h g r) (leg k f t) (later a) =
      ⊎_map (ap (λ (lss : List (List ℕ)). slice i j lines ∷ lss)) (MoreFirst.later refl) (more_first r t a)

-- A route over legs that pass the test is a choice.
module _ (test : LegTest) (lines : List ℕ) {good : ℕ → ℕ → Type 0} (sound : Sound test lines good) where
  usable : {i : ℕ} {cs : List ℕ} → i < length lines → Route good (length lines) i cs → Usable test i (cut_legs lines i cs)
  unfolding cut_legs
  usable l there = absurd (omega arith)
  usable l (leg h g there) = final (rw eq-eqb at (sound _ _ h (omega arith) g))
  usable {i = i} l (leg {j = j} h g (leg {j = j'} {cs = cs} h' g' r)) =
      let k : j < length lines = omega (arith, short r) in
      let e : i + length (slice i j lines) ≡ j = omega (arith, length-slice i j lines (omega arith)) in
      let on : Usable test (i + length (slice i j lines)) (cut_legs lines j (j' ∷ cs)) =
      subst (λ (at : ℕ). Usable test at (cut_legs lines j (j' ∷ cs))) (sym e) (usable k (leg h' g' r)) in
      before (rw (ne_eqb j (length lines) (omega arith)) at (sound _ _ h (omega arith) g)) on

  pub choice : {cs : List ℕ} → 0 < length lines → Route good (length lines) 0 cs → Choice test lines (cut_legs lines 0 cs)
  choice l r = record { usable = usable l r; whole = whole lines r }

-- Where every leg that passes the test is good, a choice is a route.
module _ (test : LegTest) (lines : List ℕ) {good : ℕ → ℕ → Type 0} (some : HasLines test) (complete : Complete test lines good) where
  -- A leg in front of what is left after `i`.
  lead : {last : Bool} {ls : List ℕ} (i : ℕ) → test i last ls → (rest : List ℕ) → i ≤ length lines → ls ++ rest ≡ drop i lines →
      eqb (i + length ls) (length lines) ≡ last → (i < i + length ls) × good i (i + length ls)
  lead {last = last} {ls = ls} i g rest h e q =
      let l : i < i + length ls = omega (arith, some i last ls g) in
      (l, complete i (i + length ls) l (omega (arith, sizes i ls rest lines e)) (rw (q, front i ls rest lines e h) g))

  cuts_of : {i : ℕ} {lss : List (List ℕ)} → Usable test i lss → i ≤ length lines → joined lss ≡ drop i lines →
      (cs : List ℕ) × Route good (length lines) i cs × (cut_legs lines i cs ≡ lss)
  unfolding cut_legs joined
  cuts_of (final {at = i} {ls = ls} g) h e =
      let j : i + length ls ≡ length lines = omega (arith, sizes i ls [] lines e) in
      let f = lead i g [] h e (eq-eqb (i + length ls) (length lines) j) in
      ((i + length ls) ∷ [], leg {cs = []} f.0 f.1 (rw j there), rw (front i ls [] lines e h))
  cuts_of (before {at = i} {ls = ls} {ks = ks} {lss = lss} g u) h e =
      let rest = joined (ks ∷ lss) in
      let k = cuts_of u (omega (arith, sizes i ls rest lines e)) (sym (behind i ls rest lines e)) in
      let j : i + length ls < length lines = omega (arith, short k.1, sym (legs_count lines (i + length ls) k.0) ∙ ap length k.2) in
      let f = lead i g rest h e (ne_eqb (i + length ls) (length lines) (omega arith)) in
      ((i + length ls) ∷ k.0, leg f.0 f.1 k.1, rw (front i ls rest lines e h, k.2))

  pub routed : {lss : List (List ℕ)} → Choice test lines lss → (cs : List ℕ) × Route good (length lines) 0 cs × (cut_legs lines 0 cs ≡ lss)
  routed c = cuts_of c.usable (omega arith) c.whole

  pub no_choice : NoRoute good (length lines) 0 → (lss : List (List ℕ)) → Choice test lines lss → ⊥
  no_choice none lss c = none (routed c).0 (routed c).1

module _ (test : LegTest) (lines : List ℕ) {good : ℕ → ℕ → Type 0} {cs : List ℕ} (some : HasLines test) (sound : Sound test lines good)
    (complete : Complete test lines good) where
  pub chosen : 0 < length lines → Best good (length lines) 0 cs → Chosen test lines (cut_legs lines 0 cs)
  chosen l b =
      record {
        choice = choice test lines sound l b.route;
        preferred = λ others c. let k = routed test lines some complete c in rw (← k.2) (preferred k.0 k.1);
      }
    where
      preferred : (os : List ℕ) → Route good (length lines) 0 os → Preferred (cut_legs lines 0 cs) (cut_legs lines 0 os)
      preferred os r = ⊎_elim
          (λ e. by (more_first lines b.route r (b.furthest os r (sym e))) (legs_count lines 0 cs ∙ e ∙ sym (legs_count lines 0 os)))
          (λ l. Preferred.fewer (rw (legs_count lines 0 cs, legs_count lines 0 os) l))
          (eq-or-lt_of_le (b.fewest os r))
        where
          by : {a b : List (List ℕ)} → (a ≡ b) ⊎ MoreFirst a b → length a ≡ length b → Preferred a b
          by (inl e) l = rw e Preferred.same
          by (inr f) l = Preferred.more_first l f
