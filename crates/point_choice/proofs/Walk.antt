-- The walk along the route to take, which writes its cuts.
use Prim.Native.Nat.{ℕ, suc, ◌+◌, ◌≤◌, ◌<◌}
use mathlib.Core.Path.{◌≡◌, refl, ◌∙◌}
use mathlib.Core.Logic.{inl, inr}
use Rattle.std.proofs.Common.{Some}
use mathlib.Core.List.{List, [], ◌∷◌, ◌++◌, append_assoc, append-nil}
use native.Mathlib.Numerals.{add-one}
use native.Mathlib.Omega.{arith}
use lib.ListN.{length, get_or, set, drop, length-append}
use lib.Seq.{set_at, drop-cons, append_snoc, drop-set-lt}
use Rattle.point_choice.specs.Cuts.{Best, FirstCut, CutAnswers}
use Rattle.point_choice.proofs.Routes.{short, first_leg_lem, arrived, unique, rest_best}

-- `k` legs up to `i` are written, and `rest` is left of the route to take.
pub record Walked (good : ℕ → ℕ → Type 0) (n : ℕ) (before cuts : List ℕ) (i k : ℕ) : Type 0 where
  pub done : List ℕ
  pub rest : List ℕ
  pub count : length done ≡ k
  pub enough : k ≤ i
  pub written : cuts ≡ (0 ∷ done) ++ drop (k + 1) before
  pub whole : Best good n 0 (done ++ rest)
  pub left : Best good n i rest

-- One more element is written behind `p`.
overwrite : (p before : List ℕ) (k v : ℕ) → length p ≡ k → k < length before → set (p ++ drop k before) k v ≡ (p ++ (v ∷ [])) ++ drop (k + 1) before
overwrite p before k v e l =
    rw (drop-cons before k 0, set_at p (get_or before k 0) (drop (suc k) before) v k e, append_snoc p v (drop (k + 1) before), add-one)

module _ {good : ℕ → ℕ → Type 0} {n : ℕ} where
  pub set_off : (cuts : List ℕ) → 0 < length cuts → {cs : List ℕ} → Best good n 0 cs → Walked good n (set cuts 0 0) (set cuts 0 0) 0 0
  set_off [] l b = absurd (omega arith)
  set_off (x ∷ xs) l {cs = cs} b = record { done = []; rest = cs; count = refl; enough = omega arith; written = refl; whole = b; left = b }

  -- What is left begins with the first cut.
  pub next : {before cuts : List ℕ} {i k to legs : ℕ} → FirstCut good n i to legs → Walked good n before cuts i k → (cs : List ℕ) × Best good n i (to ∷ cs)
  next (inl (cs, b, e)) w = (cs, b)
  next (inr (e, none)) w = absurd (none w.rest w.left.route)

  pub between : {i to : ℕ} {cs : List ℕ} → Best good n i (to ∷ cs) → (i < to) × (to ≤ n)
  between b = let f = first_leg_lem b.route in (f.0, omega (arith, short f.2))

  pub walked : {before cuts : List ℕ} {i k to : ℕ} → k + 1 < length before → (cs : List ℕ) × Best good n i (to ∷ cs) → Walked good n before cuts i k →
      Walked good n before (set cuts (k + 1) to) to (k + 1)
  walked {before} {k = k} {to = to} l f w =
      record {
        done = w.done ++ (to ∷ []);
        rest = f.0;
        count = simp length-append (omega (arith, w.count));
        enough = omega (arith, w.enough, (between f.1).0);
        written = rw w.written (overwrite (0 ∷ w.done) before (k + 1) to (omega (arith, w.count)) l);
        whole = rw append_assoc (rw (unique w.left f.1) at w.whole);
        left = rest_best f.1;
      }

  pub come_home : (before : List ℕ) {cuts : List ℕ} {i k : ℕ} → i ≡ n → Walked good n (set before 0 0) cuts i k → CutAnswers good n (Some k) before cuts
  come_home before {i = i} {k = k} e w =
      let end : Best good n i [] = rw e arrived in (
        w.done,
        rw (unique w.left end, append-nil) at w.whole,
        w.count,
        w.written ∙ rw (drop-set-lt (k + 1) before 0 0 (omega arith)),
      )
