-- All ways to cut a short list of lines into legs, and the writer's choice by looking at each of them.
use Prim.Native.Nat.{ℕ, ◌+◌, ◌<◌}
use mathlib.Core.Path.{refl, ap, subst}
use mathlib.Core.Bool.{true, false}
use mathlib.Core.List.{List, [], ◌∷◌, ◌++◌, Memᴰ}
use native.Mathlib.Omega.{arith}
use lib.ListN.{length}
use Rattle.model.specs.Map.{Map}
use Rattle.model.specs.Reading.{joined}
use Rattle.model.specs.Choice.{LegTest, good, Usable, final, before, Choice, Preferred, Chosen}
use Rattle.model.specs.LegTests.{NoChoice}
use Rattle.model.proofs.LegTests.{Filled, good_filled}
use Rattle.model.proofs.Cases.Ways.{Every, every}

-- Line `x` in front of some legs, as a leg of its own or as the first line of the first leg.
unfoldable pub widen : ℕ → List (List ℕ) → List (List (List ℕ)) → List (List (List ℕ))
widen x [] rest = rest
widen x (ls ∷ lss) rest = ((x ∷ ls) ∷ lss) ∷ rest

unfoldable pub spread : ℕ → List (List (List ℕ)) → List (List (List ℕ))
spread x [] = []
spread x (lss ∷ rest) = ((x ∷ []) ∷ lss) ∷ widen x lss (spread x rest)

unfoldable pub cuts : List ℕ → List (List (List ℕ))
cuts [] = [] ∷ []
cuts (x ∷ xs) = spread x (cuts xs)

-- One name for the three.
unfoldable pub cutting : Unit {0}
unfolding widen spread cuts
cutting = tt

past : (x : ℕ) {c : List (List ℕ)} {cs : List (List (List ℕ))} (lss : List (List ℕ)) → Memᴰ c cs → Memᴰ c (widen x lss cs)
unfolding widen
past x [] i = i
past x (ls ∷ lss) i = Memᴰ.tail i

alone : (x : ℕ) {lss : List (List ℕ)} {cs : List (List (List ℕ))} → Memᴰ lss cs → Memᴰ ((x ∷ []) ∷ lss) (spread x cs)
unfolding spread
alone x (Memᴰ.head e) = Memᴰ.head (ap (λ (l : List (List ℕ)). (x ∷ []) ∷ l) e)
alone x (Memᴰ.tail {x = lss} i) = Memᴰ.tail (past x lss (alone x i))

widened : (x : ℕ) {ls : List ℕ} {lss : List (List ℕ)} {cs : List (List (List ℕ))} → Memᴰ (ls ∷ lss) cs →
    Memᴰ ((x ∷ ls) ∷ lss) (spread x cs)
unfolding spread widen
widened x {ls} {lss} (Memᴰ.head {x = c} {xs = cs} e) =
    Memᴰ.tail (subst (λ (c : List (List ℕ)). Memᴰ ((x ∷ ls) ∷ lss) (widen x c (spread x cs))) e there)
  where
    there : Memᴰ ((x ∷ ls) ∷ lss) (widen x (ls ∷ lss) (spread x cs))
    there = Memᴰ.head refl
widened x (Memᴰ.tail {x = c} i) = Memᴰ.tail (past x c (widened x i))

leg_cut : (ls : List ℕ) {lss : List (List ℕ)} (rest : List ℕ) → 0 < length ls → Memᴰ lss (cuts rest) → Memᴰ (ls ∷ lss) (cuts (ls ++ rest))
unfolding cuts
leg_cut [] rest h i = absurd (omega arith)
leg_cut (l ∷ []) rest h i = alone l i
leg_cut (l ∷ k ∷ ls) rest h i = widened l (leg_cut (k ∷ ls) rest (omega arith) i)

-- A test that no empty list of lines passes.
module _ (test : LegTest) (some : Filled test) where
  in_cuts : {at : ℕ} {lss : List (List ℕ)} → Usable test at lss → Memᴰ lss (cuts (joined lss))
  unfolding joined cuts
  in_cuts (final {ls = ls} t) = leg_cut ls {lss = []} [] (some _ _ _ t) (Memᴰ.head refl)
  in_cuts (before {ls = ls} {ks = ks} {lss = lss} t u) = leg_cut ls (joined (ks ∷ lss)) (some _ _ _ t) (in_cuts u)

  module _ (lines : List ℕ) where
    -- What holds of each cut holds of each choice.
    pub each_cut : (P : List (List ℕ) → Type 0) → Every P (cuts lines) → (lss : List (List ℕ)) → Choice test lines lss → P lss
    each_cut P each lss d = every P each (subst (λ (l : List ℕ). Memᴰ lss (cuts l)) d.whole (in_cuts d.usable))

    pub chosen_by : (lss : List (List ℕ)) → Choice test lines lss → Every (λ others. Choice test lines others → Preferred lss others) (cuts lines) →
        Chosen test lines lss
    chosen_by lss c each =
        record { choice = c; preferred = λ others d. each_cut (λ others. Choice test lines others → Preferred lss others) each others d d }

    pub no_choice_by : Every (λ lss. Choice test lines lss → ⊥) (cuts lines) → NoChoice test lines
    no_choice_by each lss d = each_cut (λ lss. Choice test lines lss → ⊥) each lss d d

-- The writer's own test.
module _ (m : Map) (lines : List ℕ) where
  pub each_choice : (P : List (List ℕ) → Type 0) → Every P (cuts lines) → (lss : List (List ℕ)) → Choice (good m) lines lss → P lss
  each_choice P each lss d = each_cut (good m) (good_filled m) lines P each lss d

  pub chosen : (lss : List (List ℕ)) → Choice (good m) lines lss →
      Every (λ others. Choice (good m) lines others → Preferred lss others) (cuts lines) → Chosen (good m) lines lss
  chosen lss c each = chosen_by (good m) (good_filled m) lines lss c each

  pub no_choice : Every (λ lss. Choice (good m) lines lss → ⊥) (cuts lines) → NoChoice (good m) lines
  no_choice each = no_choice_by (good m) (good_filled m) lines each

-- The test that the first of several legs has passed.
pub first_passed : {test : LegTest} {at : ℕ} {ls ks : List ℕ} {lss : List (List ℕ)} → Usable test at (ls ∷ ks ∷ lss) → test at false ls
first_passed (before g u) = g

-- The test that a choice's last leg has passed, of one leg, of two, three and four.
pub passed : {test : LegTest} {at : ℕ} {ls : List ℕ} → Usable test at (ls ∷ []) → test at true ls
passed (final g) = g

pub second_passed : {test : LegTest} {at : ℕ} {ls ks : List ℕ} → Usable test at (ls ∷ ks ∷ []) → test (at + length ls) true ks
second_passed (before g u) = passed u

pub third_passed : {test : LegTest} {at : ℕ} {ls ks js : List ℕ} → Usable test at (ls ∷ ks ∷ js ∷ []) → test (at + length ls + length ks) true js
third_passed (before g u) = second_passed u

pub fourth_passed : {test : LegTest} {at : ℕ} {ls ks js is : List ℕ} → Usable test at (ls ∷ ks ∷ js ∷ is ∷ []) →
    test (at + length ls + length ks + length js) true is
fourth_passed (before g u) = third_passed u
