-- Legs that each have one reading only: every way to read them gives just those readings.
use Prim.Native.Nat.{ℕ, ◌+◌}
use mathlib.Core.Path.{◌≡◌, refl, sym, ◌∙◌, ap₂}
use mathlib.Core.Bool.{true, false}
use mathlib.Core.List.{List, [], ◌∷◌}
use Rattle.model.specs.Map.{Map}
use Rattle.model.specs.Reading.{Leg, Only, Several, Readings}
use Rattle.model.specs.Choice.{leg_of, good, Usable, final, before}
use Rattle.model.specs.Outcome.{LegsAnswer, every, LegsRead}

pub data Sole (m : Map) : List Leg → List (List ℕ) → Type 0 where
  none : Sole m [] []
  also : {leg : Leg} {legs : List Leg} {ls : List ℕ} {lss : List (List ℕ)} →
      Only m leg ls → Sole m legs lss → Sole m (leg ∷ legs) (ls ∷ lss)

-- The legs that the writer's lists make.
unfoldable pub legs_of : Map → List (List ℕ) → List Leg
legs_of m [] = []
legs_of m (ls ∷ []) = leg_of m true ls ∷ []
legs_of m (ls ∷ ks ∷ lss) = leg_of m false ls ∷ legs_of m (ks ∷ lss)

pub sole : {m : Map} {at : ℕ} {lss : List (List ℕ)} → Usable (good m) at lss → Sole m (legs_of m lss) lss
unfolding legs_of
sole (final g) = also g.only none
sole (before g u) = also g.only (sole u)

pub readings : {m : Map} {legs : List Leg} {lss : List (List ℕ)} → Sole m legs lss → Readings m legs lss
readings none = Readings.none
readings (also o s) = Readings.also o.reading (readings s)

pub readings_only : {m : Map} {legs : List Leg} {lss others : List (List ℕ)} → Sole m legs lss → Readings m legs others → others ≡ lss
readings_only none Readings.none = refl
readings_only (also o s) (Readings.also r rs) = ap₂ ◌∷◌ (o.only _ r) (readings_only s rs)

pub not_several : {m : Map} {leg : Leg} {ls : List ℕ} → Only m leg ls → Several m leg → ⊥
not_several o s = s.differ (o.only _ s.first ∙ sym (o.only _ s.second))

pub legs_read : {m : Map} {k : ℕ} {legs : List Leg} {lss : List (List ℕ)} → Sole m legs lss → LegsRead m k legs (every lss)
legs_read none = LegsRead.none
legs_read {k = k} (also o s) = LegsRead.only o (legs_read {k = k + 1} s)

-- Legs are read in one way.
pub legs_same : {m : Map} {k : ℕ} {legs : List Leg} {a b : LegsAnswer} → LegsRead m k legs a → LegsRead m k legs b → a ≡ b
legs_same LegsRead.none LegsRead.none = refl
legs_same (LegsRead.only o h) (LegsRead.only o' h') = let rest = legs_same h h' in let e = o'.only _ o.reading in cc
legs_same (LegsRead.only o h) (LegsRead.unread u) = absurd (u _ o.reading)
legs_same (LegsRead.only o h) (LegsRead.several t) = absurd (not_several o t)
legs_same (LegsRead.only o h) (LegsRead.later o' h') = let rest = legs_same h h' in cc
legs_same (LegsRead.unread u) (LegsRead.only o h) = absurd (u _ o.reading)
legs_same (LegsRead.unread u) (LegsRead.unread u') = refl
legs_same (LegsRead.unread u) (LegsRead.several t) = absurd (u _ t.first)
legs_same (LegsRead.unread u) (LegsRead.later o h) = absurd (u _ o.reading)
legs_same (LegsRead.several t) (LegsRead.only o h) = absurd (not_several o t)
legs_same (LegsRead.several t) (LegsRead.unread u) = absurd (u _ t.first)
legs_same (LegsRead.several t) (LegsRead.several t') = refl
legs_same (LegsRead.several t) (LegsRead.later o h) = absurd (not_several o t)
legs_same (LegsRead.later o h) (LegsRead.only o' h') = let rest = legs_same h h' in cc
legs_same (LegsRead.later o h) (LegsRead.unread u) = absurd (u _ o.reading)
legs_same (LegsRead.later o h) (LegsRead.several t) = absurd (not_several o t)
legs_same (LegsRead.later o h) (LegsRead.later o' h') = legs_same h h'
