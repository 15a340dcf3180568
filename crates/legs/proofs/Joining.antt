-- Verdicts on two kinds of lists, joined.
use Prim.Native.Nat.{ℕ}
use mathlib.Core.Path.{◌≡◌, refl}
use mathlib.Core.Logic.{◌⊎◌, inl, inr, ⊎_elim}
use mathlib.Core.List.{List}
use Rattle.model.specs.Map.{Map}
use Rattle.fields.specs.declared.leg.Reading.{Reading}
use Rattle.fields.specs.declared.leg.Verdict.{Verdict}
use Rattle.fields.specs.declared.leg.Verdict.TheVariants.{Unread, One}
use Rattle.legs.specs.Verdict.{OneList, TwoLists, Says, unread, one, several, both_of}

-- A verdict on lists of one property is one on lists of another that has the same lists.
module _ {m : Map} {P Q : List ℕ → Type 0} {N : Reading → List ℕ → Type 0} (there : (ls : List ℕ) → P ls → Q ls) (back : (ls : List ℕ) → Q ls → P ls) where
  pub says_same : {v : Verdict} → Says m P N v → Says m Q N v
  says_same (unread no_list) = unread λ ls q. no_list ls (back ls q)
  says_same (one {ls = ls} o n) =
      one {ls = ls}
      (record {
        holds = there ls o.holds;
        only = λ other q. o.only other (back other q);
        first = o.first;
        last = o.last;
        sum = o.sum;
        count = o.count;
      })
      n
  says_same (several t) =
      several (record { one = t.one; other = t.other; first = there _ t.first; second = there _ t.second; differ = t.differ })

-- Lists that have one of two properties, which no list has both of.
abbrev pub Either : (List ℕ → Type 0) → (List ℕ → Type 0) → List ℕ → Type 0
Either P Q ls = P ls ⊎ Q ls

two_lists : {P Q : List ℕ → Type 0} → ((ls : List ℕ) → P ls → Q ls) → TwoLists P → TwoLists Q
two_lists f t = record { one = t.one; other = t.other; first = f _ t.first; second = f _ t.second; differ = t.differ }

-- A verdict on lists of the first property, where no list has the second, and the other way round.
first_only : {m : Map} {P Q : List ℕ → Type 0} {N : Reading → List ℕ → Type 0} {v : Verdict} → ((ls : List ℕ) → Q ls → ⊥) → Says m P N v →
    Says m (Either P Q) N v
first_only no_list s = says_same (λ ls p. inl p) (λ ls e. ⊎_elim (λ p. p) (λ q. absurd (no_list ls q)) e) s

second_only : {m : Map} {P Q : List ℕ → Type 0} {N : Reading → List ℕ → Type 0} {v : Verdict} → ((ls : List ℕ) → P ls → ⊥) → Says m Q N v →
    Says m (Either P Q) N v
second_only no_list s = says_same (λ ls q. inr q) (λ ls e. ⊎_elim (λ p. absurd (no_list ls p)) (λ q. q) e) s

-- What is said of the one list may become another thing that follows from it.
pub says_then : {m : Map} {P : List ℕ → Type 0} {N N' : Reading → List ℕ → Type 0} {v : Verdict} →
    ((r : Reading) (ls : List ℕ) → v ≡ One r → OneList m P r ls → N r ls → N' r ls) → Says m P N v → Says m P N' v
says_then f (unread no_list) = unread no_list
says_then f (one {r = r} {ls = ls} o n) = one o (f r ls refl o n)
says_then f (several t) = several t

-- The verdicts joined. What is said of the one list stays where the other verdict is that there is none.
pub says_both : {m : Map} {P Q : List ℕ → Type 0} {N A B : Reading → List ℕ → Type 0} {a b : Verdict} → ((ls : List ℕ) → P ls → Q ls → ⊥) →
    ((r : Reading) (ls : List ℕ) → b ≡ Unread → A r ls → N r ls) →
    ((r : Reading) (ls : List ℕ) → a ≡ Unread → b ≡ One r → OneList m Q r ls → B r ls → N r ls) →
    Says m P A a → Says m Q B b → Says m (Either P Q) N (both_of a b)
unfolding both_of
says_both apart f g (unread no_list) t = second_only no_list (says_then (λ r ls e o n. g r ls refl e o n) t)
says_both apart f g (one o n) (unread no_list) = first_only no_list (one o (f _ _ refl n))
says_both apart f g (one {ls = ls} o n) (one {ls = ks} q k) =
    several
    (record { one = ls; other = ks; first = inl o.holds; second = inr q.holds; differ = λ e. apart ks (rw e at o.holds) q.holds })
says_both apart f g (one o n) (several t) = several (two_lists (λ ls q. inr q) t)
says_both apart f g (several t) s = several (two_lists (λ ls p. inl p) t)
