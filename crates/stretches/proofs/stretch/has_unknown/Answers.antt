-- The call of `any` and `unknown` say the same of the lines.
use Rattle.std.proofs.Common.{ℕ, ◌<◌, ◌≤◌, Bool, true, false, leb, List, length, Decides, MatchBool, refl, arith, rules, tests}
use Rattle.std.specs.List.{HoldsAt, AllWithin}
use Rattle.std.proofs.lemmas.Iterator.{cases_from_any, YieldsList-from_slice}
use Rattle.std.proofs.lemmas.Bool.{false≢true}
use Rattle.std.proofs.lemmas.Bool.Decides.{same_from_decides, Decides-by_or}
use borrow.Author.Tests.{leb-true, le-leb}
use Rattle.model.specs.Stretch.{unknown}
use Rattle.stretches.proofs.stretch.has_unknown.Goals as goal

abbrev HasUnknown : ℕ → List ℕ → Type 0
HasUnknown n ls = (k : ℕ) × (k < length ls) × HoldsAt (λ l. n ≤ l) ls k

Decides-from_cases : (r : Bool) (n : ℕ) (ls : List ℕ) → MatchBool r (HasUnknown n ls) (AllWithin (λ l. l < n) ls 0 (length ls)) → Decides r (HasUnknown n ls)
Decides-from_cases true n ls h = (λ _. h, λ _. refl)
Decides-from_cases false n ls h =
    (λ e. absurd (false≢true e), λ w. absurd (omega (arith, h w.0 0 (omega arith) w.1, w.2 0)))

pub returns : goal.returns
unfolding unknown
returns c m e =
    let ls = c.args.stretch.now in
    let n = length m.lines in
    let by_call = cases_from_any _ _ _ (λ l. n ≤ l) (λ l. l < n) c.any.ensures.ran (YieldsList-from_slice ls cc)
    (λ x q k. rw e (search (rules, tests))) (λ x q k. rw e (search (rules, tests))) in
    let by_spec = Decides-by_or (leb n) (λ l. n ≤ l) (λ (xs : List ℕ). unknown m xs) (λ l. (leb-true n l, le-leb n l)) refl (λ _ _. refl) ls in
    same_from_decides _ (unknown m ls) (Decides-from_cases _ n ls by_call) by_spec
