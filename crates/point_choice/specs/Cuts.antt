-- Where a stretch of `n` lines is cut into legs, given which legs are good (paper 01, "What counts as a reading", last paragraph).
-- Position `i` is before line `i`, and position `n` is the end. The leg from `i` to `j` has the lines between.
use Rattle.std.specs.Prelude.{ℕ, suc, ◌+◌, ◌*◌, ◌≤◌, ◌<◌, ◌≡◌, ◌⊎◌, Bool, List, [], ◌∷◌, ◌++◌, length, get_or, drop, eqb, Option, None, Some}
use Rattle.std.proofs.Math.Seq.{slice}
use Rattle.model.specs.Choice.{LegTest}

-- The good legs of a table: number 65 × i + j is 1.
abbrev pub GoodIn : List ℕ → ℕ → ℕ → Type 0
GoodIn table i j = get_or table (65 * i + j) 0 ≡ 1

-- Good legs from `i` to `n`, by where each ends.
pub data Route (good : ℕ → ℕ → Type 0) (n : ℕ) : ℕ → List ℕ → Type 0 where
  there : Route good n n []
  leg : {i j : ℕ} {cs : List ℕ} → i < j → good i j → Route good n j cs → Route good n i (j ∷ cs)

-- The same cuts, or the first that differs is further on.
pub data FurtherFirst : List ℕ → List ℕ → Type 0 where
  same : {xs : List ℕ} → FurtherFirst xs xs
  more : {a b : ℕ} {xs ys : List ℕ} → b < a → FurtherFirst (a ∷ xs) (b ∷ ys)
  later : {a : ℕ} {xs ys : List ℕ} → FurtherFirst xs ys → FurtherFirst (a ∷ xs) (a ∷ ys)

-- The route to take: the fewest legs, and of those the furthest cuts first.
pub record Best (good : ℕ → ℕ → Type 0) (n i : ℕ) (cs : List ℕ) : Type 0 where
  pub route : Route good n i cs
  pub fewest : (others : List ℕ) → Route good n i others → length cs ≤ length others
  pub furthest : (others : List ℕ) → Route good n i others → length others ≡ length cs → FurtherFirst cs others

abbrev pub NoRoute : (ℕ → ℕ → Type 0) → ℕ → ℕ → Type 0
NoRoute good n i = (cs : List ℕ) → Route good n i cs → ⊥

-- The number of legs of the route to take, or 65 where there is none.
abbrev pub Fewest : (ℕ → ℕ → Type 0) → ℕ → ℕ → ℕ → Type 0
Fewest good n i legs = ((cs : List ℕ) × Best good n i cs × (length cs ≡ legs)) ⊎ ((legs ≡ 65) × NoRoute good n i)

-- That number, and where the route's first leg ends.
abbrev pub FirstCut : (ℕ → ℕ → Type 0) → ℕ → ℕ → ℕ → ℕ → Type 0
FirstCut good n i to legs = ((cs : List ℕ) × Best good n i (to ∷ cs) × (suc (length cs) ≡ legs)) ⊎ ((legs ≡ 65) × NoRoute good n i)

-- A list has that number for each position from `i` on.
abbrev pub TellsFewest : (ℕ → ℕ → Type 0) → ℕ → List ℕ → ℕ → Type 0
TellsFewest good n best i = (k : ℕ) → i ≤ k → k ≤ n → Fewest good n k (get_or best k 0)

-- An answer on the number of legs of the route to take from the start.
abbrev pub FewestAnswers : (ℕ → ℕ → Type 0) → ℕ → Option ℕ → Type 0
FewestAnswers good n None = NoRoute good n 0
FewestAnswers good n (Some legs) = (cs : List ℕ) × Best good n 0 cs × (length cs ≡ legs)

-- An answer, with what the cuts' buffer held before and holds after it: 0 and the cuts of the route to take in front, or no change.
abbrev pub CutAnswers : (ℕ → ℕ → Type 0) → ℕ → Option ℕ → List ℕ → List ℕ → Type 0
CutAnswers good n None before after = NoRoute good n 0 × (after ≡ before)
CutAnswers good n (Some k) before after =
    (cs : List ℕ) × Best good n 0 cs × (length cs ≡ k) × (after ≡ (0 ∷ cs) ++ drop (k + 1) before)

-- The legs that cuts from `i` on make of some lines.
unfoldable pub cut_legs : List ℕ → ℕ → List ℕ → List (List ℕ)
cut_legs lines i [] = []
cut_legs lines i (j ∷ cs) = slice i j lines ∷ cut_legs lines j cs

-- What a test says of the leg from `i` to `j` of these lines.
abbrev pub Tested : LegTest → List ℕ → ℕ → ℕ → Type 0
Tested test lines i j = test i (eqb j (length lines)) (slice i j lines)

-- Every good leg of these lines passes the test.
abbrev pub Sound : LegTest → List ℕ → (ℕ → ℕ → Type 0) → Type 0
Sound test lines good = (i j : ℕ) → i < j → j ≤ length lines → good i j → Tested test lines i j

-- Every leg of these lines that passes the test is good.
abbrev pub Complete : LegTest → List ℕ → (ℕ → ℕ → Type 0) → Type 0
Complete test lines good = (i j : ℕ) → i < j → j ≤ length lines → Tested test lines i j → good i j

-- What passes the test has a line at least.
abbrev pub HasLines : LegTest → Type 0
HasLines test = (at : ℕ) (last : Bool) (ls : List ℕ) → test at last ls → 0 < length ls
