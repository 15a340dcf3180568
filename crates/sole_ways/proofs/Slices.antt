-- A part of a stretch's lines: its ends, one line more behind it, and two parts one after the other.
use Prim.Native.Nat.{ℕ, suc, ◌+◌, ◌-◌, ◌≤◌, ◌<◌, max}
use mathlib.Core.Path.{◌≡◌, sym, subst, ◌∙◌, ap}
use mathlib.Core.List.{List, [], ◌∷◌, ◌++◌, append-nil}
use native.Mathlib.Omega.{arith}
use lib.ListN.{length, get_or, take, drop, take-append-drop}
use lib.Seq.{slice, slice_empty, slice-cons, length-slice, length-take-le, take-take, get_or-drop, get_or-take}
use Rattle.model.specs.Map.{Map}
use Rattle.model.specs.Lines.{line_at, Follows, Connected, single, linked, total, lowest, first_of, last_of}
use Rattle.model.proofs.Skipping.{total_append}
use Rattle.stretches.proofs.Ends.{last_is}
use Rattle.point_choice.proofs.Choosing.{cut_at}

module _ (m : Map) (s : List ℕ) (i : ℕ) where
  pub total_slice_none : 0 ≡ total m (slice i i s)
  unfolding total
  total_slice_none = rw (slice_empty i s)

  pub lowest_slice_none : 0 ≡ lowest m (slice i i s)
  unfolding lowest
  lowest_slice_none = rw (slice_empty i s)

module _ (s : List ℕ) (i j : ℕ) (h : i < j) (l : j ≤ length s) where
  pub first_of_slice : first_of (slice i j s) ≡ get_or s i 0
  unfolding first_of
  first_of_slice = rw (slice-cons i j s 0 h l)

  pub last_of_slice : last_of (slice i j s) ≡ get_or s (j - 1) 0
  last_of_slice =
      let size = length-slice i j s l in
      let e : i + (length (slice i j s) - 1) ≡ j - 1 = omega arith in
      sym (last_is (slice i j s))
      ∙ get_or-drop i (take j s) (length (slice i j s) - 1) 0
      ∙ ap (λ (k : ℕ). get_or (take j s) k 0) e
      ∙ get_or-take j s (j - 1) 0 (omega arith)

-- Two parts, one after the other.
pub slice_then : (i j k : ℕ) (s : List ℕ) → i ≤ j → j ≤ k → k ≤ length s → slice i k s ≡ slice i j s ++ slice j k s
slice_then i j k s h l inside =
    let size = length-take-le k s inside in
    sym (cut_at i j (take k s) h (omega arith)) ∙ ap (λ (ls : List ℕ). drop i ls ++ slice j k s) (take-take j k s l)

-- A part of one line.
pub slice_one : (i : ℕ) (s : List ℕ) → i < length s → slice i (i + 1) s ≡ get_or s i 0 ∷ []
slice_one i s h =
    let e : suc i ≡ i + 1 = omega arith in
    slice-cons i (i + 1) s 0 (omega arith) (omega arith) ∙ ap (λ (k : ℕ). get_or s i 0 ∷ slice k (i + 1) s) e
    ∙ ap (λ (ls : List ℕ). get_or s i 0 ∷ ls) (slice_empty (i + 1) s)

pub lowest_join : (m : Map) (xs ys : List ℕ) → lowest m (xs ++ ys) ≡ max (lowest m xs) (lowest m ys)
unfolding lowest
lowest_join m [] ys = omega arith
lowest_join m (x ∷ xs) ys = omega (arith, lowest_join m xs ys)

-- Two parts have the lengths of both and the lower class.
module _ (m : Map) (s : List ℕ) (i j k : ℕ) (h : i ≤ j) (l : j ≤ k) (inside : k ≤ length s) where
  pub total_then : total m (slice i k s) ≡ total m (slice i j s) + total m (slice j k s)
  total_then = ap (total m) (slice_then i j k s h l inside) ∙ total_append m (slice i j s) (slice j k s)

  pub lowest_then : lowest m (slice i k s) ≡ max (lowest m (slice i j s)) (lowest m (slice j k s))
  lowest_then = ap (lowest m) (slice_then i j k s h l inside) ∙ lowest_join m (slice i j s) (slice j k s)

-- One line more behind a part.
module _ (s : List ℕ) (i j : ℕ) (h : i ≤ j) (l : j < length s) where
  pub slice_more : slice i (j + 1) s ≡ slice i j s ++ get_or s j 0 ∷ []
  slice_more = slice_then i j (j + 1) s h (omega arith) (omega arith) ∙ ap (λ (ls : List ℕ). slice i j s ++ ls) (slice_one j s l)

  pub total_slice_more : (m : Map) → total m (slice i (j + 1) s) ≡ total m (slice i j s) + (line_at m (get_or s j 0)).length
  unfolding total
  total_slice_more m = omega (arith, total_then m s i j (j + 1) h (omega arith) (omega arith), ap (total m) (slice_one j s l))

  pub lowest_slice_more : (m : Map) → lowest m (slice i (j + 1) s) ≡ max (lowest m (slice i j s)) (line_at m (get_or s j 0)).frc
  unfolding lowest
  lowest_slice_more m = omega (arith, lowest_then m s i j (j + 1) h (omega arith) (omega arith), ap (lowest m) (slice_one j s l))

-- Parts of connected lines are connected.
pub connected_front : {m : Map} (xs ys : List ℕ) → 0 < length xs → Connected m (xs ++ ys) → Connected m xs
connected_front [] ys h c = absurd (omega arith)
connected_front (x ∷ []) [] h c = c
connected_front (x ∷ []) (y ∷ ys) h (linked l f c) = single l
connected_front (x ∷ x' ∷ xs) ys h (linked l f c) = linked l f (connected_front (x' ∷ xs) ys (omega arith) c)

pub connected_back : {m : Map} (xs ys : List ℕ) → 0 < length ys → Connected m (xs ++ ys) → Connected m ys
connected_back [] ys h c = c
connected_back (x ∷ []) [] h c = absurd (omega arith)
connected_back (x ∷ []) (y ∷ ys) h (linked l f c) = c
connected_back (x ∷ x' ∷ xs) ys h (linked l f c) = connected_back (x' ∷ xs) ys h c

pub slice_connected : {m : Map} (s : List ℕ) (i j : ℕ) → i < j → j ≤ length s → Connected m s → Connected m (slice i j s)
slice_connected {m} s i j h l c =
    let size = length-take-le j s l in
    let front : Connected m (take j s) = connected_front (take j s) (drop j s) (omega arith) (rw (take-append-drop j s) c) in
    connected_back (take i (take j s)) (slice i j s) (omega (arith, length-slice i j s l)) (rw (take-append-drop i (take j s)) front)

-- The next line of connected lines follows the last of them.
follows_last : {m : Map} (xs ys : List ℕ) → 0 < length xs → 0 < length ys → Connected m (xs ++ ys) → Follows m (last_of xs) (first_of ys)
unfolding last_of first_of
follows_last [] ys h k c = absurd (omega arith)
follows_last (x ∷ []) [] h k c = absurd (omega arith)
follows_last (x ∷ []) (y ∷ ys) h k (linked l f c) = f
follows_last (x ∷ x' ∷ xs) ys h k (linked l f c) = follows_last (x' ∷ xs) ys (omega arith) k c

pub next_follows : {m : Map} (s : List ℕ) (j : ℕ) → 0 < j → j < length s → Connected m s → Follows m (get_or s (j - 1) 0) (get_or s j 0)
unfolding last_of first_of
next_follows {m} s j some h c =
    let parts = slice_then 0 j (j + 1) s (omega arith) (omega arith) (omega arith) in
    let whole = slice_connected s 0 (j + 1) (omega arith) (omega arith) c in
    let f = follows_last (slice 0 j s) (slice j (j + 1) s) (omega (arith, length-slice 0 j s (omega arith)))
    (omega (arith, length-slice j (j + 1) s (omega arith))) (subst (Connected m) parts whole) in
    subst (λ (x : ℕ). Follows m x (get_or s j 0)) (last_of_slice s 0 j some (omega arith))
    (subst (Follows m (last_of (slice 0 j s))) (first_of_slice s j (j + 1) (omega arith) (omega arith)) f)

-- Lines in front of others, or behind them, are replaced by some that meet them with the same line.
pub connected_other : {m : Map} (front ls os : List ℕ) → 0 < length ls → 0 < length os → Connected m os → first_of os ≡ first_of ls →
    Connected m (front ++ ls) → Connected m (front ++ os)
unfolding first_of
connected_other [] ls os some more k e c = k
connected_other (x ∷ []) [] os some more k e c = absurd (omega arith)
connected_other (x ∷ []) (l ∷ ls) [] some more k e c = absurd (omega arith)
connected_other {m} (x ∷ []) (l ∷ ls) (o ∷ os) some more k e (linked h f c) = linked h (subst (Follows m x) (sym e) f) k
connected_other (x ∷ x' ∷ xs) ls os some more k e (linked h f c) = linked h f (connected_other (x' ∷ xs) ls os some more k e c)

joined : {m : Map} (xs ys : List ℕ) → Connected m xs → 0 < length ys → Connected m ys → Follows m (last_of xs) (first_of ys) → Connected m (xs ++ ys)
unfolding last_of first_of
joined {m = m} [] ys c some k f = elim c [ ]
joined (x ∷ []) [] (single h) some k f = absurd (omega arith)
joined (x ∷ []) (y ∷ ys) (single h) some k f = linked h f k
joined (x ∷ x' ∷ xs) ys (linked h g c) some k f = linked h g (joined (x' ∷ xs) ys c some k f)

pub connected_for : {m : Map} (ls os back : List ℕ) → Connected m os → 0 < length ls → last_of os ≡ last_of ls → Connected m (ls ++ back) →
    Connected m (os ++ back)
connected_for {m} ls os [] k some e c = subst (Connected m) (sym (append-nil os)) k
connected_for {m} ls os (b ∷ back) k some e c =
    joined os (b ∷ back) k (omega arith) (connected_back ls (b ∷ back) (omega arith) c)
    (subst (λ (x : ℕ). Follows m x (first_of (b ∷ back))) (sym e) (follows_last ls (b ∷ back) some (omega arith) c))
