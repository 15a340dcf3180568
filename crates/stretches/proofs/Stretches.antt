-- A stretch line by line: unknown lines, gaps, its length, and what an offset drops.
use Prim.Native.Nat.{ℕ, zero, suc, ◌+◌, ◌-◌, ◌≤◌, ◌<◌}
use mathlib.Core.Path.{◌≡◌, refl, sym, ◌∙◌, ap}
use mathlib.Core.Bool.{Bool, true, false}
use mathlib.Core.List.{List, [], ◌∷◌, ◌++◌, reverse, reverse-append, reverse-reverse}
use native.Mathlib.Numerals.{add-one}
use native.Mathlib.Omega.{arith}
use lib.ListN.{length, get_or, take, drop, length-drop}
use lib.Seq.{drop-cons, take-suc, take-length, drop-length, get_or-drop}
use lib.Dec.{leb}
use borrow.Author.Tests.{leb-false, le-leb, lt-leb, eq-eqb, ne_eqb}
use Rattle.model.specs.Map.{Map}
use Rattle.model.specs.Lines.{line_at, total}
use Rattle.model.specs.Stretch.{unknown, some_pair, apart, gap, skip, remaining, stretch_of}
use Rattle.model.proofs.Tests.{neither}
use Rattle.model.proofs.Skipping.{total_append}
use Rattle.stretches.specs.Known.{Known}
use Rattle.stretches.specs.Stretch.{Skips}

-- One line more, and the end.
pub drop_next : (ls : List ℕ) (i : ℕ) → i < length ls → drop i ls ≡ get_or ls i 0 ∷ drop (i + 1) ls
drop_next ls i h = rw add-one (drop-cons ls i 0 h)

pub take_next : (ls : List ℕ) (i : ℕ) → i < length ls → take (i + 1) ls ≡ take i ls ++ (get_or ls i 0 ∷ [])
take_next ls i h = rw add-one (take-suc ls i 0 h)

drop_end : (ls : List ℕ) (i : ℕ) → i ≡ length ls → drop i ls ≡ []
drop_end ls i e = rw e (drop-length ls)

-- Pairs by the place of the second of two lines.
module _ (faulty : ℕ → ℕ → Bool) (ls : List ℕ) where
  pub pair_here : (i : ℕ) → 0 < i → i < length ls → faulty (get_or ls (i - 1) 0) (get_or ls i 0) ≡ true → some_pair faulty (drop (i - 1) ls) ≡ true
  unfolding some_pair
  pair_here i pos h is =
      let e : i - 1 + 1 ≡ i = omega arith in
      rw (drop_next ls (i - 1) (omega arith), e, drop_next ls i h, is)

  pub pair_on : (i : ℕ) → 0 < i → i < length ls → faulty (get_or ls (i - 1) 0) (get_or ls i 0) ≡ false →
      some_pair faulty (drop (i - 1) ls) ≡ some_pair faulty (drop (i + 1 - 1) ls)
  unfolding some_pair
  pair_on i pos h is =
      let e : i - 1 + 1 ≡ i = omega arith in
      let e' : i + 1 - 1 ≡ i = omega arith in
      rw (e', drop_next ls (i - 1) (omega arith), e, drop_next ls i h, is)

  pub pair_none : (i : ℕ) → length ls ≤ i → some_pair faulty (drop (i - 1) ls) ≡ false
  unfolding some_pair
  pair_none i h = short (drop (i - 1) ls) (rw length-drop (omega arith))
    where
      short : (ks : List ℕ) → length ks ≤ 1 → some_pair faulty ks ≡ false
      short [] h = refl
      short (l ∷ []) h = refl
      short (l ∷ k ∷ ks) h = absurd (omega arith)

module _ (m : Map) (ls : List ℕ) (i : ℕ) (pos : 0 < i) (h : i < length ls) where
  pub gap_here : ((line_at m (get_or ls (i - 1) 0)).end ≡ (line_at m (get_or ls i 0)).start → ⊥) → gap m (drop (i - 1) ls) ≡ true
  unfolding apart
  gap_here differ = pair_here (apart m) ls i pos h (rw (ne_eqb _ _ differ))

  pub gap_on : (line_at m (get_or ls (i - 1) 0)).end ≡ (line_at m (get_or ls i 0)).start → gap m (drop (i - 1) ls) ≡ gap m (drop (i + 1 - 1) ls)
  unfolding apart
  gap_on same = pair_on (apart m) ls i pos h (rw (eq-eqb _ _ same))

module _ (m : Map) (ls : List ℕ) where
  pub total_none : 0 ≡ total m (take 0 ls)
  unfolding total
  total_none = refl

  pub total_on : (i : ℕ) → i < length ls → total m (take (i + 1) ls) ≡ total m (take i ls) + (line_at m (get_or ls i 0)).length
  unfolding total
  total_on i h = rw (take_next ls i h, total_append) (omega arith)

-- What an offset drops from the front of some lines.
module _ (m : Map) (offset l : ℕ) (ls : List ℕ) where
  skip_stop : offset < (line_at m l).length → skip m offset (l ∷ ls) ≡ record { lines = l ∷ ls; offset = offset }
  unfolding skip
  skip_stop h = rw (skip, lt-leb _ _ h)

  skip_on : (line_at m l).length ≤ offset → skip m offset (l ∷ ls) ≡ skip m (offset - (line_at m l).length) ls
  unfolding skip
  skip_on h = rw (skip, le-leb _ _ h)

skip_none : (m : Map) (offset : ℕ) → skip m offset [] ≡ record { lines = []; offset = offset }
unfolding skip
skip_none m offset = refl

-- The lines from `at` on, and the lines before `at` from the last to the first.
module _ (m : Map) (ls : List ℕ) (left : ℕ) where
  pub front_stop : (at : ℕ) → at < length ls → left < (line_at m (get_or ls at 0)).length → Skips m left (drop at ls) (drop at ls) left
  front_stop at h s = rw (drop_next ls at h) (skip_stop m left _ _ s)

  pub front_on : (at : ℕ) → at < length ls → (line_at m (get_or ls at 0)).length ≤ left →
      skip m left (drop at ls) ≡ skip m (left - (line_at m (get_or ls at 0)).length) (drop (at + 1) ls)
  front_on at h s = rw (drop_next ls at h) (skip_on m left _ _ s)

  pub front_none : (at : ℕ) → at ≡ length ls → Skips m left (drop at ls) (drop at ls) left
  front_none at e = rw (drop_end ls at e) (skip_none m left)

  back_next : (at : ℕ) → 0 < at → at ≤ length ls → reverse (take at ls) ≡ get_or ls (at - 1) 0 ∷ reverse (take (at - 1) ls)
  back_next at pos h =
      let e : at - 1 + 1 ≡ at = omega arith in
      ap (λ (k : ℕ). reverse (take k ls)) (sym e)
      ∙ ap reverse (take_next ls (at - 1) (omega arith))
      ∙ reverse-append (take (at - 1) ls) (get_or ls (at - 1) 0 ∷ [])

  pub back_stop : (at : ℕ) → 0 < at → at ≤ length ls → left < (line_at m (get_or ls (at - 1) 0)).length →
      Skips m left (reverse (take at ls)) (reverse (take at ls)) left
  back_stop at pos h s = rw (back_next at pos h) (skip_stop m left _ _ s)

  pub back_on : (at : ℕ) → 0 < at → at ≤ length ls → (line_at m (get_or ls (at - 1) 0)).length ≤ left →
      skip m left (reverse (take at ls)) ≡ skip m (left - (line_at m (get_or ls (at - 1) 0)).length) (reverse (take (at - 1) ls))
  back_on at pos h s = rw (back_next at pos h) (skip_on m left _ _ s)

  pub back_none : (at : ℕ) → at ≡ 0 → Skips m left (reverse (take at ls)) (reverse (take at ls)) left
  back_none at e = rw e (skip_none m left)

-- Both offsets.
pub both_ends : (m : Map) (ls : List ℕ) (pos neg from at pos' neg' : ℕ) → Skips m pos ls (drop from ls) pos' →
    Skips m neg (reverse (drop from ls)) (reverse (take at (drop from ls))) neg' →
    remaining m (stretch_of ls pos neg) ≡ stretch_of (take at (drop from ls)) pos' neg'
unfolding remaining
both_ends m ls pos neg from at pos' neg' f b = rw (f, b, reverse-reverse)

pub known_drop : (lines : ℕ) (ls : List ℕ) (from : ℕ) → Known lines ls → Known lines (drop from ls)
known_drop lines ls from known i h = rw (get_or-drop from ls i 0) (known (from + i) (let k = length-drop from ls in omega arith))

-- A stretch without an unknown line.
pub known_all : (m : Map) (ls : List ℕ) → unknown m ls ≡ false → Known (length m.lines) ls
unfolding unknown
known_all m [] e i h = absurd (omega arith)
known_all m (l ∷ ls) e zero h = leb-false _ _ (neither (leb (length m.lines) l) (unknown m ls) e).0
known_all m (l ∷ ls) e (suc i) h = known_all m ls (neither (leb (length m.lines) l) (unknown m ls) e).1 i (omega arith)

-- The part of some lines from `from` on, as it is lent.
pub lent_rest : (ls : List ℕ) (from : ℕ) → take (length ls - from) (drop from ls) ≡ drop from ls
lent_rest ls from = rw (← length-drop from ls, take-length)
