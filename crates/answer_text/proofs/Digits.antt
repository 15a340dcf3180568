-- Digits put from the last to the first, and numbers one behind another.
use Prim.Native.Nat.{ℕ, suc, ◌+◌, ◌/◌, ◌%◌, ◌≤◌, ◌<◌}
use mathlib.Core.Path.{◌≡◌, refl, sym, ◌∙◌, ap}
use mathlib.Core.List.{List, [], ◌∷◌, ◌++◌, append_assoc, append-nil}
use native.Mathlib.Omega.{arith}
use native.Mathlib.Numerals.{add-one}
use lib.ListN.{length, take, drop, get_or, set}
use lib.Seq.{take-suc, length-take-le, set_split, drop_at}
use Rattle.model.specs.Text.{digits, numbered, each}
use Rattle.model.proofs.Text.{digits_one, digits_more}

-- A store, seen from its place on.
drop_set : (l : List ℕ) (j x : ℕ) → j < length l → drop j (set l j x) ≡ x ∷ drop (suc j) l
drop_set l j x h = ap (drop j) (set_split l j x h) ∙ drop_at (take j l) (x ∷ drop (suc j) l) j (length-take-le j l (omega arith))

module _ (j x : ℕ) (l : List ℕ) (h : j < length l) where
  -- The first digit.
  pub digit_first : x < 10 → drop j (set l j (48 + x % 10)) ≡ digits (suc j) x ++ drop (suc j) l
  digit_first one =
      let same : 48 + x % 10 ≡ 48 + x = omega arith in
      drop_set l j (48 + x % 10) h
      ∙ ap (λ (d : ℕ). d ∷ drop (suc j) l) same
      ∙ sym (ap (λ (k : List ℕ). k ++ drop (suc j) l) (digits_one j x one))

  -- A digit with others before it.
  pub digit_more : 10 ≤ x → digits j (x / 10) ++ drop j (set l j (48 + x % 10)) ≡ digits (suc j) x ++ drop (suc j) l
  digit_more more =
      ap (λ (k : List ℕ). digits j (x / 10) ++ k) (drop_set l j (48 + x % 10) h)
      ∙ sym (append_assoc (digits j (x / 10)) ((48 + x % 10) ∷ []) (drop (suc j) l))
      ∙ sym (ap (λ (k : List ℕ). k ++ drop (suc j) l) (digits_more j x more))

-- One number more.
each_append : (word xs ys : List ℕ) → each word (xs ++ ys) ≡ each word xs ++ each word ys
unfolding each
each_append word [] ys = refl
each_append word (x ∷ xs) ys =
    ap (λ (k : List ℕ). numbered word x ++ k) (each_append word xs ys) ∙ sym (append_assoc (numbered word x) (each word xs) (each word ys))

pub each_more : (word xs : List ℕ) (i : ℕ) → i < length xs → each word (take (i + 1) xs) ≡ each word (take i xs) ++ numbered word (get_or xs i 0)
unfolding each
each_more word xs i h =
    ap (λ (k : ℕ). each word (take k xs)) (add-one i)
    ∙ ap (each word) (take-suc xs i 0 h)
    ∙ each_append word (take i xs) (get_or xs i 0 ∷ [])
    ∙ ap (λ (k : List ℕ). each word (take i xs) ++ k) (append-nil (numbered word (get_or xs i 0)))
