-- The rest of a list, lent from a place on and put back; and a place behind the end.
use Prim.Native.Nat.{ℕ, zero, suc, ◌-◌, ◌≤◌, min}
use mathlib.Core.Path.{◌≡◌, refl, sym, ◌∙◌, ap}
use mathlib.Core.List.{List, [], ◌++◌, append-nil}
use native.Mathlib.Omega.{arith}
use lib.ListN.{length, take, drop, length-drop, drop_of_length-le}
use lib.Seq.{take_all}

pub tail_lent : (a : ℕ) (xs : List ℕ) → take (length xs - a) (drop a xs) ≡ drop a xs
tail_lent a xs = take_all (length xs - a) (drop a xs) (omega (arith, length-drop a xs))

pub tail_back : (a : ℕ) (xs ys : List ℕ) → take a xs ++ (ys ++ drop (length xs - a) (drop a xs)) ≡ take a xs ++ ys
tail_back a xs ys =
    let all : length (drop a xs) ≤ length xs - a = omega (arith, length-drop a xs) in
    let none : drop (length xs - a) (drop a xs) ≡ [] = drop_of_length-le (drop a xs) all in
    rw (none, append-nil ys)

-- A place behind the end stands for nothing, as the end does.
pub drop_lesser : (n : ℕ) (l : List ℕ) → drop (min n (length l)) l ≡ drop n l
drop_lesser n l = go (n - length l) refl
  where
    go : (over : ℕ) → n - length l ≡ over → drop (min n (length l)) l ≡ drop n l
    go zero e = let same : min n (length l) ≡ n = omega arith in ap (λ (k : ℕ). drop k l) same
    go (suc over) e =
        let end : min n (length l) ≡ length l = omega arith in
        let far : length l ≤ n = omega arith in
        let at : length l ≤ length l = omega arith in
        ap (λ (k : ℕ). drop k l) end ∙ drop_of_length-le l at ∙ sym (drop_of_length-le l far)
