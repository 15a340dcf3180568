-- A number put into groups of seven bits, one group after another.
use Prim.Native.Nat.{ℕ, suc, ◌+◌, ◌-◌, ◌/◌, ◌%◌, ◌≤◌, ◌<◌}
use mathlib.Core.Path.{◌≡◌, refl, sym, ◌∙◌, ap}
use mathlib.Core.List.{List, [], ◌∷◌, ◌++◌, append_assoc, append-nil}
use native.Mathlib.Omega.{arith}
use lib.ListN.{length, take, drop, set, length-append, length-set, take-append-drop}
use lib.Seq.{set_split, take-suc-set, drop-set-lt, drop-drop, append_snoc, length-take-le}
use borrow.Author.Tests.{lt-ltb, le-ltb}
use Rattle.model.specs.Number.{group_bytes, number_bytes}
use Rattle.model.specs.Work.{placed}

-- After i groups: they stand there, and what is left of the number is still to come.
pub record Putting (x : ℕ) (before now : List ℕ) (i rest : ℕ) : Type 0 where
  pub within : i ≤ 5
  pub room : 5 ≤ length before
  pub same : length now ≡ length before
  pub put : take i now ++ group_bytes (5 - i) rest ≡ number_bytes x
  pub behind : drop i now ≡ drop i before

pub putting_start : (x : ℕ) (before : List ℕ) → 5 ≤ length before → Putting x before before 0 x
unfolding number_bytes
putting_start x before h = record { within = omega arith; room = h; same = refl; put = refl; behind = refl }

last_group : (most x : ℕ) → x < 128 → group_bytes (suc most) x ≡ x ∷ []
unfolding group_bytes
last_group most x h = rw (group_bytes, lt-ltb x 128 h)

one_more : (most x : ℕ) → 128 ≤ x → group_bytes (suc most) x ≡ (x % 128 + 128) ∷ group_bytes most (x / 128)
unfolding group_bytes
one_more most x h = rw (group_bytes, le-ltb x 128 h)

behind_more : (i : ℕ) (l m : List ℕ) → drop i l ≡ drop i m → drop (suc i) l ≡ drop (suc i) m
behind_more i l m e =
    let one : suc i ≡ i + 1 = omega arith in
    rw one (sym (drop-drop 1 i l) ∙ ap (drop 1) e ∙ drop-drop 1 i m)

module _ {x : ℕ} {before now : List ℕ} {i rest : ℕ} (p : Putting x before now i rest) (more : i < 5) where
  here : i < length now
  here = omega (arith, p.room, p.same)

  pub put_last : rest < 128 → (i + 1 ≡ length (number_bytes x)) × (set now i rest ≡ placed (number_bytes x) before)
  unfolding placed
  put_last small =
      let left : 5 - i ≡ suc (4 - i) = omega arith in
      let e : take i now ++ rest ∷ [] ≡ number_bytes x =
      ap (λ (l : List ℕ). take i now ++ l) (sym (last_group (4 - i) rest small)) ∙ ap (λ (n : ℕ). take i now ++ group_bytes n rest) (sym left) ∙ p.put in
      let count : length (number_bytes x) ≡ i + 1 =
      sym (ap length e) ∙ length-append (take i now) (rest ∷ []) ∙ ap (λ (n : ℕ). n + 1) (length-take-le i now (omega (arith, here))) in
      let one : i + 1 ≡ suc i = omega arith in (
        sym count,
        set_split now i rest here ∙ sym (append_snoc (take i now) rest (drop (suc i) now))
            ∙ ap (λ (l : List ℕ). l ++ drop (suc i) now) e ∙ ap (λ (l : List ℕ). number_bytes x ++ l) (behind_more i now before p.behind)
            ∙ ap (λ (n : ℕ). number_bytes x ++ drop n before) (sym (count ∙ one)),
      )

  pub put_more : 128 ≤ rest → Putting x before (set now i (rest % 128 + 128)) (i + 1) (rest / 128)
  put_more large =
      let left : 5 - i ≡ suc (4 - i) = omega arith in
      let after : 5 - (i + 1) ≡ 4 - i = omega arith in
      let one : i + 1 ≡ suc i = omega arith in
      let v = rest % 128 + 128 in
      record {
        within = omega arith;
        room = p.room;
        same = length-set now i v ∙ p.same;
        put =
            rw (after, one, take-suc-set now i v here)
            (append_assoc (take i now) (v ∷ []) (group_bytes (4 - i) (rest / 128))
            ∙ ap (λ (l : List ℕ). take i now ++ l) (sym (one_more (4 - i) rest large))
            ∙ ap (λ (n : ℕ). take i now ++ group_bytes n rest) (sym left) ∙ p.put);
        behind = rw one (drop-set-lt (suc i) now i v (omega arith) ∙ behind_more i now before p.behind);
      }

pub put_all : {x : ℕ} {before now : List ℕ} {i rest : ℕ} → Putting x before now i rest → 5 ≤ i → (5 ≡ length (number_bytes x)) × (now ≡ placed (number_bytes x) before)
unfolding placed group_bytes
put_all {x} {before} {now} {i} {rest} p full =
    let five : i ≡ 5 = omega (arith, p.within) in
    let none : 5 - i ≡ 0 = omega arith in
    let e : take 5 now ≡ number_bytes x =
    ap (λ (n : ℕ). take n now) (sym five) ∙ sym (append-nil (take i now)) ∙ ap (λ (n : ℕ). take i now ++ group_bytes n rest) (sym none) ∙ p.put in
    let count : length (number_bytes x) ≡ 5 = sym (ap length e) ∙ length-take-le 5 now (omega (arith, p.room, p.same)) in (
      sym count,
      sym (take-append-drop 5 now) ∙ ap (λ (l : List ℕ). l ++ drop 5 now) e
          ∙ ap (λ (l : List ℕ). number_bytes x ++ l) (ap (λ (n : ℕ). drop n now) (sym five) ∙ p.behind ∙ ap (λ (n : ℕ). drop n before) five)
          ∙ ap (λ (n : ℕ). number_bytes x ++ drop n before) (sym count),
    )
