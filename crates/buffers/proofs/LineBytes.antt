-- Laws of numbers as four bytes each: how many, one more, and the number at a place.
use Prim.Native.Nat.{ℕ, zero, suc, ◌+◌, ◌*◌, ◌/◌, ◌≤◌, ◌<◌, min}
use mathlib.Core.Path.{◌≡◌, refl, sym, ap, subst, ◌∙◌}
use mathlib.Core.List.{List, [], ◌∷◌, ◌++◌, append_assoc}
use native.Mathlib.Omega.{arith}
use native.Mathlib.Numerals.{add-one, unary_clauses}
use lib.ListN.{length, take, drop, get_or, set}
use lib.Seq.{take-suc, take_at, drop-drop, drop-append-add, length-take-le, take-length, take-nil, paste, paste-suc, take-paste}
use Rattle.model.specs.Work.{placed}
use Rattle.model.specs.Host.{words, word_bytes}

-- ---- numbers to bytes

pub length_word_bytes : (ls : List ℕ) → length (word_bytes ls) ≡ length ls * 4
unfolding word_bytes
length_word_bytes [] = refl
length_word_bytes (l ∷ ls) =
    let h = length_word_bytes ls in
    omega arith

word_bytes_append : (ls ks : List ℕ) → word_bytes (ls ++ ks) ≡ word_bytes ls ++ word_bytes ks
unfolding word_bytes
word_bytes_append [] ks = refl
word_bytes_append (l ∷ ls) ks = ap (λ (bs : List ℕ). word_bytes (l ∷ []) ++ bs) (word_bytes_append ls ks)

word_bytes_more : (ls : List ℕ) (i : ℕ) → i < length ls → word_bytes (take (i + 1) ls) ≡ word_bytes (take i ls) ++ word_bytes (get_or ls i 0 ∷ [])
word_bytes_more ls i inside = rw (add-one, take-suc ls i 0 inside, word_bytes_append)

-- A number is put behind the bytes of i numbers.
pub put_more : (ls d : List ℕ) (i : ℕ) → i < length ls → let o : List ℕ = word_bytes (take i ls) ++ drop (i * 4) d in
    take (i * 4) o ++ (word_bytes (get_or ls i 0 ∷ []) ++ drop (i * 4 + 4) o) ≡ word_bytes (take (i + 1) ls) ++ drop ((i + 1) * 4) d
put_more ls d i inside =
    let p : List ℕ = word_bytes (take i ls) in
    let n : length p ≡ i * 4 = length_word_bytes (take i ls) ∙ ap (λ (k : ℕ). k * 4) (length-take-le i ls (omega arith)) in
    let front : take (i * 4) (p ++ drop (i * 4) d) ≡ p = take_at p (drop (i * 4) d) (i * 4) n in
    let e : (i + 1) * 4 ≡ i * 4 + 4 = omega arith in
    let rest : drop (i * 4 + 4) (p ++ drop (i * 4) d) ≡ drop ((i + 1) * 4) d = ap (λ (k : ℕ). drop (k + 4) (p ++ drop (i * 4) d)) (sym n) ∙ drop-append-add p (drop (i * 4) d) 4 ∙ drop-drop 4 (i * 4) d ∙ ap (λ (k : ℕ). drop k d) (sym e) in
    rw (front, rest, word_bytes_more ls i inside, append_assoc)

pub put_all : (ls d : List ℕ) (i : ℕ) → i ≡ length ls → word_bytes (take i ls) ++ drop (i * 4) d ≡ placed (word_bytes ls) d
unfolding placed
put_all ls d i e = rw (e, take-length ls, length_word_bytes ls) refl

-- ---- bytes to numbers

pub length_words : (bs : List ℕ) → length (words bs) ≡ length bs / 4
unfolding words
length_words [] = refl
length_words (a ∷ []) = refl
length_words (a ∷ b ∷ []) = refl
length_words (a ∷ b ∷ c ∷ []) = refl
length_words (a ∷ b ∷ c ∷ d ∷ bs) =
    let h = length_words bs in
    omega arith

-- Four bytes, and the number that they are.
word_after : (bs : List ℕ) (at : ℕ) → at + 4 ≤ length bs → words (take 4 (drop at bs)) ≡
    (get_or bs at 0 + 256 * get_or bs (suc at) 0 + 65_536 * get_or bs (suc (suc at)) 0 + 16_777_216 * get_or bs (suc (suc (suc at))) 0) ∷ []
unfolding words
word_after [] at inside = absurd (omega arith)
word_after (a ∷ []) at inside = absurd (omega arith)
word_after (a ∷ b ∷ []) at inside = absurd (omega arith)
word_after (a ∷ b ∷ c ∷ []) at inside = absurd (omega arith)
word_after (a ∷ b ∷ c ∷ d ∷ bs) zero inside = refl
word_after (a ∷ b ∷ c ∷ d ∷ bs) (suc at) inside = word_after (b ∷ c ∷ d ∷ bs) at (omega arith)

pub word_of : (bs : List ℕ) (at : ℕ) → at + 4 ≤ length bs → words (take 4 (drop at bs)) ≡
    (get_or bs at 0 + 256 * get_or bs (at + 1) 0 + 65_536 * get_or bs (at + 2) 0 + 16_777_216 * get_or bs (at + 3) 0) ∷ []
word_of bs at inside =
    let e1 : at + 1 ≡ suc at = omega arith in
    let e2 : at + 2 ≡ suc (suc at) = omega arith in
    let e3 : at + 3 ≡ suc (suc (suc at)) = omega arith in
    rw (e1, e2, e3) (word_after bs at inside)

-- The number at four bytes is the one that the definition has there.
word_there : (bs : List ℕ) (i x : ℕ) → i * 4 + 4 ≤ length bs → words (take 4 (drop (i * 4) bs)) ≡ x ∷ [] → get_or (words bs) i 0 ≡ x
unfolding words
word_there [] i x inside e = absurd (omega arith)
word_there (a ∷ []) i x inside e = absurd (omega arith)
word_there (a ∷ b ∷ []) i x inside e = absurd (omega arith)
word_there (a ∷ b ∷ c ∷ []) i x inside e = absurd (omega arith)
word_there (a ∷ b ∷ c ∷ d ∷ bs) zero x inside e = ap (λ (l : List ℕ). get_or l 0 0) e
word_there (a ∷ b ∷ c ∷ d ∷ bs) (suc i) x inside e =
    let at : suc i * 4 ≡ suc (suc (suc (suc (i * 4)))) = omega arith in
    word_there bs i x (omega arith) (ap (λ (k : ℕ). words (take 4 (drop k (a ∷ b ∷ c ∷ d ∷ bs)))) (sym at) ∙ e)

-- One number more is taken.
pub taken_more : (bs d : List ℕ) (i x : ℕ) → i < length bs / 4 → i < length d → words (take 4 (drop (i * 4) bs)) ≡ x ∷ [] →
    set (paste d 0 (words bs) i) i x ≡ paste d 0 (words bs) (i + 1)
taken_more bs d i x inside fits e =
    let at : 0 + i ≡ i = omega arith in
    let next : i + 1 ≡ suc i = omega arith in
    let there : get_or (words bs) i 0 ≡ x = word_there bs i x (omega arith) e in
    rw (next, sym there)
    (subst (λ (k : ℕ). set (paste d 0 (words bs) i) k (get_or (words bs) i 0) ≡ paste d 0 (words bs) (suc i)) at
    (paste-suc d 0 (words bs) i 0 (omega arith) (omega (arith, length_words bs))))

-- All are taken that there is room for.
take_min : (ws : List ℕ) (k : ℕ) → take (min (length ws) k) ws ≡ take k ws
take_min [] k = take-nil (min 0 k) ∙ sym (take-nil k)
take_min (w ∷ ws) zero = simp unary_clauses refl
take_min (w ∷ ws) (suc k) = simp unary_clauses (ap (λ (l : List ℕ). w ∷ l) (take_min ws k))

pub taken_all : (bs d : List ℕ) (n : ℕ) → n ≡ min (length bs / 4) (length d) → take n (paste d 0 (words bs) n) ≡ take (length d) (words bs)
taken_all bs d n e =
    let k : n ≡ min (length (words bs)) (length d) = e ∙ ap (λ (l : ℕ). min l (length d)) (sym (length_words bs)) in
    let at : 0 + n ≡ n = omega arith in
    ap (λ (l : ℕ). take l (paste d 0 (words bs) n)) (sym at) ∙ take-paste d 0 (words bs) n (omega arith) (omega (arith, k)) ∙ ap (λ (l : ℕ). take l (words bs)) k ∙ take_min (words bs) (length d)

-- ---- the lines of a stretch
