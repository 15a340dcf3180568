-- Laws of the text that the program prints: digits read back give the number, so that no two numbers print alike; how long a text is at most; and an answer
-- and the line buffer tell the outcome of the call.
use Prim.Native.Nat.{ℕ, zero, suc, ◌+◌, ◌*◌, ◌-◌, ◌/◌, ◌%◌, ◌^◌, ◌≤◌, ◌<◌}
use mathlib.Core.Path.{◌≡◌, refl, sym, ◌∙◌, ap}
use mathlib.Core.Bool.{Bool, true, false}
use mathlib.Core.List.{List, [], ◌∷◌, ◌++◌}
use native.Mathlib.Omega.{arith}
use native.Mathlib.Nat.{pow-suc}
use lib.ListN.{length, take, drop, length-append, length-take}
use lib.Seq.{take_at}
use lib.Dec.{ltb}
use borrow.Author.Tests.{ltb-true, ltb-false, lt-ltb, le-ltb}
use mathlib.Core.Logic.{◌⊎◌, inl, inr, ⊎_elim}
use Rattle.model.specs.declared.Span.{Span}
use Rattle.model.specs.Answer.{ReadAnswer}
use Rattle.model.specs.Work.{work_length, placed}
use Rattle.model.specs.Call.{ReadAnswers, lines_after}
use Rattle.model.specs.Refusal.{Refused, row, row_at}
use Rattle.model.specs.Outcome.{ReadOutcome, read}
use Rattle.model.proofs.Once.{reads_once}
use Rattle.model.specs.Text.{digits, decimal, numbered, each, acceptance, refusal, text, lines_word, pos_word, neg_word, refused_word, space, row_end, told, printed_lines, Prints}
use Rattle.std.specs.Prelude.{Err, Ok}

-- The two cases of a number: its last digit alone, or the digits of its tens before it.
module _ (most x : ℕ) where
  pub digits_one : x < 10 → digits (suc most) x ≡ (48 + x) ∷ []
  unfolding digits
  digits_one h = rw (digits, lt-ltb x 10 h)

  pub digits_more : 10 ≤ x → digits (suc most) x ≡ digits most (x / 10) ++ ((48 + x % 10) ∷ [])
  unfolding digits
  digits_more h = rw (digits, le-ltb x 10 h)

one_or_more : (x : ℕ) → (x < 10) ⊎ (10 ≤ x)
one_or_more x = go (ltb x 10) refl
  where
    go : (t : Bool) → ltb x 10 ≡ t → (x < 10) ⊎ (10 ≤ x)
    go true e = inl (ltb-true x 10 e)
    go false e = inr (ltb-false x 10 e)

digits_most : (most x : ℕ) → length (digits most x) ≤ most
unfolding digits
digits_most zero x = omega arith
digits_most (suc most) x =
    ⊎_elim
    (λ h. omega (arith, ap length (digits_one most x h)))
    (λ h. omega (arith, ap length (digits_more most x h) ∙ length-append (digits most (x / 10)) ((48 + x % 10) ∷ []), digits_most most (x / 10)))
    (one_or_more x)

-- The number that digits stand for, behind those that stand for `value`.
unfoldable pub read_back : ℕ → List ℕ → ℕ
read_back value [] = value
read_back value (b ∷ bs) = read_back (value * 10 + (b - 48)) bs

back_append : (value : ℕ) (front bs : List ℕ) → read_back value (front ++ bs) ≡ read_back (read_back value front) bs
unfolding read_back
back_append value [] bs = refl
back_append value (a ∷ front) bs = back_append (value * 10 + (a - 48)) front bs

digits_back : (most x : ℕ) → x < 10 ^ most → read_back 0 (digits most x) ≡ x
unfolding read_back digits
digits_back zero x h = omega arith
digits_back (suc most) x h =
    ⊎_elim
    (λ one. ap (read_back 0) (digits_one most x one) ∙ omega arith)
    (λ more.
    let tens : read_back 0 (digits most (x / 10)) ≡ x / 10 = digits_back most (x / 10) (omega (arith, pow-suc 10 most)) in
    ap (read_back 0) (digits_more most x more)
    ∙ back_append 0 (digits most (x / 10)) ((48 + x % 10) ∷ [])
    ∙ omega arith)
    (one_or_more x)

-- Digits read back give the number.
pub decimal_back : (x : ℕ) → x < 2 ^ 64 → read_back 0 (decimal x) ≡ x
unfolding decimal
decimal_back x h = digits_back 20 x (omega arith)

-- No two numbers print alike.
pub decimal_once : (x y : ℕ) → x < 2 ^ 64 → y < 2 ^ 64 → decimal x ≡ decimal y → x ≡ y
decimal_once x y hx hy e = sym (decimal_back x hx) ∙ ap (read_back 0) e ∙ decimal_back y hy

pub decimal_most : (x : ℕ) → length (decimal x) ≤ 20
unfolding decimal
decimal_most x = digits_most 20 x

numbered_most : (word : List ℕ) (x : ℕ) → length (numbered word x) ≤ length word + 20
unfolding numbered
numbered_most word x = omega (arith, length-append word (decimal x), decimal_most x)

each_most : (word xs : List ℕ) → length (each word xs) ≤ length xs * (length word + 20)
unfolding each
each_most word [] = omega arith
each_most word (x ∷ xs) =
    let step = length-append (numbered word x) (each word xs) in
    omega (arith, step, numbered_most word x, each_most word xs)

acceptance_most : (count : ℕ) (pos neg : Span) → length (acceptance count pos neg) ≤ 118
unfolding acceptance
acceptance_most count pos neg =
    let a = numbered_most lines_word count in
    let b = numbered_most pos_word pos.least in
    let d = numbered_most space pos.greatest in
    let e = numbered_most neg_word neg.least in
    let f = numbered_most space neg.greatest in
    simp length-append (omega arith)

refusal_most : (r : Refused) → length (refusal r) ≤ 49
unfolding refusal
refusal_most (row n) = omega (arith, numbered_most refused_word n)
refusal_most (row_at n k) = omega (arith, length-append (numbered refused_word n) (numbered space k), numbered_most refused_word n, numbered_most space k)

-- How many lines an outcome hands back.
abbrev pub line_count : ReadOutcome → ℕ
line_count (read ls pos neg) = length ls
line_count (ReadOutcome.refused r) = 0

-- The greatest length of a text: 119 bytes, and 21 for each line.
pub text_most : (o : ReadOutcome) → length (text o) ≤ 119 + 21 * line_count o
unfolding text
text_most (read ls pos neg) =
    let a = acceptance_most (length ls) pos neg in
    let b = each_most row_end ls in
    simp length-append (omega arith)
text_most (ReadOutcome.refused r) = omega (arith, length-append (refusal r) row_end, refusal_most r)

-- What an answer tells with a line buffer has no more lines than the buffer.
pub told_most : (a : ReadAnswer) (lines : List ℕ) → length (text (told a lines)) ≤ 119 + 21 * length lines
unfolding told
told_most (Ok a) lines =
    omega (arith, text_most (read (take a.count lines) a.positive a.negative), length-take a.count lines)
told_most (Err why) lines = omega (arith, text_most (told (Err why) lines))

-- An answer and the line buffer after the call tell the outcome.
pub told_outcome : {a : ReadAnswer} {o : ReadOutcome} (before after : List ℕ) → ReadAnswers a o → after ≡ lines_after o before → told a after ≡ o
unfolding told lines_after placed
told_outcome before after (ReadAnswers.lines {ls} {pos} {neg}) e =
    ap (λ (ns : List ℕ). read ns pos neg) (ap (take (length ls)) e ∙ take_at ls (drop (length ls) before) (length ls) refl)
told_outcome before after ReadAnswers.refusal e = refl

-- The program prints one thing for the bytes of two files.
pub prints_once : {mb ref one other : List ℕ} → Prints mb ref one → Prints mb ref other → one ≡ other
prints_once {mb} {ref} p q = p.bytes_are ∙ ap text (reads_once mb ref printed_lines work_length p.reads q.reads) ∙ sym q.bytes_are
