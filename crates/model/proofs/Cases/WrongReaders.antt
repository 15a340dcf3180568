-- Wrong answers of a reader that its promise shuts out: no call on the ridge, whatever its work area and its line buffer hold, can be answered so.
use Prim.Native.Nat.{ℕ, zero, suc, ◌≤◌, ◌<◌}
use mathlib.Core.Path.{◌≡◌, refl, sym, ap, ◌∙◌}
use mathlib.Core.Bool.{cond}
use mathlib.Core.List.{List, [], ◌∷◌, ◌++◌}
use native.Mathlib.Omega.{arith}
use lib.ListN.{length, drop, get_or, replicate}
use lib.Dec.{ltb}
use borrow.Author.Tests.{le-ltb}
use Rattle.model.specs.declared.Refusal.{Refusal}
use Rattle.model.specs.declared.Span.{Span}
use Rattle.model.specs.Answer.{ReadAnswer, lines_read}
use Rattle.model.specs.Refusal.{Refused, row_at, refusal_of}
use Rattle.model.specs.Outcome.{ReadOutcome, read, Reads}
use Rattle.model.specs.Work.{work_length, cleared, placed}
use Rattle.model.specs.Call.{lines_after, ReadAnswers, ReadCall}
use Rattle.model.proofs.Cases.Ridge.{map_bytes, three_points, three_from5000, two_points}
use Rattle.model.proofs.Cases.Tie.{none, from_5000}
use Rattle.model.proofs.Cases.RidgeCalls.{read_as, read_answer, over_the_top, three_to5000, two_points_lem, three_points_lem, three_from_5000, three_to_5000, over_the_top_lem}
use Rattle.std.specs.Prelude.{Err, Ok}
use Rattle.model.proofs.Answers.{same_lines}

-- Where these lines and spans are the outcome, every call answers their count and the spans, and leaves the lines in its buffer.
module _ (ls : List ℕ) (pos neg : Span) {mb ref work lines work' lines' : List ℕ} {a : ReadAnswer} where
  pub counted : Reads mb ref (length work) (length lines) (read ls pos neg) → ReadCall mb ref work lines a work' lines' → a ≡ Ok (lines_read (length ls) pos neg)
  counted h c = read_answer (read_as h c).0

  pub left : Reads mb ref (length work) (length lines) (read ls pos neg) → ReadCall mb ref work lines a work' lines' → lines' ≡ ls ++ drop (length ls) lines
  unfolding lines_after placed
  left h c = (read_as h c).1

refused_or_read : {why : Refusal} {n : ℕ} {pos neg : Span} → Err why ≡ Ok (lines_read n pos neg) → ⊥
refused_or_read e = let z : ◌≡◌ {A = ℕ} 0 1 = cc in omega arith

refusal_answer : {a : ReadAnswer} {r : Refused} → ReadAnswers a (ReadOutcome.refused r) → (why : Refusal) × (a ≡ Err why) × (refusal_of why ≡ r)
refusal_answer (ReadAnswers.refusal {why = why}) = (why, refl, refl)

-- Where a refusal is the outcome, no call answers a list, nor another refusal.
module _ (r : Refused) {mb ref work lines work' lines' : List ℕ} where
  pub no_list_where_refused : {n : ℕ} {pos neg : Span} → Reads mb ref (length work) (length lines) (ReadOutcome.refused r) →
      ReadCall mb ref work lines (Ok (lines_read n pos neg)) work' lines' → ⊥
  no_list_where_refused h c = let given = refusal_answer (read_as h c).0 in refused_or_read (sym given.1)

  pub only_this_refusal : {why : Refusal} → Reads mb ref (length work) (length lines) (ReadOutcome.refused r) →
      ReadCall mb ref work lines (Err why) work' lines' → refusal_of why ≡ r
  only_this_refusal {why} h c =
      let given = refusal_answer (read_as h c).0 in
      let same : why ≡ given.0 = let e = given.1 in cc in
      ap refusal_of same ∙ given.2

-- Calls with a full work area.
module _ (work lines : List ℕ) (full : work_length ≤ length work) where
  -- "Taking the first of two equal ways": a reader that hands back a list for the two points.
  pub no_list : {n : ℕ} {pos neg : Span} {work' lines' : List ℕ} → ReadCall map_bytes two_points work lines (Ok (lines_read n pos neg)) work' lines' → ⊥
  no_list c = no_list_where_refused (row_at 18 0) (two_points_lem (length work) (length lines) full) c

  -- One that says that the two points have no reading, or names another leg.
  pub only_eighteen : (why : Refusal) {work' lines' : List ℕ} → ReadCall map_bytes two_points work lines (Err why) work' lines' →
      (refusal_of why ≡ row_at 18 0 → ⊥) → ⊥
  only_eighteen why c other = other (only_this_refusal (row_at 18 0) (two_points_lem (length work) (length lines) full) c)

  -- And a line buffer with room for two lines.
  module _ (enough : 2 ≤ length lines) where
    outcome : Reads map_bytes three_points (length work) (length lines) (read (0 ∷ 1 ∷ []) none none)
    outcome = three_points_lem (length work) (length lines) full enough

    -- One that refuses the three points, for whatever reason.
    pub no_refusal : (why : Refusal) {work' lines' : List ℕ} → ReadCall map_bytes three_points work lines (Err why) work' lines' → ⊥
    no_refusal why c = refused_or_read (counted (0 ∷ 1 ∷ []) none none outcome c)

    -- "One that answers a made-up count of lines."
    pub no_other_count : {n : ℕ} {pos neg : Span} {work' lines' : List ℕ} →
        ReadCall map_bytes three_points work lines (Ok (lines_read n pos neg)) work' lines' → (n ≡ 2 → ⊥) → ⊥
    no_other_count c other = other (same_lines (counted (0 ∷ 1 ∷ []) none none outcome c)).0

    -- One that gives a span where no offset is flagged.
    pub no_made_up_span : {n : ℕ} {pos neg : Span} {work' lines' : List ℕ} →
        ReadCall map_bytes three_points work lines (Ok (lines_read n pos neg)) work' lines' → ((pos ≡ none) × (neg ≡ none) → ⊥) → ⊥
    no_made_up_span c other = let e = same_lines (counted (0 ∷ 1 ∷ []) none none outcome c) in other (e.1, e.2)

    -- One that hands back another list, or changes the rest of its buffer.
    pub no_other_list : {a : ReadAnswer} {work' lines' : List ℕ} → ReadCall map_bytes three_points work lines a work' lines' →
        (lines' ≡ 0 ∷ 1 ∷ drop 2 lines → ⊥) → ⊥
    no_other_list c other = other (left (0 ∷ 1 ∷ []) none none outcome c)

    -- "One that follows the first leg and invents the others": after line 0 there is line 1, and not 0 or 2.
    pub no_invented_leg : {a : ReadAnswer} {l : ℕ} {work' rest : List ℕ} → ReadCall map_bytes three_points work lines a work' (0 ∷ l ∷ rest) →
        (l ≡ 1 → ⊥) → ⊥
    no_invented_leg c other = other (ap (λ (ls : List ℕ). get_or ls 1 0) (left (0 ∷ 1 ∷ []) none none outcome c))

    -- "A count with nothing written": a buffer that does not start with 0, 1 does not stay as it is.
    pub not_unwritten : {a : ReadAnswer} {work' : List ℕ} → ReadCall map_bytes three_points work lines a work' lines →
        ((get_or lines 0 0 ≡ 0) × (get_or lines 1 0 ≡ 1) → ⊥) → ⊥
    not_unwritten c other =
        let e = left (0 ∷ 1 ∷ []) none none outcome c in
        other (ap (λ (ls : List ℕ). get_or ls 0 0) e, ap (λ (ls : List ℕ). get_or ls 1 0) e)

    -- With positive offset 5,000: one that gives another span than 4,981 to 5,019, or gives it for the negative offset.
    pub no_other_span : {n : ℕ} {pos neg : Span} {work' lines' : List ℕ} →
        ReadCall map_bytes three_from5000 work lines (Ok (lines_read n pos neg)) work' lines' → ((pos ≡ from_5000) × (neg ≡ none) → ⊥) → ⊥
    no_other_span c other =
        let e = same_lines (counted (0 ∷ 1 ∷ []) from_5000 none (three_from_5000 (length work) (length lines) full enough) c) in other (e.1, e.2)

    -- With negative offset 5,000: one that goes by the positive flag.
    pub no_other_negative_span : {n : ℕ} {pos neg : Span} {work' lines' : List ℕ} →
        ReadCall map_bytes three_to5000 work lines (Ok (lines_read n pos neg)) work' lines' → ((pos ≡ none) × (neg ≡ from_5000) → ⊥) → ⊥
    no_other_negative_span c other =
        let e = same_lines (counted (0 ∷ 1 ∷ []) none from_5000 (three_to_5000 (length work) (length lines) full enough) c) in other (e.1, e.2)

    -- Over the top: one that hands back the lines of a leg in another order.
    pub no_other_order : {a : ReadAnswer} {work' lines' : List ℕ} → ReadCall map_bytes over_the_top work lines a work' lines' →
        (lines' ≡ 2 ∷ 3 ∷ drop 2 lines → ⊥) → ⊥
    no_other_order c other = other (left (2 ∷ 3 ∷ []) none none (over_the_top_lem (length work) (length lines) full enough) c)

    -- "A reader that always hands back one line list": two references of two lines each, whose lists do not even start with the same line.
    pub no_one_list : {a b : ReadAnswer} {work' work'' lines' lines'' : List ℕ} → ReadCall map_bytes three_points work lines a work' lines' →
        ReadCall map_bytes over_the_top work lines b work'' lines'' → get_or lines' 0 0 ≡ get_or lines'' 0 0 → ⊥
    no_one_list c d same =
        no_other_list c λ e. no_other_order d λ f. omega (arith, same, ap (λ (ls : List ℕ). get_or ls 0 0) e, ap (λ (ls : List ℕ). get_or ls 0 0) f)

-- One that leaves a number in the work area, be it the last one of the 14,336.
zeros_first : (n i : ℕ) (rest : List ℕ) → i < n → get_or (replicate n 0 ++ rest) i 0 ≡ 0
zeros_first zero i rest h = absurd (omega arith)
zeros_first (suc n) zero rest h = refl
zeros_first (suc n) (suc i) rest h = zeros_first n i rest (omega arith)

zeroed : (n i : ℕ) (work : List ℕ) → n ≤ length work → i < n → get_or (cond (ltb (length work) n) work (replicate n 0 ++ drop n work)) i 0 ≡ 0
zeroed n i work full h = rw (le-ltb (length work) n full) (zeros_first n i (drop n work) h)

pub nothing_left : {mb ref work lines work' lines' : List ℕ} {a : ReadAnswer} → work_length ≤ length work → ReadCall mb ref work lines a work' lines' →
    (i : ℕ) → i < work_length → (get_or work' i 0 ≡ 0 → ⊥) → ⊥
unfolding cleared
nothing_left {work = work} full c i h other = other (ap (λ (w : List ℕ). get_or w i 0) c.called.work_after ∙ zeroed work_length i work full h)
