-- Points written and then read, from the claim over the definitions and the contracts of the two calls.
use Prim.Native.Nat.{ℕ, ◌≤◌}
use mathlib.Core.Path.{◌≡◌, refl, sym, ap, subst, ◌∙◌}
use mathlib.Core.List.{List}
use native.Mathlib.Omega.{arith}
use lib.ListN.{length, take}
use Rattle.model.specs.PointAlong.{PointReadOutcome, read, GivenPoint, PointWriteOutcome, PointWrites, point_lines_after, point_bytes_after, PointReadAnswers, PointReadCall, PointWriteCall}
use Rattle.model.specs.PointTrip.{PointBack, PointsAlike}
use Rattle.model.proofs.Answering.{told_point}
use Rattle.model.proofs.PointTrip.{point_trip}
use Rattle.model.specs.declared.Span.{Span}
use Rattle.std.specs.Prelude.{Ok}
use Rattle.model.specs.Answer.{PointReadAnswer, point_read}
use Rattle.round_trip.proofs.Wrote.{WroteBytes, bytes_first, fit}
use Rattle.point_trip.specs.Told.{HandedBack}

-- A writer's call that answers a count of bytes.
pub record Wrote (mb : List ℕ) (p : GivenPoint) (w b b' : List ℕ) (count : ℕ) : Type 0 where
  pub so : WroteBytes (λ bs. PointWrites mb p (length w) (length b) (PointWriteOutcome.written bs)) b b' count

pub wrote : {mb : List ℕ} {p : GivenPoint} {w b w' b' : List ℕ} {count : ℕ} → PointWriteCall mb p w b (Ok count) w' b' → Wrote mb p w b b' count
unfolding point_bytes_after
wrote {mb} {p} {w} {b} call =
    let d = call.called.answered in
    let k = told_point d.answers refl in
    record {
      so = record {
        list = k.0;
        writes = subst (λ (o : PointWriteOutcome). PointWrites mb p (length w) (length b) o) k.1 d.asked;
        size = k.2;
        placed_so = d.buffer_after ∙ ap (λ (o : PointWriteOutcome). point_bytes_after o b) k.1;
      };
    }

pub bytes_fit : {mb : List ℕ} {p : GivenPoint} {w b b' : List ℕ} {count : ℕ} → Wrote mb p w b b' count → length b' ≡ length b → count ≤ length b'
bytes_fit k same = fit k.so same

-- The reader's answer, where its outcome is known.
answer_is : {a : PointReadAnswer} {o : PointReadOutcome} {ls : List ℕ} {span : Span} {orientation side : ℕ} → PointReadAnswers a o →
    o ≡ read ls span orientation side → a ≡ Ok (point_read (length ls) span orientation side)
answer_is {ls = ls} {span = span} (PointReadAnswers.lines {ls = ks} {span = s}) e =
    let same : ks ≡ ls = cc in
    let same_span : s ≡ span = cc in
    cc
answer_is PointReadAnswers.refusal e = absurd (let z : ◌≡◌ {A = ℕ} 0 1 = cc in omega arith)

module _ {mb : List ℕ} {p : GivenPoint} {w b b' : List ℕ} {count : ℕ} (k : Wrote mb p w b b' count) where
  -- The claim of the bytes that stand first.
  given_back : PointBack mb p (take count b')
  given_back = rw (bytes_first k.so) (point_trip.back mb k.so.list p (length w) (length b) k.so.writes)

  pub handed_back : {v v' l l' : List ℕ} {a : PointReadAnswer} → PointReadCall mb (take count b') v l a v' l' →
      HandedBack mb p (take count b') v v' l l' a
  unfolding point_lines_after
  handed_back {v} {v'} {l} {l'} {a} call =
      let back = given_back in
      record {
        back = back;
        call = call;
        accepts = λ full some.
            let same = back.reads.nothing_else (length v) (length l) call.called.answered.outcome full some call.called.answered.asked in
            (answer_is call.called.answered.answers same, call.called.answered.buffer_after ∙ ap (λ (o : PointReadOutcome). point_lines_after o l) same);
      }

-- Two points with the same bytes.
pub alike : {mb : List ℕ} {p q : GivenPoint} {w b b' u o o' : List ℕ} {count size : ℕ} → Wrote mb p w b b' count → Wrote mb q u o o' size →
    take count b' ≡ take size o' → PointsAlike mb (take count b') p q
alike {mb} {p} {q} {w} {b} {b'} {u} {o} k j e =
    let same : j.so.list ≡ k.so.list = sym (bytes_first j.so) ∙ sym e ∙ bytes_first k.so in
    rw (bytes_first k.so)
    (point_trip.alike mb k.so.list p q (length w) (length u) (length b) (length o) k.so.writes
    (subst (λ (ls : List ℕ). PointWrites mb q (length u) (length o) (PointWriteOutcome.written ls)) same j.so.writes))

-- The reader hands back the other point too.
pub handed_too : {mb : List ℕ} {q : GivenPoint} {u o o' : List ℕ} {size : ℕ} (bs : List ℕ) → Wrote mb q u o o' size → bs ≡ take size o' →
    {v v' l l' : List ℕ} {a : PointReadAnswer} → PointReadCall mb bs v l a v' l' → HandedBack mb q bs v v' l l' a
handed_too bs k e call = rw e (handed_back k (rw e at call))
