-- What was written and then read, from demand 3 over the definitions and the contracts of the two calls.
use Prim.Native.Nat.{ℕ, ◌≤◌}
use mathlib.Core.Path.{◌≡◌, refl, sym, ap, subst, ◌∙◌}
use mathlib.Core.List.{List}
use native.Mathlib.Omega.{arith}
use lib.ListN.{length, take}
use Rattle.model.specs.Stretch.{Stretch}
use Rattle.model.specs.Outcome.{ReadOutcome, read, WriteOutcome, written, Writes}
use Rattle.model.specs.Call.{lines_after, bytes_after, ReadAnswers, lines, refusal, ReadCall, WriteCall}
use Rattle.model.specs.Demand3.{ReadBack, Alike}
use Rattle.model.proofs.Answering.{told_written}
use Rattle.model.proofs.Demand3.{demand3}
use Rattle.model.specs.declared.Span.{Span}
use Rattle.std.specs.Prelude.{Ok}
use Rattle.model.specs.Answer.{ReadAnswer, lines_read}
use Rattle.model.specs.declared.WrittenBytes.{WrittenBytes}
use Rattle.round_trip.specs.Trip.{HandedBack, WritesCount}
use Rattle.round_trip.proofs.Wrote.{WroteBytes, bytes_first, fit}

-- A writer's call that answers a count of bytes.
pub record Wrote (mb : List ℕ) (s : Stretch) (tests : ℕ) (w b b' : List ℕ) (count : ℕ) : Type 0 where
  pub made : ℕ
  pub excess : ℕ
  pub so : WroteBytes (λ bs. Writes mb s tests (length w) (length b) (written bs made excess)) b b' count

pub wrote : {mb : List ℕ} {s : Stretch} {tests : ℕ} {w b w' b' : List ℕ} {written : WrittenBytes} →
    WriteCall mb s tests w b (Ok written) w' b' → Wrote mb s tests w b b' written.bytes
unfolding bytes_after
wrote {mb} {s} {tests} {w} {b} {written = to} call =
    let d = call.called.answered in
    let k = told_written {count = to.bytes} {made = to.tests} {excess = to.excess} d.answers refl in
    record {
      made = to.tests;
      excess = to.excess;
      so = record {
        list = k.0;
        writes = subst (λ (o : WriteOutcome). Writes mb s tests (length w) (length b) o) k.1 d.asked;
        size = k.2;
        placed_so = d.buffer_after ∙ ap (λ (o : WriteOutcome). bytes_after o b) k.1;
      };
    }

pub writes_count : {mb : List ℕ} {s : Stretch} {tests : ℕ} {w b w' b' : List ℕ} {written : WrittenBytes} →
    WriteCall mb s tests w b (Ok written) w' b' → WritesCount mb s tests w b written.bytes w' b'
writes_count call = (_, _, call)

pub bytes_fit : {mb : List ℕ} {s : Stretch} {tests : ℕ} {w b b' : List ℕ} {count : ℕ} → Wrote mb s tests w b b' count → length b' ≡ length b →
    count ≤ length b'
bytes_fit k same = fit k.so same

-- The reader's answer, where its outcome is known.
answer_is : {a : ReadAnswer} {o : ReadOutcome} {ls : List ℕ} {pos neg : Span} → ReadAnswers a o → o ≡ read ls pos neg → a ≡ Ok (lines_read (length ls) pos neg)
answer_is {ls = ls} {pos = pos} {neg = neg} (lines {ls = ks} {pos = p} {neg = n}) e =
    let same : ks ≡ ls = cc in
    let same_pos : p ≡ pos = cc in
    let same_neg : n ≡ neg = cc in
    rw (same, same_pos, same_neg) refl
answer_is refusal e = absurd (let z : ◌≡◌ {A = ℕ} 0 1 = cc in omega arith)

module _ {mb : List ℕ} {s : Stretch} {tests : ℕ} {w b b' : List ℕ} {count : ℕ} (k : Wrote mb s tests w b b' count) where
  -- Demand 3 of the bytes that stand first.
  pub given_back : ReadBack mb s tests (take count b')
  given_back = rw (bytes_first k.so) (demand3.back mb k.so.list s tests (length w) (length b) k.made k.excess k.so.writes)

  pub handed_back : {v v' l l' : List ℕ} {a : ReadAnswer} → ReadCall mb (take count b') v l a v' l' → HandedBack mb s tests (take count b') v v' l l' a
  unfolding lines_after
  handed_back {v} {v'} {l} {l'} {a} call =
      let back = given_back in
      record {
        back = back;
        call = call;
        accepts = λ full room.
            let same = back.reads.nothing_else (length v) (length l) call.called.answered.outcome full room call.called.answered.asked in
            (answer_is call.called.answered.answers same, call.called.answered.buffer_after ∙ ap (λ (o : ReadOutcome). lines_after o l) same);
      }

-- Two stretches with the same bytes.
pub alike : {mb : List ℕ} {s t : Stretch} {tests tests' : ℕ} {w b b' u o o' : List ℕ} {count size : ℕ} → Wrote mb s tests w b b' count →
    Wrote mb t tests' u o o' size → take count b' ≡ take size o' → Alike mb (take count b') s t tests tests'
alike {mb} {s} {t} {tests} {tests'} {w} {b} {b'} {u} {o} {count = count} k j e =
    let same : j.so.list ≡ k.so.list = sym (bytes_first j.so) ∙ sym e ∙ bytes_first k.so in
    rw (bytes_first k.so)
    (demand3.alike mb k.so.list s t tests tests' (length w) (length u) (length b) (length o) k.made j.made k.excess j.excess k.so.writes
    (subst (λ (ls : List ℕ). Writes mb t tests' (length u) (length o) (written ls j.made j.excess)) same j.so.writes))

-- The reader hands back the other stretch too.
pub handed_too : {mb : List ℕ} {t : Stretch} {tests : ℕ} {u o o' : List ℕ} {size : ℕ} (bs : List ℕ) → Wrote mb t tests u o o' size →
    bs ≡ take size o' → {v v' l l' : List ℕ} {a : ReadAnswer} → ReadCall mb bs v l a v' l' → HandedBack mb t tests bs v v' l l' a
handed_too bs k e call = rw e (handed_back k (rw e at call))
