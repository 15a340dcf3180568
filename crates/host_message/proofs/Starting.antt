-- What a host gets for starting a message: a count that fits 32 bits, or the refusal and nothing else.
use Prim.Native.Nat.{ℕ}
use mathlib.Core.Path.{◌≡◌, refl, sym, ◌∙◌, subst}
use mathlib.Core.List.{List}
use native.Mathlib.Omega.{arith}
use lib.ListN.{length}
use Rattle.model.specs.Answer.{MessageAnswer}
use Rattle.std.specs.Prelude.{Ok, Err}
use Rattle.model.specs.Work.{work_length}
use Rattle.model.specs.MessageStart.{StartOutcome, Starts, StartAnswers, now, refusal, StartCall}
use Rattle.model.specs.HostMessage.{HostMessage, host_message, host_started, HostStartCall}
use Rattle.model.proofs.Fronts.{front_few}
use Rattle.message_laws.proofs.Started.{start_so}
use Rattle.host_message.specs.Held.{Narrow, NarrowAnswer}

pub narrow_start : {mb work b₀ work' b₁ : List ℕ} (a : MessageAnswer) → StartCall mb work b₀ a work' b₁ → NarrowAnswer a
narrow_start {mb} (Ok m) call =
    let s = start_so call in
    let few = front_few mb s.map s.decodes in
    subst Narrow (sym s.state) (omega arith)
narrow_start (Err why) call = tt

-- Four zeros, for a call that no message is given to.
abbrev zeros : HostMessage
zeros = record { refusal = 0; bytes = 0; is_open = 0; added = 0 }

told_start : {a : MessageAnswer} {o : StartOutcome} → StartAnswers a o → host_message zeros a ≡ host_started o
unfolding host_message host_started
told_start now = refl
told_start refusal = refl

pub host_start : {mb work b₀ work' b₁ : List ℕ} {a : MessageAnswer} {r : HostMessage} → StartCall mb work b₀ a work' b₁ → length work ≡ work_length →
    r ≡ host_message zeros a → HostStartCall mb b₀ r b₁
host_start {mb} {b₀ = b₀} call size told =
    let d = call.called.answered in
    record {
      answered =
          record {
            outcome = d.outcome;
            asked = subst (λ (n : ℕ). Starts mb n (length b₀) d.outcome) size d.asked;
            answers = told ∙ told_start d.answers;
            buffer_after = d.buffer_after;
          };
    }
