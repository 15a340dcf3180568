-- "Closing answers the message's byte count"; "while one is open, any finished one may be read, and the open one is not there yet" (W9), after any calls since
-- a message was started.
use Prim.Native.Nat.{ℕ, ◌≤◌, ◌<◌}
use mathlib.Core.Path.{◌≡◌, refl, sym, ◌∙◌, ap}
use mathlib.Core.List.{List, [], ◌∷◌}
use native.Mathlib.Omega.{arith}
use lib.ListN.{length, get_or, get_or-eq_default}
use Rattle.model.specs.declared.Message.{Message}
use Rattle.model.specs.declared.Message.TheVariants.{Closed}
use Rattle.model.specs.Answer.{MessageAnswer}
use Rattle.std.specs.Prelude.{Ok}
use Rattle.model.specs.MessageCall.{finished_number}
use Rattle.model.specs.MessageHistory.{Content, whole, partial, finished, content_bytes, Call, closes, CallOutcome, done, refused, outcome, left, after, Made, Begun, room, state_of, AnswerTells, now, refusal, MessageHistories}
use Rattle.model.proofs.Every.{every_at}
use Rattle.message_laws.proofs.Histories.{holding, proper, message_histories}

-- ---- closing

-- An answer that tells a message was not refused.
done_is : (mb : List ℕ) (m : Message) (o : CallOutcome) → AnswerTells mb (Ok m) o → (c : Content) → o ≡ done c → m ≡ state_of mb c
done_is mb m o t c e = go t refl e
  where
    go : {a : MessageAnswer} {o : CallOutcome} → AnswerTells mb a o → a ≡ Ok m → o ≡ done c → m ≡ state_of mb c
    go (now {c = d}) a e = let same : d ≡ c = cc in let told : state_of mb d ≡ m = cc in sym told ∙ ap (state_of mb) same
    go refusal a e = absurd (let z : ◌≡◌ {A = ℕ} 0 1 = cc in omega arith)

pub not_refused : (mb : List ℕ) (m : Message) (n : ℕ) → AnswerTells mb (Ok m) (refused n) → ⊥
not_refused mb m n t = go t refl refl
  where
    go : {a : MessageAnswer} {o : CallOutcome} → AnswerTells mb a o → a ≡ Ok m → o ≡ refused n → ⊥
    go now a e = let z : ◌≡◌ {A = ℕ} 0 1 = cc in omega arith
    go refusal a e = let z : ◌≡◌ {A = ℕ} 0 1 = cc in omega arith

counts : (mb : List ℕ) (room : ℕ) (c : Content) (m : Message) → AnswerTells mb (Ok m) (outcome mb room c closes) →
    m ≡ Closed (length (content_bytes mb (left c (outcome mb room c closes))))
unfolding outcome left content_bytes state_of
counts mb room (whole rs) m t = absurd (not_refused mb m 27 t)
counts mb room (partial rs []) m t = absurd (not_refused mb m 27 t)
counts mb room (partial rs (b ∷ bs)) m t = done_is mb m _ t _ refl

module _ {mb b₀ : List ℕ} {calls : List Call} {m : Message} {buffer : List ℕ} (history : Begun mb b₀ calls m buffer) where
  pub closing_counts : {m' : Message} {buffer' : List ℕ} → Made m buffer closes (Ok m') buffer' →
      m' ≡ Closed (length (content_bytes mb (after mb (room b₀) (closes ∷ calls))))
  unfolding MessageHistories after
  closing_counts {m'} made = counts mb (room b₀) (after mb (room b₀) calls) m' ((message_histories mb b₀ calls m buffer history).answers made)

  -- ---- asking

  pub finished_may_be_read : (n : ℕ) → n < length (finished (after mb (room b₀) calls)) →
      (finished_number m buffer n ≡ get_or (finished (after mb (room b₀) calls)) n []) × (0 < length (finished_number m buffer n))
  unfolding MessageHistories
  finished_may_be_read n h =
      let is = (message_histories mb b₀ calls m buffer history).numbered n in
      (is, rw is (every_at [] n (proper (holding history).sound) h).0)

  pub open_not_there : (n : ℕ) → length (finished (after mb (room b₀) calls)) ≤ n → finished_number m buffer n ≡ []
  unfolding MessageHistories
  open_not_there n h =
      (message_histories mb b₀ calls m buffer history).numbered n ∙ get_or-eq_default (finished (after mb (room b₀) calls)) [] {n = n} h
