-- One call: a buffer that holds a message before it holds afterwards what the call makes of the message, and the answer tells what the call comes to.
use Prim.Native.Nat.{ℕ, ◌+◌, ◌≤◌}
use mathlib.Core.Path.{◌≡◌, refl, sym, ◌∙◌, ap, subst}
use mathlib.Core.Bool.{Bool, true, false, cond, ◌&&◌}
use mathlib.Core.List.{List, [], ◌∷◌, ◌++◌, append_assoc, append-nil}
use native.Mathlib.Omega.{arith}
use lib.ListN.{length, take, drop, length-append, length-drop}
use lib.Dec.{leb, eqb}
use borrow.Author.Tests.{ne_eqb, eqb-true}
use Rattle.model.specs.declared.Refusal.{Refusal}
use Rattle.model.specs.declared.Refusal.TheVariants.{MessageOrder, MessageFull}
use Rattle.model.specs.declared.Message.{Message}
use Rattle.model.specs.declared.Message.TheVariants.{Closed, Open}
use Rattle.model.specs.Answer.{MessageAnswer}
use Rattle.std.specs.Prelude.{Ok, Err}
use Rattle.model.specs.Refusal.{number_of, refusal_of}
use Rattle.model.specs.Work.{placed}
use Rattle.model.specs.Reference.{longest_reference}
use Rattle.model.specs.Front.{front_bytes}
use Rattle.model.specs.Message.{longest_message, framed, framed_all}
use Rattle.model.specs.MessageCall.{end_of, fits, opening, closing, adding, buffer_added, extended, Adds}
use Rattle.model.specs.MessageHistory.{Content, whole, partial, finished_of, content_bytes, Call, opens, adds, closes, done, refused, lengthened, outcome, left, stays, Made, opened, closed, room, state_of, AnswerTells, now, refusal}
use Rattle.model.proofs.Every.{Every, none, also, every_append}
use Rattle.message_laws.proofs.Framing.{Proper, framed_append, framed_empty, framed_length}
use Rattle.message_laws.proofs.Fitting.{end_is, fits_so, fit_of}
use Rattle.message_laws.proofs.Extended.{held_longer}

-- What the calls keep of a message: each finished reference has 1 to 459 bytes, the open one at most 459, and the message has room.
pub data Sound (mb : List ℕ) (room : ℕ) : Content → Type 0 where
  whole_sound : {rs : List (List ℕ)} → Every Proper rs → length (finished_of mb rs) ≤ room → Sound mb room (whole rs)
  partial_sound : {rs : List (List ℕ)} {bs : List ℕ} → Every Proper rs → length bs ≤ 459 → length (content_bytes mb (partial rs bs)) ≤ room →
      Sound mb room (partial rs bs)

-- A buffer that held `b₀` holds a message, and the caller has what is to be known of it.
pub record Holds (mb b₀ : List ℕ) (c : Content) (m : Message) (buffer : List ℕ) : Type 0 where
  pub sound : Sound mb (room b₀) c
  pub state : m ≡ state_of mb c
  pub bytes : buffer ≡ placed (content_bytes mb c) b₀

pub record Step (mb b₀ : List ℕ) (c : Content) (m : Message) (call : Call) (a : MessageAnswer) (buffer' : List ℕ) : Type 0 where
  pub tells : AnswerTells mb a (outcome mb (room b₀) c call)
  pub holds : Holds mb b₀ (left c (outcome mb (room b₀) c call)) (stays m a) buffer'

-- ---- bytes and lengths

whole_is : (mb : List ℕ) (rs : List (List ℕ)) → content_bytes mb (whole rs) ≡ finished_of mb rs
unfolding content_bytes
whole_is mb rs = refl

pub partial_is : (mb : List ℕ) (rs : List (List ℕ)) (bs : List ℕ) → content_bytes mb (partial rs bs) ≡ finished_of mb rs ++ framed bs
unfolding content_bytes
partial_is mb rs bs = refl

partial_none : (mb : List ℕ) (rs : List (List ℕ)) → content_bytes mb (partial rs []) ≡ finished_of mb rs
partial_none mb rs = partial_is mb rs [] ∙ ap (λ (l : List ℕ). finished_of mb rs ++ l) framed_empty ∙ append-nil (finished_of mb rs)

partial_length : (mb : List ℕ) (rs : List (List ℕ)) (bs : List ℕ) →
    length (content_bytes mb (partial rs bs)) ≡ end_of (length (finished_of mb rs)) (length bs)
partial_length mb rs bs =
    ap length (partial_is mb rs bs) ∙ length-append (finished_of mb rs) (framed bs) ∙ ap (λ (n : ℕ). length (finished_of mb rs) + n) (framed_length bs)
    ∙ sym (end_is (length (finished_of mb rs)) (length bs))

-- A reference more that is finished.
finished_append : (mb : List ℕ) (rs : List (List ℕ)) (r : List ℕ) → finished_of mb (rs ++ r ∷ []) ≡ content_bytes mb (partial rs r)
unfolding finished_of content_bytes
finished_append mb rs r = ap (λ (l : List ℕ). front_bytes mb ++ l) (framed_append rs r) ∙ sym (append_assoc (front_bytes mb) (framed_all rs) (framed r))

placed_length : (bs b : List ℕ) → length bs ≤ length b → length (placed bs b) ≡ length b
unfolding placed
placed_length bs b h = omega (arith, length-append bs (drop (length bs) b), length-drop (length bs) b)

nothing : (l : List ℕ) → length l ≡ 0 → l ≡ []
nothing [] e = refl
nothing (b ∷ l) e = absurd (omega arith)

-- ---- a refusal changes nothing; else the message is another one

kept : {mb b₀ : List ℕ} {c : Content} {m : Message} {buffer : List ℕ} (why : Refusal) (call : Call) → Holds mb b₀ c m buffer →
    outcome mb (room b₀) c call ≡ refused (number_of (refusal_of why)) → Step mb b₀ c m call (Err why) buffer
unfolding left
kept {mb} why call h e = record { tells = subst (AnswerTells mb (Err why)) (sym e) refusal; holds = rw e h }

turned : {mb b₀ : List ℕ} {c c' : Content} {m m' : Message} {buffer' : List ℕ} (call : Call) → outcome mb (room b₀) c call ≡ done c' →
    Holds mb b₀ c' m' buffer' → Step mb b₀ c m call (Ok m') buffer'
unfolding left
turned call e h = record { tells = rw (e, h.state) now; holds = rw e h }

-- ---- a call

module _ (mb b₀ : List ℕ) (m : Message) (buffer : List ℕ) where
  open_step : (c : Content) (a : MessageAnswer) → Holds mb b₀ c m buffer → a ≡ opening m → Step mb b₀ c m opens a buffer
  unfolding opening state_of outcome number_of refusal_of
  open_step (whole rs) a h e =
      rw (e ∙ ap opening h.state)
      (turned opens refl
      (record { sound = opened_sound h.sound; state = refl; bytes = h.bytes ∙ ap (λ (l : List ℕ). placed l b₀) (whole_is mb rs ∙ sym (partial_none mb rs)) }))
    where
      opened_sound : Sound mb (room b₀) (whole rs) → Sound mb (room b₀) (partial rs [])
      opened_sound (whole_sound p k) = partial_sound {bs = []} p (omega arith) (rw (partial_none mb rs) k)
  open_step (partial rs bs) a h e = rw (e ∙ ap opening h.state) (kept MessageOrder opens h refl)

  close_step : (c : Content) (a : MessageAnswer) → Holds mb b₀ c m buffer → a ≡ closing m → Step mb b₀ c m closes a buffer
  unfolding closing state_of outcome number_of refusal_of
  close_step (whole rs) a h e = rw (e ∙ ap closing h.state) (kept MessageOrder closes h refl)
  close_step (partial rs []) a h e = rw (e ∙ ap closing h.state) (kept MessageOrder closes h refl)
  close_step (partial rs (b ∷ bs)) a h e = go h.sound
    where
      go : Sound mb (room b₀) (partial rs (b ∷ bs)) → Step mb b₀ (partial rs (b ∷ bs)) m closes a buffer
      go (partial_sound p short used) =
          let r = b ∷ bs in
          let f = length (finished_of mb rs) in
          let in_most : end_of f (length r) ≤ longest_message = omega (arith, partial_length mb rs r) in
          let fit : fits f (length r) longest_message ≡ true = fits_so f (length r) longest_message short in_most in_most in
          let so : a ≡ Ok (Closed (end_of f (length r))) = e ∙ ap closing h.state ∙ rw (fit, ne_eqb (length r) 0 (λ z. omega arith)) in
          let same = finished_append mb rs r in
          rw so
          (turned closes refl
          (record {
            sound = whole_sound (every_append p (also (omega arith, short) none)) (rw same used);
            state = ap Closed (sym (partial_length mb rs r) ∙ sym (ap length same));
            bytes = h.bytes ∙ ap (λ (l : List ℕ). placed l b₀) (sym (whole_is mb (rs ++ r ∷ []) ∙ same));
          }))

  -- An addition is tested as the definition tests it.
  same_tests : (rs : List (List ℕ)) (bs : List ℕ) → length buffer ≡ length b₀ →
      (leb (length bs) longest_reference && leb (length (content_bytes mb (partial rs bs))) (room b₀)) ≡ fits (length (finished_of mb rs)) (length bs) (length buffer)
  unfolding fits
  same_tests rs bs same = rw (partial_length mb rs bs, same)

  added_is : (rs : List (List ℕ)) (bs portion : List ℕ) → length buffer ≡ length b₀ → (t : Bool) →
      fits (length (finished_of mb rs)) (length bs + length portion) (length buffer) ≡ t →
      outcome mb (room b₀) (partial rs bs) (adds portion) ≡ cond t (done (partial rs (bs ++ portion))) (refused 28)
  unfolding outcome lengthened
  added_is rs bs portion same t e =
      ap (λ (t : Bool). cond t (done (partial rs (bs ++ portion))) (refused 28))
      (same_tests rs (bs ++ portion) same ∙ ap (λ (n : ℕ). fits (length (finished_of mb rs)) n (length buffer)) (length-append bs portion) ∙ e)

  -- An addition to an open reference, by its tests.
  module _ (rs : List (List ℕ)) (bs portion : List ℕ) (h : Holds mb b₀ (partial rs bs) m buffer) (p : Every Proper rs) (short : length bs ≤ 459)
      (used : length (content_bytes mb (partial rs bs)) ≤ room b₀) where
    same_length : length buffer ≡ length b₀
    same_length = ap length h.bytes ∙ placed_length (content_bytes mb (partial rs bs)) b₀ (omega arith)

    -- With nothing to add.
    empty_step : length portion ≡ 0 → Step mb b₀ (partial rs bs) m (adds portion) (Ok (Open (length (finished_of mb rs)) (length bs))) buffer
    unfolding state_of
    empty_step zero-long =
        let empty : portion ≡ [] = nothing portion zero-long in
        let same : bs ++ portion ≡ bs = ap (λ (l : List ℕ). bs ++ l) empty ∙ append-nil bs in
        let count : length bs + length portion ≡ length bs = omega arith in
        let goes : fits (length (finished_of mb rs)) (length bs + length portion) (length buffer) ≡ true =
        rw count
        (fits_so (length (finished_of mb rs)) (length bs) (length buffer) short
        (omega (arith, partial_length mb rs bs, same_length)) (omega (arith, partial_length mb rs bs))) in
        turned (adds portion) (added_is rs bs portion same_length true goes ∙ ap (λ (l : List ℕ). done (partial rs l)) same)
        (record { sound = h.sound; state = refl; bytes = h.bytes })

    -- With something that fits.
    longer_step : fits (length (finished_of mb rs)) (length bs + length portion) (length buffer) ≡ true →
        Step mb b₀ (partial rs bs) m (adds portion) (Ok (Open (length (finished_of mb rs)) (length bs + length portion)))
        (take (length (finished_of mb rs)) buffer ++ extended (length bs) (drop (length (finished_of mb rs)) buffer) portion)
    unfolding state_of
    longer_step fit =
        let longer = bs ++ portion in
        let f = length (finished_of mb rs) in
        let count : length bs + length portion ≡ length longer = sym (length-append bs portion) in
        let k = fit_of f (length bs + length portion) (length buffer) fit in
        let small : length longer ≤ 459 = omega (arith, k.short) in
        let end : length (content_bytes mb (partial rs longer)) ≡ end_of f (length bs + length portion) = partial_length mb rs longer ∙ ap (end_of f) (sym count) in
        turned (adds portion) (added_is rs bs portion same_length true fit)
        (record {
          sound = partial_sound p small (omega (arith, k.in_room, k.in_most, same_length));
          state = ap (Open f) count;
          bytes =
              held_longer (finished_of mb rs) bs portion b₀ small buffer (h.bytes ∙ ap (λ (l : List ℕ). placed l b₀) (partial_is mb rs bs))
              ∙ ap (λ (l : List ℕ). placed l b₀) (sym (partial_is mb rs longer));
        })

    by_tests : (t u : Bool) → eqb (length portion) 0 ≡ t → fits (length (finished_of mb rs)) (length bs + length portion) (length buffer) ≡ u →
        Step mb b₀ (partial rs bs) m (adds portion)
        (cond t (Ok (Open (length (finished_of mb rs)) (length bs)))
        (cond u (Ok (Open (length (finished_of mb rs)) (length bs + length portion))) (Err MessageFull)))
        (cond t buffer
        (cond u (take (length (finished_of mb rs)) buffer ++ extended (length bs) (drop (length (finished_of mb rs)) buffer) portion) buffer))
    unfolding number_of refusal_of
    by_tests true u zero-long fit = empty_step (eqb-true (length portion) 0 zero-long)
    by_tests false true some fit = longer_step fit
    by_tests false false some fit = kept MessageFull (adds portion) h (added_is rs bs portion same_length false fit)

  add_step : (c : Content) (portion : List ℕ) (a : MessageAnswer) (buffer' : List ℕ) → Holds mb b₀ c m buffer → Adds m buffer portion a buffer' →
      Step mb b₀ c m (adds portion) a buffer'
  unfolding adding buffer_added state_of outcome number_of refusal_of
  add_step c portion a buffer' h e =
      rw (
        e.answers ∙ ap (λ (m : Message). adding m (length buffer) portion) h.state,
        e.buffer_after ∙ ap (λ (m : Message). buffer_added m buffer portion) h.state,
      )
      (go c h h.sound)
    where
      go : (c : Content) → Holds mb b₀ c m buffer → Sound mb (room b₀) c →
          Step mb b₀ c m (adds portion) (adding (state_of mb c) (length buffer) portion) (buffer_added (state_of mb c) buffer portion)
      go (whole rs) h s = kept MessageOrder (adds portion) h refl
      go (partial rs bs) h (partial_sound p short used) = by_tests rs bs portion h p short used (eqb (length portion) 0) _ refl refl

pub step : {mb b₀ : List ℕ} {m : Message} {buffer : List ℕ} {c : Content} {call : Call} {a : MessageAnswer} {buffer' : List ℕ} → Holds mb b₀ c m buffer →
    Made m buffer call a buffer' → Step mb b₀ c m call a buffer'
step h (opened e) = open_step _ _ _ _ _ _ h e
step h (Made.added e) = add_step _ _ _ _ _ _ _ _ h e
step h (closed e) = close_step _ _ _ _ _ _ h e
