-- What stands at a byte of a message, by the first bytes of its length: one byte, two, or what stops the list.
use Prim.Native.Nat.{ℕ, zero, suc, ◌+◌, ◌*◌, ◌-◌, ◌^◌, ◌≤◌, ◌<◌}
use mathlib.Core.Path.{◌≡◌, refl, sym, ◌∙◌, ap}
use mathlib.Core.Bool.{Bool, true, false, cond, ◌||◌, not}
use mathlib.Core.List.{List, [], ◌∷◌}
use mathlib.Core.Logic.{◌⊎◌, inl, inr, ⊎_elim}
use native.Mathlib.Nat.{mul-le-mul_right}
use native.Mathlib.Omega.{arith}
use lib.ListN.{length, get_or, drop}
use lib.Dec.{ltb, eqb}
use borrow.Author.Tests.{eqb-true, eqb-false}
use Rattle.model.specs.Number.{Number, got, faulty, groups, number}
use Rattle.model.specs.Message.{stop, of_length, next}
use Rattle.buffers.proofs.Cases.{le_or_lt}
use Rattle.buffers.proofs.Groups.{none_left, more, padded, whole}
use Rattle.message_laws.proofs.Nexts.{no_number, next_is, too_long}

-- A number with a group at `weight`, which is not the first, is at least `weight`: a last group of 0 is not in its shortest form.
not_got : {x : ℕ} {rest : List ℕ} → faulty ≡ got x rest → ⊥
not_got e = let z : ◌≡◌ {A = ℕ} 0 1 = cc in omega arith

groups_least : (most weight value : ℕ) (bs : List ℕ) (x : ℕ) (rest : List ℕ) → 1 < weight → groups most weight value bs ≡ got x rest → weight ≤ x
unfolding groups
groups_least zero weight value bs x rest h e = absurd (not_got e)
groups_least (suc most) weight value [] x rest h e = absurd (not_got e)
groups_least (suc most) weight value (b ∷ bs) x rest h e =
    go (ltb b 128) e (groups_least most (weight * 128) (value + (b - 128) * weight) bs x rest (omega arith))
  where
    last : (s t u : Bool) → eqb b 0 ≡ s → eqb weight 1 ≡ t →
        cond (not s || t) (cond u (got (value + b * weight) bs) faulty) faulty ≡ got x rest → weight ≤ x
    last s true u z w e = absurd (let k = eqb-true weight 1 w in omega arith)
    last true false u z w e = absurd (not_got e)
    last false false true z w e =
        let some = eqb-false b 0 z in
        let same : value + b * weight ≡ x = cc in
        let least : 1 * weight ≤ b * weight = mul-le-mul_right weight (omega arith) in
        omega arith
    last false false false z w e = absurd (not_got e)

    go : (t : Bool) →
        elim t [
          | true ↦
              cond (not (eqb b 0) || eqb weight 1) (cond (ltb (value + b * weight) (2 ^ 32)) (got (value + b * weight) bs) faulty) faulty
          | false ↦ groups most (weight * 128) (value + (b - 128) * weight) bs
        ] ≡ got x rest →
        (groups most (weight * 128) (value + (b - 128) * weight) bs ≡ got x rest → weight * 128 ≤ x) → weight ≤ x
    go true e later = last (eqb b 0) (eqb weight 1) (ltb (value + b * weight) (2 ^ 32)) refl refl e
    go false e later = let k = later e in omega arith

module _ (message : List ℕ) (at : ℕ) (here : at < length message) where
  pub one_byte_next : get_or message at 0 < 128 → next (drop at message) ≡ of_length (get_or message at 0) (drop (at + 1) message)
  unfolding next number
  one_byte_next low =
      let b = get_or message at 0 in
      let same : 0 + b * 1 ≡ b = omega arith in
      let kept : ((b ≡ 0) × (◌≡◌ {A = ℕ} 1 1)) ⊎ (b ≡ 0 → ⊥) = ⊎_elim (λ z. inl (omega arith, refl)) (λ s. inr (λ z. omega arith)) (le_or_lt b 0) in
      rw (next, whole message at 1 0 4 here low kept (omega arith)) (ap (λ (x : ℕ). of_length x (drop (at + 1) message)) same)

  -- Another group follows.
  module _ (follows : 128 ≤ get_or message at 0) where
    after_first : number (drop at message) ≡ groups 4 128 (get_or message at 0 - 128) (drop (at + 1) message)
    unfolding number
    after_first =
        let same : 0 + (get_or message at 0 - 128) * 1 ≡ get_or message at 0 - 128 = omega arith in
        more message at 1 0 4 here follows ∙ ap (λ (x : ℕ). groups 4 128 x (drop (at + 1) message)) same

    pub cut_length : length message ≤ at + 1 → next (drop at message) ≡ stop
    cut_length ends = no_number (drop at message) (after_first ∙ none_left message (at + 1) 128 (get_or message at 0 - 128) 3 ends)

    module _ (there : at + 1 < length message) where
      pub padded_length : get_or message (at + 1) 0 ≡ 0 → next (drop at message) ≡ stop
      padded_length z =
          no_number (drop at message) (after_first ∙ padded message (at + 1) 128 (get_or message at 0 - 128) 3 there z (λ e. omega arith))

      pub two_byte_next : get_or message at 0 < 256 → (get_or message (at + 1) 0 ≡ 0 → ⊥) → get_or message (at + 1) 0 < 128 →
          next (drop at message) ≡ of_length (get_or message at 0 - 128 + get_or message (at + 1) 0 * 128) (drop (at + 2) message)
      unfolding next
      two_byte_next byte some low =
          let two : at + 1 + 1 ≡ at + 2 = omega arith in
          rw (
            next,
            after_first ∙ whole message (at + 1) 128 (get_or message at 0 - 128) 3 there low (inr some) (omega arith)
                ∙ ap (λ (k : ℕ). got (get_or message at 0 - 128 + get_or message (at + 1) 0 * 128) (drop k message)) two,
          )

      pub longer_length : 128 ≤ get_or message (at + 1) 0 → next (drop at message) ≡ stop
      longer_length high = go (number (drop at message)) refl
        where
          go : (a : Number) → number (drop at message) ≡ a → next (drop at message) ≡ stop
          go (got x rest) e =
              next_is (drop at message) x rest e
              ∙ too_long x rest
              (let k = groups_least 3 (128 * 128) _ _ x rest (omega arith)
              (sym (after_first ∙ more message (at + 1) 128 (get_or message at 0 - 128) 3 there high) ∙ e) in omega arith)
          go faulty e = no_number (drop at message) e
