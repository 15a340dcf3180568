-- One group of seven bits, at a position of the bytes.
use Prim.Native.Nat.{ℕ, suc, ◌+◌, ◌*◌, ◌-◌, ◌^◌, ◌≤◌, ◌<◌}
use mathlib.Core.Path.{◌≡◌, ◌∙◌}
use mathlib.Core.Bool.{true, cond, ◌||◌, not}
use mathlib.Core.List.{List}
use mathlib.Core.Logic.{◌⊎◌, ⊎_elim}
use native.Mathlib.Nat.{pow-le-pow_right}
use native.Mathlib.Omega.{arith}
use native.Mathlib.Numerals.{add-one}
use lib.ListN.{length, get_or, drop, drop_of_length-le}
use lib.Seq.{drop-cons}
use lib.Dec.{ltb, eqb}
use borrow.Author.Tests.{lt-ltb, le-ltb, eq-eqb, ne_eqb}
use Rattle.model.specs.Number.{got, faulty, groups}

module _ (bytes : List ℕ) (at weight value n : ℕ) where
  pub none_left : length bytes ≤ at → groups (suc n) weight value (drop at bytes) ≡ faulty
  unfolding groups
  none_left h = rw (drop_of_length-le bytes h)

  module _ (here : at < length bytes) where
    pub more : 128 ≤ get_or bytes at 0
        → groups (suc n) weight value (drop at bytes) ≡ groups n (weight * 128) (value + (get_or bytes at 0 - 128) * weight) (drop (at + 1) bytes)
    unfolding groups
    more h = rw (add-one, drop-cons bytes at 0 here, groups, le-ltb _ _ h)

    last_of : get_or bytes at 0 < 128
        → groups (suc n) weight value (drop at bytes)
        ≡ cond (not (eqb (get_or bytes at 0) 0) || eqb weight 1)
        (cond (ltb (value + get_or bytes at 0 * weight) (2 ^ 32)) (got (value + get_or bytes at 0 * weight) (drop (at + 1) bytes)) faulty) faulty
    unfolding groups
    last_of h = rw (add-one, drop-cons bytes at 0 here, groups, lt-ltb _ _ h)

    pub padded : get_or bytes at 0 ≡ 0 → (weight ≡ 1 → ⊥) → groups (suc n) weight value (drop at bytes) ≡ faulty
    padded z w = last_of (rw z (lib.Dec.lit< tt)) ∙ rw (eq-eqb _ _ z, ne_eqb _ _ w)

    module _ (low : get_or bytes at 0 < 128) (kept : ((get_or bytes at 0 ≡ 0) × (weight ≡ 1)) ⊎ (get_or bytes at 0 ≡ 0 → ⊥)) where
      shortest : (not (eqb (get_or bytes at 0) 0) || eqb weight 1) ≡ true
      shortest = ⊎_elim (λ w. rw (eq-eqb _ _ w.0, eq-eqb _ _ w.1)) (λ w. rw (ne_eqb (get_or bytes at 0) 0 w)) kept

      pub whole : value + get_or bytes at 0 * weight < 2 ^ 32
          → groups (suc n) weight value (drop at bytes) ≡ got (value + get_or bytes at 0 * weight) (drop (at + 1) bytes)
      whole h = last_of low ∙ rw (shortest, lt-ltb _ _ h)

      pub large : 2 ^ 32 ≤ value + get_or bytes at 0 * weight → groups (suc n) weight value (drop at bytes) ≡ faulty
      large h = last_of low ∙ rw (shortest, le-ltb _ _ h)

-- The weight of the last group.
pub weight_low : (i : ℕ) → i < 5 → 128 ^ i ≤ 268_435_456
weight_low i h = pow-le-pow_right {n = 128} (omega arith) {j = 4} (omega arith)
