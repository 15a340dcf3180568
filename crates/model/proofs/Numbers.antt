-- Seven-bit numbers: what is written is read back, and what is read is the shortest form of its value.
use Prim.Native.Nat.{ℕ, zero, suc, ◌+◌, ◌*◌, ◌-◌, ◌/◌, ◌%◌, ◌^◌, ◌≤◌, ◌<◌}
use mathlib.Core.Path.{◌≡◌, refl, sym, ◌∙◌, ap}
use mathlib.Core.Logic.{◌⊎◌, inl, inr, ⊎_elim}
use mathlib.Core.Bool.{Bool, true, false, cond, ◌||◌, not}
use mathlib.Core.List.{List, [], ◌∷◌, ◌++◌}
use native.Mathlib.Nat.{add-mul, mul_assoc, mul_comm, pow-succ'}
use native.Mathlib.Omega.{arith}
use lib.ListN.{length, length-append}
use lib.Dec.{ltb, eqb}
use borrow.Author.Tests.{ltb-true, ltb-false, lt-ltb, le-ltb, eqb-true, eqb-false, eq-eqb, ne_eqb}
use Rattle.model.specs.Number.{got, faulty, groups, number, group_bytes, number_bytes}
use Rattle.model.proofs.Every.{Every, also, Byte}

-- A number is its last seven bits and the rest.
weigh : (a y w : ℕ) → a * w + y * (w * 128) ≡ (a + y * 128) * w
weigh a y w =
    sym (add-mul a (y * 128) w ∙ ap (λ (t : ℕ). a * w + t) (mul_assoc y 128 w ∙ ap (λ (t : ℕ). y * t) (mul_comm 128 w)))

-- A last group may stand: it is not 0, or it is the whole number.
abbrev Last : ℕ → ℕ → Type 0
Last weight x = (0 < x) ⊎ (weight ≡ 1)

last_true : (weight x : ℕ) → Last weight x → (not (eqb x 0) || eqb weight 1) ≡ true
last_true weight x (inl h) = let e : eqb x 0 ≡ false = ne_eqb x 0 (λ z. omega arith) in rw e
last_true weight x (inr e) = go (eqb x 0)
  where
    go : (t : Bool) → (not t || eqb weight 1) ≡ true
    go true = eq-eqb weight 1 e
    go false = refl

last_of : (weight x : ℕ) → (not (eqb x 0) || eqb weight 1) ≡ true → Last weight x
last_of weight x e = go (eqb x 0) refl e
  where
    go : (t : Bool) → eqb x 0 ≡ t → (not t || eqb weight 1) ≡ true → Last weight x
    go true t e = inr (eqb-true weight 1 e)
    go false t e = inl (let z = eqb-false x 0 t in omega arith)

more_groups : (most x : ℕ) → 128 ≤ x → x < 128 ^ suc most → 0 < most
more_groups zero x large small = absurd (omega (arith, pow-succ' 128 0))
more_groups (suc most) x large small = omega arith

-- Reading what was written.
groups_back : (most weight value x : ℕ) (rest : List ℕ) → 0 < most → x < 128 ^ most → value + x * weight < 2 ^ 32 → Last weight x →
    groups most weight value (group_bytes most x ++ rest) ≡ got (value + x * weight) rest
unfolding groups group_bytes
groups_back zero weight value x rest some small fits last = absurd (omega arith)
groups_back (suc most) weight value x rest some small fits last =
    go (ltb x 128) refl λ large.
    groups_back most (weight * 128) (value + (x % 128 + 128 - 128) * weight) (x / 128) rest (more_groups most x large small)
    (omega (arith, pow-succ' 128 most)) (rw value_is fits) (inl (omega arith))
    ∙ ap (λ (v : ℕ). got v rest) value_is
  where
    value_is : value + (x % 128 + 128 - 128) * weight + x / 128 * (weight * 128) ≡ value + x * weight
    value_is =
        let low : x % 128 + 128 - 128 ≡ x % 128 = omega arith in
        let whole : x % 128 + x / 128 * 128 ≡ x = omega arith in
        rw low (omega (arith, weigh (x % 128) (x / 128) weight, ap (λ (t : ℕ). t * weight) whole))

    go : (t : Bool) → ltb x 128 ≡ t →
        (128 ≤ x →
        groups most (weight * 128) (value + (x % 128 + 128 - 128) * weight) (group_bytes most (x / 128) ++ rest) ≡
        got (value + x * weight) rest) →
        groups (suc most) weight value (elim t [ true ↦ x ∷ [] | false ↦ (x % 128 + 128) ∷ group_bytes most (x / 128) ] ++ rest) ≡
        got (value + x * weight) rest
    go true t later = rw (groups, t, last_true weight x last, lt-ltb _ _ fits)
    go false t later =
        let again : ltb (x % 128 + 128) 128 ≡ false = le-ltb (x % 128 + 128) 128 (omega arith) in
        rw (groups, again) (later (ltb-false x 128 t))

pub number_back : (x : ℕ) (rest : List ℕ) → x < 2 ^ 32 → number (number_bytes x ++ rest) ≡ got x rest
unfolding number number_bytes
number_back x rest fits =
    let same : 0 + x * 1 ≡ x = omega arith in
    groups_back 5 1 0 x rest (omega arith) (omega arith) (omega arith) (inr refl) ∙ ap (λ (v : ℕ). got v rest) same

-- ---- how many bytes a number takes

not_got : {x : ℕ} {rest : List ℕ} → faulty ≡ got x rest → ⊥
not_got e = let z : ◌≡◌ {A = ℕ} 0 1 = cc in omega arith

-- The bytes of a number, in front of the rest: one at least, and `most` at most.
pub record Front (most : ℕ) (bs rest : List ℕ) : Type 0 where
  pub own : List ℕ
  pub is : bs ≡ own ++ rest
  pub some : 0 < length own
  pub few : length own ≤ most

groups_front : (most weight value : ℕ) (bs : List ℕ) (x : ℕ) (rest : List ℕ) → groups most weight value bs ≡ got x rest → Front most bs rest
unfolding groups
groups_front zero weight value bs x rest e = absurd (not_got e)
groups_front (suc most) weight value [] x rest e = absurd (not_got e)
groups_front (suc most) weight value (b ∷ bs) x rest e =
    go (ltb b 128) e (groups_front most (weight * 128) (value + (b - 128) * weight) bs x rest)
  where
    last : (s t : Bool) → cond s (cond t (got (value + b * weight) bs) faulty) faulty ≡ got x rest → Front (suc most) (b ∷ bs) rest
    last true true e =
        let same : bs ≡ rest = cc in
        record { own = b ∷ []; is = ap (λ (l : List ℕ). b ∷ l) same; some = omega arith; few = omega arith }
    last true false e = absurd (not_got e)
    last false t e = absurd (not_got e)

    go : (t : Bool) →
        elim t [
          | true ↦
              cond (not (eqb b 0) || eqb weight 1) (cond (ltb (value + b * weight) (2 ^ 32)) (got (value + b * weight) bs) faulty) faulty
          | false ↦ groups most (weight * 128) (value + (b - 128) * weight) bs
        ] ≡ got x rest →
        (groups most (weight * 128) (value + (b - 128) * weight) bs ≡ got x rest → Front most bs rest) → Front (suc most) (b ∷ bs) rest
    go true e later = last (not (eqb b 0) || eqb weight 1) (ltb (value + b * weight) (2 ^ 32)) e
    go false e later =
        let f = later e in
        record { own = b ∷ f.own; is = ap (λ (l : List ℕ). b ∷ l) f.is; some = omega arith; few = omega (arith, f.few) }

pub number_front : (bs : List ℕ) (x : ℕ) (rest : List ℕ) → number bs ≡ got x rest → Front 5 bs rest
unfolding number
number_front bs x rest e = groups_front 5 1 0 bs x rest e

pub number_width : (bs : List ℕ) (x : ℕ) (rest : List ℕ) → number bs ≡ got x rest → (length rest < length bs) × (length bs ≤ length rest + 5)
number_width bs x rest e =
    let f = number_front bs x rest e in
    let whole = ap length f.is ∙ length-append f.own rest in
    (omega (arith, f.some), omega (arith, f.few))

-- ---- what was read

-- What was read is what would be written.
record Shortest (most weight value : ℕ) (bs : List ℕ) (x : ℕ) (rest : List ℕ) : Type 0 where
  part : ℕ
  value_is : x ≡ value + part * weight
  bytes_are : bs ≡ group_bytes most part ++ rest
  last : Last weight part
  fits : x < 2 ^ 32

-- The last group.
group_last : (most weight value b : ℕ) (bs : List ℕ) (x : ℕ) (rest : List ℕ) → b < 128 →
    cond (not (eqb b 0) || eqb weight 1) (cond (ltb (value + b * weight) (2 ^ 32)) (got (value + b * weight) bs) faulty) faulty ≡ got x rest →
    Shortest (suc most) weight value (b ∷ bs) x rest
unfolding group_bytes
group_last most weight value b bs x rest small e = shortest (not (eqb b 0) || eqb weight 1) refl e
  where
    fitting : (t : Bool) → ltb (value + b * weight) (2 ^ 32) ≡ t → Last weight b →
        cond t (got (value + b * weight) bs) faulty ≡ got x rest → Shortest (suc most) weight value (b ∷ bs) x rest
    fitting true t last e =
        let same : value + b * weight ≡ x = cc in
        let after : bs ≡ rest = cc in
        record {
          part = b;
          value_is = sym same;
          bytes_are = rw (group_bytes, lt-ltb b 128 small) (ap (λ (l : List ℕ). b ∷ l) after);
          last = last;
          fits = rw same at (ltb-true (value + b * weight) (2 ^ 32) t);
        }
    fitting false t last e = absurd (not_got e)

    shortest : (t : Bool) → (not (eqb b 0) || eqb weight 1) ≡ t →
        cond t (cond (ltb (value + b * weight) (2 ^ 32)) (got (value + b * weight) bs) faulty) faulty ≡ got x rest →
        Shortest (suc most) weight value (b ∷ bs) x rest
    shortest true t e = fitting _ refl (last_of weight b t) e
    shortest false t e = absurd (not_got e)

-- A group before others.
group_more : (most weight value b : ℕ) (bs : List ℕ) (x : ℕ) (rest : List ℕ) → 128 ≤ b → Byte b →
    Shortest most (weight * 128) (value + (b - 128) * weight) bs x rest → Shortest (suc most) weight value (b ∷ bs) x rest
unfolding group_bytes
group_more most weight value b bs x rest large small s =
    let y = s.part in
    let some : 0 < y = ⊎_elim (λ h. h) (λ e. absurd (omega arith)) s.last in
    let part = b - 128 + y * 128 in
    let low : part % 128 + 128 ≡ b = omega arith in
    let high : part / 128 ≡ y = omega arith in
    record {
      part = part;
      value_is = omega (arith, s.value_is, weigh (b - 128) y weight);
      bytes_are = rw (group_bytes, le-ltb part 128 (omega arith), low, high) (ap (λ (l : List ℕ). b ∷ l) s.bytes_are);
      last = inl (omega arith);
      fits = s.fits;
    }

groups_shortest : (most weight value : ℕ) (bs : List ℕ) (x : ℕ) (rest : List ℕ) → Every Byte bs → groups most weight value bs ≡ got x rest →
    Shortest most weight value bs x rest
unfolding groups
groups_shortest zero weight value bs x rest small e = absurd (not_got e)
groups_shortest (suc most) weight value [] x rest small e = absurd (not_got e)
groups_shortest (suc most) weight value (b ∷ bs) x rest (also byte small) e =
    go (ltb b 128) refl e (groups_shortest most (weight * 128) (value + (b - 128) * weight) bs x rest small)
  where
    go : (t : Bool) → ltb b 128 ≡ t →
        elim t [
          | true ↦
              cond (not (eqb b 0) || eqb weight 1) (cond (ltb (value + b * weight) (2 ^ 32)) (got (value + b * weight) bs) faulty) faulty
          | false ↦ groups most (weight * 128) (value + (b - 128) * weight) bs
        ] ≡ got x rest →
        (groups most (weight * 128) (value + (b - 128) * weight) bs ≡ got x rest →
        Shortest most (weight * 128) (value + (b - 128) * weight) bs x rest) →
        Shortest (suc most) weight value (b ∷ bs) x rest
    go true t e later = group_last most weight value b bs x rest (ltb-true b 128 t) e
    go false t e later = group_more most weight value b bs x rest (ltb-false b 128 t) byte (later e)

pub number_shortest : (bs : List ℕ) (x : ℕ) (rest : List ℕ) → Every Byte bs → number bs ≡ got x rest →
    (bs ≡ number_bytes x ++ rest) × (x < 2 ^ 32)
unfolding number number_bytes
number_shortest bs x rest small e =
    let s = groups_shortest 5 1 0 bs x rest small e in
    let same : s.part ≡ x = omega (arith, s.value_is) in
    (rw same at s.bytes_are, s.fits)
