-- The banned turns as chains: none, one more, and the walk along the chain of a line.
use Prim.Native.Nat.{ℕ, zero, suc, ◌-◌, ◌≤◌, ◌<◌}
use mathlib.Core.Path.{◌≡◌, refl, sym, ap, ap₂, subst, ◌∙◌}
use mathlib.Core.Bool.{Bool, true, false, cond, ◌&&◌, ◌||◌, or-true, or-false, or_assoc, or_comm}
use mathlib.Core.List.{List, [], ◌∷◌, ◌++◌}
use mathlib.Core.Logic.{◌≢◌, ⊎_elim}
use native.Mathlib.Nat.{eq-or-lt_of_le}
use native.Mathlib.Decide.{dec_lt, ℕ_discrete}
use native.Mathlib.Omega.{arith}
use lib.ListN.{length, get_or, length-append, get_or-append}
use lib.Seq.{get_or_at}
use lib.Dec.{eqb}
use borrow.Author.Tests.{eqb-true, eqb-false, eq-eqb, ne_eqb}
use Rattle.model.specs.Map.{Turn, greatest_ban_count, greatest_line_count}
use Rattle.model.specs.Lines.{turn_among}
use Rattle.buffers.specs.Kept.{Filled}
use Rattle.work_area.specs.Area.{bans_from, ban_head, ban_second, ban_earlier, ban_at, latest_ban, ban_chain, BansHeld}
use Rattle.banned_turns.specs.Put.{BanPut}

-- ---- one turn more

module _ (bans : List Turn) (t : Turn) where
  abbrev more : List Turn
  more = bans ++ t ∷ []

  at_old : (i : ℕ) → i < length bans → ban_at more i ≡ ban_at bans i
  at_old i h = get_or-append bans (t ∷ []) _ i h

  at_new : ban_at more (length bans) ≡ t
  at_new = get_or_at bans t [] _ (length bans) refl

  latest_old : (l i : ℕ) → i ≤ length bans → latest_ban more l i ≡ latest_ban bans l i
  latest_old l zero h = refl
  latest_old l (suc i) h =
      ap₂ (λ (x : Turn) (y : ℕ). cond (eqb x.first l) (suc i) y) (at_old i (omega arith)) (latest_old l i (omega arith))

  longer : length more ≡ suc (length bans)
  longer = length-append bans (t ∷ []) ∙ (omega arith)

  latest_new : (l : ℕ) → latest_ban more l (length more) ≡ cond (eqb t.first l) (suc (length bans)) (latest_ban bans l (length bans))
  latest_new l =
      ap (latest_ban more l) longer
      ∙ ap₂ (λ (x : Turn) (y : ℕ). cond (eqb x.first l) (suc (length bans)) y) at_new (latest_old l (length bans) (omega arith))

  module _ {w v : List ℕ} {lines : ℕ} (held : BansHeld w lines bans) (put : BanPut (length bans) t w v) (room : length bans < greatest_ban_count)
      (known : t.first < lines) (few : lines ≤ greatest_line_count) where
    head_more : (l : ℕ) → l < lines → get_or v (ban_head l) 0 ≡ latest_ban more l (length more)
    head_more l h = go (ℕ_discrete t.first l) ∙ sym (latest_new l)
      where
        go : Dec (t.first ≡ l) → get_or v (ban_head l) 0 ≡ cond (eqb t.first l) (suc (length bans)) (latest_ban bans l (length bans))
        go (yes e) =
            let here : get_or v (ban_head l) 0 ≡ suc (length bans) = subst (λ (x : ℕ). get_or v (ban_head x) 0 ≡ suc (length bans)) e (put.head ∙ (omega arith)) in
            rw (eq-eqb t.first l e) here
        go (no d) =
            rw (ne_eqb t.first l d)
            (put.others (ban_head l) (omega (arith, room, few)) (omega (arith, room, few)) (λ e. d (omega arith)) ∙ held.heads l h)

    earlier_more : (i : ℕ) → i < length more → get_or v (ban_earlier i) 0 ≡ latest_ban more (ban_at more i).first i
    earlier_more i h = go (dec_lt i (length bans))
      where
        go : Dec (i < length bans) → get_or v (ban_earlier i) 0 ≡ latest_ban more (ban_at more i).first i
        go (yes old) =
            put.others (ban_earlier i) (omega (arith, room, old)) (omega (arith, old)) (omega (arith, known, few)) ∙ held.earlier i old
            ∙ sym (ap (λ (x : Turn). latest_ban more x.first i) (at_old i old) ∙ latest_old _ i (omega (arith, old)))
        go (no new) =
            let e : length bans ≡ i = omega (arith, longer) in
            subst (λ (j : ℕ). get_or v (ban_earlier j) 0 ≡ latest_ban more (ban_at more j).first j) e
            (put.earlier ∙ held.heads t.first known
            ∙ sym (ap (λ (x : Turn). latest_ban more x.first (length bans)) at_new ∙ latest_old _ (length bans) (omega arith)))

    second_more : (i : ℕ) → i < length more → get_or v (ban_second i) 0 ≡ (ban_at more i).second
    second_more i h = go (dec_lt i (length bans))
      where
        go : Dec (i < length bans) → get_or v (ban_second i) 0 ≡ (ban_at more i).second
        go (yes old) =
            put.others (ban_second i) (omega (arith, old)) (omega (arith, room, old)) (omega (arith, known, few)) ∙ held.seconds i old
            ∙ ap (λ (x : Turn). x.second) (sym (at_old i old))
        go (no new) =
            let e : length bans ≡ i = omega (arith, longer) in
            subst (λ (j : ℕ). get_or v (ban_second j) 0 ≡ (ban_at more j).second) e (put.second ∙ ap (λ (x : Turn). x.second) (sym at_new))

    pub bans_more : BansHeld v lines more
    bans_more = record { few = omega (arith, longer, room); heads = head_more; seconds = second_more; earlier = earlier_more }

-- No turn, once the heads of all chains are 0.
pub bans_none : {w v : List ℕ} {lines : ℕ} → lines ≤ greatest_line_count → Filled bans_from greatest_line_count 0 w v → BansHeld v lines []
bans_none few none =
    record { few = omega arith; heads = λ l h. none.filled l (omega arith); seconds = λ i h. absurd (omega arith); earlier = λ i h. absurd (omega arith) }

-- ---- the walk along the chain of line `l`, in search of line `k`

-- 1 + the last turn from line `l` before turn `i`, or 0: it is one of those, and none of them is behind it.
module _ (bans : List Turn) (l : ℕ) where
  pub latest_small : (i : ℕ) → latest_ban bans l i ≤ i
  latest_small zero = omega arith
  latest_small (suc i) = go (eqb (ban_at bans i).first l) (latest_small i)
    where
      go : (b : Bool) → latest_ban bans l i ≤ i → cond b (suc i) (latest_ban bans l i) ≤ suc i
      go true h = omega arith
      go false h = omega arith

  pub latest_from : (i j : ℕ) → latest_ban bans l i ≡ suc j → (ban_at bans j).first ≡ l
  latest_from zero j e = absurd (omega arith)
  latest_from (suc i) j e = go (eqb (ban_at bans i).first l) refl e (latest_from i j)
    where
      go : (b : Bool) → eqb (ban_at bans i).first l ≡ b → cond b (suc i) (latest_ban bans l i) ≡ suc j → (latest_ban bans l i ≡ suc j → (ban_at bans j).first ≡ l) →
          (ban_at bans j).first ≡ l
      go true t e rest = let same : i ≡ j = omega arith in subst (λ (x : ℕ). (ban_at bans x).first ≡ l) same (eqb-true _ _ t)
      go false t e rest = rest e

  pub latest_all : (i j : ℕ) → j < i → (ban_at bans j).first ≡ l → j < latest_ban bans l i
  latest_all zero j j< e = absurd (omega arith)
  latest_all (suc i) j j< e = go (eqb (ban_at bans i).first l) refl (λ below. latest_all i j below e)
    where
      go : (b : Bool) → eqb (ban_at bans i).first l ≡ b → (j < i → j < latest_ban bans l i) → j < cond b (suc i) (latest_ban bans l i)
      go true t rest = omega arith
      go false t rest =
          ⊎_elim
          (λ same. absurd (eqb-false _ _ t (subst (λ (x : ℕ). (ban_at bans x).first ≡ l) same e)))
          rest
          (eq-or-lt_of_le {n = j} {m = i} (omega arith))

module _ (bans : List Turn) (l k : ℕ) where
  abbrev is : Turn → Bool
  is t = eqb t.first l && eqb t.second k

  -- Whether the turn is among the first `i`.
  abbrev before : ℕ → Bool
  before zero = false
  before (suc i) = is (ban_at bans i) || before i

  latest_before : (i : ℕ) → before i ≡ before (latest_ban bans l i)
  latest_before zero = refl
  latest_before (suc i) = go (eqb (ban_at bans i).first l) refl (latest_before i)
    where
      go : (b : Bool) → eqb (ban_at bans i).first l ≡ b → before i ≡ before (latest_ban bans l i) → before (suc i) ≡ before (cond b (suc i) (latest_ban bans l i))
      go true t rest = refl
      go false t rest = rw t rest

before_cons : (t : Turn) (ts : List Turn) (l k i : ℕ) → before (t ∷ ts) l k (suc i) ≡ (before ts l k i || is ts l k t)
before_cons t ts l k zero = or-false (is ts l k t)
before_cons t ts l k (suc i) = ap (λ (b : Bool). is ts l k (ban_at ts i) || b) (before_cons t ts l k i) ∙ sym (or_assoc (is ts l k (ban_at ts i)) (before ts l k i) _)

among_before : (bans : List Turn) (l k : ℕ) → turn_among bans l k ≡ before bans l k (length bans)
unfolding turn_among
among_before [] l k = refl
among_before (t ∷ ts) l k =
    ap (λ (b : Bool). is ts l k t || b) (among_before ts l k) ∙ or_comm (is ts l k t) (before ts l k (length ts)) ∙ sym (before_cons t ts l k (length ts))

-- Each of them is banned.
pub among_at : (bans : List Turn) (i : ℕ) → i < length bans → turn_among bans (ban_at bans i).first (ban_at bans i).second ≡ true
unfolding turn_among
among_at [] i i< = absurd (omega arith)
among_at (t ∷ ts) zero i< = rw (eq-eqb t.first _ refl, eq-eqb t.second _ refl)
among_at (t ∷ ts) (suc i) i< = rw (among_at ts i (omega arith)) (or-true (eqb t.first (ban_at ts i).first && eqb t.second (ban_at ts i).second))

-- The walk has come to `x`: the turn is banned if it is among the first `x`.
pub record WalkAt (bans : List Turn) (l k x : ℕ) : Type 0 where
  pub within : x ≤ length bans
  pub from : (i : ℕ) → x ≡ suc i → (ban_at bans i).first ≡ l
  pub left : turn_among bans l k ≡ before bans l k x

module _ {w : List ℕ} {lines : ℕ} {bans : List Turn} (held : BansHeld w lines bans) (l k : ℕ) where
  to_latest : (i : ℕ) → i ≤ length bans → turn_among bans l k ≡ before bans l k i → WalkAt bans l k (latest_ban bans l i)
  to_latest i h e =
      record {
        within = omega (arith, latest_small bans l i);
        from = λ j. latest_from bans l i j;
        left = e ∙ latest_before bans l k i;
      }

  pub walk_start : (x : ℕ) → x ≡ ban_chain bans l → WalkAt bans l k x
  walk_start x e = rw e (to_latest (length bans) (omega arith) (among_before bans l k))

  -- One step, from an `x` that is not 0.
  module _ (x : ℕ) (some : 0 < x) (at : WalkAt bans l k x) where
    here : (ban_at bans (x - 1)).first ≡ l
    here = at.from (x - 1) (omega arith)

    next : get_or w (ban_earlier (x - 1)) 0 ≡ latest_ban bans l (x - 1)
    next = held.earlier (x - 1) (omega (arith, at.within)) ∙ ap (λ (f : ℕ). latest_ban bans f (x - 1)) here

    step : turn_among bans l k ≡ (eqb (get_or w (ban_second (x - 1)) 0) k || before bans l k (x - 1))
    step =
        let one : x ≡ suc (x - 1) = omega arith in
        at.left ∙ ap (before bans l k) one ∙ rw (eq-eqb _ _ here, held.seconds (x - 1) (omega (arith, at.within)))

    pub walk_hit : get_or w (ban_second (x - 1)) 0 ≡ k → turn_among bans l k ≡ true
    walk_hit e = step ∙ rw (eq-eqb _ _ e)

    pub walk_on : get_or w (ban_second (x - 1)) 0 ≢ k → WalkAt bans l k (get_or w (ban_earlier (x - 1)) 0)
    walk_on d = rw next (to_latest (x - 1) (omega (arith, at.within)) (step ∙ rw (ne_eqb _ _ d)))

    pub walk_less : get_or w (ban_earlier (x - 1)) 0 < x
    walk_less = omega (arith, next, latest_small bans l (x - 1))

  pub walk_end : (x : ℕ) → x ≤ 0 → WalkAt bans l k x → turn_among bans l k ≡ false
  walk_end x none at = let z : x ≡ 0 = omega arith in at.left ∙ ap (before bans l k) z
