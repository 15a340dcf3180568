-- The count of the banned turns, and the walk along the chain of a line that stores the line with each of its turns.
use Prim.Native.Nat.{ℕ, suc, ◌-◌, ◌≤◌, ◌<◌}
use mathlib.Core.Path.{◌≡◌, refl, sym, ◌∙◌}
use mathlib.Core.List.{List}
use mathlib.Core.Logic.{◌≢◌, ⊎_elim}
use native.Mathlib.Omega.{arith}
use lib.ListN.{length, get_or, set, length-set}
use lib.Seq.{get_or-set_same, get_or-set_other}
use Rattle.model.specs.Map.{Turn}
use Rattle.buffers.proofs.Cases.{le_or_lt, here_or}
use Rattle.work_area.specs.Area.{ban_head, ban_earlier, ban_at, latest_ban, ban_chain, BansHeld}
use Rattle.banned_turns.proofs.Chains.{latest_small, latest_from, latest_all}
use Rattle.turning.specs.Bans.{Known, ChainStands, ChainNamed}

-- The chain of the last turn's first line starts with it, and no head is past it: so the greatest of all heads is the count.
pub greatest_head : {w : List ℕ} {lines greatest : ℕ} {bans : List Turn} → ((l : ℕ) → l < lines → get_or w (ban_head l) 0 ≤ greatest) →
    (0 < greatest → (l : ℕ) × (l < lines) × (get_or w (ban_head l) 0 ≡ greatest)) → BansHeld w lines bans → Known lines bans → greatest ≡ length bans
greatest_head {greatest = greatest} {bans = bans} all one held known =
    omega (
      arith,
      ⊎_elim {C = greatest ≤ length bans} (λ none. omega arith) small (le_or_lt greatest 0),
      ⊎_elim {C = length bans ≤ greatest} (λ none. omega arith) great (le_or_lt (length bans) 0),
    )
  where
    small : 0 < greatest → greatest ≤ length bans
    small h = let o = one h in omega (arith, held.heads o.0 o.1, latest_small bans o.0 (length bans))

    great : 0 < length bans → length bans ≤ greatest
    great h =
        let last = length bans - 1 in
        let first = (ban_at bans last).first in
        let l< = (known last (omega arith)).0 in
        omega (arith, all first l<, held.heads first l<, latest_all bans first (length bans) last (omega arith) refl)

-- The walk along the chain of line `l` has come to `x`: the turns of the chain that are not before it are done.
pub record Walking (bans : List Turn) (l x : ℕ) (w v : List ℕ) : Type 0 where
  pub within : x ≤ length bans
  pub from : (i : ℕ) → x ≡ suc i → (ban_at bans i).first ≡ l
  pub named : (i : ℕ) → i < length bans → x ≤ i → (ban_at bans i).first ≡ l → get_or v (ban_earlier i) 0 ≡ l
  pub left : (i : ℕ) → i < x → get_or v (ban_earlier i) 0 ≡ get_or w (ban_earlier i) 0
  pub others : (k : ℕ) → ((i : ℕ) → i < length bans → (ban_at bans i).first ≡ l → k ≢ ban_earlier i) → get_or v k 0 ≡ get_or w k 0
  pub same : length v ≡ length w

module _ {bans : List Turn} {l : ℕ} {w : List ℕ} where
  pub walking_start : {x : ℕ} → x ≡ ban_chain bans l → Walking bans l x w w
  walking_start e =
      record {
        within = omega (arith, e, latest_small bans l (length bans));
        from = λ i f. latest_from bans l (length bans) i (sym e ∙ f);
        named = λ i i< le first. absurd (omega (arith, e, latest_all bans l (length bans) i i< first));
        left = λ i i<. refl;
        others = λ k apart. refl;
        same = refl;
      }

  -- One step, from an `x` that is not 0.
  module _ {x : ℕ} {v : List ℕ} (stands : ChainStands bans l w) (at : Walking bans l x w v) (pos : 0 < x) where
    here : (ban_at bans (x - 1)).first ≡ l
    here = at.from (x - 1) (omega arith)

    next_is : get_or v (ban_earlier (x - 1)) 0 ≡ latest_ban bans l (x - 1)
    next_is = at.left (x - 1) (omega arith) ∙ stands.earlier (x - 1) (omega (arith, at.within)) here

    module _ {next : ℕ} (e : next ≡ get_or v (ban_earlier (x - 1)) 0) where
      pub walking_less : next < x
      walking_less = omega (arith, e, next_is, latest_small bans l (x - 1))

      pub walking_on : ban_earlier (x - 1) < length v → Walking bans l next w (set v (ban_earlier (x - 1)) l)
      walking_on room =
          let is : next ≡ latest_ban bans l (x - 1) = e ∙ next_is in
          record {
            within = omega (arith, walking_less, at.within);
            from = λ i f. latest_from bans l (x - 1) i (sym is ∙ f);
            named = here_or (λ i. i < length bans → next ≤ i → (ban_at bans i).first ≡ l → get_or (set v (ban_earlier (x - 1)) l) (ban_earlier i) 0 ≡ l) (x - 1)
                (λ i< le first. get_or-set_same v (ban_earlier (x - 1)) l 0 room)
                (λ i d i< le first.
                get_or-set_other v (ban_earlier (x - 1)) (ban_earlier i) l 0 (λ same. d (omega arith))
                ∙ ⊎_elim
                (λ behind. at.named i i< behind first)
                (λ before. absurd (omega (arith, d, is, latest_all bans l (x - 1) i (omega (arith, d)) first)))
                (le_or_lt x i));
            left = λ i i<. get_or-set_other v (ban_earlier (x - 1)) (ban_earlier i) l 0 (omega (arith, walking_less)) ∙ at.left i (omega (arith, walking_less));
            others = λ k apart. get_or-set_other v (ban_earlier (x - 1)) k l 0 (apart (x - 1) (omega (arith, at.within)) here) ∙ at.others k apart;
            same = simp length-set at.same;
          }

  pub walking_end : {x : ℕ} {v : List ℕ} → x ≤ 0 → Walking bans l x w v → ChainNamed bans l w v
  walking_end none at = record { named = λ i i< first. at.named i i< (omega arith) first; others = at.others; same = at.same }
