-- The turns that stand in pairs are put into the chains of their second lines, one by one.
use Prim.Native.Nat.{ℕ, ◌+◌, ◌≤◌, ◌<◌}
use mathlib.Core.Path.{◌≡◌, sym, ap, subst, ◌∙◌}
use mathlib.Core.List.{List, [], ◌∷◌, ◌++◌, map, map-append}
use native.Mathlib.Numerals.{add-one}
use native.Mathlib.Omega.{arith}
use lib.ListN.{length, get_or, take, length-map}
use lib.Seq.{length-take-le, take-suc, take-length}
use Rattle.model.specs.Map.{Turn, greatest_line_count}
use Rattle.buffers.specs.Kept.{Kept}
use Rattle.buffers.proofs.Kept.{kept_then}
use Rattle.work_area.specs.Area.{bans_from, bans_to, ban_second, ban_earlier, ban_at, BansHeld}
use Rattle.work_area.specs.Mirror.{mirror_turn}
use Rattle.banned_turns.specs.Put.{BanPut}
use Rattle.banned_turns.proofs.Chains.{bans_more}
use Rattle.banned_turns.proofs.Putting.{put_kept}
use Rattle.turning.specs.Bans.{Known, Paired, BansTurned}

-- The first `i` turns are turned round.
abbrev turned : List Turn → ℕ → List Turn
turned bans i = map mirror_turn (take i bans)

turned_length : (bans : List Turn) (i : ℕ) → i ≤ length bans → length (turned bans i) ≡ i
turned_length bans i h = length-map (take i bans) mirror_turn ∙ length-take-le i bans h

turned_more : (bans : List Turn) (i : ℕ) → i < length bans → turned bans (i + 1) ≡ turned bans i ++ mirror_turn (ban_at bans i) ∷ []
turned_more bans i h = ap (turned bans) (add-one i) ∙ ap (map mirror_turn) (take-suc bans i _ h) ∙ map-append mirror_turn (take i bans) (ban_at bans i ∷ [])

-- They are put into their chains, and the others stand in pairs.
pub record Turning (lines : ℕ) (bans : List Turn) (i : ℕ) (w v : List ℕ) : Type 0 where
  pub held : BansHeld v lines (turned bans i)
  pub seconds : (k : ℕ) → i ≤ k → k < length bans → get_or v (ban_second k) 0 ≡ (ban_at bans k).second
  pub firsts : (k : ℕ) → i ≤ k → k < length bans → get_or v (ban_earlier k) 0 ≡ (ban_at bans k).first
  pub kept : Kept bans_from bans_to w v

module _ {lines : ℕ} {bans : List Turn} {w : List ℕ} (paired : Paired w lines bans) where
  module _ {i : ℕ} {v : List ℕ} (known : Known lines bans) (few : lines ≤ greatest_line_count) (i< : i < length bans) (at : Turning lines bans i w v) where
    -- The second line of turn `i`, which it is put with, is a line.
    pub second_in : get_or v (ban_second i) 0 < lines
    second_in = omega (arith, at.seconds i (omega arith) i<, (known i i<).1)

    abbrev new : Turn
    new = record { first = get_or v (ban_second i) 0; second = get_or v (ban_earlier i) 0 }

    new_is : new ≡ mirror_turn (ban_at bans i)
    new_is = λ k. record { first = at.seconds i (omega arith) i< k; second = at.firsts i (omega arith) i< k }

    pub turning_more : {u : List ℕ} → BanPut i new v u → Turning lines bans (i + 1) w u
    turning_more {u} put =
        let n : length (turned bans i) ≡ i = turned_length bans i (omega arith) in
        let held : BansHeld u lines (turned bans i ++ new ∷ []) =
        bans_more (turned bans i) new at.held (subst (λ (k : ℕ). BanPut k new v u) (sym n) put) (omega (arith, n, paired.few)) second_in few in
        record {
          held = subst (BansHeld u lines) (ap (λ (t : Turn). turned bans i ++ t ∷ []) new_is ∙ sym (turned_more bans i i<)) held;
          seconds = λ k h k<.
              put.others (ban_second k) (omega arith) (omega (arith, paired.few)) (omega (arith, second_in)) ∙ at.seconds k (omega arith) k<;
          firsts = λ k h k<.
              put.others (ban_earlier k) (omega (arith, paired.few)) (omega arith) (omega (arith, second_in)) ∙ at.firsts k (omega arith) k<;
          kept = kept_then at.kept (put_kept (omega (arith, paired.few)) (omega (arith, second_in)) put);
        }

pub turning_all : {lines : ℕ} {bans : List Turn} {w v : List ℕ} → Turning lines bans (length bans) w v → BansTurned lines bans w v
turning_all {lines} {bans} {v = v} at =
    record { held = subst (λ (ts : List Turn). BansHeld v lines (map mirror_turn ts)) (take-length bans) at.held; kept = at.kept }
