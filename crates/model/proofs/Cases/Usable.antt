-- What makes a choice of points usable (paper 01, "What counts as a reading", last paragraph): differences of 16 bits, and refusal 10.
use Prim.Native.Nat.{ℕ}
use mathlib.Core.Path.{◌≡◌, refl}
use mathlib.Core.Bool.{true, false}
use mathlib.Core.List.{List, [], ◌∷◌}
use native.Mathlib.Omega.{arith}
use lib.ListN.{length}
use Rattle.model.specs.Map.{Map}
use Rattle.model.specs.Stretch.{Stretch}
use Rattle.model.specs.Reading.{Leg, Several}
use Rattle.model.specs.Choice.{leg_of, Good, good, Usable, final, before, Preferred, Chosen}
use Rattle.model.specs.LegTests.{leg_count, NoChoice}
use Rattle.model.specs.Refusal.{row}
use Rattle.model.specs.Outcome.{WriteOutcome, WriteOn}
use Rattle.model.proofs.LegTests.{good_filled}
use Rattle.model.proofs.Once.{write_on_same}
use Rattle.model.proofs.BestFound.{none_of_all}
use Rattle.model.proofs.Cases.Computing.{computing}
use Rattle.model.proofs.Cases.Ways.{finding, connects}
use Rattle.model.proofs.Legs.{not_several}
use Rattle.model.proofs.Cases.Legs.{reading, sole}
use Rattle.model.proofs.Cases.Cuts.{cutting, chosen, no_choice, passed, second_passed}
use Rattle.model.proofs.Cases.Ridge.{node, line}
use Rattle.model.proofs.Cases.Readings.{pair, fork, last_several, middle_only, fork_last}

-- Nodes 32,767 apart, and one more: "differences fit 16 bits", so that lines 0, 1 take three points.
abbrev pub wide : Map
wide =
    record {
      nodes = node 0 0 ∷ node 32_767 0 ∷ node 32_768 0 ∷ [];
      lines = line 0 1 10_000 8 24 ∷ line 1 2 10_000 8 24 ∷ [];
      bans = [];
    }

wide_first : Good wide false (0 ∷ [])
unfolding computing finding
wide_first =
    record { fit = omega arith; only = sole wide (leg_of wide false (0 ∷ [])) refl (0 ∷ []) (search (connects, arith)) refl refl }

wide_last : Good wide true (1 ∷ [])
unfolding computing finding
wide_last =
    record { fit = omega arith; only = sole wide (leg_of wide true (1 ∷ [])) refl (1 ∷ []) (search (connects, arith)) refl refl }

pub differences_fit : Chosen (good wide) (0 ∷ 1 ∷ []) ((0 ∷ []) ∷ (1 ∷ []) ∷ [])
unfolding computing cutting
differences_fit =
    chosen wide (0 ∷ 1 ∷ []) ((0 ∷ []) ∷ (1 ∷ []) ∷ []) (record { usable = before wide_first (final wide_last); whole = refl })
    (λ c. Preferred.same, (λ c. absurd (omega (arith, (passed c.usable).fit.lon.on)), tt))

-- Refusal 10 and nothing else with tests for all legs, whatever the byte buffer.
pub record Unwritten (m : Map) (s : Stretch) : Type 0 where
  pub given : (room : ℕ) → WriteOn m s (leg_count (length s.lines)) room (WriteOutcome.refused (row 10))
  pub nothing_else : (room : ℕ) (o : WriteOutcome) → WriteOn m s (leg_count (length s.lines)) room o → o ≡ WriteOutcome.refused (row 10)

unwritten : {m : Map} {s : Stretch} → NoChoice (good m) s.lines → Unwritten m s
unwritten {m} {s} none =
    record { given = λ room. none_of_all (good_filled m) none; nothing_else = λ room o w. write_on_same w (none_of_all (good_filled m) none) }

abbrev alone_leg : Leg
alone_leg = leg_of pair true (0 ∷ [])

alone_several : Several pair alone_leg
unfolding computing finding
alone_several =
    record {
      one = 0 ∷ [];
      other = 1 ∷ [];
      first = reading pair alone_leg refl (0 ∷ []) (search (connects, arith)) refl (omega arith);
      second = reading pair alone_leg refl (1 ∷ []) (search (connects, arith)) refl (omega arith);
      differ = λ e. let z : ◌≡◌ {A = ℕ} 0 1 = cc in omega arith;
    }

abbrev stretch : List ℕ → Stretch
stretch lines = record { lines = lines; pos = 0; neg = 0 }

-- Of two lines side by side with equal marks none is written.
pub alone_unwritten : Unwritten pair (stretch (0 ∷ []))
unfolding computing cutting
alone_unwritten = unwritten (no_choice pair (0 ∷ []) (λ c. not_several (passed c.usable).only alone_several, tt))

-- Nor where they come last: lines 0, 1 of the fork, which are "told apart only in mid-leg", with line 3 after them.
pub fork_unwritten : Unwritten fork (stretch (0 ∷ 1 ∷ []))
unfolding computing cutting
fork_unwritten =
    unwritten
    (no_choice fork (0 ∷ 1 ∷ [])
    (λ c. not_several (second_passed c.usable).only fork_last, (λ c. not_several (passed c.usable).only last_several, tt)))

fork_middle : Good fork false (0 ∷ 1 ∷ [])
unfolding computing
fork_middle = record { fit = omega arith; only = middle_only }

fork_end : Good fork true (3 ∷ [])
unfolding computing finding
fork_end = record { fit = omega arith; only = sole fork (leg_of fork true (3 ∷ [])) refl (3 ∷ []) (search (connects, arith)) refl refl }

pub mid_leg : Usable (good fork) 0 ((0 ∷ 1 ∷ []) ∷ (3 ∷ []) ∷ [])
mid_leg = before fork_middle (final fork_end)
