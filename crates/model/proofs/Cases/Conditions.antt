-- What shuts a line list out of a leg (paper 01, "What counts as a reading"; refusal 17): classes, length, marks, ends.
use Prim.Native.Nat.{ℕ, ◌<◌}
use mathlib.Core.Path.{refl}
use mathlib.Core.List.{List, [], ◌∷◌}
use native.Mathlib.Omega.{arith}
use lib.ListN.{length}
use Rattle.model.specs.Map.{Map}
use Rattle.model.specs.Lines.{Follows, Connected, single, linked}
use Rattle.model.specs.Reference.{parse}
use Rattle.model.specs.Reading.{any, matching, Leg, Allowed, Only, Unread}
use Rattle.model.specs.Refusal.{row_at}
use Rattle.model.specs.Outcome.{LegsRead, ReadOutcome, ReadOn, ReadParsed}
use Rattle.model.proofs.Cases.Computing.{computing}
use Rattle.model.proofs.Cases.Ways.{finding, connects}
use Rattle.model.proofs.Cases.Legs.{reading, only, sole, unread, sectors, forms, road_classes}
use Rattle.model.proofs.Cases.Fields.{to_and_fro}
use Rattle.model.proofs.Cases.Ridge.{node, line, ridge, road, leg}

-- Lines 0 and 1 of FRC 3, 10,000 each, and a shorter way over a line of FRC 5.
abbrev pub detour : Map
detour =
    record {
      nodes = node 0 0 ∷ node 1_000 0 ∷ node 1_000 1_000 ∷ node 2_000 0 ∷ [];
      lines =
          line 0 1 10_000 8 24
          ∷ line 1 3 10_000 8 24
          ∷ record { start = 1; end = 2; length = 1_000; frc = 5; fow = 3; out = 0; back = 16 }
          ∷ line 2 3 1_000 12 28
          ∷ [];
      bans = [];
    }

-- "Every FRC is at most the leg's lowest class": 3 reads 0, 1 and 5 reads the detour.
abbrev detoured : Leg
detoured = record { from = 0; to = 3; leaves = road 8; lowest = 5; distance = 2; arrival = any }

shortcut : Allowed detour detoured (0 ∷ 2 ∷ 3 ∷ [])
unfolding computing finding
shortcut = search (connects, arith)

pub record Classes : Type 0 where
  pub at_3 : Only detour (leg 0 3 3 any) (0 ∷ 1 ∷ [])
  pub at_5 : Only detour detoured (0 ∷ 2 ∷ 3 ∷ [])

pub by_class : Classes
unfolding computing finding
by_class =
    record {
      at_3 = only detour (leg 0 3 3 any) refl (0 ∷ 1 ∷ [])
          (reading detour (leg 0 3 3 any) refl (0 ∷ 1 ∷ []) (search (connects, arith)) refl (omega arith))
          (λ r. absurd (omega (arith, r.allowed.classes)), (λ r. refl, tt));
      at_5 = only detour detoured refl (0 ∷ 2 ∷ 3 ∷ []) (reading detour detoured refl (0 ∷ 2 ∷ 3 ∷ []) shortcut refl (omega arith))
          (λ r. refl, (λ r. absurd (omega (arith, r.least (0 ∷ 2 ∷ 3 ∷ []) shortcut refl)), tt));
    }

-- A line of 1,500,000 and one of 1.
abbrev pub long : Map
long =
    record {
      nodes = node 0 0 ∷ node 1_000 0 ∷ node 2_000 0 ∷ [];
      lines = line 0 1 1_500_000 8 24 ∷ line 1 2 1 8 24 ∷ [];
      bans = [];
    }

-- 1,500,000 is read, as D 255; 1,500,001, which gives D 255 as well, is not: refusal 17.
pub longest_only : Only long (leg 0 1 255 any) (0 ∷ [])
unfolding computing finding
longest_only = sole long (leg 0 1 255 any) refl (0 ∷ []) (search (connects, arith)) refl refl

pub too_long : Unread long (leg 0 2 255 (matching (road 24)))
unfolding computing finding
too_long = unread long (leg 0 2 255 (matching (road 24))) refl (λ r. omega (arith, r.allowed.within), tt)

pub too_long_refused : (room : ℕ) →
    ReadParsed long (parse (0x0B ∷ 0 ∷ 0 ∷ 0 ∷ 0 ∷ 0 ∷ 0 ∷ 0x1B ∷ 0x68 ∷ 0xFF ∷ 0x07 ∷ 0xD0 ∷ 0 ∷ 0 ∷ 0x1B ∷ 0x18 ∷ [])) room
    (ReadOutcome.refused (row_at 17 0))
unfolding computing
too_long_refused room = ReadOn.no_leg {legs = leg 0 2 255 (matching (road 24)) ∷ []} refl (LegsRead.unread too_long)

-- A line, then four side by side that differ in FRC, in FOW, and in both sectors.
abbrev pub marks : Map
marks =
    record {
      nodes = node 0 0 ∷ node 1_000 0 ∷ node 2_000 0 ∷ [];
      lines =
          line 0 1 10_000 8 24
          ∷ line 1 2 1_000 8 24
          ∷ record { start = 1; end = 2; length = 1_000; frc = 2; fow = 3; out = 8; back = 24 }
          ∷ record { start = 1; end = 2; length = 1_000; frc = 3; fow = 4; out = 8; back = 24 }
          ∷ line 1 2 1_000 16 8
          ∷ [];
      bans = [];
    }

-- "A line matching P and Q's sector" leaves the point; "on the last leg the last line matches the last P and R's sector".
pub record Marks : Type 0 where
  pub leaves : Only marks (leg 1 2 0 any) (1 ∷ [])
  pub arrives : Only marks (leg 0 2 1 (matching (road 24))) (0 ∷ 1 ∷ [])

pub by_marks : Marks
unfolding computing finding
by_marks =
    record {
      leaves = only marks (leg 1 2 0 any) refl (1 ∷ [])
          (reading marks (leg 1 2 0 any) refl (1 ∷ []) (search (connects, arith)) refl (omega arith)) (
            λ r. absurd (omega (arith, sectors r.allowed.leaves)),
            (
              λ r. absurd (omega (arith, forms r.allowed.leaves)),
              (λ r. absurd (omega (arith, road_classes r.allowed.leaves)), (λ r. refl, tt)),
            ),
          );
      arrives = only marks (leg 0 2 1 (matching (road 24))) refl (0 ∷ 1 ∷ [])
          (reading marks (leg 0 2 1 (matching (road 24))) refl (0 ∷ 1 ∷ []) (search (connects, arith)) refl (omega arith)) (
            λ r. absurd (omega (arith, sectors r.allowed.arrives)),
            (
              λ r. absurd (omega (arith, forms r.allowed.arrives)),
              (λ r. absurd (omega (arith, road_classes r.allowed.arrives)), (λ r. refl, tt)),
            ),
          );
    }

first_known : {m : Map} {l : ℕ} {ls : List ℕ} → Connected m (l ∷ ls) → l < length m.lines
first_known (single h) = h
first_known (linked h f c) = h

first_followed : {m : Map} {l k : ℕ} {ls : List ℕ} → Connected m (l ∷ k ∷ ls) → Follows m l k
first_followed (linked h f c) = f

filled : {m : Map} {ls : List ℕ} → Connected m ls → 0 < length ls
filled (single h) = omega arith
filled (linked h f c) = omega arith

-- Other conditions by themselves: on the ridge lines 0 and 3 do not meet, there is no line 4, and no lines are no list; 0, 1 runs from
-- node 0 to node 3. On a map of two lines there is no line 2 to stand after line 1, which ends at node 0.
pub record Conditions : Type 0 where
  pub meets : Connected ridge (0 ∷ 3 ∷ []) → ⊥
  pub known : Connected ridge (4 ∷ []) → ⊥
  pub next_known : Follows to_and_fro 1 2 → ⊥
  pub filled : Connected ridge [] → ⊥
  pub starts : Allowed ridge (leg 1 3 3 any) (0 ∷ 1 ∷ []) → ⊥
  pub ends : Allowed ridge (leg 0 2 3 any) (0 ∷ 1 ∷ []) → ⊥

pub conditions : Conditions
unfolding computing
conditions =
    record {
      meets = λ c. omega (arith, (first_followed c).meets);
      known = λ c. omega (arith, first_known c);
      next_known = λ f. omega (arith, f.line);
      filled = λ c. omega (arith, filled c);
      starts = λ a. omega (arith, a.starts);
      ends = λ a. omega (arith, a.ends);
    }
