-- Readings on small maps (paper 01, "What counts as a reading" and "Ways to go wrong"; refusals 17 and 18).
use Prim.Native.Nat.{ℕ}
use mathlib.Core.Path.{◌≡◌, refl}
use mathlib.Core.List.{List, [], ◌∷◌}
use native.Mathlib.Omega.{arith}
use Rattle.model.specs.Map.{Map}
use Rattle.model.specs.Reference.{absent, Reference, parse}
use Rattle.model.specs.Reading.{any, matching, Allowed, Only, Several, Unread}
use Rattle.model.specs.Refusal.{row_at}
use Rattle.model.specs.Outcome.{LegsRead, ReadOutcome, ReadOn, ReadParsed}
use Rattle.model.proofs.Cases.Computing.{computing}
use Rattle.model.proofs.Cases.Ways.{finding, connects}
use Rattle.model.proofs.Cases.Legs.{reading, only, sole, unread}
use Rattle.model.proofs.Cases.Ridge.{node, line, road, point, leg}

-- Two lines side by side with equal marks, the second one longer.
abbrev pub pair : Map
pair = record { nodes = node 0 0 ∷ node 1_000 0 ∷ []; lines = line 0 1 6_000 8 24 ∷ line 0 1 7_000 8 24 ∷ []; bans = [] }

-- The longer one is a reading too: least is "with the same first line".
pub pair_several : Several pair (leg 0 1 1 any)
unfolding computing finding
pair_several =
    record {
      one = 0 ∷ [];
      other = 1 ∷ [];
      first = reading pair (leg 0 1 1 any) refl (0 ∷ []) (search (connects, arith)) refl (omega arith);
      second = reading pair (leg 0 1 1 any) refl (1 ∷ []) (search (connects, arith)) refl (omega arith);
      differ = λ e. let z : ◌≡◌ {A = ℕ} 0 1 = cc in omega arith;
    }

-- A line of 1,000, then two side by side with equal marks, of 5,000 and 5,500, then a line more.
abbrev pub fork : Map
fork =
    record {
      nodes = node 0 0 ∷ node 1_000 0 ∷ node 2_000 0 ∷ node 3_000 0 ∷ [];
      lines = line 0 1 1_000 8 24 ∷ line 1 2 5_000 8 24 ∷ line 1 2 5_500 8 24 ∷ line 2 3 1_000 8 24 ∷ [];
      bans = [];
    }

-- On the last leg least is with the same first and last line: both 0, 1 and 0, 2 are readings.
pub last_several : Several fork (leg 0 2 1 (matching (road 24)))
unfolding computing finding
last_several =
    record {
      one = 0 ∷ 1 ∷ [];
      other = 0 ∷ 2 ∷ [];
      first = reading fork (leg 0 2 1 (matching (road 24))) refl (0 ∷ 1 ∷ []) (search (connects, arith)) refl (omega arith);
      second = reading fork (leg 0 2 1 (matching (road 24))) refl (0 ∷ 2 ∷ []) (search (connects, arith)) refl (omega arith);
      differ = λ e. let z : ◌≡◌ {A = ℕ} 1 2 = cc in omega arith;
    }

-- The same the other way round: 0, 2 and 1, 2, which have the same last line.
abbrev pub merge : Map
merge =
    record {
      nodes = node 0 0 ∷ node 1_000 0 ∷ node 2_000 0 ∷ [];
      lines = line 0 1 5_000 8 24 ∷ line 0 1 5_500 8 24 ∷ line 1 2 1_000 8 24 ∷ [];
      bans = [];
    }

pub first_several : Several merge (leg 0 2 1 (matching (road 24)))
unfolding computing finding
first_several =
    record {
      one = 0 ∷ 2 ∷ [];
      other = 1 ∷ 2 ∷ [];
      first = reading merge (leg 0 2 1 (matching (road 24))) refl (0 ∷ 2 ∷ []) (search (connects, arith)) refl (omega arith);
      second = reading merge (leg 0 2 1 (matching (road 24))) refl (1 ∷ 2 ∷ []) (search (connects, arith)) refl (omega arith);
      differ = λ e. let z : ◌≡◌ {A = ℕ} 0 1 = cc in omega arith;
    }

-- "Told apart only in mid-leg": on a middle leg 0, 1 is the only one.
fork_short : Allowed fork (leg 0 2 1 any) (0 ∷ 1 ∷ [])
unfolding computing finding
fork_short = search (connects, arith)

pub middle_only : Only fork (leg 0 2 1 any) (0 ∷ 1 ∷ [])
unfolding computing finding
middle_only =
    only fork (leg 0 2 1 any) refl (0 ∷ 1 ∷ [])
    (reading fork (leg 0 2 1 any) refl (0 ∷ 1 ∷ []) fork_short refl (omega arith))
    (λ r. absurd (omega (arith, r.least (0 ∷ 1 ∷ []) fork_short refl)), (λ r. refl, tt))

-- Two points over both legs of the fork: refusal 18 at leg 0.
abbrev pub over_the_fork : List ℕ
over_the_fork = 0x0B ∷ 0 ∷ 0 ∷ 0 ∷ 0 ∷ 0 ∷ 0 ∷ 0x1B ∷ 0x68 ∷ 0x01 ∷ 0x07 ∷ 0xD0 ∷ 0 ∷ 0 ∷ 0x1B ∷ 0x18 ∷ []

pub fork_refused : (room : ℕ) → ReadParsed fork (parse over_the_fork) room (ReadOutcome.refused (row_at 18 0))
unfolding computing
fork_refused room = ReadOn.no_leg {legs = leg 0 2 1 (matching (road 24)) ∷ []} refl (LegsRead.several last_several)

-- "The first leg without exactly one reading decides between 17 and 18." Three points on the fork, with these two D.
abbrev stops : ℕ → ℕ → Reference
stops first last =
    record { lon = 0; lat = 0; points = point first 1_000 ∷ point last 1_000 ∷ []; arrives = road 24; pos = absent; neg = absent }

fork_first : Only fork (leg 0 1 0 any) (0 ∷ [])
unfolding computing finding
fork_first = sole fork (leg 0 1 0 any) refl (0 ∷ []) (search (connects, arith)) refl refl

fork_not_first : Unread fork (leg 0 1 1 any)
unfolding computing finding
fork_not_first = unread fork (leg 0 1 1 any) refl (λ r. omega (arith, r.distanced), tt)

pub fork_last : Several fork (leg 1 2 0 (matching (road 24)))
unfolding computing finding
fork_last =
    record {
      one = 1 ∷ [];
      other = 2 ∷ [];
      first = reading fork (leg 1 2 0 (matching (road 24))) refl (1 ∷ []) (search (connects, arith)) refl (omega arith);
      second = reading fork (leg 1 2 0 (matching (road 24))) refl (2 ∷ []) (search (connects, arith)) refl (omega arith);
      differ = λ e. let z : ◌≡◌ {A = ℕ} 1 2 = cc in omega arith;
    }

fork_not_last : Unread fork (leg 1 2 1 (matching (road 24)))
unfolding computing finding
fork_not_last =
    unread fork (leg 1 2 1 (matching (road 24))) refl (λ r. omega (arith, r.distanced), (λ r. omega (arith, r.distanced), tt))

-- Two lines side by side, and then a point back at node 0, to which no line leads.
abbrev pub back : Reference
back = record { lon = 0; lat = 0; points = point 1 1_000 ∷ point 1 0xFC18 ∷ []; arrives = road 24; pos = absent; neg = absent }

pub record FirstLegs : Type 0 where
  pub several_at_0 : (room : ℕ) → ReadOn pair back room (ReadOutcome.refused (row_at 18 0))
  pub several_at_1 : (room : ℕ) → ReadOn fork (stops 0 0) room (ReadOutcome.refused (row_at 18 1))
  pub none_at_1 : (room : ℕ) → ReadOn fork (stops 0 1) room (ReadOutcome.refused (row_at 17 1))
  pub none_at_0 : (room : ℕ) → ReadOn fork (stops 1 0) room (ReadOutcome.refused (row_at 17 0))

pub first_legs : FirstLegs
unfolding computing
first_legs =
    record {
      several_at_0 = λ room.
          ReadOn.no_leg {legs = leg 0 1 1 any ∷ leg 1 0 1 (matching (road 24)) ∷ []} refl (LegsRead.several pair_several);
      several_at_1 = λ room.
          ReadOn.no_leg {legs = leg 0 1 0 any ∷ leg 1 2 0 (matching (road 24)) ∷ []} refl (LegsRead.later fork_first (LegsRead.several fork_last));
      none_at_1 = λ room.
          ReadOn.no_leg {legs = leg 0 1 0 any ∷ leg 1 2 1 (matching (road 24)) ∷ []} refl (LegsRead.later fork_first (LegsRead.unread fork_not_last));
      none_at_0 = λ room.
          ReadOn.no_leg {legs = leg 0 1 1 any ∷ leg 1 2 0 (matching (road 24)) ∷ []} refl (LegsRead.unread fork_not_first);
    }
