-- "Comparison is with the sector so found" (paper 02, W3): wrong sectors that the promises shut out. No call on such a map, whatever its buffers hold,
-- can be answered so.
use Prim.Native.Nat.{ℕ, ◌+◌, ◌≤◌}
use mathlib.Core.Path.{◌≡◌, refl, ap, subst}
use mathlib.Core.List.{List, [], ◌∷◌}
use native.Mathlib.Omega.{arith}
use lib.ListN.{length, get_or}
use Rattle.model.specs.Answer.{WriteAnswer}
use Rattle.model.specs.Map.{Map, whole, decode}
use Rattle.model.specs.Reading.{Leg, matching}
use Rattle.model.specs.Choice.{good, final, Chosen, Preferred, stretch_bytes}
use Rattle.model.specs.Stretch.{Stretch, stretch_of, remains, check_stretch}
use Rattle.model.specs.Work.{work_length}
use Rattle.model.specs.Outcome.{written, Writes}
use Rattle.model.specs.LegTests.{legs_before, leg_count}
use Rattle.model.proofs.LegTests.{good_filled}
use Rattle.model.proofs.BestFound.{best_of_all, on_all_tests}
use Rattle.model.specs.Call.{WriteCall}
use Rattle.model.proofs.Cases.Computing.{computing}
use Rattle.model.proofs.Cases.Ways.{finding, connects}
use Rattle.model.proofs.Cases.Legs.{sole}
use Rattle.model.proofs.Cases.Cuts.{cutting, chosen}
use Rattle.model.proofs.Cases.Ridge.{node, line, road}
use Rattle.model.proofs.Cases.WrongWriters.{left}

-- One line that leaves in a sector, and the stretch of it.
abbrev slanted : ℕ → Map
slanted sector = record { nodes = node 0 0 ∷ node 1_000 0 ∷ []; lines = line 0 1 10_000 sector 24 ∷ []; bans = [] }

abbrev the_line : Stretch
the_line = stretch_of (0 ∷ []) 0 0

-- Its bytes with these steps out, of two bytes each, and (-200, 0) back.
abbrev slanted_bytes : ℕ → ℕ → ℕ → ℕ → List ℕ
slanted_bytes e e' n n' =
    2 ∷ 0x80 ∷ 0xD1 ∷ 0xCA ∷ 0x08 ∷ 0xC0 ∷ 0xA8 ∷ 0xA5 ∷ 0x04 ∷ 0xE8 ∷ 0xD8 ∷ 0xCA ∷ 0x08 ∷ 0xC0 ∷ 0xA8 ∷ 0xA5 ∷ 0x04
    ∷ 1 ∷ 0 ∷ 1 ∷ 0x90 ∷ 0x4E ∷ 3 ∷ 3 ∷ e ∷ e' ∷ n ∷ n' ∷ 50 ∷ 0xFA ∷ 0x01 ∷ 0 ∷ []

-- (250, 1), which is 89.8 degrees, and (250, 250), which is 45.
abbrev nearly_east : List ℕ
nearly_east = slanted_bytes 0xF4 0x03 0xFB 0x01

abbrev north_east : List ℕ
north_east = slanted_bytes 0xF4 0x03 0xF4 0x03

pub nearly_east_lem : decode nearly_east ≡ whole (slanted 7)
unfolding computing
nearly_east_lem = refl

pub north_east_lem : decode north_east ≡ whole (slanted 4)
unfolding computing
north_east_lem = refl

-- What is written of such a line: Q is lowest class 3 and the sector.
abbrev slanted_reference : ℕ → List ℕ
slanted_reference sector = 0x0B ∷ 0 ∷ 0 ∷ 0 ∷ 0 ∷ 0 ∷ 0 ∷ 0x1B ∷ (96 + sector) ∷ 0x01 ∷ 0x03 ∷ 0xE8 ∷ 0 ∷ 0 ∷ 0x1B ∷ 0x18 ∷ []

abbrev slanted_leg : ℕ → Leg
slanted_leg sector = record { from = 0; to = 1; leaves = road sector; lowest = 3; distance = 1; arrival = matching (road 24) }

module _ (sector : ℕ) (mb : List ℕ) (decodes : decode mb ≡ whole (slanted sector)) where
  slanted_chosen : Chosen (good (slanted sector)) (0 ∷ []) ((0 ∷ []) ∷ [])
  unfolding computing cutting finding
  slanted_chosen =
      chosen (slanted sector) (0 ∷ []) ((0 ∷ []) ∷ [])
      (record {
        usable = final (record { fit = omega arith; only = sole (slanted sector) (slanted_leg sector) refl (0 ∷ []) (search (connects, arith)) refl refl });
        whole = refl;
      })
      (λ c. Preferred.same, tt)

  slanted_bytes_lem : stretch_bytes (slanted sector) ((0 ∷ []) ∷ []) the_line ≡ slanted_reference sector
  unfolding computing
  slanted_bytes_lem = refl

  whole_line : check_stretch (slanted sector) the_line ≡ remains the_line
  unfolding computing
  whole_line = refl

  slanted_written : (tests work room : ℕ) → 1 ≤ tests → work_length ≤ work → 16 ≤ room →
      Writes mb the_line tests work room (written (slanted_reference sector) 1 0)
  unfolding leg_count legs_before
  slanted_written tests work room all full enough =
      subst (λ bs. Writes mb the_line tests work room (written bs 1 0)) slanted_bytes_lem
      (on_all_tests mb the_line tests work room _ full decodes whole_line all
      (best_of_all (good_filled (slanted sector)) slanted_chosen (rw slanted_bytes_lem enough)))

  -- A writer whose byte Q has another sector.
  pub no_other_sector : (tests : ℕ) (work bytes : List ℕ) {a : WriteAnswer} {work' bytes' : List ℕ} → 1 ≤ tests → work_length ≤ length work →
      16 ≤ length bytes → WriteCall mb the_line tests work bytes a work' bytes' → (get_or bytes' 8 0 ≡ 96 + sector → ⊥) → ⊥
  no_other_sector tests work bytes all full enough c other =
      other (ap (λ (bs : List ℕ). get_or bs 8 0) (left (slanted_reference sector) 1 0 (slanted_written tests (length work) (length bytes) all full enough) c))

-- One that rounds to the nearest sector, which is 8; and one that gives an edge to the sector before it, which is 3.
pub no_nearest_sector : (tests : ℕ) (work bytes : List ℕ) {a : WriteAnswer} {work' bytes' : List ℕ} → 1 ≤ tests → work_length ≤ length work →
    16 ≤ length bytes → WriteCall nearly_east the_line tests work bytes a work' bytes' → (get_or bytes' 8 0 ≡ 0x67 → ⊥) → ⊥
no_nearest_sector = no_other_sector 7 nearly_east nearly_east_lem

pub no_sector_before : (tests : ℕ) (work bytes : List ℕ) {a : WriteAnswer} {work' bytes' : List ℕ} → 1 ≤ tests → work_length ≤ length work →
    16 ≤ length bytes → WriteCall north_east the_line tests work bytes a work' bytes' → (get_or bytes' 8 0 ≡ 0x64 → ⊥) → ⊥
no_sector_before = no_other_sector 4 north_east north_east_lem
