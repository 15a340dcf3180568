-- "No stretch across it can be written, because the longitude difference is taken plainly. .. From 17,999,998 to -18,000,000 the difference is 2" (paper 02,
-- W2): stretches across the 180th meridian, which were refused with 10, are written and read back.
use Prim.Native.Nat.{ℕ, ◌≤◌}
use mathlib.Core.Path.{◌≡◌, refl, sym, subst}
use mathlib.Core.Bool.{true}
use mathlib.Core.List.{List, [], ◌∷◌}
use native.Mathlib.Omega.{arith}
use lib.ListN.{length}
use borrow.Author.Tests.{le-ltb}
use Rattle.model.specs.Map.{Node, Map, whole, decode}
use Rattle.model.specs.Difference.{DifferencesFit}
use Rattle.model.specs.Lines.{line_at, total}
use Rattle.model.specs.Stretch.{Stretch, remains, check_stretch, stretch_of}
use Rattle.model.specs.Reference.{absent, Reference, parsed, parse}
use Rattle.model.specs.Reading.{Leg, matching, Only, joined, banned_meeting}
use Rattle.model.specs.Choice.{Good, good, final, Usable, before, Preferred, Chosen, stretch_bytes}
use Rattle.model.specs.LegTests.{legs_before, leg_count, NoChoice}
use Rattle.model.specs.Locate.{located, no_node, locate}
use Rattle.model.specs.Refusal.{row, row_at}
use Rattle.model.specs.Span.{unflagged}
use Rattle.model.specs.Work.{work_length}
use Rattle.model.specs.Outcome.{LegsRead, ReadOutcome, read, ReadEnd, ReadOn, Reads, WriteOutcome, written, WriteBy, Writes}
use Rattle.model.specs.AsBefore.{plain_good, plain_bytes, PlainWrites}
use Rattle.model.proofs.Joining.{filled}
use Rattle.model.proofs.Outcomes.{on_reads}
use Rattle.model.proofs.LegTests.{Filled, good_filled, tests_all}
use Rattle.model.proofs.BestFound.{none_of_all, best_of_all, on_all_tests}
use Rattle.model.proofs.Cases.Computing.{computing}
use Rattle.model.proofs.Cases.Encoded.{encoded, encoding}
use Rattle.model.proofs.Cases.Ways.{finding, connects}
use Rattle.model.proofs.Cases.Legs.{sole}
use Rattle.model.proofs.Cases.Cuts.{cutting, chosen, no_choice_by, no_choice, passed}
use Rattle.model.proofs.Cases.Tie.{none}
use Rattle.model.proofs.Cases.Ridge.{line, road, point, leg}
use Rattle.model.proofs.Cases.Fields.{equator}

-- ---- a road over the islands, on the parallel of -1,680,000: examples/islands has its bytes

abbrev island : ℕ → Node
island lon = record { lon = lon; lat = 7_320_000 }

-- Longitudes 17,999,000, 17,999,998, -18,000,000 and -17,999,000.
abbrev pub islands : Map
islands =
    record {
      nodes = island 35_999_000 ∷ island 35_999_998 ∷ island 0 ∷ island 1_000 ∷ [];
      lines = line 0 1 106_000 8 24 ∷ line 1 2 200 8 24 ∷ line 2 3 106_000 8 24 ∷ [];
      bans = [];
    }

abbrev pub island_bytes : List ℕ
island_bytes =
    4
    ∷ 0x98 ∷ 0x9A ∷ 0x95 ∷ 0x11 ∷ 0xC0 ∷ 0xE3 ∷ 0xBE ∷ 0x03
    ∷ 0xFE ∷ 0xA1 ∷ 0x95 ∷ 0x11 ∷ 0xC0 ∷ 0xE3 ∷ 0xBE ∷ 0x03
    ∷ 0 ∷ 0xC0 ∷ 0xE3 ∷ 0xBE ∷ 0x03
    ∷ 0xE8 ∷ 0x07 ∷ 0xC0 ∷ 0xE3 ∷ 0xBE ∷ 0x03
    ∷ 3
    ∷ 0 ∷ 1 ∷ 0x90 ∷ 0xBC ∷ 0x06 ∷ 3 ∷ 3 ∷ 0xC2 ∷ 0x03 ∷ 0xFA ∷ 0x01 ∷ 50 ∷ 0xFA ∷ 0x01
    ∷ 1 ∷ 2 ∷ 0xC8 ∷ 0x01 ∷ 3 ∷ 3 ∷ 0xC2 ∷ 0x03 ∷ 0xFA ∷ 0x01 ∷ 50 ∷ 0xFA ∷ 0x01
    ∷ 2 ∷ 3 ∷ 0x90 ∷ 0xBC ∷ 0x06 ∷ 3 ∷ 3 ∷ 0xC2 ∷ 0x03 ∷ 0xFA ∷ 0x01 ∷ 50 ∷ 0xFA ∷ 0x01
    ∷ 0
    ∷ []

pub islands_encoded : encoded islands ≡ island_bytes
unfolding computing encoding
islands_encoded = refl

-- The whole road.
abbrev pub road_over : Stretch
road_over = stretch_of (0 ∷ 1 ∷ 2 ∷ []) 0 0

-- Codes 7FFE2E and F40DA7, D 36, and the difference from 17,999,000 to -17,999,000, which is 2,000.
abbrev pub over_bytes : List ℕ
over_bytes = 0x0B ∷ 0x7F ∷ 0xFE ∷ 0x2E ∷ 0xF4 ∷ 0x0D ∷ 0xA7 ∷ 0x1B ∷ 0x68 ∷ 36 ∷ 0x07 ∷ 0xD0 ∷ 0 ∷ 0 ∷ 0x1B ∷ 0x18 ∷ []

-- "No stretch across it can be written, because the longitude difference is taken plainly": some leg goes over the meridian, however the stretch is cut.
plain_filled : Filled (plain_good islands)
plain_filled at last ls g = filled g.only.reading.allowed.connected

refused_legs : NoChoice (plain_good islands) (0 ∷ 1 ∷ 2 ∷ [])
unfolding computing cutting
refused_legs lss c =
    no_choice_by (plain_good islands) plain_filled (0 ∷ 1 ∷ 2 ∷ [])
    (λ c. one_by_one c.usable, (λ c. first c.usable, (λ c. second c.usable, (λ c. whole c.usable, tt)))) lss c
  where
    whole : Usable (plain_good islands) 0 ((0 ∷ 1 ∷ 2 ∷ []) ∷ []) → ⊥
    whole u = omega (arith, (passed u).fit.lon.back)

    first : Usable (plain_good islands) 0 ((0 ∷ 1 ∷ []) ∷ (2 ∷ []) ∷ []) → ⊥
    first (before g u) = omega (arith, g.fit.lon.back)

    second : Usable (plain_good islands) 0 ((0 ∷ []) ∷ (1 ∷ 2 ∷ []) ∷ []) → ⊥
    second (before g u) = omega (arith, (passed u).fit.lon.back)

    one_by_one : Usable (plain_good islands) 0 ((0 ∷ []) ∷ (1 ∷ []) ∷ (2 ∷ []) ∷ []) → ⊥
    one_by_one (before g (before h u)) = omega (arith, h.fit.lon.back)

pub was_refused : (tests work room : ℕ) → 6 ≤ tests → work_length ≤ work → PlainWrites island_bytes road_over tests work room (WriteOutcome.refused (row 10))
unfolding computing
was_refused tests work room all full =
    rw (le-ltb work work_length full)
    (subst (λ (made : ℕ). WriteBy (plain_good islands) (λ lss. plain_bytes islands lss road_over) (0 ∷ 1 ∷ 2 ∷ []) made room (WriteOutcome.refused (row 10)))
    (sym (tests_all 3 tests all)) (none_of_all plain_filled refused_legs))

-- Now it is written with two points.
abbrev over_leg : Leg
over_leg = leg 0 3 36 (matching (road 24))

over_only : Only islands over_leg (0 ∷ 1 ∷ 2 ∷ [])
unfolding computing finding
over_only = sole islands over_leg refl (0 ∷ 1 ∷ 2 ∷ []) (search (connects, arith)) refl refl

over_good : Good islands true (0 ∷ 1 ∷ 2 ∷ [])
unfolding computing
over_good = record { fit = omega arith; only = over_only }

over_chosen : Chosen (good islands) (0 ∷ 1 ∷ 2 ∷ []) ((0 ∷ 1 ∷ 2 ∷ []) ∷ [])
unfolding computing cutting
over_chosen =
    chosen islands (0 ∷ 1 ∷ 2 ∷ []) ((0 ∷ 1 ∷ 2 ∷ []) ∷ []) (record { usable = final over_good; whole = refl })
    (λ c. Preferred.fewer (omega arith), (λ c. Preferred.fewer (omega arith), (λ c. Preferred.fewer (omega arith), (λ c. Preferred.same, tt))))

pub is_written : (tests work room : ℕ) → 6 ≤ tests → work_length ≤ work → 16 ≤ room → Writes island_bytes road_over tests work room (written over_bytes 6 0)
unfolding computing
is_written tests work room all full enough =
    on_all_tests island_bytes road_over {m = islands} {r = road_over} tests work room _ full refl refl all
    (best_of_all (good_filled islands) over_chosen (omega arith))

-- And read back.
pub is_read : (work room : ℕ) → work_length ≤ work → 3 ≤ room → Reads island_bytes over_bytes work room (read (0 ∷ 1 ∷ 2 ∷ []) none none)
unfolding computing
is_read work room full enough =
    rw (le-ltb work work_length full)
    (ReadOn.every_leg {legs = over_leg ∷ []} refl (LegsRead.only over_only LegsRead.none)
    (ReadEnd.accepted (record { pos_read = unflagged; neg_read = unflagged }) (omega arith) (omega arith)))

-- ---- "from 17,999,998 to -18,000,000 the difference is 2", and the way back is -2

-- One line from the one longitude to the other, on the equator, and the stretch of it.
abbrev pub across : ℕ → ℕ → Map
across from to = record { nodes = equator from ∷ equator to ∷ []; lines = line 0 1 10_000 8 24 ∷ []; bans = [] }

abbrev pub line_across : Stretch
line_across = stretch_of (0 ∷ []) 0 0

abbrev across_leg : Leg
across_leg = leg 0 1 1 (matching (road 24))

-- Its reference: the code of the longitude that it starts at, and the difference.
abbrev across_reference : ℕ → ℕ → Reference
across_reference code difference = record { lon = code; lat = 0; points = point 1 difference ∷ []; arrives = road 24; pos = absent; neg = absent }

-- The line is its leg's only reading, so that its difference alone decides, with every full work area.
module _ (from to : ℕ) where
  across_only : Only (across from to) across_leg (0 ∷ [])
  unfolding computing finding
  across_only = sole (across from to) across_leg refl (0 ∷ []) (search (connects, arith)) refl refl

  across_chosen : DifferencesFit (equator from) (equator to) → Chosen (good (across from to)) (0 ∷ []) ((0 ∷ []) ∷ [])
  unfolding computing cutting
  across_chosen fit =
      chosen (across from to) (0 ∷ []) ((0 ∷ []) ∷ []) (record { usable = final (record { fit = fit; only = across_only }); whole = refl })
      (λ c. Preferred.same, tt)

  no_choice_across : (DifferencesFit (equator from) (equator to) → ⊥) → NoChoice (good (across from to)) (0 ∷ [])
  unfolding computing cutting
  no_choice_across far = no_choice (across from to) (0 ∷ []) (λ c. far (passed c.usable).fit, tt)

  whole_line : check_stretch (across from to) line_across ≡ remains line_across
  unfolding computing
  whole_line = refl

  module _ (decodes : decode (encoded (across from to)) ≡ whole (across from to)) (work room : ℕ) (full : work_length ≤ work) where
    across_written : (tests : ℕ) → 1 ≤ tests → DifferencesFit (equator from) (equator to) →
        length (stretch_bytes (across from to) ((0 ∷ []) ∷ []) line_across) ≤ room →
        Writes (encoded (across from to)) line_across tests work room (written (stretch_bytes (across from to) ((0 ∷ []) ∷ []) line_across) 1 0)
    unfolding leg_count legs_before
    across_written tests all fit enough =
        on_all_tests (encoded (across from to)) line_across tests work room _ full decodes whole_line all
        (best_of_all (good_filled (across from to)) (across_chosen fit) enough)

    across_refused : (tests : ℕ) → 1 ≤ tests → (DifferencesFit (equator from) (equator to) → ⊥) →
        Writes (encoded (across from to)) line_across tests work room (WriteOutcome.refused (row 10))
    unfolding leg_count legs_before
    across_refused tests all far =
        on_all_tests (encoded (across from to)) line_across tests work room _ full decodes whole_line all
        (none_of_all (good_filled (across from to)) (no_choice_across far))

    across_read : (bytes : List ℕ) (code difference : ℕ) → parse bytes ≡ parsed (across_reference code difference) →
        locate (across from to) (across_reference code difference) ≡ located (across_leg ∷ []) → 1 ≤ room →
        Reads (encoded (across from to)) bytes work room (read (0 ∷ []) none none)
    unfolding joined banned_meeting total line_at
    across_read bytes code difference parses locates enough =
        on_reads (encoded (across from to)) bytes work room _ full decodes parses
        (ReadOn.every_leg locates (LegsRead.only across_only LegsRead.none)
        (ReadEnd.accepted (record { pos_read = unflagged; neg_read = unflagged }) (omega arith) (omega arith)))

    across_nowhere : (bytes : List ℕ) (code difference : ℕ) → parse bytes ≡ parsed (across_reference code difference) →
        locate (across from to) (across_reference code difference) ≡ no_node 1 → Reads (encoded (across from to)) bytes work room (ReadOutcome.refused (row_at 16 1))
    across_nowhere bytes code difference parses nowhere = on_reads (encoded (across from to)) bytes work room _ full decodes parses (ReadOn.no_point nowhere)

-- The reference of such a line: the code of its longitude, and the difference.
abbrev pub across_bytes : ℕ → ℕ → ℕ → ℕ → ℕ → List ℕ
across_bytes a b c d e = 0x0B ∷ a ∷ b ∷ c ∷ 0 ∷ 0 ∷ 0 ∷ 0x1B ∷ 0x68 ∷ 0x01 ∷ d ∷ e ∷ 0 ∷ 0 ∷ 0x1B ∷ 0x18 ∷ []

abbrev pub eastward : Map
eastward = across 35_999_998 0

abbrev pub westward : Map
westward = across 0 35_999_998

-- It is written so and read back.
pub record Across (m : Map) (bytes : List ℕ) : Type 0 where
  pub writes : (tests work room : ℕ) → 1 ≤ tests → work_length ≤ work → 16 ≤ room → Writes (encoded m) line_across tests work room (written bytes 1 0)
  pub reads : (work room : ℕ) → work_length ≤ work → 1 ≤ room → Reads (encoded m) bytes work room (read (0 ∷ []) none none)

pub two_eastward : Across eastward (across_bytes 0x7F 0xFF 0xFF 0x00 0x02)
unfolding computing encoding
two_eastward =
    record {
      writes = λ tests work room all full enough. across_written 35_999_998 0 refl work room full tests all (omega arith) enough;
      reads = λ work room full enough. across_read 35_999_998 0 refl work room full (across_bytes 0x7F 0xFF 0xFF 0x00 0x02) 0x7F_FF_FF 2 refl refl enough;
    }

pub two_westward : Across westward (across_bytes 0x80 0x00 0x00 0xFF 0xFE)
unfolding computing encoding
two_westward =
    record {
      writes = λ tests work room all full enough. across_written 0 35_999_998 refl work room full tests all (omega arith) enough;
      reads = λ work room full enough. across_read 0 35_999_998 refl work room full (across_bytes 0x80 0x00 0x00 0xFF 0xFE) 0x80_00_00 0xFFFE refl refl enough;
    }

module _ (work room : ℕ) (full : work_length ≤ work) where
  -- A difference of 1 comes to 17,999,999, where no node is; and one of 3 comes past the node at -18,000,000.
  pub at_no_node : Reads (encoded eastward) (across_bytes 0x7F 0xFF 0xFF 0x00 0x01) work room (ReadOutcome.refused (row_at 16 1))
  unfolding computing encoding
  at_no_node = across_nowhere 35_999_998 0 refl work room full (across_bytes 0x7F 0xFF 0xFF 0x00 0x01) 0x7F_FF_FF 1 refl refl

  pub past_the_node : Reads (encoded eastward) (across_bytes 0x7F 0xFF 0xFF 0x00 0x03) work room (ReadOutcome.refused (row_at 16 1))
  unfolding computing encoding
  past_the_node = across_nowhere 35_999_998 0 refl work room full (across_bytes 0x7F 0xFF 0xFF 0x00 0x03) 0x7F_FF_FF 3 refl refl

  -- One past the ends of 16 bits: from 17,999,998 32,768 eastward, and from -17,967,235 32,769 westward.
  pub too_far_east : (tests : ℕ) → 1 ≤ tests → Writes (encoded (across 35_999_998 32_766)) line_across tests work room (WriteOutcome.refused (row 10))
  unfolding computing encoding
  too_far_east tests all = across_refused 35_999_998 32_766 refl work room full tests all λ f. omega (arith, f.lon.on)

  pub too_far_west : (tests : ℕ) → 1 ≤ tests → Writes (encoded (across 32_765 35_999_996)) line_across tests work room (WriteOutcome.refused (row 10))
  unfolding computing encoding
  too_far_west tests all = across_refused 32_765 35_999_996 refl work room full tests all λ f. omega (arith, f.lon.back)
