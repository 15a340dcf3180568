-- The numbers of a point are those of the leg that starts at it, and they fit their bytes.
use Rattle.work_area.specs.Area.{line_numbers}
use Rattle.model.specs.Map.{Line, Map}
use Rattle.model.specs.Reading.{greatest_leg_length}
use Prim.Native.Nat.{ℕ, ◌+◌, ◌*◌, ◌-◌, ◌≤◌, ◌<◌}
use mathlib.Core.Path.{◌≡◌, ◌∙◌, ap}
use mathlib.Core.Bool.{Bool}
use mathlib.Core.List.{List, [], ◌∷◌}
use native.Mathlib.Omega.{arith}
use lib.ListN.{length, get_or}
use Rattle.model.specs.Field.{distance}
use Rattle.model.specs.Lines.{LineAttributes, line_at, total, lowest, first_of, last_of, leaving, arriving}
use Rattle.model.specs.WellFormed.{WellFormed, LineOk}
use Rattle.model.specs.Reference.{bytes2, byte_p, byte_q, point_bytes}
use Rattle.model.specs.Choice.{Good, point_of}
use Rattle.model.proofs.Joining.{connected, first_ok, lowest_small}
use Rattle.fields.specs.declared.leg.Attributes.{Attributes}
use Rattle.fields.specs.Leg.{attributes_in}
use Rattle.reference_bytes.specs.declared.point.Differences.{Differences}
use Rattle.stretches.specs.Attributes.{attributes_by}
use Rattle.reference_bytes.specs.Point.{DifferencesAre, bytes_of_point, PointIs}
use Rattle.stretches.proofs.Ends.{first_is, last_is}

-- The attributes of the first line as it leaves, and of the last as it arrives.
pub leaving_by : (m : Map) (ls : List ℕ) → attributes_by (line_at m (get_or ls 0 0)) 5 ≡ leaving m (first_of ls)
unfolding attributes_by leaving
leaving_by m ls = ap (leaving m) (first_is ls)

pub arriving_by : (m : Map) (ls : List ℕ) → attributes_by (line_at m (get_or ls (length ls - 1) 0)) 6 ≡ arriving m (last_of ls)
unfolding attributes_by arriving
arriving_by m ls = ap (arriving m) (last_is ls)

-- They fit their bits.
module _ {n : ℕ} {l : Line} (a : Attributes) (side : ℕ) (ok : LineOk n l) (small-sector : get_or (line_numbers l) side 0 < 32)
    (e : attributes_in a ≡ attributes_by l side) where
  pub attributes_fit : (a.frc ≤ 7) × (a.fow ≤ 7) × (a.sector < 32)
  unfolding attributes_in attributes_by
  attributes_fit =
      let frc : a.frc ≡ l.frc = ap (λ (x : LineAttributes). x.frc) e in
      let fow : a.fow ≡ l.fow = ap (λ (x : LineAttributes). x.fow) e in
      let sectored : a.sector ≡ get_or (line_numbers l) side 0 = ap (λ (x : LineAttributes). x.sector) e in
      (omega (arith, frc, ok.frc), omega (arith, fow, ok.fow), omega (arith, sectored, small-sector))

pub attributes_byte : (a : Attributes) (b : LineAttributes) → attributes_in a ≡ b → a.frc * 8 + a.fow ≡ byte_p b
unfolding attributes_in byte_p
attributes_byte a b e =
    let frc : a.frc ≡ b.frc = ap (λ (x : LineAttributes). x.frc) e in
    let fow : a.fow ≡ b.fow = ap (λ (x : LineAttributes). x.fow) e in
    omega arith

pub attributes_sector : (a : Attributes) (b : LineAttributes) → attributes_in a ≡ b → a.sector ≡ b.sector
unfolding attributes_in
attributes_sector a b e = ap (λ (x : LineAttributes). x.sector) e

module _ {m : Map} (w : WellFormed m) {last : Bool} {ls : List ℕ} (g : Good m last ls) (a : Attributes) (low len : ℕ)
    (leaves : attributes_in a ≡ attributes_by (line_at m (get_or ls 0 0)) 5) (classes : low ≡ lowest m ls) (sum : len ≡ total m ls) where
  pub small : (a.frc * 8 + a.fow < 256) × (low * 32 + a.sector < 256) × (len ≤ greatest_leg_length)
  small =
      let ok : LineOk (length m.nodes) (line_at m (get_or ls 0 0)) = rw (first_is ls) (first_ok w (connected g)) in
      let fits = attributes_fit a 5 ok ok.out leaves in (
        omega (arith, fits.0, fits.1),
        omega (arith, fits.2, lowest_small w (connected g), classes),
        omega (arith, g.only.reading.allowed.within, sum),
      )

  pub point_is : (s : Differences) (d : ℕ) → d ≡ distance len → DifferencesAre m ls s →
      PointIs m ls (record { p = a.frc * 8 + a.fow; q = low * 32 + a.sector; d = d; lon = s.lon; lat = s.lat })
  unfolding bytes_of_point point_bytes point_of byte_q distance
  point_is s d distanced by =
      let same : attributes_in a ≡ leaving m (first_of ls) = leaves ∙ leaving_by m ls in
      let p = attributes_byte a (leaving m (first_of ls)) same in
      let q : low * 32 + a.sector ≡ byte_q (point_of m ls) = omega (arith, classes, attributes_sector a (leaving m (first_of ls)) same) in
      let d' : d ≡ distance (total m ls) = distanced ∙ ap distance sum in
      record {
        bytes = λ t. p t ∷ q t ∷ d' t ∷ bytes2 (by.lon t) (bytes2 (by.lat t) []);
        p = small.0;
        q = small.1;
        d = omega (arith, d', g.only.reading.allowed.within);
      }
