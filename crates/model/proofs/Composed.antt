-- The reference of the chosen legs: its fields fit their bits, and its offset bytes have spans.
use Prim.Native.Nat.{ℕ, suc, ◌+◌, ◌-◌, ◌%◌, ◌≤◌, ◌<◌}
use mathlib.Core.Path.{◌≡◌, refl, ap}
use mathlib.Core.Bool.{Bool, true, false, cond}
use mathlib.Core.List.{List, [], ◌∷◌}
use native.Mathlib.Omega.{arith}
use lib.ListN.{length}
use lib.Dec.{leb, eqb}
use Rattle.model.specs.declared.Span.{Span}
use Rattle.model.specs.Map.{Map, lon_code, lat_code}
use Rattle.model.specs.Field.{code, code_size, distance, offset_byte}
use Rattle.model.specs.Difference.{differences}
use Rattle.model.specs.Lines.{line_at, total, leaving, arriving}
use Rattle.model.specs.Reading.{joined}
use Rattle.model.specs.Reference.{absent, byte}
use Rattle.model.specs.Choice.{Good, good, Usable, final, before, point_of, points_of, first_leg, last_leg, offset_of, reference_of}
use Rattle.model.specs.Outcome.{SpansRead}
use Rattle.model.proofs.Differences.{difference_small}
use Rattle.model.proofs.Every.{Every, none, also}
use Rattle.model.specs.WellFormed.{WellFormed, LineOk}
use Rattle.model.proofs.Bytes.{AttributesFit, PointFits, OffsetFits, Fitting}
use Rattle.model.proofs.Joining.{connected, first_ok, last_ok, lowest_small, from_known, as_many, first_leg_lem, last_leg_lem}
use Rattle.model.proofs.Nearest.{offset_byte_lem}
use Rattle.model.proofs.Spans.{stated, span}

-- A code has 24 bits.
code_small : (half c : ℕ) → c < half + 18_000_000 → code half c < 16_777_216
unfolding code code_size
code_small half c h = go (leb half c) refl
  where
    go : (t : Bool) → leb half c ≡ t → cond t (code_size (c - half)) ((16_777_216 - code_size (half - c)) % 16_777_216) < 16_777_216
    go true e = omega arith
    go false e = omega arith

leaving_fits : {n : ℕ} (m : Map) (l : ℕ) → LineOk n (line_at m l) → AttributesFit (leaving m l)
unfolding leaving
leaving_fits m l ok = record { frc = ok.frc; fow = ok.fow; sector = ok.out }

arriving_fits : {n : ℕ} (m : Map) (l : ℕ) → LineOk n (line_at m l) → AttributesFit (arriving m l)
unfolding arriving
arriving_fits m l ok = record { frc = ok.frc; fow = ok.fow; sector = ok.back }

offset_fits : (leg offset : ℕ) → offset < leg → OffsetFits (offset_of leg offset)
unfolding offset_of
offset_fits leg offset inside = go (eqb offset 0)
  where
    go : (t : Bool) → OffsetFits (cond t absent (byte (offset_byte leg offset)))
    go true = tt
    go false = offset_byte_lem leg offset

pub points_count : (m : Map) (lss : List (List ℕ)) → length (points_of m lss) ≡ length lss
unfolding points_of
points_count m [] = refl
points_count m (ls ∷ lss) = ap suc (points_count m lss)

module _ {m : Map} (w : WellFormed m) where
  point_fits : {last : Bool} {ls : List ℕ} → Good m last ls → PointFits (point_of m ls)
  unfolding point_of distance differences
  point_fits g =
      let c = connected g in
      record {
        leaves = leaving_fits m _ (first_ok w c);
        lowest = lowest_small w c;
        distance = omega (arith, g.only.reading.allowed.within);
        lon = difference_small _ _;
        lat = difference_small _ _;
      }

  points_fit : {at : ℕ} {lss : List (List ℕ)} → Usable (good m) at lss → Every PointFits (points_of m lss)
  unfolding points_of
  points_fit (final g) = also (point_fits g) none
  points_fit (before g u) = also (point_fits g) (points_fit u)

  module _ (lss : List (List ℕ)) (u : Usable (good m) 0 lss) (pos neg : ℕ) (inside : pos < total m (first_leg lss))
      (inside' : neg < total m (last_leg lss)) where
    pub fitting : length lss ≤ 64 → Fitting (reference_of m lss pos neg)
    unfolding reference_of lon_code lat_code
    fitting few =
        let at = w.node_ok _ (from_known w (first_leg_lem u)) in
        record {
          lon = code_small 18_000_000 _ (omega (arith, at.lon));
          lat = code_small 9_000_000 _ (omega (arith, at.lat));
          points = points_fit u;
          some = rw points_count (as_many u).0;
          few = rw points_count few;
          arrives = arriving_fits m _ (last_ok w (last_leg_lem u));
          pos = offset_fits _ pos inside;
          neg = offset_fits _ neg inside';
        }

    pub spans : pos + neg < total m (joined lss) →
        (p n : Span) × SpansRead m (reference_of m lss pos neg) lss p n × (p.least + n.least < total m (joined lss))
    unfolding reference_of
    spans below =
        let p = span (stated _ pos inside) in
        let n = span (stated _ neg inside') in
        (p.0, n.0, record { pos_read = p.1; neg_read = n.1 }, omega (arith, p.2, n.2))
