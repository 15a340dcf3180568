-- The termini of the legs to a position: the node there, or, at the last position, the last lines that arrive as the stretch does.
use Prim.Native.Nat.{ℕ, ◌-◌, ◌≤◌, ◌<◌}
use mathlib.Core.Path.{◌≡◌, refl, sym, ◌∙◌, ap, subst}
use mathlib.Core.Bool.{Bool, true, false, cond}
use mathlib.Core.List.{List}
use native.Mathlib.Decide.{dec_lt}
use native.Mathlib.Omega.{arith}
use borrow.Author.Tests.{eq-eqb, ne_eqb}
use lib.ListN.{length, get_or}
use lib.Seq.{slice}
use Rattle.model.specs.Map.{Map}
use Rattle.model.specs.Lines.{line_at, last_of, arriving}
use Rattle.model.specs.Reading.{any, matching}
use Rattle.model.specs.Choice.{arrival_of, leg_of}
use Rattle.work_area.specs.Area.{Held}
use Rattle.way_lengths.specs.declared.Terminus.{Terminus}
use Rattle.way_lengths.specs.Ways.{line, node}
use Rattle.legs.specs.Verdict.{TerminusOf, at_node, at_line}
use Rattle.stretches.specs.Known.{Known}
use Rattle.leg_tests.specs.LegTests.{leg_from, Serves, Own, EndsThere}
use Rattle.sole_ways.proofs.Slices.{last_of_slice}
use Rattle.leg_tests.proofs.Slices.{to_of_slice}

-- How a leg to position `j` ends.
module _ (m : Map) (s : List ℕ) {i j : ℕ} (h : i < j) (l : j ≤ length s) where
  arrives_any : j < length s → (leg_from m s i j).arrival ≡ any
  unfolding leg_of arrival_of
  arrives_any before =
      ap (λ (last : Bool). cond last (matching (arriving m (last_of (slice i j s)))) any) (ne_eqb j (length s) (λ e. omega arith))

  pub arrives_so : j ≡ length s → (leg_from m s i j).arrival ≡ matching (arriving m (get_or s (j - 1) 0))
  unfolding leg_of arrival_of
  arrives_so e =
      ap (λ (last : Bool). cond last (matching (arriving m (last_of (slice i j s)))) any) (eq-eqb j (length s) e)
      ∙ ap (λ (k : ℕ). matching (arriving m k)) (last_of_slice s i j h l)

  pub leg_ends : (leg_from m s i j).to ≡ (line_at m (get_or s (j - 1) 0)).end
  unfolding leg_of
  leg_ends = sym (to_of_slice s i j h l m)

module _ {m : Map} {lines : ℕ} {w : List ℕ} (held : Held w lines m) (s : List ℕ) (known : Known lines s) where
  end_known : {j : ℕ} → 0 < j → j ≤ length s → (line_at m (get_or s (j - 1) 0)).end < length m.nodes
  end_known {j} some l =
      (held.formed.line_ok (get_or s (j - 1) 0) (omega (arith, held.line_count, known (j - 1) (omega arith)))).end

  pub own_node : {j : ℕ} → 0 < j → j < length s → Own m lines s j (node (line_at m (get_or s (j - 1) 0)).end)
  own_node {j} some before =
      record {
        serves = record {
          stands = end_known some (omega arith);
          terminus = λ i h. subst (λ (v : ℕ). TerminusOf m (leg_from m s i j) (node v)) (leg_ends m s h (omega arith))
              (at_node (arrives_any m s h (omega arith) before));
        };
        ends = refl;
        is = ap (λ (last : Bool). cond last (line (get_or s (j - 1) 0)) (node (line_at m (get_or s (j - 1) 0)).end)) (ne_eqb j (length s) (λ e. omega arith));
      }

  -- The lines that are last lines of the legs to the last position, and the own one.
  module _ {last : ℕ} (inside : last < lines) (ends : (line_at m last).end ≡ (line_at m (get_or s (length s - 1) 0)).end)
      (alike : arriving m last ≡ arriving m (get_or s (length s - 1) 0)) where
    pub serves_line : Serves m lines s (length s) (line last)
    serves_line =
        record {
          stands = inside;
          terminus = λ i h. at_line (arrives_so m s h (omega arith) refl ∙ ap matching (sym alike)) (ends ∙ sym (leg_ends m s h (omega arith)));
        }

  pub own_line : 0 < length s → Own m lines s (length s) (line (get_or s (length s - 1) 0))
  own_line some =
      let last = get_or s (length s - 1) 0 in
      record {
        serves = serves_line (known (length s - 1) (omega arith)) refl refl;
        ends = refl;
        is = ap (λ (at_end : Bool). cond at_end (line last) (node (line_at m last).end)) (eq-eqb (length s) (length s) refl);
      }

-- Every position has the own terminus of the legs to it.
pub own_there : {m : Map} {lines : ℕ} {w : List ℕ} → Held w lines m → (s : List ℕ) → Known lines s → (j : ℕ) → 0 < j → j ≤ length s →
    (to : Terminus) × Own m lines s j to
own_there {m} {lines} held s known j some l = go (dec_lt j (length s))
  where
    go : Dec (j < length s) → (to : Terminus) × Own m lines s j to
    go (yes before) = (node (line_at m (get_or s (j - 1) 0)).end, own_node held s known some before)
    go (no last) =
        let e : length s ≡ j = omega (arith, last) in
        (line (get_or s (length s - 1) 0), subst (λ (k : ℕ). Own m lines s k (line (get_or s (length s - 1) 0))) e (own_line held s known (omega arith)))

-- A terminus of the legs to a position, their own or another.
pub serves_there : {m : Map} {lines : ℕ} {s : List ℕ} {j : ℕ} {to : Terminus} (own : Bool) → EndsThere m lines s j to own → Serves m lines s j to
serves_there true o = o.serves
serves_there false o = o.serves
