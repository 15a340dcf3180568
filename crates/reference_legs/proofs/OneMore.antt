-- The termini of a leg one after another: what one more adds to the readings that are judged, and the verdict on all.
use Prim.Native.Nat.{ℕ, ◌-◌, ◌≤◌, ◌<◌}
use mathlib.Core.Path.{◌≡◌, sym, ap, ◌∙◌}
use mathlib.Core.Logic.{inl, inr}
use mathlib.Core.List.{List}
use native.Mathlib.Omega.{arith}
use lib.ListN.{length}
use Rattle.model.specs.Map.{Line, Map}
use Rattle.model.specs.Lines.{LineAttributes, line_at, arriving}
use Rattle.fields.specs.Leg.{arrival_in, leg_in}
use Rattle.way_lengths.specs.Ways.{line, node}
use Rattle.model.specs.Reading.{Arrival, any, matching, Leg, Reading}
use Rattle.model.proofs.Joining.{last_known}
use Rattle.work_area.specs.Mirror.{mirror}
use Rattle.work_area.proofs.Mirrored.{line_mirrored}
use Rattle.search_cells.specs.Area.{Set}
use Rattle.search_cells.proofs.Leaving.{latest_le, latest_hit, list_start}
use Rattle.buffers.proofs.Kept.{kept_none, kept_then}
use Rattle.fields.specs.declared.leg.Verdict.{Verdict}
use Rattle.legs.specs.Verdict.{both_of, OneList, Says, Judged, TerminusOf, at_node, at_line, ReadingTo, ToLines}
use Rattle.legs.proofs.Joining.{Either, says_same, says_both}
use Rattle.legs.proofs.Lines.{none_yet, one_more, no_other, apart, to_node}
use Rattle.reference_legs.specs.TerminusAt.{first_at, next_at, terminus_at, Standing}
use Rattle.fields.specs.declared.leg.Leg as code
use Rattle.fields.specs.declared.leg.Verdict.TheVariants as verdict
use Rattle.fields.specs.declared.leg.Reading as numbers

-- A reading's last line is one.
past : {m : Map} {leg : Leg} {lines at : ℕ} {ls : List ℕ} → length m.lines ≡ lines → lines ≤ at → ToLines m leg at ls → ⊥
past all high r = omega (arith, r.ends, last_known r.reading.allowed.connected)

module _ (m : Map) (leg : Leg) {lines : ℕ} (all : length m.lines ≡ lines) where
  -- ---- the first

  pub first_none : (a : Arrival) (at : ℕ) → at ≡ first_at m lines a leg.to → (ls : List ℕ) → ToLines m leg at ls → ⊥
  first_none any at e ls r = past all (omega arith) r
  first_none (matching x) at e ls r = none_yet at (rw all e) ls r

  pub first_inside : (a : Arrival) (v at : ℕ) → at ≡ first_at m lines a v → at ≤ lines
  first_inside any v at e = omega arith
  first_inside (matching x) v at e = (list_start (mirror m) lines v e).within

  pub first_stands : (a : Arrival) (v at : ℕ) → at ≡ first_at m lines a v → 0 < at → Standing m lines a v at
  first_stands any v at e pos = omega arith
  first_stands (matching x) v at e pos = (list_start (mirror m) lines v e).joined pos

  -- ---- the next

  pub next_less : (a : Arrival) (at : ℕ) → 0 < at → next_at m a at < at
  next_less any at pos = pos
  next_less (matching x) at pos = omega (arith, latest_le (mirror m) (line_at (mirror m) (at - 1)).start (at - 1))

  pub next_stands : (a : Arrival) (v at next : ℕ) → next ≡ next_at m a at → Standing m lines a v at → 0 < next → Standing m lines a v next
  next_stands any v at next e h pos = absurd (omega arith)
  next_stands (matching x) v at next e h pos =
      let hit : (line_at (mirror m) (next - 1)).start ≡ (line_at (mirror m) (at - 1)).start =
      rw e (latest_hit (mirror m) (line_at (mirror m) (at - 1)).start (at - 1) (omega arith)) in
      hit ∙ h

  module _ (a : Arrival) (at next : ℕ) (pos : 0 < at) (h : Standing m lines a leg.to at) (e : next ≡ next_at m a at) where
    pub terminus_more : (ls : List ℕ) → Either (ToLines m leg at) (ReadingTo m leg (terminus_at a leg.to at)) ls → ToLines m leg next ls
    terminus_more = go a h e
      where
        go : (a : Arrival) → Standing m lines a leg.to at → next ≡ next_at m a at → (ls : List ℕ) →
            Either (ToLines m leg at) (ReadingTo m leg (terminus_at a leg.to at)) ls → ToLines m leg next ls
        go any h e ls (inl r) = absurd (past all h r)
        go any h e ls (inr r) = record { reading = r.reading; ends = omega arith }
        go (matching x) h e ls r = one_more at next pos h e ls r

    pub terminus_other : (ls : List ℕ) → ToLines m leg next ls → Either (ToLines m leg at) (ReadingTo m leg (terminus_at a leg.to at)) ls
    terminus_other = go a h e
      where
        go : (a : Arrival) → Standing m lines a leg.to at → next ≡ next_at m a at → (ls : List ℕ) → ToLines m leg next ls →
            Either (ToLines m leg at) (ReadingTo m leg (terminus_at a leg.to at)) ls
        go any h e ls r = inr (to_node ls r.reading)
        go (matching x) h e ls r = no_other at next pos h e ls r

    pub terminus_apart : (ls : List ℕ) → ToLines m leg at ls → ReadingTo m leg (terminus_at a leg.to at) ls → ⊥
    terminus_apart = go a h e
      where
        go : (a : Arrival) → Standing m lines a leg.to at → next ≡ next_at m a at → (ls : List ℕ) → ToLines m leg at ls →
            ReadingTo m leg (terminus_at a leg.to at) ls → ⊥
        go any h e ls r t = past all h r
        go (matching x) h e ls r t = apart at next pos h e ls r t

-- ---- the verdict on all

-- The termini before `at` have been judged.
pub record Walked (m : Map) (lines : ℕ) (leg : code.Leg) (N : numbers.Reading → List ℕ → Type 0) (w v : List ℕ) (at : ℕ) (found : Verdict) : Type 0 where
  pub judged : Judged m lines (ToLines m (leg_in leg) at) N w v found
  pub inside : at ≤ lines
  pub stands : 0 < at → Standing m lines (arrival_in leg.arrival) leg.to at

module _ {m : Map} {lines : ℕ} {leg : code.Leg} {N : numbers.Reading → List ℕ → Type 0} {w : List ℕ} where
  pub walk_start : (at : ℕ) → Set m lines w → at ≡ first_at m lines (arrival_in leg.arrival) leg.to → Walked m lines leg N w w at verdict.Unread
  unfolding leg_in
  walk_start at set e =
      let all = set.held.line_count in
      let a = arrival_in leg.arrival in
      record {
        judged = record { says = Says.unread (first_none m (leg_in leg) all a at e); set = set; kept = kept_none };
        inside = first_inside m (leg_in leg) all a leg.to at e;
        stands = first_stands m (leg_in leg) all a leg.to at e;
      }

  pub walk_end : {v : List ℕ} {at : ℕ} {found : Verdict} → Walked m lines leg N w v at found → at ≡ 0 → Judged m lines (Reading m (leg_in leg)) N w v found
  walk_end k e =
      record {
        says = says_same (λ ls r. r.reading) (λ ls r. record { reading = r; ends = omega arith }) k.judged.says;
        set = k.judged.set;
        kept = k.judged.kept;
      }

-- One terminus more. What is said of the one list before and of the one to this terminus becomes what is said of it after.
module _ {m : Map} {lines : ℕ} {leg : code.Leg} {N A B : numbers.Reading → List ℕ → Type 0} {w v u : List ℕ} {at next : ℕ} {found more : Verdict}
    (from_First : (r : numbers.Reading) (ls : List ℕ) → more ≡ verdict.Unread → A r ls → N r ls)
    (from_Second : (r : numbers.Reading) (ls : List ℕ) → found ≡ verdict.Unread → more ≡ verdict.One r →
    OneList m (ReadingTo m (leg_in leg) (terminus_at (arrival_in leg.arrival) leg.to at)) r ls → B r ls → N r ls) where
  pub walk_on : Walked m lines leg A w v at found → 0 < at →
      Judged m lines (ReadingTo m (leg_in leg) (terminus_at (arrival_in leg.arrival) leg.to at)) B v u more →
      next ≡ next_at m (arrival_in leg.arrival) at → Walked m lines leg N w u next (both_of found more)
  unfolding leg_in
  walk_on k pos j e =
      let all = j.set.held.line_count in
      let a = arrival_in leg.arrival in
      let h = k.stands pos in
      record {
        judged = record {
          says = says_same (terminus_more m (leg_in leg) all a at next pos h e) (terminus_other m (leg_in leg) all a at next pos h e)
              (says_both (terminus_apart m (leg_in leg) all a at next pos h e) from_First from_Second k.judged.says j.says);
          set = j.set;
          kept = kept_then k.judged.kept j.kept;
        };
        inside = omega (arith, k.inside, e, next_less m (leg_in leg) all a at pos);
        stands = next_stands m (leg_in leg) all a leg.to at next e h;
      }

-- ---- they are termini of the leg

pub node_terminus : (m : Map) (leg : code.Leg) → arrival_in leg.arrival ≡ any → TerminusOf m (leg_in leg) (node leg.to)
unfolding leg_in
node_terminus m leg e = at_node e

pub line_terminus : (m : Map) (leg : code.Leg) (at : ℕ) (x : LineAttributes) → arrival_in leg.arrival ≡ matching x → arriving m (at - 1) ≡ x →
    (line_at (mirror m) (at - 1)).start ≡ leg.to → TerminusOf m (leg_in leg) (line (at - 1))
unfolding leg_in
line_terminus m leg at x e alike h =
    at_line (e ∙ ap matching (sym alike)) (sym (ap (λ (l : Line). l.start) (line_mirrored m (at - 1))) ∙ h)
