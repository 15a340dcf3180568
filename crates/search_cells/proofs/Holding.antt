-- A work area that holds the map whose mirror a search goes along: it still does after a change in the cells of searches.
use Rattle.work_area.specs.Area.{line_place, search_from, bans_from, line_numbers, Held}
use Rattle.work_area.specs.Mirror.{mirror_line, mirror_turn, with_turn, mirror_behind, mirror_turns, mirror}
use Rattle.model.specs.Map.{Line, no_line, Turn, Map, greatest_line_count, fitting, all_fitting}
use Rattle.model.specs.Lines.{line_at, node_at, turn_among}
use Rattle.model.specs.WellFormed.{LineOk, WellFormed}
use Prim.Native.Nat.{ℕ, ◌+◌, ◌≤◌, ◌<◌}
use mathlib.Core.Path.{◌≡◌, refl, sym, ap, ap₂, ◌∙◌}
use mathlib.Core.Bool.{Bool, true, false, cond, ◌&&◌, and_comm, and_assoc}
use mathlib.Core.List.{List, [], ◌∷◌, ◌++◌, map}
use native.Mathlib.Omega.{arith}
use lib.ListN.{length, get_or, length-map, get_or-map}
use lib.Dec.{ltb, eqb}
use Rattle.buffers.specs.Kept.{Kept}
use Rattle.work_area.proofs.Holding.{bans_kept}
use native.Mathlib.Decide.{ℕ_discrete}
use borrow.Author.Tests.{eq-eqb, ne_eqb}
use Rattle.model.proofs.Tests.{both}
use Rattle.work_area.proofs.Mirrored.{line_mirrored, lines_mirrored, turns_length}
use Rattle.banned_turns.proofs.Fitting.{fitting_more}
use Rattle.search_cells.specs.Area.{Mirrored}
use Rattle.way_lengths.specs.Ways.{Stands}
use Rattle.way_lengths.specs.declared.Terminus.{Terminus}
use Rattle.way_lengths.specs.declared.Terminus.TheVariants as at

-- ---- what is known of such an area

module _ {w : List ℕ} {n : ℕ} {m : Map} (h : Mirrored w n m) where
  pub few : n ≤ greatest_line_count
  few = let f = h.formed in let e = h.line_count in omega arith

  pub line_ok : {l : ℕ} → l < n → LineOk (length m.nodes) (line_at m l)
  line_ok l< = h.formed.line_ok _ (omega (arith, h.line_count))

-- Behind the lines and before the banned turns, a change leaves the map.
pub held_kept : {lo hi n : ℕ} {w v : List ℕ} {m : Map} → (search_from ≤ lo) × (hi ≤ bans_from) → Kept lo hi w v → Mirrored w n m → Mirrored v n m
held_kept (low, high) k h =
    let n≤ = few h in
    record {
      full = omega (arith, h.full, k.same);
      formed = h.formed;
      line_count = h.line_count;
      line_held = λ i j a b. k.below (line_place i + j) (omega arith) ∙ h.line_held i j a b;
      bans_held = bans_kept high k h.bans_held;
    }

-- ---- it holds the map

eqb_sym : (a b : ℕ) → eqb a b ≡ eqb b a
eqb_sym a b = go (ℕ_discrete a b)
  where
    go : Dec (a ≡ b) → eqb a b ≡ eqb b a
    go (yes e) = eq-eqb a b e ∙ sym (eq-eqb b a (sym e))
    go (no d) = ne_eqb a b d ∙ sym (ne_eqb b a (λ e. d (sym e)))

and_turn : (a b c : Bool) → (a && (b && c)) ≡ (b && (a && c))
and_turn a b c = sym (and_assoc a b c) ∙ ap (λ (x : Bool). x && c) (and_comm a b) ∙ and_assoc b a c

fitting_mirrored : (lines : List Line) (t : Turn) → fitting (map mirror_line lines) (mirror_turn t) ≡ fitting lines t
unfolding fitting
fitting_mirrored lines t =
    rw (length-map lines mirror_line, get_or-map mirror_line lines t.second no_line, get_or-map mirror_line lines t.first no_line)
    (and_turn (ltb t.second (length lines)) (ltb t.first (length lines)) _
    ∙ ap (λ (x : Bool). ltb t.first (length lines) && (ltb t.second (length lines) && x))
    (eqb_sym (get_or lines t.second no_line).start (get_or lines t.first no_line).end))

with_fitting : (lines : List Line) (ts : List Turn) (t : Turn) → all_fitting lines ts ≡ true → fitting lines t ≡ true → all_fitting lines (with_turn ts t) ≡ true
unfolding with_turn
with_fitting lines ts t all fits = go (turn_among ts t.first t.second)
  where
    go : (b : Bool) → all_fitting lines (cond b ts (ts ++ t ∷ [])) ≡ true
    go true = all
    go false = fitting_more ts t lines ∙ ap₂ ◌&&◌ all fits

behind_fitting : (lines : List Line) (done ts : List Turn) → all_fitting (map mirror_line lines) done ≡ true → all_fitting lines ts ≡ true →
    all_fitting (map mirror_line lines) (mirror_behind done ts) ≡ true
unfolding all_fitting mirror_behind
behind_fitting lines done [] so_far all = so_far
behind_fitting lines done (t ∷ ts) so_far all =
    let each = both (fitting lines t) _ all in
    behind_fitting lines (with_turn done (mirror_turn t)) ts
    (with_fitting (map mirror_line lines) done (mirror_turn t) so_far (fitting_mirrored lines t ∙ each.0)) each.1

all_fitting_mirrored : (lines : List Line) (ts : List Turn) → all_fitting lines ts ≡ true → all_fitting (map mirror_line lines) (mirror_turns ts) ≡ true
unfolding all_fitting
all_fitting_mirrored lines ts all = behind_fitting lines [] ts refl all

well_formed_mirrored : {m : Map} → WellFormed m → WellFormed (mirror m)
unfolding node_at
well_formed_mirrored {m} f =
    record {
      node_ok = f.node_ok;
      line_ok = λ l l<.
          let k = f.line_ok l (omega (arith, lines_mirrored m)) in
          rw (line_mirrored m l)
          (record {
            start = k.end;
            end = k.start;
            differ = λ e. k.differ (sym e);
            some = k.some;
            long = k.long;
            frc = k.frc;
            fow = k.fow;
            out = k.back;
            back = k.out;
          });
      two_nodes = f.two_nodes;
      few_nodes = f.few_nodes;
      one_line = omega (arith, lines_mirrored m, f.one_line);
      few_lines = omega (arith, lines_mirrored m, f.few_lines);
      distinct = f.distinct;
      few_bans = omega (arith, turns_length m.bans, f.few_bans);
      bans_fit = all_fitting_mirrored m.lines m.bans f.bans_fit;
    }

-- A work area that holds a map holds that of which the mirrored map is the mirror.
pub mirrored : {w : List ℕ} {n : ℕ} {m : Map} → Held w n m → Mirrored w n (mirror m)
mirrored {m = m} h =
    record {
      full = h.full;
      formed = well_formed_mirrored h.formed;
      line_count = lines_mirrored m ∙ h.line_count;
      line_held = λ i k a b.
          h.line_held i k a b ∙ ap (λ (x : Line). get_or (line_numbers (mirror_line x)) k 0) (sym (line_mirrored m i));
      bans_held = h.bans_held;
    }

-- A terminus of the map is one of the mirrored map.
pub stands_mirrored : (m : Map) (n : ℕ) (t : Terminus) → Stands m n t → Stands (mirror m) n t
stands_mirrored m n (at.Line l) h = h
stands_mirrored m n (at.Node v) h = h
