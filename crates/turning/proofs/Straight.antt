-- The map mirrored twice is the map, but that each banned turn is listed once: it has the same ways. Mirrored once more it is the mirrored map.
use Prim.Native.Nat.{ℕ, ◌+◌, max}
use mathlib.Core.Path.{◌≡◌, refl, sym, ap, ap₂, subst, ◌∙◌}
use mathlib.Core.List.{List, [], ◌∷◌}
use lib.ListN.{length, get_or}
use Rattle.model.specs.Map.{Line, no_line, Map}
use Rattle.model.specs.Lines.{node_at, line_at, turn_among, banned, Follows, Connected, single, linked, total, lowest}
use Rattle.model.specs.WellFormed.{WellFormed}
use Rattle.way_lengths.specs.declared.Terminus.{Terminus}
use Rattle.way_lengths.specs.Ways.{Begins, Ends, Way}
use Rattle.buffers.specs.Kept.{Kept}
use Rattle.buffers.proofs.Kept.{kept_then}
use Rattle.work_area.specs.Area.{lines_from, bans_to, line_numbers, BansHeld}
use Rattle.work_area.specs.Mirror.{mirror_turns, mirror}
use Rattle.work_area.proofs.Mirrored.{turn_mirrored, turns_thrice, lines_twice}
use Rattle.search_cells.specs.Area.{Chained, Set}
use Rattle.turning.specs.Turned.{Turned}
use Rattle.way_lengths.specs.declared.Terminus.TheVariants as at

-- ---- two maps with the same lines, on which the same turns are banned

pub record Alike (m n : Map) : Type 0 where
  pub nodes : m.nodes ≡ n.nodes
  pub lines : m.lines ≡ n.lines
  pub turns : (l k : ℕ) → turn_among m.bans l k ≡ turn_among n.bans l k

pub alike_back : {m n : Map} → Alike m n → Alike n m
alike_back a = record { nodes = sym a.nodes; lines = sym a.lines; turns = λ l k. sym (a.turns l k) }

module _ {m n : Map} (a : Alike m n) where
  pub line_alike : (l : ℕ) → line_at m l ≡ line_at n l
  unfolding line_at
  line_alike l = ap (λ (ls : List Line). get_or ls l no_line) a.lines

  pub count_alike : length m.lines ≡ length n.lines
  count_alike = ap (λ (ls : List Line). length ls) a.lines

  pub follows_alike : {l k : ℕ} → Follows m l k → Follows n l k
  unfolding banned
  follows_alike {l} {k} f =
      record {
        line = rw count_alike at f.line;
        meets = sym (ap (λ (x : Line). x.end) (line_alike l)) ∙ f.meets ∙ ap (λ (x : Line). x.start) (line_alike k);
        allowed = sym (a.turns l k) ∙ f.allowed;
      }

  pub connected_alike : {ls : List ℕ} → Connected m ls → Connected n ls
  connected_alike (single h) = single (rw count_alike at h)
  connected_alike (linked h f c) = linked (rw count_alike at h) (follows_alike f) (connected_alike c)

  pub total_alike : (ls : List ℕ) → total m ls ≡ total n ls
  unfolding total
  total_alike [] = refl
  total_alike (l ∷ ls) = ap₂ ◌+◌ (ap (λ (x : Line). x.length) (line_alike l)) (total_alike ls)

  pub lowest_alike : (ls : List ℕ) → lowest m ls ≡ lowest n ls
  unfolding lowest
  lowest_alike [] = refl
  lowest_alike (l ∷ ls) = ap₂ max (ap (λ (x : Line). x.frc) (line_alike l)) (lowest_alike ls)

  begins_alike : (t : Terminus) (l : ℕ) → Begins m t l → Begins n t l
  begins_alike (at.Line f) l h = h
  begins_alike (at.Node v) l h = sym (ap (λ (x : Line). x.start) (line_alike l)) ∙ h

  ends_alike : (t : Terminus) (l : ℕ) → Ends m t l → Ends n t l
  ends_alike (at.Line f) l h = h
  ends_alike (at.Node v) l h = sym (ap (λ (x : Line). x.end) (line_alike l)) ∙ h

  pub way_alike : {class : ℕ} {from to : Terminus} {ls : List ℕ} → Way m class from to ls → Way n class from to ls
  way_alike {from = from} {to = to} {ls = ls} w =
      record {
        connected = connected_alike w.connected;
        starts = begins_alike from _ w.starts;
        ends = ends_alike to _ w.ends;
        classes = rw (lowest_alike ls) at w.classes;
      }

-- ---- the map mirrored twice

module _ (m : Map) where
  pub mirrored_twice : Alike (mirror (mirror m)) m
  mirrored_twice =
      record {
        nodes = refl;
        lines = lines_twice m.lines;
        turns = λ l k. turn_mirrored (mirror_turns m.bans) k l ∙ turn_mirrored m.bans l k;
      }

  pub way_straight : {class : ℕ} {from to : Terminus} {ls : List ℕ} → Way (mirror (mirror m)) class from to ls → Way m class from to ls
  way_straight = way_alike mirrored_twice

  pub straight_way : {class : ℕ} {from to : Terminus} {ls : List ℕ} → Way m class from to ls → Way (mirror (mirror m)) class from to ls
  straight_way = way_alike (alike_back mirrored_twice)

  pub mirror_thrice : mirror (mirror (mirror m)) ≡ mirror m
  mirror_thrice = λ i. record { nodes = m.nodes; lines = lines_twice (mirror m).lines i; bans = turns_thrice m.bans i }

-- An area that is ready with the map mirrored twice is ready with the map.
pub set_back : {m : Map} {lines : ℕ} {w : List ℕ} → WellFormed m → Set (mirror (mirror m)) lines w → Set m lines w
unfolding node_at
set_back {m} {lines} {w} formed s =
    let h = s.held in
    let twice = mirrored_twice m in
    record {
      held = record {
        full = h.full;
        formed = formed;
        node_count = refl;
        line_count = sym (count_alike twice) ∙ h.line_count;
        node_held = h.node_held;
        line_held = λ i k i< k<. h.line_held i k i< k< ∙ ap (λ (x : Line). get_or (line_numbers x) k 0) (line_alike twice i);
        bans_held = subst (BansHeld w lines) (turns_thrice m.bans) h.bans_held;
      };
      chained = subst (Chained w lines) (mirror_thrice m) s.chained;
    }

-- Turned round twice, the area is ready as before.
pub turned_back : {m : Map} {lines : ℕ} {w v u : List ℕ} → Set m lines w → Turned m lines w v → Turned (mirror m) lines v u →
    Set m lines u × Kept lines_from bans_to w u
turned_back s once again = (set_back s.held.formed again.set, kept_then once.kept again.kept)
