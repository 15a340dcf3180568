-- A map whose lines and banned turns are turned round, and then linked: the area holds the mirrored map, ready for searches.
use Prim.Native.Nat.{ℕ, ◌+◌}
use mathlib.Core.Path.{sym, subst, ◌∙◌}
use mathlib.Core.List.{List}
use native.Mathlib.Omega.{arith}
use Rattle.model.specs.Map.{Map}
use Rattle.model.specs.Lines.{node_at}
use Rattle.buffers.proofs.Kept.{kept_over}
use Rattle.work_area.specs.Area.{lines_from, line_place, node_place, bans_to, BansHeld, Held}
use Rattle.work_area.specs.Mirror.{mirror_turns, mirror}
use Rattle.work_area.proofs.Holding.{few, bans_kept, held_kept}
use Rattle.work_area.proofs.Mirrored.{lines_mirrored, turns_twice}
use Rattle.banned_turns.proofs.Fitting.{fits_first, fits_second, fits_at}
use Rattle.search_cells.specs.Promises.{Linked}
use Rattle.search_cells.proofs.Holding.{mirrored}
use Rattle.turning.specs.Bans.{Known, BansTurned}
use Rattle.turning.specs.Turned.{EndsSwapped, Turned}
use Rattle.turning.proofs.LineEnds.{lines_turned}

module _ {m : Map} {lines : ℕ} {w : List ℕ} (h : Held w lines m) where
  -- The banned turns in the area are of lines of the map.
  pub bans_known : Known lines (mirror_turns m.bans)
  bans_known i i< =
      let s = mirrored h in
      let fits = fits_at (mirror m).lines (mirror m).bans i i< s.formed.bans_fit in
      (omega (arith, s.line_count, fits_first (mirror m).lines _ fits), omega (arith, s.line_count, fits_second (mirror m).lines _ fits))

  module _ {v : List ℕ} (swapped : EndsSwapped lines w v) where
    -- The lines are turned round: the banned turns stand as before.
    pub swapped_bans : BansHeld v lines (mirror_turns m.bans)
    swapped_bans = let n = few h in bans_kept (omega arith) swapped.kept h.bans_held

    -- And the banned turns too: the area holds the mirrored map.
    module _ {u : List ℕ} (turned : BansTurned lines (mirror_turns m.bans) v u) where
      pub round_held : Held u lines (mirror m)
      unfolding node_at
      round_held =
          let f = h.formed in
          let n = few h in
          record {
            full = omega (arith, h.full, swapped.kept.same, turned.kept.same);
            formed = (mirrored h).formed;
            node_count = h.node_count;
            line_count = lines_mirrored m ∙ h.line_count;
            node_held = λ i k i< k<.
                turned.kept.below (node_place i + k) (omega arith) ∙ swapped.kept.below (node_place i + k) (omega arith) ∙ h.node_held i k i< k<;
            line_held = λ i k i< k<. turned.kept.below (line_place i + k) (omega arith) ∙ lines_turned h swapped i k i< k<;
            bans_held = subst (BansHeld u lines) (sym (turns_twice m.bans)) turned.held;
          }

      pub round_set : {x : List ℕ} → Linked u lines (mirror (mirror m)) x → Turned m lines w x
      round_set linked =
          let n = few h in
          record {
            set = record { held = held_kept (omega arith) linked.kept round_held; chained = linked.chained };
            kept = kept_over (omega arith) (kept_over {low = lines_from} {high = bans_to} (omega arith) swapped.kept turned.kept) linked.kept;
          }
