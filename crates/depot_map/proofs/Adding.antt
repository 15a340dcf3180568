-- A banned turn put once, and the turns read so far with it.
use Prim.Native.Nat.{ℕ, ◌+◌, ◌≤◌, ◌<◌}
use mathlib.Core.Path.{◌≡◌, refl, sym, ap, ap₂, subst, ◌∙◌}
use mathlib.Core.Bool.{Bool, true, false, ◌&&◌}
use mathlib.Core.List.{List, [], ◌∷◌, ◌++◌}
use native.Mathlib.Omega.{arith}
use lib.ListN.{length-append}
use Rattle.model.specs.Map.{Line, Turn, fitting, all_fitting, greatest_ban_count, greatest_line_count}
use Rattle.model.specs.Lines.{turn_among}
use Rattle.buffers.proofs.Kept.{kept_none}
use Rattle.work_area.specs.Area.{BansHeld}
use Rattle.work_area.specs.Held.{held_lines}
use Rattle.work_area.specs.Mirror.{mirror_turn, mirror_turns}
use Rattle.work_area.proofs.Held.{lines_same}
use Rattle.work_area.proofs.Mirrored.{with_old, with_new, turns_more}
use Rattle.banned_turns.specs.Put.{BanPut}
use Rattle.banned_turns.proofs.Chains.{bans_more}
use Rattle.banned_turns.proofs.Fitting.{fitting_more}
use Rattle.banned_turns.proofs.Putting.{put_kept}
use Rattle.depot_map.specs.Bans.{BanAdded, BanSorted}
use Rattle.std.specs.Prelude.{Option, Some, None}

-- ---- a turn of the mirrored map, put unless it is in its chain

module _ {t : Turn} {count lines : ℕ} {w : List ℕ} {r : Bool} (listed : (bans : List Turn) → BansHeld w lines bans → r ≡ turn_among bans t.first t.second) where
  pub add_old : r ≡ true → BanAdded t count lines w w count
  add_old is =
      record {
        held = λ bans held e. rw (with_old bans t (sym (listed bans held) ∙ is)) held;
        counted = λ bans held e. rw (with_old bans t (sym (listed bans held) ∙ is)) e;
        one = omega arith;
        kept = kept_none;
      }

  pub add_new : {v : List ℕ} → r ≡ false → count < greatest_ban_count → lines ≤ greatest_line_count → t.first < lines → BanPut count t w v →
      BanAdded t count lines w v (count + 1)
  add_new {v} is room few known put =
      record {
        held = λ bans held e.
            rw (with_new bans t (sym (listed bans held) ∙ is))
            (bans_more bans t held (subst (λ (n : ℕ). BanPut n t w v) e put) (omega (arith, e, room)) known few);
        counted = λ bans held e. rw (with_new bans t (sym (listed bans held) ∙ is)) (omega (arith, e, length-append bans (t ∷ [])));
        one = omega arith;
        kept = put_kept room (omega arith) put;
      }

-- ---- one turn more is taken

-- Whether all fit with one more, from whether those before it do and whether it does.
all_with : (lines : List Line) (bans : List Turn) (t : Turn) {a b : Bool} → a ≡ all_fitting lines bans → b ≡ fitting lines t →
    (a && b) ≡ all_fitting lines (bans ++ t ∷ [])
all_with lines bans t e f = ap₂ ◌&&◌ e f ∙ sym (fitting_more bans t lines)

module _ {t : Turn} {lines : ℕ} {w : List ℕ} where
  -- Where one before it does not fit, nothing is put.
  pub sort_off : BanSorted t lines None w w None
  sort_off =
      record {
        sorts = λ bans c.
            record {
              taken = record {
                tested = ap (λ (b : Bool). b && fitting (held_lines w lines) t) c.taken.tested ∙ all_with (held_lines w lines) bans t refl refl;
                held = λ e. absurd cc;
              };
              counted = λ n e. absurd cc;
            };
        one = λ k h. tt;
        kept = kept_none;
      }

  module _ {n : ℕ} {f : Bool} (tested : f ≡ fitting (held_lines w lines) t) where
    pub sort_unfit : f ≡ false → BanSorted t lines (Some n) w w None
    sort_unfit is =
        record {
          sorts = λ bans c.
              record {
                taken = record {
                  tested = all_with (held_lines w lines) bans t c.taken.tested (sym is ∙ tested);
                  held = λ e. absurd cc;
                };
                counted = λ m e. absurd cc;
              };
          one = λ k h. tt;
          kept = kept_none;
        }

    pub sort_fit : {v : List ℕ} {count : ℕ} → f ≡ true → lines ≤ greatest_line_count → BanAdded (mirror_turn t) n lines w v count →
        BanSorted t lines (Some n) w v (Some count)
    sort_fit {count = count} is few added =
        record {
          sorts = λ bans c.
              record {
                taken = record {
                  tested = rw (lines_same added.kept lines (omega arith)) (all_with (held_lines w lines) bans t c.taken.tested (sym is ∙ tested));
                  held = λ e. rw (turns_more bans t) (added.held (mirror_turns bans) (c.taken.held refl) (c.counted n refl));
                };
                counted = λ m e.
                    let same : count ≡ m = cc in
                    rw (turns_more bans t) (sym same ∙ added.counted (mirror_turns bans) (c.taken.held refl) (c.counted n refl));
              };
          one = λ k h. omega (arith, added.one, h);
          kept = added.kept;
        }
