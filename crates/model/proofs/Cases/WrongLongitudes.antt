-- Wrong answers across the 180th meridian that the promises shut out (W2): no call, whatever its work area and its buffer hold, can be answered so.
use Prim.Native.Nat.{ℕ, ◌≤◌}
use mathlib.Core.Path.{◌≡◌}
use mathlib.Core.List.{List, [], ◌∷◌, ◌++◌}
use lib.ListN.{length, drop}
use Rattle.model.specs.declared.Span.{Span}
use Rattle.model.specs.Answer.{ReadAnswer, WriteAnswer, bytes_written, lines_read}
use Rattle.model.specs.Refusal.{row, row_at}
use Rattle.model.specs.Work.{work_length}
use Rattle.model.specs.Call.{ReadCall, WriteCall}
use Rattle.model.proofs.Cases.Encoded.{encoded}
use Rattle.model.proofs.Cases.Tie.{none}
use Rattle.model.proofs.Cases.WrongReaders.{counted, no_list_where_refused}
use Rattle.model.proofs.Cases.WrongWriters.{left, no_bytes_where_refused}
use Rattle.model.proofs.Cases.Meridian.{island_bytes, road_over, over_bytes, is_written, is_read, across, line_across, eastward, across_bytes, at_no_node, too_far_east, too_far_west}
use Rattle.model.proofs.Cases.WrongWriters as Writing
use Rattle.std.specs.Prelude.{Ok}

module _ (work lines : List ℕ) (full : work_length ≤ length work) {work' lines' : List ℕ} where
  -- A reader that takes the plain sum: it would find no node for the last point.
  pub no_plain_sum : {a : ReadAnswer} → 3 ≤ length lines → ReadCall island_bytes over_bytes work lines a work' lines' → (a ≡ Ok (lines_read 3 none none) → ⊥) → ⊥
  no_plain_sum enough c other = other (counted (0 ∷ 1 ∷ 2 ∷ []) none none (is_read (length work) (length lines) full enough) c)

  -- One whose circle has one step less: a difference of 1 would lead from 17,999,998 to -18,000,000.
  pub no_shorter_circle : {n : ℕ} {pos neg : Span} →
      ReadCall (encoded eastward) (across_bytes 0x7F 0xFF 0xFF 0x00 0x01) work lines (Ok (lines_read n pos neg)) work' lines' → ⊥
  no_shorter_circle c = no_list_where_refused (row_at 16 1) (at_no_node (length work) (length lines) full) c

module _ (tests : ℕ) (work bytes : List ℕ) (full : work_length ≤ length work) {work' bytes' : List ℕ} where
  -- A writer that asks whether the plain difference fits: it would refuse with 10.
  pub no_plain_difference : {a : WriteAnswer} → 6 ≤ tests → 16 ≤ length bytes → WriteCall island_bytes road_over tests work bytes a work' bytes' →
      (a ≡ Ok (bytes_written 16 6 0) → ⊥) → ⊥
  no_plain_difference all enough c other = other (Writing.counted over_bytes 6 0 (is_written tests (length work) (length bytes) all full enough) c)

  -- One that writes the 16 bits of the plain difference, or those of the way back.
  pub no_other_way_round : {a : WriteAnswer} → 6 ≤ tests → 16 ≤ length bytes → WriteCall island_bytes road_over tests work bytes a work' bytes' →
      (bytes' ≡ over_bytes ++ drop 16 bytes → ⊥) → ⊥
  no_other_way_round all enough c other = other (left over_bytes 6 0 (is_written tests (length work) (length bytes) all full enough) c)

  -- One that takes differences across the meridian that do not fit 16 bits, as if they did.
  pub none_too_far_east : {n made excess : ℕ} → 1 ≤ tests →
      WriteCall (encoded (across 35_999_998 32_766)) line_across tests work bytes (Ok (bytes_written n made excess)) work' bytes' → ⊥
  none_too_far_east all c = no_bytes_where_refused (row 10) (too_far_east (length work) (length bytes) full tests all) c

  pub none_too_far_west : {n made excess : ℕ} → 1 ≤ tests →
      WriteCall (encoded (across 32_765 35_999_996)) line_across tests work bytes (Ok (bytes_written n made excess)) work' bytes' → ⊥
  none_too_far_west all c = no_bytes_where_refused (row 10) (too_far_west (length work) (length bytes) full tests all) c
