-- Fronts in worked cases, by computation (paper 02, W10): sums, fronts that can be read and that cannot, the readers' test, and starting in short buffers.
use mathlib.Core.Path.{◌≡◌, refl}
use mathlib.Core.Bool.{true, false}
use mathlib.Core.List.{[], ◌∷◌}
use lib.ListN.{replicate}
use Rattle.model.specs.Refusal.{row}
use Rattle.model.specs.Number.{groups, number, group_bytes, number_bytes}
use Rattle.model.specs.Front.{summed, map_sum, front_bytes, front, unreadable, front_of, told, same_map}
use Rattle.model.specs.Message.{of_length, next, references, listed_behind, listed, reference_number, behind, left_behind, left_of, end_of_number, start_of_number}
use Rattle.model.specs.MessageStart.{started, refused, start_on}

-- 257 + 2 is 259. Of five bytes 255 the sum passes 4,294,967,291: 1,116,775,381,755 is 260 times that and 83,886,095.
pub record Summed : Type 0 where
  pub none : map_sum [] ≡ 0
  pub two : map_sum (1 ∷ 2 ∷ []) ≡ 259
  -- A zero byte first leaves the sum: the count tells these two apart.
  pub three : map_sum (0 ∷ 1 ∷ 2 ∷ []) ≡ 259
  pub order : map_sum (2 ∷ 1 ∷ []) ≡ 515
  pub past_the_modulus : map_sum (replicate 5 255) ≡ 83_886_095
  pub bytes : front_bytes (1 ∷ 2 ∷ []) ≡ 2 ∷ 131 ∷ 2 ∷ []

summed_so : Summed
unfolding map_sum summed front_bytes number_bytes group_bytes
summed_so = record { none = refl; two = refl; three = refl; order = refl; past_the_modulus = refl; bytes = refl }

-- What stands at the start of a message, and whether it is the front of the bytes 01 02.
pub record Tested : Type 0 where
  pub read : front_of (2 ∷ 131 ∷ 2 ∷ 9 ∷ []) ≡ front 2 259 (9 ∷ [])
  pub alone : front_of (2 ∷ 131 ∷ 2 ∷ []) ≡ front 2 259 []
  pub passes : same_map (1 ∷ 2 ∷ []) (2 ∷ 131 ∷ 2 ∷ 9 ∷ []) ≡ true
  pub other_count : same_map (0 ∷ 1 ∷ 2 ∷ []) (2 ∷ 131 ∷ 2 ∷ []) ≡ false
  pub other_sum : same_map (2 ∷ 1 ∷ []) (2 ∷ 131 ∷ 2 ∷ []) ≡ false
  pub empty : same_map [] [] ≡ false
  pub cut : front_of (2 ∷ 131 ∷ []) ≡ unreadable
  pub cut_at_the_count : front_of (2 ∷ []) ≡ unreadable
  pub longer_count : front_of (130 ∷ 0 ∷ 131 ∷ 2 ∷ []) ≡ unreadable
  pub longer_sum : front_of (2 ∷ 131 ∷ 130 ∷ 0 ∷ []) ≡ unreadable
  -- 4,294,967,295 can be read, and is no map's sum; 4,294,967,296 cannot.
  pub past_all_sums : front_of (0 ∷ 255 ∷ 255 ∷ 255 ∷ 255 ∷ 15 ∷ []) ≡ front 0 4_294_967_295 []
  pub too_large : front_of (0 ∷ 128 ∷ 128 ∷ 128 ∷ 128 ∷ 16 ∷ []) ≡ unreadable
  -- 0 leaves a remainder of 0, as 4,294,967,291 does: of no bytes the sum is 0 all the same.
  pub modulus_for_zero : same_map [] (0 ∷ 251 ∷ 255 ∷ 255 ∷ 255 ∷ 15 ∷ []) ≡ false
  pub zero : same_map [] (0 ∷ 0 ∷ []) ≡ true

tested : Tested
unfolding same_map told front_of number groups map_sum summed
tested =
    record {
      read = refl;
      alone = refl;
      passes = refl;
      other_count = refl;
      other_sum = refl;
      empty = refl;
      cut = refl;
      cut_at_the_count = refl;
      longer_count = refl;
      longer_sum = refl;
      past_all_sums = refl;
      too_large = refl;
      modulus_for_zero = refl;
      zero = refl;
    }

-- The list behind a front. Where that cannot be read, the list is empty and stops at byte 0.
pub record Listed : Type 0 where
  pub behind_it : listed (2 ∷ 131 ∷ 2 ∷ 1 ∷ 7 ∷ []) ≡ (7 ∷ []) ∷ []
  pub whatever_map : listed (0 ∷ 0 ∷ 1 ∷ 7 ∷ []) ≡ (7 ∷ []) ∷ []
  pub past_all_sums : listed (0 ∷ 255 ∷ 255 ∷ 255 ∷ 255 ∷ 15 ∷ 1 ∷ 7 ∷ []) ≡ (7 ∷ []) ∷ []
  pub unread : listed (2 ∷ 131 ∷ 128 ∷ 0 ∷ 1 ∷ 7 ∷ []) ≡ []
  pub unread_at : end_of_number 0 (2 ∷ 131 ∷ 128 ∷ 0 ∷ 1 ∷ 7 ∷ []) ≡ 0
  pub front_alone : end_of_number 0 (2 ∷ 131 ∷ 2 ∷ []) ≡ 3
  pub starts_behind : start_of_number 0 (2 ∷ 131 ∷ 2 ∷ 1 ∷ 7 ∷ []) ≡ 4

listed_so : Listed
unfolding front_of listed_behind left_behind left_of listed references next of_length number groups reference_number behind end_of_number start_of_number
listed_so =
    record {
      behind_it = refl;
      whatever_map = refl;
      past_all_sums = refl;
      unread = refl;
      unread_at = refl;
      front_alone = refl;
      starts_behind = refl;
    }

-- Starting in a buffer that the front fills, and in one a byte shorter.
pub record Started : Type 0 where
  pub fills : start_on (1 ∷ 2 ∷ []) 3 ≡ started (2 ∷ 131 ∷ 2 ∷ [])
  pub too_short : start_on (1 ∷ 2 ∷ []) 2 ≡ refused (row 28)

started_so : Started
unfolding start_on front_bytes map_sum summed number_bytes group_bytes
started_so = record { fills = refl; too_short = refl }
