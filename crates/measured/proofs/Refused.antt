-- The refusal of a map, for a work area that is too short and for one that is not.
use Prim.Native.Nat.{ℕ, ◌≤◌, ◌<◌}
use mathlib.Core.Path.{◌≡◌, sym, ap}
use mathlib.Core.List.{List}
use borrow.Author.Tests.{lt-ltb, le-ltb}
use Rattle.model.specs.Map.{MapAnswer, decode}
use Rattle.model.specs.Work.{work_length}
use Rattle.std.specs.Prelude.{Result, Ok, Err}
use Rattle.model.specs.declared.Refusal.{Refusal}
use Rattle.depot_map.specs.declared.Counts.{Counts}
use Rattle.depot_map.specs.Answer.{MapAnswers}
use Rattle.measured.specs.Refusal.{refusal_number, refused_by, map_refusal}

module _ (work : ℕ) (bytes : List ℕ) where
  pub short : work < work_length → 1 ≡ map_refusal work bytes
  unfolding map_refusal
  short h = simp (lt-ltb work work_length h)

  pub full : work_length ≤ work → {a : MapAnswer} → decode bytes ≡ a → refused_by a ≡ map_refusal work bytes
  unfolding map_refusal
  full h e = simp (le-ltb work work_length h, e)

pub map_number : (bytes v : List ℕ) (r : Result Counts Refusal) → MapAnswers bytes v r → refusal_number r ≡ refused_by (decode bytes)
unfolding refused_by
map_number bytes v (Ok n) a = sym (ap refused_by a.decodes)
map_number bytes v (Err why) a = sym (ap refused_by a)
