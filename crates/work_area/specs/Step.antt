-- A step that a call runs on its work area and on the buffer that it fills.
use Rattle.std.specs.Prelude.{ℕ, ◌≡◌, List, length}
use Rattle.std.specs.Fn.{Once}
use Rattle.model.specs.Work.{work_length}
use denote.Ref.{MutBor}

module _ {Step B R : Type 0} (runs : Once Step (MutBor (List ℕ) × (MutBor (List B) × Unit {0})) (R × (MutBor (List ℕ) × (MutBor (List B) × Unit {0})))) (step : Step) where
  -- The step may be run on any area of the numbers that a call uses, and on any buffer.
  abbrev pub RunsOnArea : Type 0
  RunsOnArea = (area : MutBor (List ℕ)) (buffer : MutBor (List B)) → length area.now ≡ work_length → runs.pre step (area, (buffer, tt))

  -- Run on this area and this buffer, it may answer `r` and leave `after` in the buffer.
  pub record StepRan (area : List ℕ) (before : List B) (r : R) (after : List B) : Type 0 where
    pub area_lent : MutBor (List ℕ)
    pub area_left : MutBor (List ℕ)
    pub buffer_lent : MutBor (List B)
    pub buffer_left : MutBor (List B)
    pub ran : runs.post step (area_lent, (buffer_lent, tt)) (r, (area_left, (buffer_left, tt)))
    pub on_area : area_lent.now ≡ area
    pub on_buffer : buffer_lent.now ≡ before
    pub leaves : buffer_left.now ≡ after
