-- What every call with a map asks first: the work area (refusal 1), then the map (2 to 6, 23 of W1 and 24 of W3) (paper 01, "Refused, by place").
use Rattle.std.specs.Prelude.{ℕ, ◌≡◌, Bool, true, false, List, ltb}
use Rattle.model.specs.Refusal.{Refused, row}
use Rattle.model.specs.Map.{Map, MapAnswer, whole, decode}
use Rattle.model.specs.Work.{work_length}

-- A map's bytes are refused, or the call asks `Asks` of the map that they are.
abbrev pub OnMap : {Outcome : Type 0} → (Refused → Outcome) → (Map → Outcome → Type 0) → MapAnswer → Outcome → Type 0
OnMap refused Asks (whole m) o = Asks m o
OnMap refused Asks (MapAnswer.refused r) o = o ≡ refused r

-- Before it: a work area that is too short.
abbrev pub OnArea : {Outcome : Type 0} → (Refused → Outcome) → (Map → Outcome → Type 0) → Bool → List ℕ → Outcome → Type 0
OnArea refused Asks true mb o = o ≡ refused (row 1)
OnArea refused Asks false mb o = OnMap refused Asks (decode mb) o

-- Both, for map bytes and a work area of `work` numbers.
abbrev pub Opens : {Outcome : Type 0} → (Refused → Outcome) → (Map → Outcome → Type 0) → List ℕ → ℕ → Outcome → Type 0
Opens refused Asks mb work o = OnArea refused Asks (ltb work work_length) mb o
