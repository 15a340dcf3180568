-- What every call asks first: the same outcome wherever the map gives one, and what holds where the work area is too short, or long enough.
use Prim.Native.Nat.{ℕ, ◌≤◌, ◌<◌}
use mathlib.Core.Path.{◌≡◌, refl, sym, ◌∙◌}
use mathlib.Core.Bool.{Bool, true, false}
use mathlib.Core.List.{List}
use lib.Dec.{ltb}
use borrow.Author.Tests.{lt-ltb, le-ltb}
use Rattle.model.specs.Refusal.{Refused, row}
use Rattle.model.specs.Map.{Map, MapAnswer, whole, decode}
use Rattle.model.specs.Work.{work_length}
use Rattle.model.specs.Opening.{OnMap, OnArea, Opens}

module _ {Outcome : Type 0} (refused : Refused → Outcome) where
  -- Where each map gives one outcome at most, so does each call.
  module _ (Asks : Map → Outcome → Type 0) {o o' : Outcome} (once : (m : Map) → Asks m o → Asks m o' → o ≡ o') where
    on_map_once : (a : MapAnswer) → OnMap refused Asks a o → OnMap refused Asks a o' → o ≡ o'
    on_map_once (whole m) h h' = once m h h'
    on_map_once (MapAnswer.refused r) h h' = h ∙ sym h'

    on_area_once : (t : Bool) (mb : List ℕ) → OnArea refused Asks t mb o → OnArea refused Asks t mb o' → o ≡ o'
    on_area_once true mb h h' = h ∙ sym h'
    on_area_once false mb h h' = on_map_once (decode mb) h h'

    pub opens_once : (mb : List ℕ) (work : ℕ) → Opens refused Asks mb work o → Opens refused Asks mb work o' → o ≡ o'
    opens_once mb work h h' = on_area_once (ltb work work_length) mb h h'

  -- A call that asks another question with the same answer.
  module _ (Asks Asks' : Map → Outcome → Type 0) {o : Outcome} (mb : List ℕ) (by : (m : Map) → decode mb ≡ whole m → Asks m o → Asks' m o) where
    on_map_by : (a : MapAnswer) → decode mb ≡ a → OnMap refused Asks a o → OnMap refused Asks' a o
    on_map_by (whole m) d h = by m d h
    on_map_by (MapAnswer.refused r) d h = h

    on_area_by : (t : Bool) → OnArea refused Asks t mb o → OnArea refused Asks' t mb o
    on_area_by true h = h
    on_area_by false h = on_map_by (decode mb) refl h

    pub opens_by : (work : ℕ) → Opens refused Asks mb work o → Opens refused Asks' mb work o
    opens_by work h = on_area_by (ltb work work_length) h

  -- An outcome that is no refusal is one that the map gives.
  module _ (Asks : Map → Outcome → Type 0) {o : Outcome} (mb : List ℕ) (accepted : (r : Refused) → o ≡ refused r → ⊥) where
    on_map_opened : (a : MapAnswer) → decode mb ≡ a → OnMap refused Asks a o → (m : Map) × (decode mb ≡ whole m) × Asks m o
    on_map_opened (whole m) d h = (m, d, h)
    on_map_opened (MapAnswer.refused r) d h = absurd (accepted r h)

    on_area_opened : (t : Bool) → OnArea refused Asks t mb o → (m : Map) × (decode mb ≡ whole m) × Asks m o
    on_area_opened true h = absurd (accepted (row 1) h)
    on_area_opened false h = on_map_opened (decode mb) refl h

    pub opened : (work : ℕ) → Opens refused Asks mb work o → (m : Map) × (decode mb ≡ whole m) × Asks m o
    opened work h = on_area_opened (ltb work work_length) h

  -- And then another call with that map and work area comes to the map too.
  module _ (Asks Asks' : Map → Outcome → Type 0) {o o' : Outcome} (mb : List ℕ) (accepted : (r : Refused) → o ≡ refused r → ⊥) where
    on_map_both : (a : MapAnswer) → decode mb ≡ a → OnMap refused Asks a o → OnMap refused Asks' a o' →
        (m : Map) × (decode mb ≡ whole m) × Asks m o × Asks' m o'
    on_map_both (whole m) d h h' = (m, d, h, h')
    on_map_both (MapAnswer.refused r) d h h' = absurd (accepted r h)

    on_area_both : (t : Bool) → OnArea refused Asks t mb o → OnArea refused Asks' t mb o' → (m : Map) × (decode mb ≡ whole m) × Asks m o × Asks' m o'
    on_area_both true h h' = absurd (accepted (row 1) h)
    on_area_both false h h' = on_map_both (decode mb) refl h h'

    pub both_opened : (work : ℕ) → Opens refused Asks mb work o → Opens refused Asks' mb work o' → (m : Map) × (decode mb ≡ whole m) × Asks m o × Asks' m o'
    both_opened work h h' = on_area_both (ltb work work_length) h h'

  module _ (Asks : Map → Outcome → Type 0) (mb : List ℕ) (work : ℕ) where
    pub area_short : work < work_length → Opens refused Asks mb work (refused (row 1))
    area_short h = rw (lt-ltb work work_length h) refl

    pub area_full : (o : Outcome) → work_length ≤ work → OnMap refused Asks (decode mb) o → Opens refused Asks mb work o
    area_full o h p = rw (le-ltb work work_length h) p
