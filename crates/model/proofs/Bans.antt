-- "No leg's reading may contain a banned pair": `reading_free`. "The joined list has one where two legs meet": `meetings`, nowhere else.
-- "What comes back .. bans counted": `reads_free`, whatever bytes the reader accepts, the lines have none (W1).
use Prim.Native.Nat.{ℕ}
use mathlib.Core.Path.{◌≡◌, refl, ◌∙◌, ap, ap₂}
use mathlib.Core.Bool.{false, ◌||◌}
use mathlib.Core.List.{List, ◌++◌, append-nil}
use Rattle.model.specs.declared.Span.{Span}
use Rattle.model.specs.Map.{Map, whole, decode}
use Rattle.model.specs.Lines.{banned, Connected, single, linked, first_of, last_of}
use Rattle.model.specs.Stretch.{some_pair, banned_pair}
use Rattle.model.specs.Reading.{Leg, Reading, joined, banned_meeting}
use Rattle.model.specs.Outcome.{read, Reads}
use Rattle.model.proofs.Every.{Every, none, also}
use Rattle.model.proofs.Outcomes.{accepted_of, of_legs}

module _ {m : Map} where
  -- A connected list has no banned pair.
  pub free : {ls : List ℕ} → Connected m ls → banned_pair m ls ≡ false
  unfolding some_pair
  free (single h) = refl
  free (linked h f c) = rw f.allowed (free c)

  pub reading_free : {leg : Leg} {ls : List ℕ} → Reading m leg ls → banned_pair m ls ≡ false
  reading_free r = free r.allowed.connected

  -- Two connected lists, one after the other.
  meeting : {ls ks : List ℕ} (rest : List ℕ) → Connected m ls → Connected m ks →
      banned_pair m (ls ++ (ks ++ rest)) ≡ (banned m (last_of ls) (first_of ks) || banned_pair m (ks ++ rest))
  unfolding some_pair last_of first_of
  meeting rest (single h) (single h') = refl
  meeting rest (single h) (linked h' f c) = refl
  meeting rest (linked h f c) d = rw f.allowed (meeting rest c d)

  -- The banned pairs of connected lists, joined, are those where two lists meet.
  pub meetings : {lss : List (List ℕ)} → Every (Connected m) lss → banned_pair m (joined lss) ≡ banned_meeting m lss
  unfolding joined banned_meeting some_pair
  meetings none = refl
  meetings (also {a = ls} c none) = rw append-nil (free c)
  meetings (also {a = ls} c (also {a = ks} {xs = lss} d e)) =
      meeting (joined lss) c d ∙ ap₂ ◌||◌ {x = banned m (last_of ls) (first_of ks)} refl (meetings (also d e))

-- The lines that the reader accepts, on the map of these bytes, have no banned pair.
pub record Free (mb ls : List ℕ) : Type 0 where
  pub map : Map
  pub decodes : decode mb ≡ whole map
  pub free : banned_pair map ls ≡ false

pub reads_free : (mb ref : List ℕ) (room : ℕ) (ls : List ℕ) (pos neg : Span) (work : ℕ) → Reads mb ref work room (read ls pos neg) → Free mb ls
reads_free mb ref room ls pos neg work h =
    let a = accepted_of mb ref room ls pos neg work h in
    let legs = of_legs a.0 a.1.reference room ls pos neg a.1.on_map in
    record { map = a.0; decodes = a.1.decodes; free = ap (banned_pair a.0) legs.lines ∙ meetings legs.connected ∙ legs.free }
