-- Ways to a line are the lists that grow from a line with which they may begin by one line at their end: `way_of` there, `grown_of` back.
-- A search finds them in that form.
use Prim.Native.Nat.{ℕ, ◌+◌, ◌≤◌, ◌<◌}
use mathlib.Core.Path.{◌≡◌, refl, sym, ◌∙◌, ap, subst}
use mathlib.Core.List.{List, [], ◌∷◌, ◌++◌, append-nil}
use native.Mathlib.Omega.{arith}
use lib.ListN.{length, length-append, take}
use lib.Seq.{append_snoc, take_at}
use Rattle.model.specs.Map.{Map}
use Rattle.model.specs.Lines.{line_at, Follows, Connected, single, linked, total, lowest, first_of, last_of}
use Rattle.model.proofs.Skipping.{total_append, first_append, last_append}
use Rattle.model.proofs.Joining.{filled}
use Rattle.way_lengths.specs.declared.Terminus.{Terminus}
use Rattle.way_lengths.specs.Ways.{line, Begins, Way}
use Rattle.way_lengths.proofs.Follows.{known}

-- The same lists, line by line.
pub data Grown (m : Map) (class : ℕ) (from : Terminus) : ℕ → List ℕ → Type 0 where
  one : {l : ℕ} → l < length m.lines → Begins m from l → (line_at m l).frc ≤ class → Grown m class from l (l ∷ [])
  more : {l j : ℕ} {ls : List ℕ} →
      Grown m class from l ls → Follows m l j → (line_at m j).frc ≤ class → Grown m class from j (ls ++ j ∷ [])

-- The last line of a way is of its class.
pub class_last : {m : Map} {c l : ℕ} {f : Terminus} {r : List ℕ} → Grown m c f l r → (line_at m l).frc ≤ c
class_last (one i s k) = k
class_last (more p g k) = k

pub last_known : {m : Map} {c l : ℕ} {f : Terminus} {r : List ℕ} → Grown m c f l r → l < length m.lines
last_known (one h s k) = h
last_known (more g f k) = known f

pub total_more : (m : Map) (ls : List ℕ) (j : ℕ) → total m (ls ++ j ∷ []) ≡ total m ls + (line_at m j).length
unfolding total
total_more m ls j = omega (arith, total_append m ls (j ∷ []))

pub total_one : (m : Map) (l : ℕ) → total m (l ∷ []) ≡ (line_at m l).length
unfolding total
total_one m l = omega arith

lowest_more : (m : Map) (c : ℕ) (ls : List ℕ) (j : ℕ) → lowest m ls ≤ c → (line_at m j).frc ≤ c → lowest m (ls ++ j ∷ []) ≤ c
unfolding lowest
lowest_more m c [] j h k = omega arith
lowest_more m c (l ∷ ls) j h k = omega (arith, lowest_more m c ls j (omega arith) k)

pub connected_more : {m : Map} {ls : List ℕ} {j : ℕ} → Connected m ls → j < length m.lines → Follows m (last_of ls) j → Connected m (ls ++ j ∷ [])
unfolding last_of
connected_more (single h) k f = linked h f (single k)
connected_more (linked h g c) k f = linked h g (connected_more c k f)

pub last_more : (ls : List ℕ) (j : ℕ) → last_of (ls ++ j ∷ []) ≡ j
unfolding last_of
last_more ls j = last_append ls (j ∷ []) (omega arith)

-- Lists with the same last line that are equal are so without it.
pub same_before : (xs ys : List ℕ) (j : ℕ) → xs ++ j ∷ [] ≡ ys ++ j ∷ [] → xs ≡ ys
same_before xs ys j e =
    let n = ap length e in
    sym (take_at xs (j ∷ []) (length xs) refl) ∙ ap (take (length xs)) e
    ∙ take_at ys (j ∷ []) (length xs) (omega (arith, length-append xs (j ∷ []), length-append ys (j ∷ [])))

pub known_first : {m : Map} {a : ℕ} {p : List ℕ} → Connected m (a ∷ p) → a < length m.lines
known_first (single h) = h
known_first (linked h f c) = h

module _ {m : Map} {class : ℕ} {from : Terminus} where
  pub way_one : {l : ℕ} → l < length m.lines → Begins m from l → (line_at m l).frc ≤ class → Way m class from (line l) (l ∷ [])
  unfolding first_of last_of lowest
  way_one h s k = record { connected = single h; starts = s; ends = refl; classes = omega arith }

  pub way_more : {l j : ℕ} {ls : List ℕ} → Way m class from (line l) ls → Follows m l j → (line_at m j).frc ≤ class →
      Way m class from (line j) (ls ++ j ∷ [])
  way_more {l} {j} {ls} w f k =
      record {
        connected = connected_more w.connected (known f) (subst (λ (x : ℕ). Follows m x j) (sym w.ends) f);
        starts = subst (Begins m from) (sym (first_append ls (j ∷ []) (filled w.connected))) w.starts;
        ends = last_more ls j;
        classes = lowest_more m class ls j w.classes k;
      }

  pub way_of : {l : ℕ} {ls : List ℕ} → Grown m class from l ls → Way m class from (line l) ls
  way_of (one h s k) = way_one h s k
  way_of (more g f k) = way_more (way_of g) f k

  onward : {a l : ℕ} {p r : List ℕ} → Grown m class from a r → Connected m (a ∷ p) → lowest m (a ∷ p) ≤ class → last_of (a ∷ p) ≡ l →
      Grown m class from l (r ++ p)
  unfolding lowest last_of
  onward {a} {l} {r = r} g (single h) k e = rw (append-nil r, ← e) g
  onward {a} {l} {r = r} g (linked {k = b} {ls = p} h f c) k e =
      rw (← append_snoc r b p) (onward (more g f (omega arith)) c (omega arith) e)

  begins : {a l : ℕ} {p : List ℕ} → Connected m (a ∷ p) → Begins m from (first_of (a ∷ p)) → last_of (a ∷ p) ≡ l → lowest m (a ∷ p) ≤ class →
      Grown m class from l (a ∷ p)
  unfolding first_of lowest
  begins c s z k = onward (one (known_first c) s (omega arith)) c k z

  pub grown_of : {l : ℕ} {ls : List ℕ} → Way m class from (line l) ls → Grown m class from l ls
  grown_of {ls = []} w = absurd (omega (arith, filled w.connected))
  grown_of {ls = a ∷ p} w = begins w.connected w.starts w.ends w.classes
