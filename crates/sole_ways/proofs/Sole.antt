-- Sole ways: what a sole way says of a lesser class, of its later lines and of its first lines.
use Prim.Native.Nat.{ℕ, ◌-◌, ◌≤◌, ◌<◌}
use mathlib.Core.Path.{◌≡◌, refl, sym, ◌∙◌, ap, subst}
use mathlib.Core.Bool.{Bool, true, false, cond}
use mathlib.Core.List.{List, [], ◌∷◌, ◌++◌, append-nil, append_cancel_left, append_cancel_right}
use native.Mathlib.Omega.{arith}
use lib.ListN.{length, get_or}
use lib.Seq.{slice, length-slice}
use lib.Dec.{eqb}
use Rattle.model.specs.Map.{Map}
use Rattle.model.specs.Reading.{greatest_leg_length}
use Rattle.model.specs.Lines.{line_at, Connected, total, lowest, first_of, last_of}
use Rattle.model.proofs.Skipping.{total_append, first_append, last_append}
use Rattle.model.proofs.Joining.{filled}
use Rattle.way_lengths.specs.declared.Terminus.{Terminus}
use Rattle.way_lengths.specs.Ways.{line, node, Ends, Way}
use Rattle.sole_ways.specs.SoleWays.{SoleUnder, SoleWay, own_end, SoleLeg}
use Rattle.sole_ways.proofs.Slices.{slice_then, last_of_slice, total_then, lowest_then, lowest_join, slice_connected, connected_other, connected_for}

-- A way of a class is one of a greater class, so a lesser class has fewer ways.
pub way_wider : {m : Map} {c d : ℕ} {from to : Terminus} {ls : List ℕ} → c ≤ d → Way m c from to ls → Way m d from to ls
way_wider h w = record { connected = w.connected; starts = w.starts; ends = w.ends; classes = omega (arith, w.classes) }

pub sole_lower : {m : Map} {c d : ℕ} {ls : List ℕ} {to : Terminus} → c ≤ d → SoleUnder m d ls to → SoleUnder m c ls to
sole_lower {d = d} h s = record { only = λ other way short. s.only other (way_wider {d = d} h way) short }

module _ {m : Map} {c : ℕ} {to : Terminus} (front ls : List ℕ) (some : 0 < length front) (more : 0 < length ls) (joint : Connected m (front ++ ls)) where
  -- The later lines of a sole way are one.
  pub sole_later : lowest m front ≤ c → SoleUnder m c (front ++ ls) to → SoleUnder m c ls to
  sole_later low s = record { only = λ other way short. append_cancel_left front other ls (s.only (front ++ other) (longer other way) (no_longer other short)) }
    where
      longer : (other : List ℕ) → Way m c (line (first_of ls)) to other → Way m c (line (first_of (front ++ ls))) to (front ++ other)
      longer other way =
          let full = filled way.connected in
          record {
            connected = connected_other front ls other more full way.connected way.starts joint;
            starts = first_append front other some ∙ sym (first_append front ls some);
            ends = subst (Ends m to) (sym (last_append front other full)) way.ends;
            classes = omega (arith, lowest_join m front other, way.classes, low);
          }

      no_longer : (other : List ℕ) → total m other ≤ total m ls → total m (front ++ other) ≤ total m (front ++ ls)
      no_longer other short = omega (arith, total_append m front other, total_append m front ls)

last_same : (os ls back : List ℕ) → 0 < length os → 0 < length ls → last_of os ≡ last_of ls → last_of (os ++ back) ≡ last_of (ls ++ back)
last_same os ls [] some more e = ap last_of (append-nil os) ∙ e ∙ sym (ap last_of (append-nil ls))
last_same os ls (b ∷ back) some more e = last_append os (b ∷ back) (omega arith) ∙ sym (last_append ls (b ∷ back) (omega arith))

module _ {m : Map} {c : ℕ} {to : Terminus} (ls back : List ℕ) (some : 0 < length ls) (joint : Connected m (ls ++ back))
    (ends : Ends m to (last_of (ls ++ back))) where
  -- The first lines of a sole way are one to the last of them.
  pub sole_first : lowest m back ≤ c → SoleUnder m c (ls ++ back) to → SoleUnder m c ls (line (last_of ls))
  sole_first low s =
      record { only = λ other way short. append_cancel_right other ls back (s.only (other ++ back) (longer other way) (no_longer other short)) }
    where
      longer : (other : List ℕ) → Way m c (line (first_of ls)) (line (last_of ls)) other → Way m c (line (first_of (ls ++ back))) to (other ++ back)
      longer other way =
          let full = filled way.connected in
          record {
            connected = connected_for ls other back way.connected some way.ends joint;
            starts = first_append other back full ∙ way.starts ∙ sym (first_append ls back some);
            ends = subst (Ends m to) (sym (last_same other ls back full some way.ends)) ends;
            classes = omega (arith, lowest_join m other back, way.classes, low);
          }

      no_longer : (other : List ℕ) → total m other ≤ total m ls → total m (other ++ back) ≤ total m (ls ++ back)
      no_longer other short = omega (arith, total_append m other back, total_append m ls back)

-- A stretch's own lines end at the terminus of the legs to a position.
pub own_ends : (m : Map) (s : List ℕ) (j : ℕ) → Ends m (own_end m s j) (get_or s (j - 1) 0)
own_ends m s j = go (eqb j (length s))
  where
    go : (b : Bool) → Ends m (cond b (line (get_or s (j - 1) 0)) (node (line_at m (get_or s (j - 1) 0)).end)) (get_or s (j - 1) 0)
    go true = refl
    go false = refl

module _ {m : Map} (s : List ℕ) (joint : Connected m s) where
  -- A sole leg tells so of the one that starts with the next line.
  pub next_sole : (i j : ℕ) → 0 < i → i < j → j ≤ length s → SoleLeg m s (i - 1) j → SoleLeg m s i j
  next_sole i j some h l sole =
      let parts = slice_then (i - 1) i j s (omega arith) (omega arith) l in
      let class = lowest_then m s (i - 1) i j (omega arith) (omega arith) l in
      let whole = subst (λ (ls : List ℕ). SoleUnder m (lowest m (slice (i - 1) j s)) ls (own_end m s j)) parts sole.sole in
      record {
        within = omega (arith, sole.within, total_then m s (i - 1) i j (omega arith) (omega arith) l);
        sole = sole_lower {c = lowest m (slice i j s)} {d = lowest m (slice (i - 1) j s)} (omega (arith, class))
            (sole_later (slice (i - 1) i s) (slice i j s) (omega (arith, length-slice (i - 1) i s (omega arith))) (omega (arith, length-slice i j s l))
            (subst (Connected m) parts (slice_connected s (i - 1) j (omega arith) l joint)) (omega (arith, class)) whole);
      }

  -- A part that is sole under a class is so up to each of its lines.
  pub sole_upto : {c : ℕ} {to : Terminus} (i j k : ℕ) → i < j → j ≤ k → k ≤ length s → Ends m to (get_or s (k - 1) 0) → lowest m (slice i k s) ≤ c →
      SoleUnder m c (slice i k s) to → SoleUnder m c (slice i j s) (line (get_or s (j - 1) 0))
  sole_upto {c} {to} i j k h l inside at_end low sole =
      let parts = slice_then i j k s (omega arith) l inside in
      let class = lowest_then m s i j k (omega arith) l inside in
      let whole = subst (λ (ls : List ℕ). SoleUnder m c ls to) parts sole in
      let ends = subst (Ends m to) (sym (last_of_slice s i k (omega arith) inside) ∙ ap last_of parts) at_end in
      subst (λ (x : ℕ). SoleUnder m c (slice i j s) (line x)) (last_of_slice s i j h (omega arith))
      (sole_first (slice i j s) (slice j k s) (omega (arith, length-slice i j s (omega arith)))
      (subst (Connected m) parts (slice_connected s i k (omega arith) inside joint)) ends (omega (arith, class)) whole)

  -- Where the lines up to a position are not sole to the last of them, no leg that goes on from there is a sole way.
  pub none_further : (i j k : ℕ) → i < j → j ≤ k → k ≤ length s → (SoleWay m (slice i j s) (line (get_or s (j - 1) 0)) → ⊥) → SoleLeg m s i k → ⊥
  none_further i j k h l inside broken sole =
      let class = lowest_then m s i j k (omega arith) l inside in
      broken
      (sole_lower {c = lowest m (slice i j s)} {d = lowest m (slice i k s)} (omega (arith, class))
      (sole_upto i j k h l inside (own_ends m s k) (omega arith) sole.sole))

  -- A longer leg is too long where a leg is.
  pub none_longer : (i j k : ℕ) → i ≤ j → j ≤ k → k ≤ length s → greatest_leg_length < total m (slice i j s) → SoleLeg m s i k → ⊥
  none_longer i j k h l inside long sole = omega (arith, sole.within, total_then m s i j k h l inside)
