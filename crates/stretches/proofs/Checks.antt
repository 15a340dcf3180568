-- A stretch's checks one after another: what each refuses, and what remains where none does.
use Prim.Native.Nat.{ℕ, zero, suc, ◌+◌, ◌-◌, ◌≤◌, ◌<◌}
use mathlib.Core.Path.{◌≡◌, refl, sym, ◌∙◌, ap}
use mathlib.Core.Bool.{Bool, true, false, cond, ◌||◌}
use mathlib.Core.List.{List, [], ◌∷◌}
use native.Mathlib.Omega.{arith}
use lib.ListN.{length, take, drop, length-take, length-drop}
use lib.Seq.{get_or-take}
use lib.Dec.{ltb, eqb}
use borrow.Author.Tests.{eq-eqb, ne_eqb, lt-ltb, le-ltb, le-leb, lt-leb}
use Rattle.model.specs.Refusal.{row}
use Rattle.model.specs.Map.{Map}
use Rattle.model.specs.Lines.{banned, total, Connected, single, linked}
use Rattle.model.specs.Stretch.{Stretch, greatest_stretch, unknown, apart, gap, banned_pair, remaining, StretchAnswer, remains, refused, check_stretch}
use Rattle.model.proofs.Tests.{neither}
use Rattle.model.proofs.Skipping.{Left, taken, no_pair, meet}
use Rattle.stretches.specs.declared.stretch.Remaining.{Remaining}
use Rattle.work_area.specs.Area.{Held}
use Rattle.stretches.specs.Known.{Known}
use Rattle.stretches.specs.Stretch.{part_of, Leaves, Passes}
use Rattle.stretches.proofs.Stretches.{known_all, known_drop}

some_taken : (m : Map) (n : ℕ) (ls : List ℕ) → 0 < total m (take n ls) → 0 < n
unfolding total
some_taken m zero ls h = h
some_taken m (suc n) ls h = omega arith

module _ (m : Map) (s : Stretch) where
  pub no_lines : length s.lines ≡ 0 → check_stretch m s ≡ refused (row 7)
  unfolding check_stretch
  no_lines e = rw (eq-eqb _ _ e, check_stretch)

  pub too_many : (length s.lines ≡ 0 → ⊥) → greatest_stretch < length s.lines → check_stretch m s ≡ refused (row 7)
  unfolding check_stretch
  too_many n e = rw (ne_eqb _ _ n, lt-ltb _ _ e, check_stretch)

  module _ (some : length s.lines ≡ 0 → ⊥) (few : length s.lines ≤ greatest_stretch) where
    pub no_such_line : unknown m s.lines ≡ true → check_stretch m s ≡ refused (row 7)
    unfolding check_stretch
    no_such_line e = rw (ne_eqb _ _ some, le-ltb _ _ few, e, check_stretch)

    module _ (known : unknown m s.lines ≡ false) where
      pub not_joined : gap m s.lines ≡ true → check_stretch m s ≡ refused (row 8)
      unfolding check_stretch
      not_joined e = rw (ne_eqb _ _ some, le-ltb _ _ few, known, e, check_stretch)

      pub banned_turn : gap m s.lines ≡ false → banned_pair m s.lines ≡ true → check_stretch m s ≡ refused (row 21)
      unfolding check_stretch
      banned_turn joint e = rw (ne_eqb _ _ some, le-ltb _ _ few, known, joint, e, check_stretch)

      module _ (joint : gap m s.lines ≡ false) (free : banned_pair m s.lines ≡ false) where
        pub too_far : total m s.lines ≤ s.pos + s.neg → check_stretch m s ≡ refused (row 9)
        unfolding check_stretch
        too_far e = rw (ne_eqb _ _ some, le-ltb _ _ few, known, joint, free, le-leb _ _ e, check_stretch)

        passed : s.pos + s.neg < total m s.lines → check_stretch m s ≡ remains (remaining m s)
        unfolding check_stretch
        passed e = rw (ne_eqb _ _ some, le-ltb _ _ few, known, joint, free, lt-leb _ _ e, check_stretch)

        pub left : s.pos + s.neg < total m s.lines → (r : Remaining) → Leaves m s r → Passes m s r
        left below r l =
            let p : check_stretch m s ≡ remains (part_of s r) = passed below ∙ ap remains l.same in
            let k = (taken m s (part_of s r) p).1.below in
            record { ordered = omega (arith, some_taken m (r.to - r.from) (drop r.from s.lines) (omega arith)); inside = l.inside; checked = p }

-- Where no line is unknown, each is one of the map's.
pub known_of : {m : Map} {lines : ℕ} {work : List ℕ} (ls : List ℕ) → Held work lines m → false ≡ unknown m ls → Known lines ls
known_of {m = m} ls held e = rw held.line_count at (known_all m ls (sym e))

-- Known lines without a gap and without a banned pair are connected.
connected_of : (m : Map) (ls : List ℕ) → 0 < length ls → Known (length m.lines) ls → gap m ls ≡ false → banned_pair m ls ≡ false → Connected m ls
connected_of m [] some known joint free = absurd (omega arith)
connected_of m (l ∷ []) some known joint free = single (known 0 some)
connected_of m (l ∷ k ∷ ls) some known joint free =
    let j = no_pair (apart m) l k ls joint in
    let f = no_pair (banned m) l k ls free in
    linked (known 0 some) (record { line = known 1 (omega arith); meets = meet m l k j.0; allowed = f.0 })
    (connected_of m (k ∷ ls) (omega arith) (λ i h. known (suc i) (omega arith)) j.1 f.1)

pub known_take : (lines : ℕ) (ls : List ℕ) (n : ℕ) → Known lines ls → Known lines (take n ls)
known_take lines ls n known i h =
    let k = length-take n ls in
    rw (get_or-take n ls i 0 (omega arith)) (known i (omega arith))

-- A stretch that is not refused has no unknown line.
not_refused : (t : Bool) {rest : StretchAnswer} {r : Stretch} → cond t (refused (row 7)) rest ≡ remains r → (t ≡ false) × (rest ≡ remains r)
not_refused true e = absurd (let z : ◌≡◌ {A = ℕ} 0 1 = cc in omega arith)
not_refused false e = (refl, e)

none_unknown : (m : Map) (s r : Stretch) → check_stretch m s ≡ remains r → unknown m s.lines ≡ false
unfolding check_stretch
none_unknown m s r e =
    let few = eqb (length s.lines) 0 || ltb greatest_stretch (length s.lines) in
    (neither few (unknown m s.lines) (not_refused (few || unknown m s.lines) e).0).1

-- What remains of a stretch that is not refused: its lines are connected, and its offsets end on the first and the last of them.
module _ {m : Map} {s : Stretch} {r : Remaining} (l : Passes m s r) where
  pub left_of : Left m (part_of s r)
  left_of = (taken m s (part_of s r) l.checked).1

  pub left_connected : Connected m (part_of s r).lines
  left_connected =
      let ls = s.lines in
      let size : 0 < length (take (r.to - r.from) (drop r.from ls)) =
      omega (arith, length-take (r.to - r.from) (drop r.from ls), length-drop r.from ls, l.ordered, l.inside) in
      let known = known_all m ls (none_unknown m s (part_of s r) l.checked) in
      connected_of m (part_of s r).lines size (known_take _ (drop r.from ls) (r.to - r.from) (known_drop _ ls r.from known)) left_of.joint left_of.free
