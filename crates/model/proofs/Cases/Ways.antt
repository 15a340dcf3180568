-- All connected lists between the nodes of a leg, on a map whose lines run to higher node numbers.
use Prim.Native.Nat.{ℕ, zero, suc, ◌+◌, ◌-◌, ◌≤◌, ◌<◌}
use mathlib.Core.Path.{◌≡◌, refl, sym, subst}
use mathlib.Core.Bool.{Bool, true, false, cond, ◌&&◌, not}
use mathlib.Core.List.{List, [], ◌∷◌, ◌++◌, Memᴰ, map}
use native.Mathlib.Decide.{ℕ_discrete}
use native.Mathlib.Omega.{arith}
use lib.ListN.{length}
use lib.Dec.{ltb, eqb}
use borrow.Author.Tests.{ltb-true, eqb-true, eq-eqb}
use Rattle.model.specs.Map.{Map}
use Rattle.model.specs.Lines.{line_at, banned, Connected, single, linked, first_of, last_of}
use Rattle.model.specs.Stretch.{banned_pair}
use Rattle.model.specs.Reading.{Leg, Allowed}
use Rattle.model.proofs.Tests.{both}
use Rattle.model.proofs.Bans.{free}

-- A property of each element of a list.
abbrev pub Every : {A : Type 0} → (A → Type 0) → List A → Type 0
Every P [] = Unit {0}
Every P (x ∷ xs) = P x × Every P xs

pub every : {A : Type 0} (P : A → Type 0) {x : A} {xs : List A} → Every P xs → Memᴰ x xs → P x
every {A = A} P {xs = []} p m = elim m [ ]
every P {xs = x ∷ xs} (p, ps) (mathlib.Core.List.Memᴰ.head e) = subst P (sym e) p
every P {xs = x ∷ xs} (p, ps) (mathlib.Core.List.Memᴰ.tail m) = every P ps m

-- Each of the first `count` lines runs from a lower to a higher node number.
unfoldable pub upward : Map → ℕ → Bool
upward m zero = true
upward m (suc l) = cond (ltb (line_at m l).start (line_at m l).end) (upward m l) false

-- Line `l` and those after it are lines of the map, each ending where the next starts, without a banned pair.
unfoldable pub run : Map → ℕ → List ℕ → Bool
run m l [] = ltb l (length m.lines)
run m l (k ∷ ls) = ltb l (length m.lines) && (eqb (line_at m l).end (line_at m k).start && (not (banned m l k) && run m k ls))

-- Line `l` alone, and in front of each list from where it ends.
abbrev headed : Map → (ℕ → List (List ℕ)) → ℕ → List (List ℕ)
headed m onward l = (l ∷ []) ∷ map (λ (ls : List ℕ). l ∷ ls) (onward (line_at m l).end)

-- The connected lists from node `v` whose first line is one of the first `count`, given those from each node that a line may end at.
unfoldable pub starting : Map → (ℕ → List (List ℕ)) → ℕ → ℕ → List (List ℕ)
starting m onward v zero = []
starting m onward v (suc l) =
    cond (eqb (line_at m l).start v) (headed m onward l ++ starting m onward v l) (starting m onward v l)

-- Those of at most `most` lines.
unfoldable pub routes : Map → ℕ → ℕ → List (List ℕ)
routes m zero v = []
routes m (suc most) v = starting m (routes m most) v (length m.lines)

-- Those of some lists that end at node `w` and have no banned pair.
unfoldable pub ending : Map → ℕ → List (List ℕ) → List (List ℕ)
ending m w [] = []
ending m w (ls ∷ lss) = cond (eqb (line_at m (last_of ls)).end w && not (banned_pair m ls)) (ls ∷ ending m w lss) (ending m w lss)

unfoldable pub ways : Map → Leg → List (List ℕ)
ways m leg = ending m leg.to (routes m (leg.to - leg.from) leg.from)

-- One name for all of these.
unfoldable pub finding : Unit {0}
unfolding upward starting routes ending ways run
finding = tt

module _ (m : Map) (onward : ℕ → List (List ℕ)) (v : ℕ) (ls : List ℕ) where
  here : (l : ℕ) → (line_at m l).start ≡ v → Memᴰ ls (headed m onward l) → Memᴰ ls (starting m onward v (suc l))
  unfolding starting
  here l e i = rw (eq-eqb (line_at m l).start v e) (mathlib.Core.List.Memᴰ.append_left (starting m onward v l) i)

  kept : (t : Bool) (xs ys : List (List ℕ)) → Memᴰ ls ys → Memᴰ ls (cond t (xs ++ ys) ys)
  kept true xs ys i = mathlib.Core.List.Memᴰ.append_right xs i
  kept false xs ys i = i

  in_starting : (count l : ℕ) → l < count → (line_at m l).start ≡ v → Memᴰ ls (headed m onward l) → Memᴰ ls (starting m onward v count)
  unfolding starting
  in_starting zero l h e i = absurd (omega arith)
  in_starting (suc c) l h e i = go (ℕ_discrete l c) λ k. in_starting c l k e i
    where
      go : Dec (l ≡ c) → (l < c → Memᴰ ls (starting m onward v c)) → Memᴰ ls (starting m onward v (suc c))
      go (yes same) rest = subst (λ (k : ℕ). Memᴰ ls (starting m onward v (suc k))) same (here l e i)
      go (no other) rest =
          kept (eqb (line_at m c).start v) (headed m onward c) (starting m onward v c) (rest (omega (arith, other)))

in_routes : (m : Map) (most : ℕ) {ls : List ℕ} → Connected m ls → length ls ≤ most → Memᴰ ls (routes m most (line_at m (first_of ls)).start)
unfolding routes first_of
in_routes m zero (single h) k = absurd (omega arith)
in_routes m zero (linked h f c) k = absurd (omega arith)
in_routes m (suc most) (single {l = l} h) k = in_starting m (routes m most) _ _ _ l h refl (mathlib.Core.List.Memᴰ.head refl)
in_routes m (suc most) (linked {l = l} {k = k} {ls = ls} h f c) j =
    let rest : Memᴰ (k ∷ ls) (routes m most (line_at m l).end) = rw f.meets (in_routes m most c (omega arith)) in
    in_starting m (routes m most) _ _ _ l h refl (mathlib.Core.List.Memᴰ.tail (mathlib.Core.List.Memᴰ.map (λ (ls : List ℕ). l ∷ ls) rest))

module _ (m : Map) (w : ℕ) {ls : List ℕ} (e : (line_at m (last_of ls)).end ≡ w) (f : banned_pair m ls ≡ false) where
  in_ending : {lss : List (List ℕ)} → Memᴰ ls lss → Memᴰ ls (ending m w lss)
  unfolding ending
  in_ending (mathlib.Core.List.Memᴰ.head {x = ks} {xs = xs} same) =
      let there : (line_at m (last_of ks)).end ≡ w = subst (λ (l : List ℕ). (line_at m (last_of l)).end ≡ w) same e in
      let without : banned_pair m ks ≡ false = subst (λ (l : List ℕ). banned_pair m l ≡ false) same f in
      rw (eq-eqb (line_at m (last_of ks)).end w there, without) (mathlib.Core.List.Memᴰ.head same)
  in_ending (mathlib.Core.List.Memᴰ.tail {x = ks} {xs = xs} i) = go (eqb (line_at m (last_of ks)).end w && not (banned_pair m ks)) (in_ending i)
    where
      go : (t : Bool) → Memᴰ ls (ending m w xs) → Memᴰ ls (cond t (ks ∷ ending m w xs) (ending m w xs))
      go true j = mathlib.Core.List.Memᴰ.tail j
      go false j = j

not-true : (t : Bool) → not t ≡ true → t ≡ false
not-true true e = let z : ◌≡◌ {A = ℕ} 0 1 = cc in absurd (omega arith)
not-true false e = refl

pub connects : (m : Map) (l : ℕ) (ls : List ℕ) → run m l ls ≡ true → Connected m (l ∷ ls)
unfolding run
connects m l [] e = single (ltb-true _ _ e)
connects m l (k ∷ ls) e =
    let here = both (ltb l (length m.lines)) _ e in
    let meets = both (eqb (line_at m l).end (line_at m k).start) _ here.1 in
    let next = both (not (banned m l k)) (run m k ls) meets.1 in
    linked (ltb-true _ _ here.0) (record { line = known k ls next.1; meets = eqb-true _ _ meets.0; allowed = not-true _ next.0 })
    (connects m k ls next.1)
  where
    known : (k : ℕ) (ls : List ℕ) → run m k ls ≡ true → k < length m.lines
    known k [] e = ltb-true _ _ e
    known k (j ∷ ls) e = ltb-true _ _ (both (ltb k (length m.lines)) _ e).0

-- A list has no more lines than the node numbers between its ends allow.
rises : (m : Map) (count l : ℕ) → upward m count ≡ true → l < count → (line_at m l).start < (line_at m l).end
unfolding upward
rises m zero l u h = absurd (omega arith)
rises m (suc c) l u h = go (ltb (line_at m c).start (line_at m c).end) refl u (ℕ_discrete l c) λ u' k. rises m c l u' k
  where
    go : (t : Bool) → ltb (line_at m c).start (line_at m c).end ≡ t → cond t (upward m c) false ≡ true → Dec (l ≡ c) →
        (upward m c ≡ true → l < c → (line_at m l).start < (line_at m l).end) → (line_at m l).start < (line_at m l).end
    go true e u' (yes same) rest = rw same (ltb-true _ _ e)
    go true e u' (no other) rest = rest u' (omega (arith, other))
    go false e u' d rest = absurd (let z : ◌≡◌ {A = ℕ} 0 1 = cc in omega arith)

few : {m : Map} {ls : List ℕ} → upward m (length m.lines) ≡ true → Connected m ls →
    length ls + (line_at m (first_of ls)).start ≤ (line_at m (last_of ls)).end
unfolding first_of last_of
few u (single h) = omega (arith, rises _ _ _ u h)
few u (linked h f c) = omega (arith, rises _ _ _ u h, f.meets, few u c)

pub in_ways : (m : Map) (leg : Leg) → upward m (length m.lines) ≡ true → (ls : List ℕ) → Allowed m leg ls → Memᴰ ls (ways m leg)
unfolding ways
in_ways m leg up ls a =
    in_ending m leg.to a.ends (free a.connected)
    (subst (λ (v : ℕ). Memᴰ ls (routes m (leg.to - leg.from) v)) a.starts
    (in_routes m (leg.to - leg.from) a.connected (omega (arith, few up a.connected, a.starts, a.ends))))
