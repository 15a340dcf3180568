-- The mirrored map: its lines, its turns, each listed once, and its connected lists are those of the map, the other way round.
use Rattle.model.specs.Map.{Line, no_line, Turn, Map}
use Rattle.model.specs.Lines.{line_at, turn_among, banned, Follows}
use Prim.Native.Nat.{ℕ, suc, ◌+◌, ◌≤◌, ◌<◌}
use mathlib.Core.Path.{◌≡◌, refl, sym, ap, ap₂, ◌∙◌}
use mathlib.Core.Bool.{Bool, true, false, cond, ◌&&◌, ◌||◌, and_comm, or-false, or_assoc}
use mathlib.Core.List.{List, [], ◌∷◌, ◌++◌, map, map-append}
use native.Mathlib.Decide.{ℕ_discrete}
use native.Mathlib.Omega.{arith}
use lib.ListN.{length, length-append, length-map, get_or-map}
use lib.Dec.{eqb}
use borrow.Author.Tests.{eq-eqb, ne_eqb}
use Rattle.work_area.specs.Mirror.{mirror_line, mirror_turn, with_turn, mirror_behind, mirror_turns, mirror}

pub line_mirrored : (m : Map) (l : ℕ) → line_at (mirror m) l ≡ mirror_line (line_at m l)
unfolding line_at
line_mirrored m l = get_or-map mirror_line m.lines l no_line

pub lines_mirrored : (m : Map) → length (mirror m).lines ≡ length m.lines
lines_mirrored m = length-map m.lines mirror_line

-- ---- one turn more, unless it is among them

abbrev is : Turn → ℕ → ℕ → Bool
is t l k = eqb t.first l && eqb t.second k

among_behind : (ts : List Turn) (t : Turn) (l k : ℕ) → turn_among (ts ++ t ∷ []) l k ≡ (turn_among ts l k || is t l k)
unfolding turn_among
among_behind [] t l k = or-false (is t l k)
among_behind (x ∷ ts) t l k =
    ap (λ (b : Bool). is x l k || b) (among_behind ts t l k) ∙ sym (or_assoc (is x l k) (turn_among ts l k) (is t l k))

-- A turn that is among them adds none.
among_already : (ts : List Turn) (t : Turn) (l k : ℕ) → turn_among ts t.first t.second ≡ true → turn_among ts l k ≡ (turn_among ts l k || is t l k)
among_already ts t l k there = go (ℕ_discrete t.first l) (ℕ_discrete t.second k)
  where
    go : Dec (t.first ≡ l) → Dec (t.second ≡ k) → turn_among ts l k ≡ (turn_among ts l k || is t l k)
    go (yes e) (yes f) = let here : turn_among ts l k ≡ true = ap₂ (turn_among ts) (sym e) (sym f) ∙ there in rw here
    go (yes e) (no d) = rw (eq-eqb _ _ e, ne_eqb _ _ d) (sym (or-false (turn_among ts l k)))
    go (no d) f = rw (ne_eqb _ _ d) (sym (or-false (turn_among ts l k)))

among_with : (ts : List Turn) (t : Turn) (l k : ℕ) → turn_among (with_turn ts t) l k ≡ (turn_among ts l k || is t l k)
unfolding with_turn
among_with ts t l k = go (turn_among ts t.first t.second) refl
  where
    go : (b : Bool) → turn_among ts t.first t.second ≡ b → turn_among (cond b ts (ts ++ t ∷ [])) l k ≡ (turn_among ts l k || is t l k)
    go true there = among_already ts t l k there
    go false there = among_behind ts t l k

-- It is one longer at most.
with_length : (ts : List Turn) (t : Turn) → length (with_turn ts t) ≤ suc (length ts)
unfolding with_turn
with_length ts t = go (turn_among ts t.first t.second)
  where
    go : (b : Bool) → length (cond b ts (ts ++ t ∷ [])) ≤ suc (length ts)
    go true = omega arith
    go false = omega (arith, length-append ts (t ∷ []))

-- What it is, once it is known whether the turn is among them.
module _ (ts : List Turn) (t : Turn) where
  pub with_old : turn_among ts t.first t.second ≡ true → with_turn ts t ≡ ts
  unfolding with_turn
  with_old e = rw e

  pub with_new : turn_among ts t.first t.second ≡ false → with_turn ts t ≡ (ts ++ t ∷ [])
  unfolding with_turn
  with_new e = rw e

-- ---- the turns, each listed once

behind_more : (done ts : List Turn) (t : Turn) → mirror_behind done (ts ++ t ∷ []) ≡ with_turn (mirror_behind done ts) (mirror_turn t)
unfolding mirror_behind
behind_more done [] t = refl
behind_more done (x ∷ ts) t = behind_more (with_turn done (mirror_turn x)) ts t

pub turns_more : (ts : List Turn) (t : Turn) → mirror_turns (ts ++ t ∷ []) ≡ with_turn (mirror_turns ts) (mirror_turn t)
turns_more ts t = behind_more [] ts t

behind_length : (done ts : List Turn) → length (mirror_behind done ts) ≤ length done + length ts
unfolding mirror_behind
behind_length done [] = omega arith
behind_length done (t ∷ ts) = omega (arith, behind_length (with_turn done (mirror_turn t)) ts, with_length done (mirror_turn t))

pub turns_length : (ts : List Turn) → length (mirror_turns ts) ≤ length ts
turns_length ts = omega (arith, behind_length [] ts)

behind_among : (done ts : List Turn) (l k : ℕ) → turn_among (mirror_behind done ts) k l ≡ (turn_among done k l || turn_among ts l k)
unfolding turn_among mirror_behind
behind_among done [] l k = sym (or-false (turn_among done k l))
behind_among done (t ∷ ts) l k =
    behind_among (with_turn done (mirror_turn t)) ts l k
    ∙ ap (λ (b : Bool). b || turn_among ts l k) (among_with done (mirror_turn t) k l ∙ ap (λ (b : Bool). turn_among done k l || b) (and_comm (eqb t.second k) (eqb t.first l)))
    ∙ or_assoc (turn_among done k l) (is t l k) (turn_among ts l k)

pub turn_mirrored : (ts : List Turn) (l k : ℕ) → turn_among (mirror_turns ts) k l ≡ turn_among ts l k
unfolding turn_among
turn_mirrored ts l k = behind_among [] ts l k

-- ---- the turns mirrored again: none is listed twice, so none is left out

-- A list without repeats, by its last turn.
data Once : List Turn → Type 0 where
  none : Once []
  more : {ts : List Turn} (t : Turn) → Once ts → turn_among ts t.first t.second ≡ false → Once (ts ++ t ∷ [])

once_with : (ts : List Turn) (t : Turn) → Once ts → Once (with_turn ts t)
unfolding with_turn
once_with ts t once = go (turn_among ts t.first t.second) refl
  where
    go : (b : Bool) → turn_among ts t.first t.second ≡ b → Once (cond b ts (ts ++ t ∷ []))
    go true there = once
    go false there = more t once there

once_behind : (done ts : List Turn) → Once done → Once (mirror_behind done ts)
unfolding mirror_behind
once_behind done [] once = once
once_behind done (t ∷ ts) once = once_behind (with_turn done (mirror_turn t)) ts (once_with done (mirror_turn t) once)

once_mirrored : {ts : List Turn} → Once ts → mirror_turns ts ≡ map mirror_turn ts
unfolding mirror_behind
once_mirrored none = refl
once_mirrored (more {ts} t once new) =
    turns_more ts t
    ∙ with_new (mirror_turns ts) (mirror_turn t) (turn_mirrored ts t.first t.second ∙ new)
    ∙ ap (λ (us : List Turn). us ++ mirror_turn t ∷ []) (once_mirrored once)
    ∙ sym (map-append mirror_turn ts (t ∷ []))

pub turns_twice : (ts : List Turn) → mirror_turns (mirror_turns ts) ≡ map mirror_turn (mirror_turns ts)
turns_twice ts = once_mirrored (once_behind [] ts none)

-- What is the other way round twice is as it was.
twice : {A : Type 0} (f : A → A) → ((x : A) → f (f x) ≡ x) → (xs : List A) → map f (map f xs) ≡ xs
twice f back [] = refl
twice f back (x ∷ xs) = ap₂ (λ (y : _) (ys : List _). y ∷ ys) (back x) (twice f back xs)

pub turns_thrice : (ts : List Turn) → mirror_turns (mirror_turns (mirror_turns ts)) ≡ mirror_turns ts
turns_thrice ts = turns_twice (mirror_turns ts) ∙ ap (map mirror_turn) (turns_twice ts) ∙ twice mirror_turn (λ t. refl) (mirror_turns ts)

pub lines_twice : (ls : List Line) → map mirror_line (map mirror_line ls) ≡ ls
lines_twice ls = twice mirror_line (λ l. refl) ls

-- ---- connected lists

module _ {m : Map} {l k : ℕ} where
  pub follows_mirrored : l < length m.lines → Follows m l k → Follows (mirror m) k l
  unfolding banned
  follows_mirrored l< f =
      record {
        line = omega (arith, lines_mirrored m);
        meets = ap (λ (x : Line). x.end) (line_mirrored m k) ∙ sym f.meets ∙ sym (ap (λ (x : Line). x.start) (line_mirrored m l));
        allowed = turn_mirrored m.bans l k ∙ f.allowed;
      }

  pub follows_back : k < length m.lines → Follows (mirror m) k l → Follows m l k
  unfolding banned
  follows_back k< f =
      record {
        line = k<;
        meets = sym (ap (λ (x : Line). x.start) (line_mirrored m l)) ∙ sym f.meets ∙ ap (λ (x : Line). x.end) (line_mirrored m k);
        allowed = sym (turn_mirrored m.bans l k) ∙ f.allowed;
      }
