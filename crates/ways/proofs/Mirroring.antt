-- Ways of the map are ways of the mirrored map, backwards.
use Rattle.model.specs.Map.{Line, Map}
use Rattle.model.specs.Lines.{line_at, Follows, Connected, single, linked, total, lowest, first_of, last_of}
use Rattle.model.proofs.Skipping.{total_append, last_append}
use Prim.Native.Nat.{ℕ, ◌<◌, max}
use mathlib.Core.Path.{◌≡◌, refl, sym, ap, subst, ◌∙◌}
use mathlib.Core.List.{List, [], ◌∷◌, ◌++◌}
use native.Mathlib.Omega.{arith}
use lib.ListN.{length}
use Rattle.work_area.specs.Mirror.{mirror}
use Rattle.work_area.proofs.Mirrored.{line_mirrored, lines_mirrored, follows_mirrored, follows_back}
use Rattle.way_lengths.specs.declared.Terminus.{Terminus}
use Rattle.way_lengths.specs.Ways.{Begins, Ends, Way, Reached, Least, OnlyWay, Two, Beyond}
use Rattle.way_lengths.proofs.Plain.{connected_more}
use Rattle.way_lengths.specs.declared.Terminus.TheVariants as at

-- ---- a list backwards

abbrev pub backwards : List ℕ → List ℕ
backwards [] = []
backwards (l ∷ ls) = backwards ls ++ l ∷ []

pub backwards_more : (ls : List ℕ) (l : ℕ) → backwards (ls ++ l ∷ []) ≡ l ∷ backwards ls
backwards_more [] l = refl
backwards_more (k ∷ ls) l = ap (λ (r : List ℕ). r ++ k ∷ []) (backwards_more ls l)

pub backwards_twice : (ls : List ℕ) → backwards (backwards ls) ≡ ls
backwards_twice [] = refl
backwards_twice (l ∷ ls) = backwards_more (backwards ls) l ∙ ap (λ (r : List ℕ). l ∷ r) (backwards_twice ls)

first_backwards : (ls : List ℕ) → first_of (backwards ls) ≡ last_of ls
unfolding first_of last_of
first_backwards [] = refl
first_backwards (l ∷ []) = refl
first_backwards (l ∷ k ∷ ls) = first_snoc (backwards ls) k l ∙ first_backwards (k ∷ ls)
  where
    first_snoc : (xs : List ℕ) (k l : ℕ) → first_of ((xs ++ k ∷ []) ++ l ∷ []) ≡ first_of (xs ++ k ∷ [])
    first_snoc [] k l = refl
    first_snoc (x ∷ xs) k l = refl

last_backwards : (ls : List ℕ) → last_of (backwards ls) ≡ first_of ls
unfolding first_of last_of
last_backwards [] = refl
last_backwards (l ∷ ls) = last_append (backwards ls) (l ∷ []) (omega arith)

-- ---- its lines on the mirrored map

module _ (m : Map) where
  pub total_mirrored : (ls : List ℕ) → total (mirror m) (backwards ls) ≡ total m ls
  unfolding total
  total_mirrored [] = refl
  total_mirrored (l ∷ ls) =
      omega (arith, total_append (mirror m) (backwards ls) (l ∷ []), total_mirrored ls, ap (λ (x : Line). x.length) (line_mirrored m l))

  lowest_mirrored : (ls : List ℕ) → lowest (mirror m) (backwards ls) ≡ lowest m ls
  unfolding lowest
  lowest_mirrored [] = refl
  lowest_mirrored (l ∷ ls) =
      omega (arith, lowest_more (backwards ls) l, lowest_mirrored ls, ap (λ (x : Line). x.frc) (line_mirrored m l))
    where
      lowest_more : (xs : List ℕ) (l : ℕ) → lowest (mirror m) (xs ++ l ∷ []) ≡ max (lowest (mirror m) xs) (line_at (mirror m) l).frc
      lowest_more [] l = omega arith
      lowest_more (x ∷ xs) l = omega (arith, lowest_more xs l)

first_is : (k : ℕ) (ls : List ℕ) → first_of (k ∷ ls) ≡ k
unfolding first_of
first_is k ls = refl

-- A connected list of one map is one of the other, backwards, where lines follow one another the other way round.
connected_turned : {m n : Map} {ls : List ℕ} → length m.lines ≡ length n.lines →
    ((l k : ℕ) → l < length m.lines → Follows m l k → Follows n k l) → Connected m ls → Connected n (backwards ls)
connected_turned same turn (single {l} h) = single {l = l} (omega arith)
connected_turned {m} {n} same turn (linked {l} {k} {ls} h f c) =
    connected_more (connected_turned same turn c) (omega arith)
    (subst (λ (x : ℕ). Follows n x l) (sym (last_backwards (k ∷ ls) ∙ first_is k ls)) (turn l k h f))

-- ---- where ways begin and end

module _ (m : Map) where
  begins_mirrored : (t : Terminus) (l : ℕ) → Ends m t l → Begins (mirror m) t l
  begins_mirrored (at.Line t) l e = e
  begins_mirrored (at.Node v) l e = ap (λ (x : Line). x.start) (line_mirrored m l) ∙ e

  ends_mirrored : (t : Terminus) (l : ℕ) → Begins m t l → Ends (mirror m) t l
  ends_mirrored (at.Line t) l e = e
  ends_mirrored (at.Node v) l e = ap (λ (x : Line). x.end) (line_mirrored m l) ∙ e

  ends_back : (t : Terminus) (l : ℕ) → Begins (mirror m) t l → Ends m t l
  ends_back (at.Line t) l e = e
  ends_back (at.Node v) l e = sym (ap (λ (x : Line). x.start) (line_mirrored m l)) ∙ e

  begins_back : (t : Terminus) (l : ℕ) → Ends (mirror m) t l → Begins m t l
  begins_back (at.Line t) l e = e
  begins_back (at.Node v) l e = sym (ap (λ (x : Line). x.end) (line_mirrored m l)) ∙ e

-- ---- ways

module _ {m : Map} where
  module _ {c : ℕ} {from to : Terminus} where
    pub way_mirrored : {ls : List ℕ} → Way m c from to ls → Way (mirror m) c to from (backwards ls)
    way_mirrored {ls} p =
        record {
          connected = connected_turned (sym (lines_mirrored m)) (λ l k l< f. follows_mirrored l< f) p.connected;
          starts = begins_mirrored m to _ (subst (Ends m to) (sym (first_backwards ls)) p.ends);
          ends = ends_mirrored m from _ (subst (Begins m from) (sym (last_backwards ls)) p.starts);
          classes = let k = p.classes in omega (arith, lowest_mirrored m ls);
        }

    way_back : {ls : List ℕ} → Way (mirror m) c to from ls → Way m c from to (backwards ls)
    way_back {ls} p =
        record {
          connected = connected_turned (lines_mirrored m) (λ l k l< f. follows_back (omega (arith, lines_mirrored m)) f) p.connected;
          starts = begins_back m from _ (subst (Ends (mirror m) from) (sym (first_backwards ls)) p.ends);
          ends = ends_back m to _ (subst (Begins (mirror m) to) (sym (last_backwards ls)) p.starts);
          classes = let k = p.classes in omega (arith, lowest_mirrored m (backwards ls), ap (lowest (mirror m)) (backwards_twice ls));
        }

    abbrev reached_back : {d : ℕ} → Reached (mirror m) c to from d → Reached m c from to d
    reached_back r =
        record {
          list = backwards r.list;
          way = way_back r.way;
          sum = sym (total_mirrored m (backwards r.list)) ∙ ap (total (mirror m)) (backwards_twice r.list) ∙ r.sum;
        }

    pub beyond_back : {limit : ℕ} → Beyond (mirror m) c to from limit → Beyond m c from to limit
    beyond_back far ls p = omega (arith, far (backwards ls) (way_mirrored p), total_mirrored m ls)

    pub least_back : {d : ℕ} → Least (mirror m) c to from d → Least m c from to d
    least_back l =
        record {
          some = reached_back l.some;
          least = λ ls p. omega (arith, l.least (backwards ls) (way_mirrored p), total_mirrored m ls);
        }

    pub only_back : {d : ℕ} {list : List ℕ} → OnlyWay (mirror m) c to from d list → OnlyWay m c from to d (backwards list)
    only_back {d} {list} o =
        let r = reached_back (record { list = list; way = o.way; sum = o.sum }) in
        record {
          way = r.way;
          sum = r.sum;
          only = λ ls p e.
              sym (backwards_twice ls) ∙ ap backwards (o.only (backwards ls) (way_mirrored p) (total_mirrored m ls ∙ e));
        }

    pub two_back : {d : ℕ} → Two (mirror m) c to from d → Two m c from to d
    two_back t =
        record {
          one = reached_back t.one;
          other = reached_back t.other;
          differ = λ e. t.differ (sym (backwards_twice t.one.list) ∙ ap backwards e ∙ backwards_twice t.other.list);
        }
