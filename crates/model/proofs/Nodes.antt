-- On a decoded map two nodes with the same codes, or the same coordinates, are the same node: so the reader's search finds the node meant.
use Prim.Native.Nat.{ℕ, zero, suc, ◌+◌, ◌<◌}
use mathlib.Core.Path.{◌≡◌, refl, ◌∙◌, ap}
use mathlib.Core.Bool.{Bool, true, false}
use mathlib.Core.List.{List, [], ◌∷◌}
use native.Mathlib.Omega.{arith}
use lib.ListN.{length, get_or}
use borrow.Author.Tests.{eq-eqb, ne_eqb}
use Rattle.model.specs.Map.{Node, Map, whole, decode, lon_code, lat_code, same_codes, among, clash}
use Rattle.model.specs.Difference.{lon_sum, signed, Difference, DifferencesFit, differences, stands_at}
use Rattle.model.specs.Lines.{node_at}
use Rattle.model.specs.Locate.{found, missing, seek, has_codes}
use Rattle.model.proofs.Tests.{neither}
use Rattle.model.specs.WellFormed.{NodeOk, WellFormed}
use Rattle.model.proofs.Decoded.{well_formed}
use Rattle.model.proofs.Differences.{stands_there, stands_only}

not_among : (a : Node) (nodes : List Node) (i : ℕ) (d : Node) → among a nodes ≡ false → i < length nodes → same_codes a (get_or nodes i d) ≡ false
unfolding among
not_among a [] i d e h = absurd (omega arith)
not_among a (b ∷ rest) zero d e h = (neither (same_codes a b) (among a rest) e).0
not_among a (b ∷ rest) (suc i) d e h = not_among a rest i d (neither (same_codes a b) (among a rest) e).1 (omega arith)

-- The search finds the node that passes the test, where whatever passes it has that node's codes.
found_at : (test : Node → Bool) (v : ℕ) (nodes : List Node) (i : ℕ) (d : Node) → clash nodes ≡ false → i < length nodes →
    test (get_or nodes i d) ≡ true → ((b : Node) → test b ≡ true → same_codes b (get_or nodes i d) ≡ true) → seek test v nodes ≡ found (v + i)
unfolding seek clash
found_at test v [] i d e h t only = absurd (omega arith)
found_at test v (a ∷ rest) zero d e h t only = rw (t, seek) (let same : v ≡ v + 0 = omega arith in cc)
found_at test v (a ∷ rest) (suc i) d e h t only =
    let e' = neither (among a rest) (clash rest) e in
    go (test a) refl (not_among a rest i d e'.0 (omega arith)) (found_at test (v + 1) rest i d e'.1 (omega arith) t only)
  where
    go : (t : Bool) → test a ≡ t → same_codes a (get_or rest i d) ≡ false → seek test (v + 1) rest ≡ found (v + 1 + i) →
        elim t [ true ↦ found v | false ↦ seek test (v + 1) rest ] ≡ found (v + suc i)
    go true t apart later = let same = only a t in cc
    go false t apart later = let same : v + 1 + i ≡ v + suc i = omega arith in cc

pub same_codes_lem : (a b : Node) → lon_code a ≡ lon_code b → lat_code a ≡ lat_code b → same_codes a b ≡ true
unfolding same_codes
same_codes_lem a b lon lat = rw (eq-eqb _ _ lon, eq-eqb _ _ lat)

module _ (m : Map) (w : WellFormed m) (v : ℕ) (known : v < length m.nodes) where
  pub found_node : (test : Node → Bool) → test (node_at m v) ≡ true → ((b : Node) → test b ≡ true → same_codes b (node_at m v) ≡ true) →
      seek test 0 m.nodes ≡ found v
  unfolding node_at
  found_node test t only =
      let zero_left : 0 + v ≡ v = omega arith in
      found_at test 0 m.nodes v _ w.distinct known t only ∙ ap found zero_left

  -- A node is found by its codes, and by the differences to it.
  pub by_codes : seek (has_codes (lon_code (node_at m v)) (lat_code (node_at m v))) 0 m.nodes ≡ found v
  unfolding has_codes same_codes
  by_codes = found_node (λ b. same_codes b (node_at m v)) (same_codes_lem _ _ refl refl) λ b t. t

  pub by_differences : (a : Node) → NodeOk a → DifferencesFit a (node_at m v) → seek (stands_at a (differences a (node_at m v))) 0 m.nodes ≡ found v
  by_differences a ok fit =
      let ok' = w.node_ok v known in
      found_node _ (stands_there a _ ok ok' fit) λ b t.
      let same = stands_only a _ ok ok' fit b t in
      same_codes_lem _ _ (ap lon_code same) (ap lat_code same)

-- No node stands at longitude 17,999,999: a sum that comes to it is a point without a node (W2; refusal 16).
seek_none : (test : Node → Bool) (v : ℕ) (nodes : List Node) (d : Node) → ((i : ℕ) → i < length nodes → test (get_or nodes i d) ≡ false) →
    seek test v nodes ≡ missing
unfolding seek
seek_none test v [] d none = refl
seek_none test v (a ∷ nodes) d none = rw (none 0 (omega arith), seek) (seek_none test (v + 1) nodes d λ i h. none (suc i) (omega arith))

pub no_node_at_end : (m : Map) → WellFormed m → (a : Node) (d : Difference) → lon_sum a.lon (signed d.lon) ≡ 35_999_999 →
    seek (stands_at a d) 0 m.nodes ≡ missing
unfolding stands_at node_at
no_node_at_end m w a d end =
    seek_none (stands_at a d) 0 m.nodes (record { lon = 0; lat = 0 }) λ i h.
    let other = ne_eqb (lon_sum a.lon (signed d.lon)) (node_at m i).lon (λ e. absurd (omega (arith, (w.node_ok i h).lon))) in
    rw other refl

-- So a node's number is told by its codes, and by its coordinates.
module _ (m : Map) (mb : List ℕ) (decodes : decode mb ≡ whole m) (u v : ℕ) (known : u < length m.nodes) (known' : v < length m.nodes) where
  pub one_node : lon_code (node_at m u) ≡ lon_code (node_at m v) → lat_code (node_at m u) ≡ lat_code (node_at m v) → u ≡ v
  one_node lon lat =
      let w = well_formed m mb decodes in
      let a = by_codes m w u known in
      let b : seek (has_codes (lon_code (node_at m u)) (lat_code (node_at m u))) 0 m.nodes ≡ found v = rw (lon, lat) (by_codes m w v known') in
      cc

  pub one_place : node_at m u ≡ node_at m v → u ≡ v
  one_place same = one_node (ap lon_code same) (ap lat_code same)
