-- How the list is gone through to reset what a search found.
use Rattle.work_area.specs.Area.{line_place, start_node, search_from, lengths_from, heads_from, next_from, last_barred_from}
use Rattle.model.specs.Map.{greatest_node_count, Map}
use Rattle.search_cells.specs.Area.{Mirrored, far, note_weight, list_weight, mark_weight, marked, Chained, Listing, length_to, first_leaving, next_leaving, listed, nearest_free}
use Rattle.model.specs.Lines.{line_at}
use Prim.Native.Nat.{ℕ, ◌+◌, ◌-◌, ◌*◌, ◌/◌, ◌%◌, ◌≤◌, ◌<◌}
use mathlib.Core.Path.{◌≡◌, refl, sym, ◌∙◌, ap, subst}
use mathlib.Core.List.{List}
use mathlib.Core.Logic.{◌≢◌, ⊎_elim}
use native.Mathlib.Nat.{eq-or-lt_of_le}
use native.Mathlib.Omega.{arith}
use lib.ListN.{length, get_or, set, length-set}
use lib.Seq.{get_or-set_other}
use Rattle.buffers.specs.Kept.{Kept}
use Rattle.search_cells.specs.Promises.{Reset}
use Rattle.buffers.proofs.Kept.{kept_then, at_set, kept_set}
use Rattle.search_cells.proofs.Reached.{listing_none}
use Rattle.search_cells.proofs.Keeping.{marked_same}
use Rattle.search_cells.proofs.Places.{place_le, past}
use Rattle.buffers.proofs.Cases.{le_or_lt}
use Rattle.search_cells.proofs.Holding.{held_kept, few}
use Rattle.search_cells.proofs.Leaving.{end_is, end_in}

-- A cell of the next lines with no line on the list at its place: the next line and the mark stay.
pub unlisted_next : (x : ℕ) → (x / mark_weight * mark_weight + x % list_weight) % list_weight ≡ x % list_weight
unlisted_next x = omega arith

pub unlisted_mark : (x : ℕ) → (x / mark_weight * mark_weight + x % list_weight) / mark_weight ≡ x / mark_weight
unlisted_mark x = omega arith

pub unlisted_none : (x : ℕ) → (x / mark_weight * mark_weight + x % list_weight) / list_weight % list_weight ≡ 0
unlisted_none x = omega arith

-- The first `i` places are gone through. A line that is still reached is at one of the others.
pub record Resetting (m : Map) (n count i : ℕ) (u w : List ℕ) : Type 0 where
  pub heads : (a : ℕ) → a < greatest_node_count → first_leaving w a ≡ first_leaving u a
  pub nexts : (k : ℕ) → k < n → (next_leaving w k ≡ next_leaving u k) × (marked w k ≡ marked u k)
  pub gone : (k : ℕ) → k < i → listed w k ≡ 0
  pub left : (k : ℕ) → i ≤ k → k < n → listed w k ≡ listed u k
  pub every : (l : ℕ) → l < n → length_to w l < far → (k : ℕ) × (i ≤ k) × (k < count) × (listed u k ≡ l + 1)
  pub bare : (a : ℕ) → a < length m.nodes → 0 < nearest_free w a → (k : ℕ) × (i ≤ k) × (k < count) × ((line_at m (listed u k - 1)).end ≡ a)
  pub kept : Kept search_from last_barred_from u w

module _ {n count i : ℕ} {u w : List ℕ} {m : Map} (h : Mirrored u n m) (s : Listing u n count) (i< : i < n) (k : Resetting m n count i u w) where
  -- What stands at place `i`.
  pub listed_le : listed w i ≤ n
  listed_le = omega (arith, k.left i (omega arith) i<, place_le s i<)

  pub at_end : listed w i ≡ 0 → count ≤ i
  at_end e = past s i< (sym (k.left i (omega arith) i<) ∙ e)

  -- The node where that line ends.
  module _ (l a : ℕ) (e : l + 1 ≡ listed w i) (at : a ≡ get_or w (line_place l + start_node) 0) where
    here< : l < n
    here< = omega (arith, listed_le)

    ends_at : a ≡ (line_at m l).end
    ends_at = end_is (held_kept (omega arith) k.kept h) here< at

    pub ends_in : a < greatest_node_count
    ends_in = let f = h.formed in omega (arith, end_in (held_kept (omega arith) k.kept h) here< at)

    -- The three stores.
    module _ (x y : ℕ) (cleared : x ≡ get_or w (heads_from + a) 0 % list_weight)
        (left : y ≡ get_or (set (set w (heads_from + a) x) (lengths_from + l) (far * note_weight)) (next_from + i) 0 / mark_weight * mark_weight
        + get_or (set (set w (heads_from + a) x) (lengths_from + l) (far * note_weight)) (next_from + i) 0 % list_weight) where
      abbrev w₁ : List ℕ
      w₁ = set w (heads_from + a) x

      abbrev w₂ : List ℕ
      w₂ = set w₁ (lengths_from + l) (far * note_weight)

      abbrev w₃ : List ℕ
      w₃ = set w₂ (next_from + i) y

      next_at : (b : ℕ) → b < n → get_or w₂ (next_from + b) 0 ≡ get_or w (next_from + b) 0
      next_at b b< =
          let n≤ = few h in
          let z = ends_in in
          let t = here< in
          get_or-set_other w₁ (lengths_from + l) (next_from + b) (far * note_weight) 0 (omega arith) ∙ get_or-set_other w (heads_from + a) (next_from + b) x 0 (omega arith)

      head_at : (b : ℕ) → b < greatest_node_count → get_or w₃ (heads_from + b) 0 ≡ get_or w₁ (heads_from + b) 0
      head_at b b< =
          let n≤ = few h in
          let t = here< in
          get_or-set_other w₂ (next_from + i) (heads_from + b) y 0 (omega arith) ∙ get_or-set_other w₁ (lengths_from + l) (heads_from + b) (far * note_weight) 0 (omega arith)

      later : (b c : ℕ) → b ≢ l → i ≤ c → listed u c ≡ b + 1 → i + 1 ≤ c
      later b c d p r =
          ⊎_elim
          (λ z. absurd (d (omega (arith, e, k.left i (omega arith) i<, subst (λ (q : ℕ). listed u q ≡ b + 1) (sym z) r))))
          (λ l. omega arith)
          (eq-or-lt_of_le {n = i} {m = c} p)

      every : (b : ℕ) → b < n → length_to w₂ b < far → (c : ℕ) × (i + 1 ≤ c) × (c < count) × (listed u c ≡ b + 1)
      every =
          at_set (λ b d. b < n → d / note_weight < far → (c : ℕ) × (i + 1 ≤ c) × (c < count) × (listed u c ≡ b + 1)) w₁ lengths_from l (far * note_weight)
          (let n≤ = few h in let o = k.kept.same in let t = here< in let f = h.full in simp length-set (omega arith))
          (λ b< d. absurd (omega arith))
          (λ b d b< f.
          let z = ends_in in
          let n≤ = few h in
          let g = k.every b b< (rw (get_or-set_other w (heads_from + a) (lengths_from + b) x 0 (omega arith)) at f) in
          (g.0, later b g.0 d g.1 g.3, g.2, g.3))

      bare : (b : ℕ) → b < length m.nodes → 0 < nearest_free w₁ b → (c : ℕ) × (i + 1 ≤ c) × (c < count) × ((line_at m (listed u c - 1)).end ≡ b)
      bare =
          at_set (λ b d. b < length m.nodes → 0 < d / list_weight → (c : ℕ) × (i + 1 ≤ c) × (c < count) × ((line_at m (listed u c - 1)).end ≡ b)) w heads_from a x
          (let o = k.kept.same in let z = ends_in in let f = h.full in omega arith)
          (λ b< p. absurd (omega arith))
          (λ b o b< p.
          let g = k.bare b b< p in (
            g.0,
            ⊎_elim
                (λ z. absurd (o
                (sym (subst (λ (q : ℕ). (line_at m (listed u q - 1)).end ≡ b) (sym z) g.3)
                ∙ ap (λ (q : ℕ). (line_at m q).end) (let t : listed u i - 1 ≡ l = omega (arith, e, k.left i (omega arith) i<) in t) ∙ sym ends_at)))
                (λ z. omega arith)
                (eq-or-lt_of_le {n = i} {m = g.0} g.1),
            g.2,
            g.3,
          ))

      pub resetting_step : Resetting m n count (i + 1) u w₃
      resetting_step =
          let n≤ = few h in
          let o = k.kept.same in
          let f = h.full in
          let t = here< in
          let z = ends_in in
          record {
            heads = λ b b<. ap (λ (q : ℕ). q % list_weight) (head_at b b<)
                ∙ at_set (λ b q. q % list_weight ≡ first_leaving w b) w heads_from a x (omega arith) (omega arith) (λ b o. refl) b ∙ k.heads b b<;
            nexts = at_set (λ b q. b < n → (q % list_weight ≡ next_leaving u b) × (q / mark_weight ≡ marked u b)) w₂ next_from i y (simp length-set (omega arith))
                (λ b<.
                let e = k.nexts i i< in
                (rw left (unlisted_next _) ∙ ap (λ (q : ℕ). q % list_weight) (next_at i i<) ∙ e.0, rw left (unlisted_mark _) ∙ ap (λ (q : ℕ). q / mark_weight) (next_at i i<) ∙ e.1))
                (λ b d b<. rw (next_at b b<) (k.nexts b b<));
            gone = at_set (λ b q. b < i + 1 → q / list_weight % list_weight ≡ 0) w₂ next_from i y (simp length-set (omega arith)) (λ b<. rw left (unlisted_none _))
                (λ b d b<. rw (next_at b (omega arith)) (k.gone b (omega arith)));
            left = λ b b≤ b<. ap (λ (q : ℕ). q / list_weight % list_weight) (get_or-set_other w₂ (next_from + i) (next_from + b) y 0 (omega arith) ∙ next_at b b<)
                ∙ k.left b (omega arith) b<;
            every = λ b b< d. every b b< (rw (get_or-set_other w₂ (next_from + i) (lengths_from + b) y 0 (omega arith)) at d);
            bare = λ b b< p. let g = h.formed in bare b b< (rw (head_at b (omega arith)) at p);
            kept = kept_then k.kept
                (kept_then (kept_set (heads_from + a) x (omega arith) (omega arith))
                (kept_then (kept_set (lengths_from + l) (far * note_weight) (omega arith) (omega arith)) (kept_set (next_from + i) y (omega arith) (omega arith))));
          }

-- The list is gone through, by its end or by its length.
pub reset_done : {n i : ℕ} {u w : List ℕ} {m : Map} → Mirrored u n m → (ch : Chained u n m) → ch.listing.0 ≤ i →
    Resetting m n ch.listing.0 i u w → Reset m n u w
reset_done {n} {i} {u} {w} {m} h ch c k =
    let n≤ = few h in
    let f = h.formed in
    let all : (l : ℕ) → l < n → far ≤ length_to w l =
    λ l l<. ⊎_elim (λ a. a) (λ a. let b = k.every l l< a in absurd (omega (arith, b.1, b.2))) (le_or_lt far (length_to w l)) in
    let none : (j : ℕ) → j < n → listed w j ≡ 0 =
    λ j j<. ⊎_elim (λ a. k.left j a j< ∙ ch.listing.1.none j (omega arith) j<) (λ a. k.gone j a) (le_or_lt i j) in
    let bare : (a : ℕ) → a < length m.nodes → nearest_free w a ≡ 0 =
    λ a a<. ⊎_elim (λ z. omega arith) (λ p. let b = k.bare a a< p in absurd (omega (arith, b.1, b.2))) (le_or_lt (nearest_free w a) 0) in
    record {
      chained = record {
        heads = λ a a<. k.heads a (omega arith) ∙ ch.heads a a<;
        nexts = λ l l<. (k.nexts l l<).0 ∙ ch.nexts l l<;
        listing = (0, listing_none all none);
        bare = λ a a< p. absurd (omega (arith, bare a a<));
        marks = marked_same m u w (λ l l<. (k.nexts l l<).1) ch.marks;
      };
      empty = listing_none all none;
      all = all;
      bare = bare;
      kept = k.kept;
    }
