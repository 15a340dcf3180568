-- The nodes and lines that a work area holds: one by one, and after a change elsewhere.
use Rattle.work_area.specs.Area.{node_size, node_place, latitude, line_size, line_place, line_numbers}
use Rattle.model.specs.Map.{Node, Line}
use Prim.Native.Nat.{ℕ, zero, suc, ◌+◌, ◌≤◌, ◌<◌}
use mathlib.Core.Path.{◌≡◌, refl, ap, ap₂, subst, ◌∙◌}
use mathlib.Core.List.{List, [], ◌∷◌, ◌++◌}
use native.Mathlib.Nat.{add-zero}
use native.Mathlib.Numerals.{add-one}
use native.Mathlib.Decide.{dec_lt}
use native.Mathlib.Omega.{arith}
use lib.ListN.{length, get_or, length-append, get_or-append}
use lib.Seq.{get_or_at}
use lib.Dec.{lit<}
use Rattle.buffers.specs.Kept.{Kept}
use Rattle.work_area.specs.Held.{held_node, line_from, held_line, numbered, held_nodes, held_lines}

-- ---- the first n of some numbered things

module _ {A : Type 0} where
  pub listed_same : (f g : ℕ → A) (n : ℕ) → ((i : ℕ) → i < n → f i ≡ g i) → numbered f n ≡ numbered g n
  unfolding numbered
  listed_same f g zero h = refl
  listed_same f g (suc n) h = ap₂ (λ (l : List A) (x : A). l ++ x ∷ []) (listed_same f g n (λ i l. h i (omega arith))) (h n (omega arith))

  pub listed_more : (f g : ℕ → A) (n : ℕ) → ((i : ℕ) → i < n → g i ≡ f i) → numbered g (n + 1) ≡ numbered f n ++ g n ∷ []
  unfolding numbered
  listed_more f g n h = rw (add-one n) (ap (λ (l : List A). l ++ g n ∷ []) (listed_same g f n h))

  pub listed_length : (f : ℕ → A) (n : ℕ) → length (numbered f n) ≡ n
  unfolding numbered
  listed_length f zero = refl
  listed_length f (suc n) = length-append (numbered f n) (f n ∷ []) ∙ (let h = listed_length f n in omega arith)

  pub listed_at : (f : ℕ → A) (n i : ℕ) (d : A) → i < n → get_or (numbered f n) i d ≡ f i
  unfolding numbered
  listed_at f zero i d h = absurd (omega arith)
  listed_at f (suc n) i d h = go (dec_lt i n) (λ l. listed_at f n i d l)
    where
      go : Dec (i < n) → (i < n → get_or (numbered f n) i d ≡ f i) → get_or (numbered f n ++ f n ∷ []) i d ≡ f i
      go (yes l) before = get_or-append (numbered f n) (f n ∷ []) d i (let k = listed_length f n in omega arith) ∙ before l
      go (no l) before =
          let e : n ≡ i = omega arith in
          subst (λ (k : ℕ). get_or (numbered f n ++ f n ∷ []) k d ≡ f k) e (get_or_at (numbered f n) (f n) [] d n (listed_length f n))

-- ---- a node or a line is told by its numbers

pub node_path : {a b a' b' : ℕ} → a ≡ a' → b ≡ b' → ◌≡◌ {A = Node} (record { lon = a; lat = b }) (record { lon = a'; lat = b' })
node_path p q = λ i. record { lon = p i; lat = q i }

pub line_path : {a b c d e f g a' b' c' d' e' f' g' : ℕ} → a ≡ a' → b ≡ b' → c ≡ c' → d ≡ d' → e ≡ e' → f ≡ f' → g ≡ g' →
    ◌≡◌ {A = Line} (record { start = a; end = b; length = c; frc = d; fow = e; out = f; back = g })
    (record { start = a'; end = b'; length = c'; frc = d'; fow = e'; out = f'; back = g' })
line_path p q r s t u v = λ i. record { start = p i; end = q i; length = r i; frc = s i; fow = t i; out = u i; back = v i }

-- The numbers of a line, as they stand in the area.
pub line_number : (w : List ℕ) (at k : ℕ) → k < line_size → get_or w (at + k) 0 ≡ get_or (line_numbers (line_from w at)) k 0
unfolding line_from
line_number w at zero l = rw add-zero
line_number w at (suc zero) l = refl
line_number w at (suc (suc zero)) l = refl
line_number w at (suc (suc (suc zero))) l = refl
line_number w at (suc (suc (suc (suc zero)))) l = refl
line_number w at (suc (suc (suc (suc (suc zero))))) l = refl
line_number w at (suc (suc (suc (suc (suc (suc zero)))))) l = refl
line_number w at (suc (suc (suc (suc (suc (suc (suc k))))))) l = absurd (omega arith)

-- ---- a change that leaves them where they stand

module _ {low high : ℕ} {w v : List ℕ} (kept : Kept low high w v) where
  pub node_same : (i : ℕ) → node_place i + node_size ≤ low → held_node v i ≡ held_node w i
  unfolding held_node
  node_same i h = node_path (kept.below (node_place i) (omega arith)) (kept.below (node_place i + latitude) (omega arith))

  pub nodes_same : (n : ℕ) → node_place n ≤ low → held_nodes v n ≡ held_nodes w n
  nodes_same n h = listed_same (held_node v) (held_node w) n (λ i l. node_same i (omega arith))

  pub line_same : (i : ℕ) → line_place i + line_size ≤ low → held_line v i ≡ held_line w i
  unfolding held_line line_from
  line_same i h =
      let at = line_place i in
      let f : (k : ℕ) → k < line_size → get_or v (line_place i + k) 0 ≡ get_or w (line_place i + k) 0 = λ k l. kept.below (line_place i + k) (omega arith) in
      line_path (kept.below (line_place i) (omega arith)) (f 1 (lit< tt)) (f 2 (lit< tt)) (f 3 (lit< tt)) (f 4 (lit< tt)) (f 5 (lit< tt))
      (f 6 (lit< tt))

  pub lines_same : (n : ℕ) → line_place n ≤ low → held_lines v n ≡ held_lines w n
  lines_same n h = listed_same (held_line v) (held_line w) n (λ i l. line_same i (omega arith))

-- One more is held after those before it.
pub nodes_more : {w v : List ℕ} {high : ℕ} (i : ℕ) → Kept (node_place i) high w v → held_nodes v (i + 1) ≡ held_nodes w i ++ held_node v i ∷ []
nodes_more {w} {v} i kept = listed_more (held_node w) (held_node v) i (λ k l. node_same kept k (omega arith))

pub lines_more : {w v : List ℕ} {high : ℕ} (i : ℕ) → Kept (line_place i) high w v →
    held_lines v (i + 1) ≡ held_lines w i ++ held_line v i ∷ []
lines_more {w} {v} i kept = listed_more (held_line w) (held_line v) i (λ k l. line_same kept k (omega arith))
