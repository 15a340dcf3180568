-- How a search begins: no line is reached, and then, line by line, those that ways may begin with, each at its own length.
use Rattle.work_area.specs.Area.{line_place, line_length, line_frc, search_from, last_barred_from}
use Rattle.model.specs.Map.{greatest_line_count, Map}
use Rattle.model.specs.Reading.{greatest_leg_length}
use Rattle.search_cells.specs.Area.{Mirrored, far, latest, length_to, queued, line_of, key_of}
use Prim.Native.Nat.{ℕ, ◌+◌, ◌-◌, ◌≤◌, ◌<◌}
use mathlib.Core.Path.{◌≡◌, refl, sym, ◌∙◌, ap, subst}
use mathlib.Core.Bool.{Bool, true}
use mathlib.Core.List.{List, [], ◌∷◌}
use mathlib.Core.Logic.{inl, inr, ⊎_elim, ◌≢◌}
use native.Mathlib.Omega.{arith}
use lib.ListN.{get_or}
use Rattle.model.specs.Lines.{line_at}
use Rattle.way_lengths.specs.declared.Terminus.{Terminus}
use Rattle.way_lengths.specs.Ways.{line, node, Begins}
use Rattle.relaxation.specs.Underway.{Task, task, Underway}
use Rattle.search_cells.specs.Promises.{Reset, Put, Sent}
use Rattle.search.specs.Seeds.{Seeding, Seeded, SeededNode, BasedAt, Begun, InsertedSeed}
use Rattle.buffers.specs.Kept.{Kept}
use Rattle.buffers.proofs.Kept.{kept_none, kept_then, kept_within}
use Rattle.buffers.proofs.Cases.{le_or_lt, here_or}
use Rattle.search_cells.proofs.Holding.{held_kept, few, line_ok}
use Rattle.way_lengths.proofs.Plain.{way_one, total_one}
use Rattle.search_cells.proofs.Reached.{count_le, room_left}
use Rattle.relaxation.proofs.Queueing.{ordered_same}
use Rattle.search_cells.proofs.Leaving.{OnList, list_start, list_none, list_less, list_next, list_passed}
use Rattle.relaxation.proofs.Arriving.{Entered, Levelled, entered, found_now, lengths_now, enter, queue_same, enter_unsent}

-- No line is reached.
module _ {m : Map} {from : Terminus} {n limit : ℕ} {w v : List ℕ} (h : Mirrored w n m) (small : limit ≤ greatest_leg_length) (k : Reset m n w v) where
  bare : (c : ℕ) → Underway (task m from) n c limit 0 0 0 v
  bare c =
      record {
        held = held_kept (omega arith) k.kept h;
        chained = k.chained;
        listing = k.empty;
        small = small;
        begun = omega arith;
        room = omega arith;
        ordered = λ i j p≤ i≤ j<. absurd (omega arith);
        queue = λ i p≤ i<. absurd (omega arith);
        within = λ l l< z. absurd (omega (arith, k.all l l<));
        real = λ l l< z. absurd (omega (arith, k.all l l<));
        level = λ l i l< z. absurd (omega (arith, k.all l l<));
        nearest = λ a a<. record {
          none = λ e l p. absurd (let y = p.reached in omega (arith, k.all l p.line));
          holds = λ p. absurd (omega (arith, k.bare a a<));
          ends = λ p. absurd (omega (arith, k.bare a a<));
          near = λ p. absurd (omega (arith, k.bare a a<));
          least = λ p. absurd (omega (arith, k.bare a a<));
          one = λ p. absurd (omega (arith, k.bare a a<));
          many = λ p. absurd (omega (arith, k.bare a a<));
        };
        standing = λ l l< z. absurd (omega (arith, k.all l l<));
        backed = λ j j< z. absurd (omega (arith, k.all j j<));
      }

  pub seeding_none : (c : ℕ) → Seeding (task m from) n c limit 0 0 v
  seeding_none c = record { underway = bare c; own = λ l l< z. absurd (omega (arith, k.all l l<)) }

-- Line `j` is next.
module _ {q : Task} {n c limit count end j : ℕ} {w : List ℕ} (s : Seeding q n c limit count end w) (j< : j < n) (fresh : far ≤ length_to w j) where
  class_of : get_or w (line_place j + line_frc) 0 ≡ (line_at q.map j).frc
  class_of = s.underway.held.line_held j 3 j< (omega arith)

  length_of : get_or w (line_place j + line_length) 0 ≡ (line_at q.map j).length
  length_of = s.underway.held.line_held j 2 j< (omega arith)

  still : ((line_at q.map j).frc ≤ c → (line_at q.map j).length ≤ limit → ⊥) → Seeded q n c limit j w w count end
  still out = record { seeding = s; based = λ ok near. absurd (out ok near); others = λ k k< d. refl; kept = kept_none }

  -- It is reached.
  module _ {x : ℕ} {first second : List ℕ} {r : Bool} (ok : get_or w (line_place j + line_frc) 0 ≤ c) (is : x ≡ get_or w (line_place j + line_length) 0) (near : x ≤ limit)
      (put : Put j 0 x count w first) (sent : Sent q.map limit j first second r) (b : Begins q.map q.from j) where
    n≤ : n ≤ greatest_line_count
    n≤ = few s.underway.held

    end≤ : end ≤ n
    end≤ = omega (arith, s.underway.room, count_le s.underway.listing)

    same : (i : ℕ) → i < end → queued second i ≡ queued w i
    same = queue_same s.underway j< put sent

    levelled : Levelled q.map n 0 end j x 0 w
    levelled =
        record {
          base = λ l l< z. omega (arith, s.own l l< z);
          floor = λ i p≤ i<. omega arith;
          past = let some = (line_ok s.underway.held j<).some in omega (arith, length_of);
          top = omega (arith, length_of);
        }

    seeded_by : {v : List ℕ} {end' : ℕ} → Entered q.map n limit 0 j 0 x count end w v end' → Seeded q n c limit j w v (count + 1) end'
    seeded_by {v} a =
        let g = s.underway in
        let ok' : (line_at q.map j).frc ≤ c = omega (arith, class_of) in
        let found = found_now g j< fresh ok' near a levelled in
        let others = lengths_now g j< fresh ok' near a levelled in
        record {
          seeding = record {
            underway = entered g j< fresh ok' near a levelled
                (record { list = j ∷ []; way = way_one (omega (arith, g.held.line_count)) b ok'; sum = omega (arith, length_of, total_one q.map j) })
                (record { one = λ p. absurd (omega arith); many = λ p. absurd (omega arith) });
            own = here_or (λ l. l < n → length_to v l < far → length_to v l ≡ (line_at q.map l).length) j
                (λ l< z. omega (arith, found, length_of))
                (λ l d l< z. others l l< d ∙ s.own l l< (omega (arith, others l l< d)));
          };
          based = λ z t. omega (arith, found, length_of);
          others = others;
          kept = a.kept;
        }

    pub seeded_off : r ≢ true → Seeded q n c limit j w second (count + 1) end
    seeded_off d = seeded_by (enter_unsent s.underway j< put sent d)

    pub seeded_on : {v : List ℕ} → InsertedSeed end (key_of x j) second v → Seeded q n c limit j w v (count + 1) (end + 1)
    seeded_on {v} t =
        let g = s.underway in
        let y = n≤ in
        let z = end≤ in
        let key : line_of (key_of x j) ≡ j = omega arith in
        let left = room_left g.listing j< fresh in
        let e = g.room in
        let o = t.here in
        seeded_by
        (enter g.held j< put sent v (end + 1) (λ k k<. t.kept.below k k<) (λ k k≤. t.kept.above k (omega arith))
        (kept_within (omega arith) (omega arith) t.kept)
        (inl (o.0, omega arith, o.1, ap line_of o.2 ∙ key))
        (omega arith) (omega arith)
        (λ i k p≤. t.ordered (λ i k i≤ k<. ordered_same w second same g.ordered i k (omega arith) i≤ k<) i k)
        (λ i p≤ i<. ⊎_elim (λ a. inl a) (λ a. inr (a.0, omega arith, a.1, a.2 ∙ same a.0 a.1)) (t.queue i i<))
        (λ k a.
        let f = t.still a.0 a.2 in
        (f.0, omega arith, f.1, ap line_of (f.2 ∙ same a.0 a.2) ∙ a.3)))

-- ---- one line

pub begun_line : {m : Map} {n c limit l count end : ℕ} {from : Terminus} {w u v : List ℕ} → from ≡ line l → Reset m n w u →
    Seeded (task m (line l)) n c limit l u v count end → Begun m n c from limit w v count end
begun_line {m} {c = c} {limit = limit} {v = v} e k s =
    rw e
    (record {
      underway = s.seeding.underway;
      based = λ i i< b. subst (BasedAt m c limit v) (sym b) s.based;
      kept = kept_then k.kept s.kept;
    })

-- ---- all lines that leave a node

-- Those from line `at` on are reached, where their class and their length allow that, and none below.
pub record SeedingNode (m : Map) (n c v limit at : ℕ) (w u : List ℕ) (count end : ℕ) : Type 0 where
  pub seeding : Seeding (task m (node v)) n c limit count end u
  pub list : OnList m n v at
  pub fresh : (l : ℕ) → l < at → far ≤ length_to u l
  pub based : (l : ℕ) → l < n → (line_at m l).start ≡ v → at ≤ l → BasedAt m c limit u l
  pub kept : Kept search_from last_barred_from w u

module _ {m : Map} {n c v limit : ℕ} {w : List ℕ} where
  pub node_start : {at : ℕ} → Seeding (task m (node v)) n c limit 0 0 w → at ≡ latest m v n → SeedingNode m n c v limit at w w 0 0
  node_start {at} s e =
      record {
        seeding = s;
        list = list_start m n v e;
        fresh = λ l l<. ⊎_elim (λ z. z) (λ z. absurd (let t = s.underway.listing in let o = t.every l (omega (arith, (list_start m n v e).within)) z in omega (arith, o.1))) (le_or_lt far (length_to w l));
        based = λ l l< f le. absurd (list_none m n v e l l< f le);
        kept = kept_none;
      }

  module _ {u : List ℕ} {at count end : ℕ} (k : SeedingNode m n c v limit at w u count end) (pos : 0 < at) where
    pub node_step : {next count' end' : ℕ} {t : List ℕ} → Seeded (task m (node v)) n c limit (at - 1) u t count' end' →
        next ≡ latest m (line_at m (at - 1)).start (at - 1) → SeedingNode m n c v limit next w t count' end'
    node_step {next} {t = t} s e =
        let i = k.list.within in
        let less = list_less k.list pos e in
        record {
          seeding = s.seeding;
          list = list_next k.list pos e;
          fresh = λ l l<. omega (arith, s.others l (omega arith) (omega arith), k.fresh l (omega arith));
          based = list_passed k.list pos e (BasedAt m c limit t)
              (λ l l< f le ok near. omega (arith, s.others l l< (omega arith), k.based l l< f le ok near)) s.based;
          kept = kept_then k.kept s.kept;
        }

  pub node_done : {u : List ℕ} {at count end : ℕ} → SeedingNode m n c v limit at w u count end → at ≤ 0 → SeededNode m n c v limit w u count end
  node_done k none = record { seeding = k.seeding; based = λ l l< f. k.based l l< f (omega arith); kept = k.kept }

pub begun_node : {m : Map} {n c limit a count end : ℕ} {from : Terminus} {w u v : List ℕ} → from ≡ node a → Reset m n w u →
    SeededNode m n c a limit u v count end → Begun m n c from limit w v count end
begun_node e k s = rw e (record { underway = s.seeding.underway; based = s.based; kept = kept_then k.kept s.kept })
