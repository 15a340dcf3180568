-- What stands at a place of the queue, and how the search goes on from it.
use Rattle.work_area.specs.Area.{ban_chain}
use Rattle.search_cells.specs.Area.{far, several, key_weight, length_to, nearest_free, queued, named, Nearest, line_of}
use Prim.Native.Nat.{ℕ, ◌/◌, ◌≤◌, ◌<◌}
use mathlib.Core.Path.{◌≡◌, refl, sym, ◌∙◌, ap}
use mathlib.Core.List.{List}
use mathlib.Core.Logic.{inl, inr, ⊎_elim, ◌≢◌}
use native.Mathlib.Omega.{arith}
use Rattle.model.specs.Lines.{line_at}
use Rattle.search_cells.specs.Promises.{Free}
use Rattle.relaxation.specs.Underway.{FreeReached, Waits, Task, Underway}
use Rattle.relaxation.specs.Relaxed.{Twin, Notable}
use Rattle.expansion.specs.Steps.{NoteFor, GoesOn}
use Rattle.relaxation.specs.declared.Going.{Going}
use Rattle.buffers.proofs.Cases.{le_or_lt}
use Rattle.model.specs.Map.{greatest_line_count}
use Rattle.search_cells.proofs.Reached.{count_le}
use Rattle.search_cells.proofs.Holding.{few, line_ok}
use Rattle.way_lengths.proofs.Plain.{class_last, grown_of}
use Rattle.relaxation.proofs.Arriving.{equal_or}

-- A place of the queue is one of so many.
pub place_few : {q : Task} {n c limit place count end p : ℕ} {w : List ℕ} → Underway q n c limit p count end w → place < end → place < greatest_line_count
place_few g inside = omega (arith, g.room, count_le g.listing, few g.held)

module _ {q : Task} {n c limit place count end : ℕ} {w : List ℕ} (g : Underway q n c limit place count end w) where
  -- A line that is reached is of the class.
  pub class_of : (j : ℕ) → j < n → length_to w j < far → (line_at q.map j).frc ≤ c
  class_of j j< z = class_last (grown_of (g.real j j< z).way)

  -- A line that waits is as far as its key says.
  pub waiting : {l : ℕ} (a : Waits place end w l) → (l < n) × (length_to w l ≡ queued w a.0 / key_weight) × (length_to w l < far)
  waiting {l} a =
      let k = g.queue a.0 a.1 a.2 in
      let e : length_to w l ≡ queued w a.0 / key_weight = ap (length_to w) (sym a.3) ∙ k.found in
      (omega (arith, a.3, k.line), e, omega (arith, k.reached))

  -- What stands at the place, and what is noted for it.
  module _ {going : Going} (inside : place < end) (at : line_of (queued w place) ≡ going.line) (found : queued w place / key_weight ≡ going.length)
      (chain : going.chain ≡ ban_chain q.map.bans going.line) (t : NoteFor q.map going.line going.chain w going.note) where
    abbrev x : ℕ
    x = nearest_free w (line_at q.map going.line).end

    at_head : (going.line < n) × (length_to w going.line ≡ queued w place / key_weight) × (length_to w going.line < far)
    at_head = waiting (place, omega arith, inside, at)

    cell : Nearest q.map limit w (FreeReached q.map n w) (line_at q.map going.line).end x
    cell = g.nearest _ (line_ok g.held at_head.0).end

    own : Free q.map going.line → FreeReached q.map n w going.line
    own free = record { line = at_head.0; free = free; reached = at_head.2 }

    -- It goes on.
    going_on : 0 < going.note → Notable q.map n w going.line going.note →
        (Free q.map going.line → (k : ℕ) → FreeReached q.map n w k → (line_at q.map k).end ≡ (line_at q.map going.line).end →
        length_to w k ≤ length_to w going.line → k ≢ going.line → going.note ≡ several) → GoesOn q.map n place w going
    going_on p notable alone =
        record { at = at; found = found; chain = chain; over = λ e. absurd (omega arith); notable = λ z. notable; alone = λ z. alone }

    none : x ≡ 0 → GoesOn q.map n place w going
    none e =
        let r = t.alone e in
        going_on (omega arith) (inl r) (λ free. absurd (let b = cell.none e _ (own free) refl in omega (arith, g.within _ at_head.0 at_head.2)))

    over : 0 < x → length_to w (named x) < length_to w going.line → GoesOn q.map n place w going
    over pos less =
        let r = t.over pos less in
        record {
          at = at;
          found = found;
          chain = chain;
          over = λ e. record { other = named x; reached = cell.holds pos; ends = cell.ends pos; nearer = less };
          notable = λ z. absurd (omega arith);
          alone = λ z. absurd (omega arith);
        }

    barred : 0 < x → length_to w going.line ≤ length_to w (named x) → 0 < going.chain → GoesOn q.map n place w going
    barred pos near some =
        let r = t.own pos near (inl some) in
        going_on (omega arith) (inl r) (λ free. absurd (omega arith))

    -- The nearest free line is as near as line `l`, which is free.
    module _ (pos : 0 < x) (near : length_to w going.line ≤ length_to w (named x)) (free : Free q.map going.line) where
      equal : length_to w (named x) ≡ length_to w going.line
      equal = omega (arith, cell.least pos _ (own free) refl)

      single : x < several → GoesOn q.map n place w going
      single one =
          let r = t.own pos near (inr one) in
          going_on (omega arith) (inl r)
          (λ free k f e less o.
          absurd (o
          (cell.one pos one k f e (omega (arith, cell.least pos k f e))
          ∙ sym (cell.one pos one _ (own free) refl (sym equal)))))

      many : several ≤ x → GoesOn q.map n place w going
      many more =
          let r = t.many more near (omega (arith, chain)) in
          let b = cell.many more in
          let twin : Twin q.map n w going.line =
          ⊎_elim
          (λ e.
          record { free = free; other = b.0; reached = b.1; ends = b.2; alike = b.3 ∙ equal; differ = λ z. b.4 (z ∙ sym e) })
          (λ o. record { free = free; other = named x; reached = cell.holds pos; ends = cell.ends pos; alike = equal; differ = o })
          (equal_or (named x) going.line) in
          going_on (omega arith) (inr (r, twin)) (λ free k f e less o. r)

    pub goes_on : GoesOn q.map n place w going
    goes_on =
        ⊎_elim
        (λ z. none (omega arith))
        (λ pos.
        ⊎_elim
        (λ near.
        ⊎_elim
        (λ no.
        let free : Free q.map going.line = omega (arith, chain) in
        ⊎_elim (many pos near free) (single pos near free) (le_or_lt several x))
        (barred pos near)
        (le_or_lt going.chain 0))
        (over pos)
        (le_or_lt (length_to w going.line) (length_to w (named x))))
        (le_or_lt x 0)
