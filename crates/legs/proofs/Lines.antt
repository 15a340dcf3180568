-- The readings of a leg by their first line, and by their last: what one more line adds.
use Prim.Native.Nat.{ℕ, ◌+◌, ◌-◌, ◌≤◌, ◌<◌}
use mathlib.Core.Path.{◌≡◌, refl, sym, ◌∙◌, ap}
use mathlib.Core.Logic.{inl, inr, ⊎_elim}
use mathlib.Core.List.{List}
use native.Mathlib.Decide.{dec_lt}
use native.Mathlib.Omega.{arith}
use lib.ListN.{length}
use Rattle.model.specs.Map.{Line, Map}
use Rattle.work_area.specs.Mirror.{mirror}
use Rattle.work_area.proofs.Mirrored.{line_mirrored}
use Rattle.way_lengths.specs.declared.Terminus.{Terminus}
use Rattle.model.specs.Lines.{LineAttributes, line_at, total, first_of, last_of, arriving, leaving}
use Rattle.model.specs.Reading.{Leg, matching, Reading}
use Rattle.model.proofs.Joining.{first_known, last_known}
use Rattle.way_lengths.specs.Ways.{line, node, Way}
use Rattle.work_area.specs.Area.{Held}
use Rattle.search_cells.specs.Area.{Searched, Listing, Among, listed, latest}
use Rattle.search_cells.proofs.Leaving.{latest_le, latest_all}
use Rattle.search_cells.proofs.Places.{none_among, among_here, among_more, among_split, among_all}
use Rattle.ways.proofs.Back.{short_way}
use Rattle.legs.specs.Verdict.{attributes_at, ReadingTo, ReadingFrom, ReadingAmong, ToLines, LimitFor}
use Rattle.legs.proofs.Joining.{Either}

-- No reading ends with a line past the list of the lines that arrive at the leg's end node.
module _ {m : Map} {leg : Leg} where
  last_there : {ls : List ℕ} → Reading m leg ls → (line_at (mirror m) (last_of ls)).start ≡ leg.to
  last_there {ls} r = ap (λ (x : Line). x.start) (line_mirrored m (last_of ls)) ∙ r.allowed.ends

  pub none_yet : (at : ℕ) → at ≡ latest (mirror m) leg.to (length m.lines) → (ls : List ℕ) → ToLines m leg at ls → ⊥
  none_yet at e ls r =
      omega
      (arith, r.ends, latest_all (mirror m) leg.to (length m.lines) (last_of ls) (last_known r.reading.allowed.connected) (last_there r.reading))

  -- The line `at - 1` of that list, and then those from its next on.
  module _ (at next : ℕ) (some : 0 < at) (to : (line_at (mirror m) (at - 1)).start ≡ leg.to)
      (e : next ≡ latest (mirror m) (line_at (mirror m) (at - 1)).start (at - 1)) where
    pub one_more : (ls : List ℕ) → Either (ToLines m leg at) (ReadingTo m leg (line (at - 1))) ls → ToLines m leg next ls
    one_more ls (inl r) = record { reading = r.reading; ends = omega (arith, r.ends, e, latest_le (mirror m) (line_at (mirror m) (at - 1)).start (at - 1)) }
    one_more ls (inr r) = record { reading = r.reading; ends = omega (arith, r.ends, e, latest_le (mirror m) (line_at (mirror m) (at - 1)).start (at - 1)) }

    pub no_other : (ls : List ℕ) → ToLines m leg next ls → Either (ToLines m leg at) (ReadingTo m leg (line (at - 1))) ls
    no_other ls r = go (dec_lt (last_of ls) (at - 1)) (dec_lt (at - 1) (last_of ls))
      where
        go : Dec (last_of ls < at - 1) → Dec (at - 1 < last_of ls) → Either (ToLines m leg at) (ReadingTo m leg (line (at - 1))) ls
        go (yes before) h =
            absurd
            (omega
            (arith, r.ends, e, latest_all (mirror m) (line_at (mirror m) (at - 1)).start (at - 1) (last_of ls) before (last_there r.reading ∙ sym to)))
        go (no before) (yes after) = inl (record { reading = r.reading; ends = omega arith })
        go (no before) (no after) = inr (record { reading = r.reading; ends = omega arith })

    pub apart : (ls : List ℕ) → ToLines m leg at ls → ReadingTo m leg (line (at - 1)) ls → ⊥
    apart ls a b = omega (arith, a.ends, b.ends)

-- The first lines place by place of the list: none yet, line `l` at place `i`, and all that are reached.
module _ {m : Map} {leg : Leg} {to : Terminus} {w : List ℕ} {n : ℕ} where
  pub no_place : (ls : List ℕ) → ReadingAmong m leg (Among w n 0) to ls → ⊥
  no_place ls r = none_among r.starts

  module _ (i l : ℕ) (at : listed w i ≡ l + 1) where
    pub place_more : l < n → (ls : List ℕ) → Either (ReadingAmong m leg (Among w n i) to) (ReadingFrom m leg l to) ls →
        ReadingAmong m leg (Among w n (i + 1)) to ls
    place_more l< ls (inl r) = record { reading = r.reading; starts = among_more i _ r.starts; ends = r.ends }
    place_more l< ls (inr r) = record { reading = r.reading; starts = rw r.starts (among_here i l< at); ends = r.ends }

    pub place_other : (ls : List ℕ) → ReadingAmong m leg (Among w n (i + 1)) to ls →
        Either (ReadingAmong m leg (Among w n i) to) (ReadingFrom m leg l to) ls
    place_other ls r =
        ⊎_elim
        (λ e. inr (record { reading = r.reading; starts = e; ends = r.ends }))
        (λ a. inl (record { reading = r.reading; starts = a; ends = r.ends }))
        (among_split i at _ r.starts)

    pub place_apart : (Among w n i l → ⊥) → (ls : List ℕ) → ReadingAmong m leg (Among w n i) to ls → ReadingFrom m leg l to ls → ⊥
    place_apart new ls a b = new (rw b.starts at a.starts)

  -- A reading's first line is reached.
  pub first_reached : {limit count i : ℕ} → length m.lines ≡ n → Searched (mirror m) n leg.lowest to limit w →
      LimitFor leg.distance limit → Listing w n count → count ≤ i → (ls : List ℕ) → ReadingTo m leg to ls → ReadingAmong m leg (Among w n i) to ls
  first_reached all s limited listing c≤ ls r =
      let a = r.reading.allowed in
      let l< = first_known a.connected in
      let near = limited.holds (total m ls) a.within (let e = r.reading.distanced in omega arith) in
      let within = limited.within in
      let way : Way m leg.lowest (line (first_of ls)) to ls =
      record { connected = a.connected; starts = refl; ends = r.ends; classes = a.classes } in
      record {
        reading = r.reading;
        starts = among_all listing c≤ (omega arith) (omega (arith, short_way s (omega arith) way near));
        ends = r.ends;
      }

pub every_place : {m : Map} {leg : Leg} {to : Terminus} {P : ℕ → Type 0} (ls : List ℕ) → ReadingAmong m leg P to ls → ReadingTo m leg to ls
every_place ls r = record { reading = r.reading; ends = r.ends }

-- A first line that does not match, or that starts elsewhere, has no reading.
module _ {m : Map} {leg : Leg} {to : Terminus} (first : ℕ) where
  pub not_leaving : (leaving m first ≡ leg.leaves → ⊥) → (ls : List ℕ) → ReadingFrom m leg first to ls → ⊥
  not_leaving differs ls r = differs (ap (leaving m) (sym r.starts) ∙ r.reading.allowed.leaves)

  pub not_here : ((line_at m first).start ≡ leg.from → ⊥) → (ls : List ℕ) → ReadingFrom m leg first to ls → ⊥
  not_here differs ls r = differs (ap (λ (l : ℕ). (line_at m l).start) (sym r.starts) ∙ r.reading.allowed.starts)

-- A last line that does not match has no reading.
pub not_arriving : {m : Map} {leg : Leg} {a : LineAttributes} (last : ℕ) → leg.arrival ≡ matching a → (arriving m last ≡ a → ⊥) → (ls : List ℕ) →
    ReadingTo m leg (line last) ls → ⊥
not_arriving {m} last e differs ls r = differs (ap (arriving m) (sym r.ends) ∙ rw e at r.reading.allowed.arrives)

-- Where any line may be the last, every reading ends at the end node.
pub to_node : {m : Map} {leg : Leg} (ls : List ℕ) → Reading m leg ls → ReadingTo m leg (node leg.to) ls
to_node ls r = record { reading = r; ends = r.allowed.ends }

-- The attributes of a line that the work area holds.
module _ {m : Map} {w : List ℕ} {lines : ℕ} (h : Held w lines m) (l : ℕ) (known : l < lines) where
  pub leaving_at : leaving m l ≡ attributes_at w l 5
  unfolding leaving attributes_at
  leaving_at =
      let frc = sym (h.line_held l 3 known (omega arith)) in
      let fow = sym (h.line_held l 4 known (omega arith)) in
      let sectored = sym (h.line_held l 5 known (omega arith)) in
      λ t. record { frc = frc t; fow = fow t; sector = sectored t }

  pub arriving_at : arriving m l ≡ attributes_at w l 6
  unfolding arriving attributes_at
  arriving_at =
      let frc = sym (h.line_held l 3 known (omega arith)) in
      let fow = sym (h.line_held l 4 known (omega arith)) in
      let sectored = sym (h.line_held l 6 known (omega arith)) in
      λ t. record { frc = frc t; fow = fow t; sector = sectored t }
