-- The legs read one after another: what is known after k of them, with one more, at a leg that fails, and at the end.
use Prim.Native.Nat.{ℕ, ◌+◌, ◌*◌, ◌≤◌, ◌<◌}
use mathlib.Core.Path.{◌≡◌, refl, sym, ap, ap₂, subst, ◌∙◌}
use mathlib.Core.Bool.{Bool, false, cond, ◌||◌, or-false, or_assoc}
use mathlib.Core.List.{List, [], ◌∷◌, ◌++◌, append-nil, append_assoc}
use native.Mathlib.Omega.{arith}
use lib.ListN.{length, take, drop, length-append}
use lib.Seq.{take_at, drop-append-add, drop-drop}
use lib.Dec.{eqb}
use borrow.Author.Tests.{ne_eqb}
use Rattle.model.specs.Map.{Map}
use Rattle.model.specs.Lines.{banned, Connected, single, linked, total, first_of, last_of}
use Rattle.model.specs.WellFormed.{WellFormed}
use Rattle.model.specs.Choice.{first_leg, last_leg}
use Rattle.model.specs.Reading.{Leg, Only, joined, banned_meeting, greatest_leg_length}
use Rattle.model.specs.Outcome.{LegsRead, none, only, later, every, failed}
use Rattle.model.specs.Work.{placed}
use Rattle.model.proofs.Skipping.{total_append}
use Rattle.model.proofs.Joining.{first_known}
use Rattle.model.specs.declared.Refusal.TheVariants.{NoReading, SeveralReadings}
use Rattle.fields.specs.declared.leg.Reading.{Reading}
use Rattle.legs.specs.Verdict.{OneList, Says}
use Rattle.search_cells.specs.Area.{Set}
use Rattle.reference_legs.specs.declared.Sums.{Sums}
use Rattle.reference_legs.specs.Legs.{barred_with, sums_with, SumsOf, Inserted, Laid, AllRead, LegFails}
use Rattle.model.specs.Reading as definitions
use Rattle.fields.specs.declared.leg.Verdict.TheVariants as verdict

-- ---- the legs before leg `k` have one reading each: what the legs from there on come to decides

pub record Passed (m : Map) (all : List Leg) (k : ℕ) (rest : List Leg) (lss : List (List ℕ)) : Type 0 where
  pub on : (more : List (List ℕ)) → LegsRead m k rest (every more) → LegsRead m 0 all (every (lss ++ more))
  pub off : (n j : ℕ) → LegsRead m k rest (failed n j) → LegsRead m 0 all (failed n j)

passed_none : {m : Map} {all : List Leg} → Passed m all 0 all []
passed_none = record { on = λ more r. r; off = λ n j r. r }

passed_on : {m : Map} {all rest : List Leg} {leg : Leg} {k : ℕ} {lss : List (List ℕ)} {ls : List ℕ} → Passed m all k (leg ∷ rest) lss → Only m leg ls →
    Passed m all (k + 1) rest (lss ++ ls ∷ [])
passed_on {lss = lss} {ls = ls} p o =
    record {
      on = λ more r. rw (append_assoc lss (ls ∷ []) more) (p.on (ls ∷ more) (only o r));
      off = λ n j r. p.off n j (later o r);
    }

-- ---- the sums

joined_more : (lss : List (List ℕ)) (ls : List ℕ) → joined (lss ++ ls ∷ []) ≡ joined lss ++ ls
unfolding joined
joined_more [] ls = append-nil ls
joined_more (ks ∷ lss) ls = ap (λ (l : List ℕ). ks ++ l) (joined_more lss ls) ∙ sym (append_assoc ks (joined lss) ls)

last_more : (lss : List (List ℕ)) (ls : List ℕ) → last_leg (lss ++ ls ∷ []) ≡ ls
unfolding last_leg
last_more [] ls = refl
last_more (ks ∷ []) ls = refl
last_more (ks ∷ js ∷ lss) ls = last_more (js ∷ lss) ls

-- The pair where the legs before meet one more.
meeting_on : (m : Map) (ks : List ℕ) (lss : List (List ℕ)) (ls : List ℕ) →
    banned_meeting m ((ks ∷ lss) ++ ls ∷ []) ≡ (banned_meeting m (ks ∷ lss) || banned m (last_of (last_leg (ks ∷ lss))) (first_of ls))
unfolding banned_meeting last_leg
meeting_on m ks [] ls = or-false (banned m (last_of ks) (first_of ls))
meeting_on m ks (js ∷ lss) ls =
    ap (λ (b : Bool). banned m (last_of ks) (first_of js) || b) (meeting_on m js lss ls)
    ∙ sym (or_assoc (banned m (last_of ks) (first_of js)) (banned_meeting m (js ∷ lss)) (banned m (last_of (last_leg (js ∷ lss))) (first_of ls)))

meeting_more : (m : Map) (lss : List (List ℕ)) (ls : List ℕ) →
    banned_meeting m (lss ++ ls ∷ []) ≡ (banned_meeting m lss || cond (eqb (length lss) 0) false (banned m (last_of (last_leg lss)) (first_of ls)))
unfolding banned_meeting
meeting_more m [] ls = refl
meeting_more m (ks ∷ lss) ls = rw (ne_eqb (length (ks ∷ lss)) 0 (λ z. omega arith)) (meeting_on m ks lss ls)

abbrev pub none_yet : Sums
none_yet = record { count = 0; length = 0; first = 0; last = 0; arrives = 0; barred = false }

pub none_counted : (s : Sums) → (s.count ≡ 0) × ((s.length ≡ 0) × ((s.first ≡ 0) × ((s.last ≡ 0) × ((s.arrives ≡ 0) × (s.barred ≡ false))))) → s ≡ none_yet
none_counted s (a, (b, (c, (d, (e, f))))) = λ i. record { count = a i; length = b i; first = c i; last = d i; arrives = e i; barred = f i }

sums_none : (m : Map) → SumsOf m [] none_yet
unfolding joined first_leg last_leg total last_of banned_meeting
sums_none m = record { count = refl; sum = refl; first = refl; last = refl; arrives = refl; barred = refl }

first_more : (m : Map) (lss : List (List ℕ)) (ls : List ℕ) (s : Sums) (r : Reading) (b : Bool) → total m (first_leg lss) ≡ s.first →
    total m ls ≡ r.length → total m (first_leg (lss ++ ls ∷ [])) ≡ (sums_with s (length lss) r b).first
unfolding first_leg sums_with
first_more m [] ls s r b e f = f
first_more m (ks ∷ lss) ls s r b e f = rw (ne_eqb (length (ks ∷ lss)) 0 (λ z. omega arith)) e

-- Whether a turn is banned where the legs meet, as the code asks it.
barred_more : {m : Map} {lss : List (List ℕ)} (ls : List ℕ) {s : Sums} {k : ℕ} (r : Reading) → length lss ≡ k → SumsOf m lss s → first_of ls ≡ r.first →
    banned_meeting m (lss ++ ls ∷ []) ≡ barred_with m s k r
unfolding barred_with
barred_more {m} {lss} ls {s} {k} r many sums first =
    meeting_more m lss ls
    ∙ ap₂ ◌||◌ sums.barred
    (ap₂ (λ (n : ℕ) (b : Bool). cond (eqb n 0) false b) many (ap₂ (banned m) sums.arrives first))

sums_more : {m : Map} {P : List ℕ → Type 0} {lss : List (List ℕ)} (ls : List ℕ) {s : Sums} {k : ℕ} (r : Reading) → length lss ≡ k → SumsOf m lss s →
    OneList m P r ls → SumsOf m (lss ++ ls ∷ []) (sums_with s k r (barred_with m s k r))
unfolding sums_with
sums_more {m} {lss = lss} ls {s} {k} r many sums o =
    record {
      count = ap length (joined_more lss ls) ∙ length-append (joined lss) ls ∙ (omega (arith, sums.count, o.count));
      sum = ap (total m) (joined_more lss ls) ∙ total_append m (joined lss) ls ∙ (omega (arith, sums.sum, o.sum));
      first =
          subst (λ (i : ℕ). total m (first_leg (lss ++ ls ∷ [])) ≡ (sums_with s i r (barred_with m s k r)).first) many
          (first_more m lss ls s r (barred_with m s k r) sums.first o.sum);
      last = ap (total m) (last_more lss ls) ∙ o.sum;
      arrives = ap last_of (last_more lss ls) ∙ o.last;
      barred = barred_more ls r many sums o.first;
    }

-- ---- how many lines a reading can have: each is at least 1 long

connected_short : {m : Map} {ls : List ℕ} → WellFormed m → Connected m ls → length ls ≤ total m ls
unfolding total
connected_short f (single {l = l} known) = let a = f.line_ok l known in omega arith
connected_short f (linked {l = l} known follows rest) = let a = f.line_ok l known in let b = connected_short f rest in omega arith

-- ---- the lines in the buffer

-- The first lines, and then those of one leg more.
laid_more : (j ls before mid after : List ℕ) → length mid ≡ length before → Laid j before mid → Inserted (length j) ls mid after →
    Laid (j ++ ls) before after
unfolding placed
laid_more j ls before mid after same laid inserted fits =
    let whole : length j + length ls ≤ length before = omega (arith, length-append j ls) in
    let first = laid (omega arith) in
    let front : take (length j) mid ≡ j = rw first (take_at j (drop (length j) before) (length j) refl) in
    let rest : drop (length j + length ls) mid ≡ drop (length j + length ls) before =
    rw first (drop-append-add j (drop (length j) before) (length ls)) ∙ drop-drop (length ls) (length j) before in
    inserted (omega arith) ∙ rw (front, rest, length-append j ls) (sym (append_assoc j ls (drop (length j + length ls) before)))

-- ---- what is known after k legs

pub record Gathering (m : Map) (lines : ℕ) (all : List Leg) (k : ℕ) (rest : List Leg) (w before out : List ℕ) (s : Sums) : Type 0 where
  pub lists : List (List ℕ)
  pub set : Set m lines w
  pub passed : Passed m all k rest lists
  pub sums : SumsOf m lists s
  pub many : length lists ≡ k
  pub few : s.count ≤ greatest_leg_length * k
  pub short : s.length ≤ greatest_leg_length * k
  pub laid : Laid (joined lists) before out

pub gather_none : {m : Map} {lines : ℕ} {all : List Leg} {w before : List ℕ} → Set m lines w →
    Gathering m lines all 0 all w before before none_yet
unfolding joined placed
gather_none {m} set =
    record {
      lists = [];
      set = set;
      passed = passed_none;
      sums = sums_none m;
      many = refl;
      few = omega arith;
      short = omega arith;
      laid = λ fits. refl;
    }

-- A reading is no longer than a leg may be, and has no more lines than that.
module _ {m : Map} {leg : Leg} {r : Reading} {ls : List ℕ} (formed : WellFormed m) (o : OneList m (definitions.Reading m leg) r ls) where
  one_short : r.length ≤ greatest_leg_length
  one_short = omega (arith, o.sum, o.holds.allowed.within)

  one_few : r.count ≤ greatest_leg_length
  one_few = omega (arith, o.count, connected_short formed o.holds.allowed.connected, o.holds.allowed.within)

module _ {m : Map} {leg : Leg} {N : Reading → List ℕ → Type 0} where
  pub read_bounds : {r : Reading} → WellFormed m → Says m (definitions.Reading m leg) N (verdict.One r) →
      (r.count ≤ greatest_leg_length) × (r.length ≤ greatest_leg_length)
  read_bounds formed (Says.one o n) = (one_few formed o, one_short formed o)

  pub read_first : {r : Reading} → Says m (definitions.Reading m leg) N (verdict.One r) → r.first < length m.lines
  read_first (Says.one o n) = omega (arith, o.first, first_known o.holds.allowed.connected)

module _ {m : Map} {lines : ℕ} {all rest : List Leg} {leg : Leg} {k : ℕ} {w before mid : List ℕ} {s : Sums} (g : Gathering m lines all k (leg ∷ rest) w before mid s) where
  pub gather_on : {v after : List ℕ} {r : Reading} → length mid ≡ length before → Set m lines v →
      Says m (definitions.Reading m leg) (λ r ls. Inserted s.count ls mid after) (verdict.One r) →
      Gathering m lines all (k + 1) rest v before after (sums_with s k r (barred_with m s k r))
  unfolding sums_with
  gather_on {after = after} {r = r} same set (Says.one {ls = ls} o n) =
      let small = one_short set.held.formed o in
      let thin = one_few set.held.formed o in
      record {
        lists = g.lists ++ ls ∷ [];
        set = set;
        passed = passed_on g.passed (record { reading = o.holds; only = o.only });
        sums = sums_more ls r g.many g.sums o;
        many = length-append g.lists (ls ∷ []) ∙ (let a = g.many in omega arith);
        few = omega (arith, g.few);
        short = omega (arith, g.short);
        laid = rw (joined_more g.lists ls) (laid_more (joined g.lists) ls before mid after same g.laid (rw g.sums.count n));
      }

  pub gather_unread : {N : Reading → List ℕ → Type 0} → Says m (definitions.Reading m leg) N verdict.Unread → LegFails m all (NoReading k)
  gather_unread (Says.unread no_list) = LegFails.unread (g.passed.off 17 k (LegsRead.unread no_list))

  pub gather_several : {N : Reading → List ℕ → Type 0} → Says m (definitions.Reading m leg) N verdict.Several → LegFails m all (SeveralReadings k)
  gather_several (Says.several t) =
      LegFails.several
      (g.passed.off 18 k
      (LegsRead.several (record { one = t.one; other = t.other; first = t.first; second = t.second; differ = t.differ })))

pub gather_end : {m : Map} {lines : ℕ} {all : List Leg} {k : ℕ} {w before after : List ℕ} {s : Sums} → Gathering m lines all k [] w before after s →
    AllRead m all before after s
gather_end g =
    record {
      lists = g.lists;
      read = subst (λ (l : List (List ℕ)). LegsRead _ 0 _ (every l)) (append-nil g.lists) (g.passed.on [] none);
      sums = g.sums;
      laid = g.laid;
    }
