-- "A stretch none of whose nodes lie 18,000,000 or more apart in plain longitude gives the bytes it gave" (paper 02, W2).
-- The writer as it was, with the plain longitude difference, stands here for this sentence alone. Nothing else cites it but the worked case of what it
-- refused (Cases/Meridian).
use Rattle.std.specs.Prelude.{ℕ, ◌+◌, ◌<◌, ◌≡◌, Bool, length}
use mathlib.Core.List.{List, [], ◌∷◌, Memᴰ}
use Rattle.model.specs.Map.{Node, Map, whole, decode}
use Rattle.model.specs.Difference.{Near, difference, Difference}
use Rattle.model.specs.Lines.{line_at, node_at}
use Rattle.model.specs.Reference.{Point, Reference, bytes_of}
use Rattle.model.specs.Reading.{Only}
use Rattle.model.specs.Stretch.{Stretch, StretchAnswer, remains, check_stretch}
use Rattle.model.specs.Choice.{from_node, to_node, leg_of, LegTest, point_of, reference_of}
use Rattle.model.specs.LegTests.{tests_made}
use Rattle.model.specs.Opening.{Opens}
use Rattle.model.specs.Outcome.{WriteOutcome, WriteBy, Writes}

-- ---- the writer as it was

-- The plain differences, and that they fit 16 bits.
unfoldable pub plain_differences : Node → Node → Difference
plain_differences a b = record { lon = difference a.lon b.lon; lat = difference a.lat b.lat }

pub record PlainFit (a b : Node) : Type 0 where
  pub lon : Near a.lon b.lon
  pub lat : Near a.lat b.lat

-- A leg that might be used.
pub record PlainGood (m : Map) (last : Bool) (ls : List ℕ) : Type 0 where
  pub fit : PlainFit (node_at m (from_node m ls)) (node_at m (to_node m ls))
  pub only : Only m (leg_of m last ls) ls

abbrev pub plain_good : Map → LegTest
plain_good m at last ls = PlainGood m last ls

-- The points of some legs, and their bytes: all but the differences are as they are now.
unfoldable pub plain_point : Map → List ℕ → Point
plain_point m ls =
    let p = point_of m ls in
    record {
      leaves = p.leaves;
      lowest = p.lowest;
      distance = p.distance;
      next = plain_differences (node_at m (from_node m ls)) (node_at m (to_node m ls));
    }

unfoldable pub plain_points : Map → List (List ℕ) → List Point
plain_points m [] = []
plain_points m (ls ∷ lss) = plain_point m ls ∷ plain_points m lss

unfoldable pub plain_reference : Map → List (List ℕ) → ℕ → ℕ → Reference
plain_reference m legs pos neg =
    let r = reference_of m legs pos neg in
    record { lon = r.lon; lat = r.lat; points = plain_points m legs; arrives = r.arrives; pos = r.pos; neg = r.neg }

unfoldable pub plain_bytes : Map → List (List ℕ) → Stretch → List ℕ
plain_bytes m legs s = bytes_of (plain_reference m legs s.pos s.neg)

-- Its outcome, row by row as it is now, with any number of leg tests (W7).
abbrev pub PlainStretch : Map → StretchAnswer → ℕ → ℕ → WriteOutcome → Type 0
PlainStretch m (remains s) tests room o =
    WriteBy (plain_good m) (λ lss. plain_bytes m lss s) s.lines (tests_made (length s.lines) tests) room o
PlainStretch m (StretchAnswer.refused r) tests room o = o ≡ WriteOutcome.refused r

abbrev pub PlainWrites : List ℕ → Stretch → ℕ → ℕ → ℕ → WriteOutcome → Type 0
PlainWrites mb s tests work room o = Opens WriteOutcome.refused (λ m. PlainStretch m (check_stretch m s) tests room) mb work o

-- ---- the sentence

-- A node of some lines: one of them starts or ends there.
pub data NodeOf (m : Map) (ls : List ℕ) : ℕ → Type 0 where
  starts : {l : ℕ} → Memᴰ l ls → NodeOf m ls (line_at m l).start
  ends : {l : ℕ} → Memᴰ l ls → NodeOf m ls (line_at m l).end

-- "None of whose nodes lie 18,000,000 or more apart in plain longitude."
abbrev pub Narrow : Map → List ℕ → Type 0
Narrow m ls = (v w : ℕ) → NodeOf m ls v → NodeOf m ls w → (node_at m w).lon < (node_at m v).lon + 18_000_000

-- This is asked of the lines that remain, if the stretch is not refused before; or of the stretch as given, which asks more.
abbrev pub NarrowLeft : List ℕ → Stretch → Type 0
NarrowLeft mb s = (m : Map) (r : Stretch) → decode mb ≡ whole m → check_stretch m s ≡ remains r → Narrow m r.lines

abbrev pub NarrowGiven : List ℕ → Stretch → Type 0
NarrowGiven mb s = (m : Map) → decode mb ≡ whole m → Narrow m s.lines

-- A stretch of which that is so "gives the bytes it gave": its whole outcome, bytes or refusal, is the one that it had, whatever the number of leg
-- tests, the work area and the byte buffer.
pub record AsBefore (Asked : List ℕ → Stretch → Type 0) : Type 0 where
  pub gives : (mb : List ℕ) (s : Stretch) (tests work room : ℕ) (o : WriteOutcome) → Asked mb s →
      PlainWrites mb s tests work room o → Writes mb s tests work room o
  pub gave : (mb : List ℕ) (s : Stretch) (tests work room : ℕ) (o : WriteOutcome) → Asked mb s →
      Writes mb s tests work room o → PlainWrites mb s tests work room o
