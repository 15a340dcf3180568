-- Whether a turn is one of two lines of the map that meet, by the tests that the code makes; and whether several are.
use Prim.Native.Nat.{ℕ, zero, suc, ◌+◌, ◌≤◌, ◌<◌}
use mathlib.Core.Path.{◌≡◌, sym, ap, ap₂, ◌∙◌}
use mathlib.Core.Bool.{Bool, true, false, ◌&&◌, and-true, and_assoc}
use mathlib.Core.List.{List, [], ◌∷◌, ◌++◌}
use native.Mathlib.Omega.{arith}
use lib.ListN.{length, get_or}
use lib.Dec.{ltb, eqb}
use borrow.Author.Tests.{eqb-true, ltb-true, lt-ltb, le-ltb}
use Rattle.model.specs.Map.{Line, no_line, Turn, Map, fitting, all_fitting}
use Rattle.model.specs.Lines.{line_at}
use Rattle.model.proofs.Tests.{both}
use Rattle.work_area.specs.Area.{line_place, ban_at}
use Rattle.work_area.specs.Held.{line_from, held_line, held_lines}
use Rattle.work_area.proofs.Held.{listed_length, listed_at}

-- A turn that fits is one of two lines of the map.
pub fits_first : (lines : List Line) (t : Turn) → fitting lines t ≡ true → t.first < length lines
unfolding fitting
fits_first lines t e = ltb-true _ _ (both (ltb t.first (length lines)) _ e).0

pub fits_second : (lines : List Line) (t : Turn) → fitting lines t ≡ true → t.second < length lines
unfolding fitting
fits_second lines t e = ltb-true _ _ (both (ltb t.second (length lines)) _ (both (ltb t.first (length lines)) _ e).1).0

pub fitting_more : (bans : List Turn) (t : Turn) (lines : List Line) → all_fitting lines (bans ++ t ∷ []) ≡ (all_fitting lines bans && fitting lines t)
unfolding all_fitting
fitting_more bans t lines = go bans
  where
    go : (ts : List Turn) → all_fitting lines (ts ++ t ∷ []) ≡ (all_fitting lines ts && fitting lines t)
    go [] = and-true (fitting lines t)
    go (x ∷ ts) = ap (λ (b : Bool). fitting lines x && b) (go ts) ∙ sym (and_assoc (fitting lines x) (all_fitting lines ts) (fitting lines t))

-- Whether a turn fits, by the tests that the code makes.
module _ (lines : List Line) (t : Turn) where
  pub no_first : length lines ≤ t.first → fitting lines t ≡ false
  unfolding fitting
  no_first h = rw (le-ltb t.first (length lines) h)

  pub no_second : t.first < length lines → length lines ≤ t.second → fitting lines t ≡ false
  unfolding fitting
  no_second h k = rw (lt-ltb t.first (length lines) h, le-ltb t.second (length lines) k)

  pub fits_meeting : t.first < length lines → t.second < length lines →
      fitting lines t ≡ eqb (get_or lines t.first no_line).end (get_or lines t.second no_line).start
  unfolding fitting
  fits_meeting h k = rw (lt-ltb t.first (length lines) h, lt-ltb t.second (length lines) k)

-- Of several that all fit, each one does: so its second line starts where its first ends.
pub fits_at : (lines : List Line) (bans : List Turn) (i : ℕ) → i < length bans → all_fitting lines bans ≡ true → fitting lines (ban_at bans i) ≡ true
unfolding all_fitting
fits_at lines [] i i< e = absurd (omega arith)
fits_at lines (t ∷ ts) zero i< e = (both (fitting lines t) _ e).0
fits_at lines (t ∷ ts) (suc i) i< e = fits_at lines ts i (omega arith) (both (fitting lines t) _ e).1

pub meets_second : (m : Map) (i : ℕ) → i < length m.bans → all_fitting m.lines m.bans ≡ true →
    (line_at m (ban_at m.bans i).second).start ≡ (line_at m (ban_at m.bans i).first).end
unfolding line_at
meets_second m i i< e =
    let f = fits_at m.lines m.bans i i< e in
    sym (eqb-true _ _ (sym (fits_meeting m.lines (ban_at m.bans i) (fits_first m.lines _ f) (fits_second m.lines _ f)) ∙ f))

module _ (w : List ℕ) (lines first second : ℕ) (known : first < lines) (known' : second < lines) where
  pub held_fits : fitting (held_lines w lines) (record { first = first; second = second }) ≡ eqb (get_or w (line_place first + 1) 0) (get_or w (line_place second) 0)
  unfolding held_line line_from
  held_fits =
      let n = listed_length (held_line w) lines in
      fits_meeting (held_lines w lines) (record { first = first; second = second }) (omega (arith, n)) (omega (arith, n))
      ∙ ap₂ (λ (a b : Line). eqb a.end b.start) (listed_at (held_line w) lines first no_line known) (listed_at (held_line w) lines second no_line known')
