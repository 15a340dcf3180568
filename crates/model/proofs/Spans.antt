-- An offset byte's span: it is there, it holds the offset that was written, its ends are close, and there is no other.
use Prim.Native.Nat.{ℕ, zero, suc, ◌+◌, ◌*◌, ◌-◌, ◌≤◌, ◌<◌}
use mathlib.Core.Path.{◌≡◌, refl, sym, subst}
use mathlib.Core.Logic.{◌≢◌}
use mathlib.Core.Bool.{Bool, true, false, cond}
use native.Mathlib.Nat.{le_antisymm}
use native.Mathlib.Decide.{dec_lt, ℕ_discrete}
use native.Mathlib.Omega.{arith}
use lib.Dec.{eqb}
use borrow.Author.Tests.{eqb-true, eqb-false}
use Rattle.model.specs.declared.Span.{Span}
use Rattle.model.specs.Field.{offset_steps, greatest_offset_byte, offset_byte}
use Rattle.model.specs.Reference.{Offset, absent, byte}
use Rattle.model.specs.Choice.{offset_of}
use Rattle.model.specs.Span.{Gives, SpanRead, unflagged, flagged, NoOffset, no_offset}
use Rattle.model.specs.Demand3.{Close, Within}
use Rattle.model.proofs.Nearest.{past, not_past}

-- The least and the greatest number with a property that can be tested.
abbrev Least : (ℕ → Type 0) → Type 0
Least Q = (lo : ℕ) × Q lo × ((j : ℕ) → Q j → lo ≤ j)

abbrev Greatest : (ℕ → Type 0) → Type 0
Greatest Q = (hi : ℕ) × Q hi × ((j : ℕ) → Q j → j ≤ hi)

module _ (Q : ℕ → Type 0) (test : (n : ℕ) → Dec (Q n)) where
  other : (j k : ℕ) → Q j → (Q k → ⊥) → j ≢ k
  other j k q h e = h (subst Q e q)

  least : (d k : ℕ) → ((j : ℕ) → Q j → k ≤ j) → Q (k + d) → Least Q
  least zero k above q = (k + 0, q, λ j qj. omega (arith, above j qj))
  least (suc d) k above q = go (test k) λ up. least d (k + 1) up (subst Q (omega arith) q)
    where
      go : Dec (Q k) → (((j : ℕ) → Q j → k + 1 ≤ j) → Least Q) → Least Q
      go (yes h) rest = (k, h, above)
      go (no h) rest = rest λ j qj. omega (arith, above j qj, other j k qj h)

  greatest : (n : ℕ) → ((j : ℕ) → Q j → j < n) → (o : ℕ) → Q o → Greatest Q
  greatest zero below o q = absurd (omega (arith, below o q))
  greatest (suc n) below o q = go (test n) λ down. greatest n down o q
    where
      go : Dec (Q n) → (((j : ℕ) → Q j → j < n) → Greatest Q) → Greatest Q
      go (yes h) rest = (n, h, λ j qj. omega (arith, below j qj))
      go (no h) rest = rest λ j qj. omega (arith, below j qj, other j n qj h)

gives? : (leg b o : ℕ) → Dec (Gives leg b o)
gives? leg b o = go (dec_lt 0 o) (dec_lt o leg) (ℕ_discrete (offset_byte leg o) b)
  where
    go : Dec (0 < o) → Dec (o < leg) → Dec (offset_byte leg o ≡ b) → Dec (Gives leg b o)
    go (yes a) (yes i) (yes s) = yes (record { above = a; inside = i; same = s })
    go (yes a) (yes i) (no s) = no λ g. s g.same
    go (yes a) (no i) s = no λ g. i g.inside
    go (no a) i s = no λ g. a g.above

-- Two offsets of one byte differ by less than three 512ths of the leg: 255 also stands for 256. Those of a lesser byte differ by less than two.
module _ {leg b lo hi : ℕ} (low : Gives leg b lo) (high : Gives leg b hi) where
  long : 0 < leg
  long = omega (arith, low.inside)

  -- The greater one is before the half past `b`, and the lesser one is not before the half past the byte below.
  pub high_end : b < greatest_offset_byte → 512 * hi < (2 * b + 1) * leg
  high_end small = go (dec_lt (512 * hi) ((2 * b + 1) * leg))
    where
      go : Dec (512 * hi < (2 * b + 1) * leg) → 512 * hi < (2 * b + 1) * leg
      go (yes h) = h
      go (no h) = absurd (omega (arith, past leg hi long b small (omega (arith, h)), high.same))

  pub low_end : (a : ℕ) → a < b → (2 * a + 1) * leg ≤ 512 * lo
  low_end a less = go (dec_lt (512 * lo) ((2 * a + 1) * leg))
    where
      go : Dec (512 * lo < (2 * a + 1) * leg) → (2 * a + 1) * leg ≤ 512 * lo
      go (yes h) = absurd (omega (arith, not_past leg lo long a h, low.same, less))
      go (no h) = omega (arith, h)

  pub closer : b < greatest_offset_byte → offset_steps * (hi - lo) < leg
  closer small = go b refl
    where
      go : (n : ℕ) → n ≡ b → offset_steps * (hi - lo) < leg
      go zero e = omega (arith, rw (sym e) at (high_end small))
      go (suc a) e = omega (arith, rw (sym e) at (high_end small), low_end a (omega (arith, e)))

  close : 512 * (hi - lo) < 3 * leg
  close = go (dec_lt b greatest_offset_byte)
    where
      go : Dec (b < greatest_offset_byte) → 512 * (hi - lo) < 3 * leg
      go (yes small) = omega (arith, closer small)
      go (no h) = omega (arith, low_end 254 (omega (arith, h)), high.inside)

pub ends_close : {leg : ℕ} {o : Offset} {s : Span} → 0 < leg → SpanRead leg o s → Close s.least s.greatest leg
ends_close some unflagged = record { up = omega (arith, some); down = omega (arith, some) }
ends_close some (flagged low high all) = record { up = close low high; down = close high low }

-- What the reference says of the offset that was written.
pub data Stated (leg : ℕ) : ℕ → Offset → Type 0 where
  without : Stated leg 0 absent
  given : {offset b : ℕ} → Gives leg b offset → Stated leg offset (byte b)

pub stated : (leg offset : ℕ) → offset < leg → Stated leg offset (offset_of leg offset)
unfolding offset_of
stated leg offset inside = go (eqb offset 0) refl
  where
    go : (t : Bool) → eqb offset 0 ≡ t → Stated leg offset (cond t absent (byte (offset_byte leg offset)))
    go true t = rw (eqb-true offset 0 t) without
    go false t = given {offset = offset} (record { above = omega (arith, eqb-false offset 0 t); inside = inside; same = refl })

-- There is a span.
pub span : {leg offset : ℕ} {o : Offset} → Stated leg offset o → (s : Span) × SpanRead leg o s × (s.least ≤ offset)
span without = (record { least = 0; greatest = 0 }, unflagged, omega arith)
span {leg} {offset} (given {b = b} g) =
    let lo = least (Gives leg b) (gives? leg b) offset 0 (λ j q. omega arith) (subst (Gives leg b) (omega arith) g) in
    let hi = greatest (Gives leg b) (gives? leg b) leg (λ j q. q.inside) offset g in
    (record { least = lo.0; greatest = hi.0 }, flagged lo.1 hi.1 (λ o q. (lo.2 o q, hi.2 o q)), lo.2 offset g)

-- Every span holds the offset.
pub within : {leg offset : ℕ} {o : Offset} {s : Span} → offset < leg → Stated leg offset o → SpanRead leg o s → Within offset s leg
within inside without unflagged = record { from = omega arith; to = omega arith; ends = ends_close (omega (arith, inside)) unflagged }
within {offset = offset} inside (given g) (flagged low high all) =
    record { from = (all offset g).0; to = (all offset g).1; ends = ends_close (omega (arith, inside)) (flagged low high all) }

-- There is one span only, or none.
pub span_same : {leg : ℕ} {o : Offset} {s s' : Span} → SpanRead leg o s → SpanRead leg o s' → s ≡ s'
span_same unflagged unflagged = refl
span_same (flagged {lo = lo} {hi = hi} low high all) (flagged {lo = lo'} {hi = hi'} low' high' all') = λ i.
    record { least = le_antisymm (all lo' low').0 (all' lo low).0 i; greatest = le_antisymm (all' hi high).1 (all hi' high').1 i }

pub no_span : {leg : ℕ} {o : Offset} {s : Span} → NoOffset leg o → SpanRead leg o s → ⊥
no_span (no_offset none) (flagged {lo = lo} low high all) = none lo low
