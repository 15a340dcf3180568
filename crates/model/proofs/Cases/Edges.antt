-- The cases marked [M] in paper 01, "At the edges", as paper 02 has changed them (W3, W6, W8), as one theorem; and the two numbers of "The depot map".
use Prim.Native.Nat.{ℕ, ◌+◌, ◌*◌, ◌-◌, ◌/◌, ◌≤◌}
use mathlib.Core.Path.{◌≡◌, refl}
use mathlib.Core.Logic.{◌≢◌}
use mathlib.Core.List.{List, [], ◌∷◌}
use native.Mathlib.Omega.{arith}
use Rattle.model.specs.declared.Span.{Span}
use Rattle.model.specs.Number.{number, got, faulty}
use Rattle.model.specs.Field.{code, distance, offset_byte}
use Rattle.model.specs.Sector.{sector}
use Rattle.model.specs.Map.{Map, MapAnswer, decode}
use Rattle.model.specs.Lines.{total}
use Rattle.model.specs.Reference.{byte, Reference}
use Rattle.model.specs.Choice.{first_leg, last_leg}
use Rattle.model.specs.Refusal.{row}
use Rattle.model.specs.Span.{Gives, SpanRead, flagged, NoOffset, no_offset}
use Rattle.model.specs.Outcome.{SpansRead, ReadOutcome, ReadEnd}
use Rattle.model.proofs.OffsetSpans.{greatest_offset, byte_255_span, byte_255_nowhere}
use Rattle.model.proofs.Cases.Computing.{computing}

-- The code of a longitude, given as the map stores it.
abbrev pub lon : ℕ → ℕ
lon c = code 18_000_000 c

abbrev pub span : ℕ → ℕ → Span
span least greatest = record { least = least; greatest = greatest }

-- Once every leg is read the reader gives this refusal, and nothing else, whatever the line buffer.
pub record Ends (m : Map) (r : Reference) (lss : List (List ℕ)) (n : ℕ) : Type 0 where
  pub given : (room : ℕ) → ReadEnd m r room lss (ReadOutcome.refused (row n))
  pub nothing_else : (room : ℕ) (o : ReadOutcome) → ReadEnd m r room lss o → o ≡ ReadOutcome.refused (row n)

pub record Edges : Type 0 where
  pub codes : lon 18_000_000 ∷ lon 18_000_001 ∷ lon 17_999_999 ∷ lon 18_000_002 ∷ lon 18_000_003 ∷ lon 18_100_000 ∷ lon 35_999_998 ∷ [] ≡
      0 ∷ 0 ∷ 0 ∷ 1 ∷ 1 ∷ 46_603 ∷ 8_388_607 ∷ []
  -- "The marked D cases take tenfold lengths too" (W8).
  pub distances : distance 5_850 ∷ distance 5_860 ∷ distance 1_500_000 ∷ [] ≡ 0 ∷ 1 ∷ 255 ∷ []
  -- "(0, 5) gives 0, (5, 5) gives 4, (-5, 0) gives 24" (paper 02, W3, in place of those on bearings).
  pub sectors : sector 250 255 ∷ sector 255 255 ∷ sector 245 250 ∷ [] ≡ 0 ∷ 4 ∷ 24 ∷ []
  -- "On a leg of 512, offset 1 is exactly a half and gives 1"; "byte 80 on a leg of 1000 then means 499 to 501" (W6).
  pub offset_1_on_512 : offset_byte 512 1 ≡ 1
  pub byte_80_on_1000 : SpanRead 1_000 (byte 0x80) (span 499 501)
  pub byte_1_on_100 : (m : Map) (r : Reference) (lss : List (List ℕ)) → total m (first_leg lss) ≡ 100 → r.pos ≡ byte 1 → Ends m r lss 19
  pub negative_byte_1_on_100 : (m : Map) (r : Reference) (lss : List (List ℕ)) → total m (last_leg lss) ≡ 100 → r.neg ≡ byte 1 →
      Ends m r lss 19
  -- The greatest offset of a leg gives 255 and is in its span, from a leg of 171 on; up to 170 nothing gives 255 (W6).
  pub greatest_offset : (leg : ℕ) → 171 ≤ leg → (offset_byte leg (leg - 1) ≡ 255) × SpanRead leg (byte 0xFF) (span ((509 * leg + 511) / 512) (leg - 1))
  pub no_255 : (leg : ℕ) → leg ≤ 170 → NoOffset leg (byte 0xFF)
  -- Legs of 1, 2 and 3, with no other byte (W6).
  pub leg_of_1 : (b : ℕ) → NoOffset 1 (byte b)
  pub leg_of_2 : SpanRead 2 (byte 0x80) (span 1 1) × ((b : ℕ) → b ≢ 0x80 → NoOffset 2 (byte b))
  pub leg_of_3 : SpanRead 3 (byte 0x55) (span 1 1) × SpanRead 3 (byte 0xAB) (span 2 2) × ((b : ℕ) → b ≢ 0x55 → b ≢ 0xAB → NoOffset 3 (byte b))
  pub longitudes_0_and_1 : decode
      (2 ∷ 0x80 ∷ 0xD1 ∷ 0xCA ∷ 0x08 ∷ 0xC0 ∷ 0xA8 ∷ 0xA5 ∷ 0x04 ∷ 0x81 ∷ 0xD1 ∷ 0xCA ∷ 0x08 ∷ 0xC0 ∷ 0xA8 ∷ 0xA5 ∷ 0x04 ∷ 1 ∷ 0 ∷ 1
      ∷ 0xE8 ∷ 0x07 ∷ 3 ∷ 3 ∷ 0xC2 ∷ 0x03 ∷ 0xFA ∷ 0x01 ∷ 50 ∷ 0xFA ∷ 0x01 ∷ 0 ∷ []) ≡
      MapAnswer.refused (row 6)
  pub number_300 : number (0xAC ∷ 0x02 ∷ []) ≡ got 300 []
  pub not_shortest : number (0x80 ∷ 0x00 ∷ []) ≡ faulty

-- No whole offset from 1 to 99 gives byte 1 on a leg of 100: 1 gives 3.
no_byte_1 : NoOffset 100 (byte 1)
unfolding computing
no_byte_1 = no_offset {b = 1} λ o (g : Gives 100 1 o). omega arith

spanless : {s : Span} → SpanRead 100 (byte 1) s → ⊥
unfolding computing
spanless (flagged low high all) = omega (arith, low.above, low.inside, low.same)

-- Refusal 19 and nothing else, where one of the spans is missing.
no_spans : {m : Map} {r : Reference} {lss : List (List ℕ)} → ((room : ℕ) → ReadEnd m r room lss (ReadOutcome.refused (row 19))) →
    ((pos neg : Span) → SpansRead m r lss pos neg → ⊥) → Ends m r lss 19
no_spans {m} {r} {lss} given none = record { given = given; nothing_else = λ room o. else }
  where
    else : {room : ℕ} {o : ReadOutcome} → ReadEnd m r room lss o → o ≡ ReadOutcome.refused (row 19)
    else (ReadEnd.no_pos n) = refl
    else (ReadEnd.no_neg n) = refl
    else (ReadEnd.too_far s h) = refl
    else (ReadEnd.no_room s h k) = absurd (none _ _ s)
    else (ReadEnd.accepted s h k) = absurd (none _ _ s)

-- A span, from its two ends.
pub spanned : (leg b lo hi : ℕ) → Gives leg b lo → Gives leg b hi → ((o : ℕ) → Gives leg b o → (lo ≤ o) × (o ≤ hi)) →
    SpanRead leg (byte b) (record { least = lo; greatest = hi })
spanned leg b lo hi low high all = flagged low high all

pub byte_80 : SpanRead 1_000 (byte 0x80) (span 499 501)
unfolding computing
byte_80 = spanned 1_000 0x80 499 501 (omega arith) (omega arith) (λ o g. omega arith)

-- The ridge's own leg: 256 × 4,980.47 ÷ 10,000 is 127.5, and 256 × 5,019.53 ÷ 10,000 is 128.5 (W8).
pub byte_80_on_the_ridge : SpanRead 10_000 (byte 0x80) (span 4_981 5_019)
unfolding computing
byte_80_on_the_ridge = spanned 10_000 0x80 4_981 5_019 (omega arith) (omega arith) (λ o g. omega arith)

-- The only offset of a leg of 2, and the two of a leg of 3.
pub half_of_2 : SpanRead 2 (byte 0x80) (span 1 1)
unfolding computing
half_of_2 = spanned 2 0x80 1 1 (omega arith) (omega arith) (λ o g. omega arith)

pub third_of_3 : SpanRead 3 (byte 0x55) (span 1 1)
unfolding computing
third_of_3 = spanned 3 0x55 1 1 (omega arith) (omega arith) (λ o g. omega arith)

two_thirds_of_3 : SpanRead 3 (byte 0xAB) (span 2 2)
unfolding computing
two_thirds_of_3 = spanned 3 0xAB 2 2 (omega arith) (omega arith) (λ o g. omega arith)

pub edges : Edges
unfolding computing
edges =
    record {
      codes = refl;
      distances = refl;
      sectors = refl;
      offset_1_on_512 = refl;
      byte_80_on_1000 = byte_80;
      byte_1_on_100 = λ m r lss leg e.
          no_spans (λ room. ReadEnd.no_pos (rw (leg, e) no_byte_1)) (λ pos neg s. spanless (rw (leg, e) at s.pos_read));
      negative_byte_1_on_100 = λ m r lss leg e.
          no_spans (λ room. ReadEnd.no_neg (rw (leg, e) no_byte_1)) (λ pos neg s. spanless (rw (leg, e) at s.neg_read));
      greatest_offset = λ leg h. (greatest_offset leg (omega (arith, h)), byte_255_span leg (omega (arith, h)));
      no_255 = byte_255_nowhere;
      leg_of_1 = λ b. no_offset {b = b} λ o (g : Gives 1 b o). omega (arith, g.above, g.inside);
      leg_of_2 = (half_of_2, λ b other. no_offset {b = b} λ o (g : Gives 2 b o). omega arith);
      leg_of_3 = (third_of_3, two_thirds_of_3, λ b other another. no_offset {b = b} λ o (g : Gives 3 b o). omega arith);
      longitudes_0_and_1 = refl;
      number_300 = refl;
      not_shortest = refl;
    }
