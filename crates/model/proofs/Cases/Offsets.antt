-- Spans of offset bytes and refusal 19 (paper 01, "Refused, by place").
use Prim.Native.Nat.{ℕ, ◌≤◌}
use mathlib.Core.Path.{◌≡◌, refl}
use mathlib.Core.List.{[], ◌∷◌}
use native.Mathlib.Omega.{arith}
use Rattle.model.specs.declared.Span.{Span}
use Rattle.model.specs.Map.{Map}
use Rattle.model.specs.Reference.{byte, Reference}
use Rattle.model.specs.Refusal.{row}
use Rattle.model.specs.Span.{Gives, SpanRead, flagged, NoOffset, no_offset}
use Rattle.model.specs.Outcome.{ReadOutcome, read, ReadEnd}
use Rattle.model.proofs.Cases.Computing.{computing}
use Rattle.model.proofs.Cases.Edges.{span, Ends, spanned, byte_80_on_the_ridge, half_of_2, third_of_3}
use Rattle.model.proofs.Cases.Ridge.{node, line, ridge, road}

-- A reference of which only the offsets matter here.
abbrev with : ℕ → ℕ → Reference
with pos neg = record { lon = 0; lat = 0; points = []; arrives = road 0; pos = byte pos; neg = byte neg }

-- Lines of 2 and of 3 centimetres.
abbrev short : Map
short = record { nodes = node 0 0 ∷ node 1_000 0 ∷ []; lines = line 0 1 2 8 24 ∷ line 0 1 3 8 24 ∷ []; bans = [] }

pub record Offsets : Type 0 where
  -- "From 1 to below the leg length": byte 0 on a leg of 1000 is 1 alone, byte FF is 995 to 999, of which 999 is nearest to 256 256ths (W6). On a leg of
  -- 1025 byte 0 is 1 and 2; on a leg of 512 nothing gives it.
  pub byte_0 : SpanRead 1_000 (byte 0) (span 1 1)
  pub two_of_byte_0 : SpanRead 1_025 (byte 0) (span 1 2)
  pub no_byte_0 : NoOffset 512 (byte 0)
  pub byte_ff : SpanRead 1_000 (byte 0xFF) (span 995 999)
  -- "On the first leg for the positive and the last for the negative": byte 80 on 10,000 and on 5,000.
  pub each_on_its_leg : ReadEnd ridge (with 0x80 0x80) 2 ((0 ∷ []) ∷ (2 ∷ []) ∷ []) (read (0 ∷ 2 ∷ []) (span 4_981 5_019) (span 2_491 2_509))
  -- "The two least offsets reach the total": 1 and 1 reach 2 but not 3.
  pub reach_2 : Ends short (with 0x80 0x80) ((0 ∷ []) ∷ []) 19
  pub below_3 : ReadEnd short (with 0x55 0x55) 1 ((1 ∷ []) ∷ []) (read (1 ∷ []) (span 1 1) (span 1 1))

at_least_1 : {leg b : ℕ} {s : Span} → SpanRead leg (byte b) s → 1 ≤ s.least
at_least_1 (flagged low high all) = low.above

reached : Ends short (with 0x80 0x80) ((0 ∷ []) ∷ []) 19
unfolding computing
reached =
    record {
      given = λ room. ReadEnd.too_far (record { pos_read = half_of_2; neg_read = half_of_2 }) (omega arith);
      nothing_else = λ room o. else;
    }
  where
    else : {room : ℕ} {o : ReadOutcome} → ReadEnd short (with 0x80 0x80) room ((0 ∷ []) ∷ []) o → o ≡ ReadOutcome.refused (row 19)
    else (ReadEnd.no_pos n) = refl
    else (ReadEnd.no_neg n) = refl
    else (ReadEnd.too_far s h) = refl
    else (ReadEnd.no_room s h k) = absurd (omega (arith, h, at_least_1 s.pos_read, at_least_1 s.neg_read))
    else (ReadEnd.accepted s h k) = absurd (omega (arith, h, at_least_1 s.pos_read, at_least_1 s.neg_read))

pub offsets : Offsets
unfolding computing
offsets =
    record {
      byte_0 = spanned 1_000 0 1 1 (omega arith) (omega arith) (λ o g. omega arith);
      two_of_byte_0 = spanned 1_025 0 1 2 (omega arith) (omega arith) (λ o g. omega arith);
      no_byte_0 = no_offset {b = 0} λ o (g : Gives 512 0 o). omega arith;
      byte_ff = spanned 1_000 0xFF 995 999 (omega arith) (omega arith) (λ o g. omega arith);
      each_on_its_leg = ReadEnd.accepted
          (record { pos_read = byte_80_on_the_ridge; neg_read = spanned 5_000 0x80 2_491 2_509 (omega arith) (omega arith) (λ o g. omega arith) }) (omega arith)
          (omega arith);
      reach_2 = reached;
      below_3 = ReadEnd.accepted (record { pos_read = third_of_3; neg_read = third_of_3 }) (omega arith) (omega arith);
    }
