-- "Maps of one length that differ in one byte are always told apart" (W10), over calls: a message that was started on one of them, whatever was called since, is
-- refused with 30 by both readers on the other, whatever the reference. So it is on a map of another length. Where the other bytes are no map, the map's own
-- refusal "after" which 30 stands is given.
use Prim.Native.Nat.{ℕ, ◌≤◌, ◌<◌}
use mathlib.Core.Path.{◌≡◌, ◌∙◌, ap}
use mathlib.Core.Bool.{false}
use mathlib.Core.List.{List, ◌∷◌, ◌++◌}
use lib.ListN.{length, take}
use Rattle.model.specs.declared.Message.{Message}
use Rattle.model.specs.Refusal.{row}
use Rattle.model.specs.Map.{Map, whole, decode}
use Rattle.model.specs.Reference.{parse}
use Rattle.model.specs.Work.{work_length}
use Rattle.model.specs.Outcome.{ReadOutcome, ReadParsed}
use Rattle.model.specs.PointAlong.{parse_point, PointReadOutcome, PointReadParsed}
use Rattle.model.specs.Front.{same_map}
use Rattle.model.specs.Message.{framed_all}
use Rattle.model.specs.MessageCall.{finished_bytes}
use Rattle.model.specs.MessageHistory.{finished, Call, after, Begun, room}
use Rattle.model.specs.OfMessage.{ReadsOfMessage, PointReadsOfMessage}
use Rattle.model.proofs.Fronts.{one_byte_apart, other_length}
use Rattle.model.proofs.OfMessage.{other_front}
use Rattle.message_laws.proofs.Started.{start_so}
use Rattle.message_laws.proofs.Histories.{first}

-- Both readers refuse a message with 30 on a map.
pub record Refused30 (mb message : List ℕ) : Type 0 where
  pub lines : (ref : List ℕ) (work room : ℕ) (o : ReadOutcome) → work_length ≤ work → ReadsOfMessage mb message ref work room o →
      o ≡ ReadOutcome.refused (row 30)
  pub points : (ref : List ℕ) (work room : ℕ) (o : PointReadOutcome) → work_length ≤ work → PointReadsOfMessage mb message ref work room o →
      o ≡ PointReadOutcome.refused (row 30)

pub refused_30 : (mb message : List ℕ) (m : Map) → decode mb ≡ whole m → same_map mb message ≡ false → Refused30 mb message
refused_30 mb message m d e =
    record {
      lines =
          λ ref work room o full h. other_front ReadOutcome.refused (λ m. ReadParsed m (parse ref) room) mb message e m d work full o h;
      points =
          λ ref work room o full h. other_front PointReadOutcome.refused (λ m. PointReadParsed m (parse_point ref) room) mb message e m d work full o h;
    }

pub told_apart : (before : List ℕ) (x y : ℕ) (behind : List ℕ) → x < 256 → y < 256 → (x ≡ y → ⊥) → (b₀ : List ℕ) (calls : List Call) (m : Message)
    (buffer : List ℕ) → Begun (before ++ x ∷ behind) b₀ calls m buffer → (other : Map) → decode (before ++ y ∷ behind) ≡ whole other →
    Refused30 (before ++ y ∷ behind) (take (finished_bytes m) buffer)
told_apart before x y behind small small' differ b₀ calls m buffer b other d =
    let mb = before ++ x ∷ behind in
    let mb' = before ++ y ∷ behind in
    refused_30 mb' (take (finished_bytes m) buffer) other d
    (ap (same_map mb') (first b)
    ∙ one_byte_apart before x y behind (framed_all (finished (after mb (room b₀) calls))) small small' differ (start_so b.start).few)

pub lengths_apart : (mb mb' : List ℕ) → (length mb ≡ length mb' → ⊥) → (b₀ : List ℕ) (calls : List Call) (m : Message) (buffer : List ℕ) →
    Begun mb b₀ calls m buffer → (other : Map) → decode mb' ≡ whole other → Refused30 mb' (take (finished_bytes m) buffer)
lengths_apart mb mb' differ b₀ calls m buffer b other d =
    refused_30 mb' (take (finished_bytes m) buffer) other d
    (ap (same_map mb') (first b) ∙ other_length mb mb' (framed_all (finished (after mb (room b₀) calls))) differ (start_so b.start).few)
