-- The claim of W10 for a C host: what its writers wrote, sent in a message and asked for by number, its readers hand back out of the message.
use Prim.Native.Nat.{ℕ}
use mathlib.Core.Path.{◌≡◌, sym, ◌∙◌, ap, subst}
use mathlib.Core.Bool.{true}
use mathlib.Core.List.{List}
use lib.ListN.{length, take}
use Rattle.model.specs.declared.Span.{Span}
use Rattle.model.specs.Reference.{parse}
use Rattle.model.specs.Work.{work_length}
use Rattle.model.specs.Outcome.{ReadOutcome, ReadParsed}
use Rattle.model.specs.PointAlong.{GivenPoint, parse_point, PointReadOutcome, PointReadParsed}
use Rattle.model.specs.Host.{host_room, host_stretch}
use Rattle.model.specs.HostDemand3.{HostReadAs, HostBack}
use Rattle.model.specs.HostPointTrip.{HostPointReadAs, HostPointBack}
use Rattle.model.specs.Front.{same_map}
use Rattle.model.specs.Message.{reference_number}
use Rattle.model.specs.HostMessage.{host_part, message_of}
use Rattle.model.specs.MessageTrip.{Sent}
use Rattle.model.specs.HostMessageTrip.{part_bytes, HostReadOutAs, HostPointReadOutAs, HostSent, HostMessageTrip}
use Rattle.model.proofs.Answering.{answered_by}
use Rattle.model.proofs.HostDemand3.{host_demand3}
use Rattle.model.proofs.HostPointTrip.{host_point_trip}
use Rattle.model.proofs.OfMessage.{by_itself, out_of_it}
use Rattle.message_laws.proofs.Parts.{placed_in}
use Rattle.message_laws.proofs.HostHistories.{finished_are, begun_meant}
use Rattle.message_laws.proofs.Trips.{sent_there, sent_passes}

-- The bytes at the place that the host is told are the reference itself.
part_is : (n : ℕ) (message : List ℕ) → part_bytes n message ≡ reference_number n message
unfolding host_part
part_is n message = (placed_in n message).itself

sent_meant : {mb bytes : List ℕ} {n : ℕ} {message : List ℕ} → HostSent mb bytes n message → Sent mb bytes n message
sent_meant s =
    record {
      b₀ = s.b₀;
      calls = s.calls;
      m = message_of s.h;
      buffer = s.buffer;
      begun = begun_meant s.begun;
      there = s.there;
      closed = s.closed;
      message_is = s.message_is ∙ ap (λ (k : ℕ). take k s.buffer) (sym (finished_are s.h));
    }

lines_out : {mb message bytes lines : List ℕ} {pos neg : Span} → same_map mb message ≡ true → HostReadAs mb bytes lines pos neg →
    HostReadOutAs mb message bytes lines pos neg
lines_out {mb} {message} {bytes} e r =
    record {
      accepts =
          λ before enough.
          record {
            answered =
                answered_by
                (λ o h.
                out_of_it ReadOutcome.refused (λ m. ReadParsed m (parse bytes) (host_room (length before))) mb message e work_length o h)
                (r.accepts before enough).answered;
          };
      nothing_else =
          λ before after a enough call.
          r.nothing_else before after a enough
          (record {
            answered =
                answered_by
                (λ o h.
                by_itself ReadOutcome.refused (λ m. ReadParsed m (parse bytes) (host_room (length before))) mb message e work_length o h)
                call.answered;
          });
    }

point_out : {mb message bytes : List ℕ} {p : GivenPoint} {span : Span} → same_map mb message ≡ true → HostPointReadAs mb bytes p span →
    HostPointReadOutAs mb message bytes p span
point_out {mb} {message} {bytes} e r =
    record {
      accepts =
          λ before enough.
          record {
            answered =
                answered_by
                (λ o h.
                out_of_it PointReadOutcome.refused (λ m. PointReadParsed m (parse_point bytes) (host_room (length before))) mb message e work_length o h)
                (r.accepts before enough).answered;
          };
      nothing_else =
          λ before after a enough call.
          r.nothing_else before after a enough
          (record {
            answered =
                answered_by
                (λ o h.
                by_itself PointReadOutcome.refused (λ m. PointReadParsed m (parse_point bytes) (host_room (length before))) mb message e work_length o h)
                call.answered;
          });
    }

pub host_message_trip : HostMessageTrip
host_message_trip =
    record {
      back =
          λ mb message n stretch pos neg tests before bytes a call zero sent.
          let s = sent_meant sent in
          let there : take a.bytes bytes ≡ part_bytes n message = sym (part_is n message ∙ sent_there s) in
          let b = subst (HostBack mb (host_stretch stretch pos neg) tests) there (host_demand3.back mb stretch pos neg tests before bytes a call zero) in
          record { back = b.back; reads = lines_out (sent_passes s) b.reads };
      point_back =
          λ mb message n p before bytes a call zero sent.
          let s = sent_meant sent in
          let there : take a.bytes bytes ≡ part_bytes n message = sym (part_is n message ∙ sent_there s) in
          let b = subst (HostPointBack mb p) there (host_point_trip.back mb p before bytes a call zero) in
          record { back = b.back; reads = point_out (sent_passes s) b.reads };
    }
