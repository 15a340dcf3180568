-- The C structs of a message as the records of the definitions, and messages whose numbers fit them (paper 02, W9).
use Rattle.std.specs.Prelude.{◌<◌, ◌^◌, Ok, Err}
use Rattle.model.specs.declared.Message.{Message}
use Rattle.model.specs.declared.Message.TheVariants.{Closed, Open}
use Rattle.model.specs.Answer.{MessageAnswer}
use Rattle.model.specs.HostMessage.{HostMessage, HostPart}
use Rattle.host_message.specs.declared.Held.{Held}
use Rattle.host_message.specs.declared.Part.{Part}

-- `struct openlr_message`.
unfoldable pub as_message : Held → HostMessage
as_message h = record { refusal = h.refusal; bytes = h.bytes; is_open = h.is_open; added = h.added }

-- `struct openlr_part`.
unfoldable pub as_part : Part → HostPart
as_part p = record { start = p.start; bytes = p.bytes }

-- The numbers have 32 bits.
abbrev pub Narrow : Message → Type 0
Narrow (Closed finished) = finished < 2 ^ 32
Narrow (Open finished added) = (finished < 2 ^ 32) × (added < 2 ^ 32)

abbrev pub NarrowAnswer : MessageAnswer → Type 0
NarrowAnswer (Ok m) = Narrow m
NarrowAnswer (Err why) = Unit {0}
