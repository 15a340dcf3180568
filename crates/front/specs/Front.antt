-- What the functions answer that read a front and put one.
use Rattle.std.specs.Prelude.{ℕ, ◌≤◌, ◌<◌, ◌≡◌, List, length, drop, Option, Some, None}
use Rattle.model.specs.Work.{placed}
use Rattle.model.specs.Front.{front, unreadable, front_of, front_bytes}
use Rattle.front.specs.declared.Front.{Front}

-- What was read. Its place is within the message.
abbrev pub FrontIs : List ℕ → Option Front → Type 0
FrontIs message (Some f) = (front_of message ≡ front f.count f.sum (drop f.behind message)) × (f.behind ≤ length message)
FrontIs message None = front_of message ≡ unreadable

-- The front stands first in the buffer, the rest unchanged; or nothing changes.
abbrev pub FrontPut : List ℕ → List ℕ → List ℕ → Option ℕ → Type 0
FrontPut mb before after (Some count) =
    (count ≡ length (front_bytes mb)) × (length (front_bytes mb) ≤ length before) × (after ≡ placed (front_bytes mb) before)
FrontPut mb before after None = (length before < length (front_bytes mb)) × (after ≡ before)
