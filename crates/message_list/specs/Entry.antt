-- What the functions answer that look at one byte of a message: the place of what stands there.
use Rattle.std.specs.Prelude.{ℕ, ◌-◌, ◌≤◌, ◌≡◌, List, length, take, drop, Option, Some, None}
use Rattle.model.specs.Message.{Next, reference, stop}
use Rattle.message_list.specs.declared.Part.{Part}

-- What stands there is the reference from byte `start` to before byte `end`.
pub record Stands (message : List ℕ) (what : Next) (start end : ℕ) : Type 0 where
  pub ordered : start ≤ end
  pub inside : end ≤ length message
  pub is : what ≡ reference (take (end - start) (drop start message)) (drop end message)

abbrev pub EntryIs : List ℕ → Next → Option Part → Type 0
EntryIs message what (Some p) = Stands message what p.start p.end
EntryIs message what None = what ≡ stop
