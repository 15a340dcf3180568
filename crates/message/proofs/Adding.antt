-- What adding comes to, case by case.
use Prim.Native.Nat.{ℕ, ◌+◌}
use mathlib.Core.Path.{◌≡◌}
use mathlib.Core.Bool.{true, false}
use mathlib.Core.List.{List, ◌++◌}
use lib.ListN.{length, take, drop}
use borrow.Author.Tests.{eq-eqb, ne_eqb}
use Rattle.model.specs.declared.Refusal.TheVariants.{MessageOrder, MessageFull}
use Rattle.model.specs.MessageCall.{fits, adding, extended, buffer_added, Adds}
use Rattle.model.specs.declared.Message.{Message}
use Rattle.model.specs.declared.Message.TheVariants.{Closed, Open}
use Rattle.std.specs.Prelude.{Ok, Err}

pub none_open : {m : Message} {finished : ℕ} {buffer portion : List ℕ} → m ≡ Closed finished → Adds m buffer portion (Err MessageOrder) buffer
unfolding adding buffer_added
none_open e = record { answers = rw e; buffer_after = rw e }

module _ {m : Message} {finished added : ℕ} (buffer portion : List ℕ) (e : m ≡ Open finished added) where
  pub nothing_more : length portion ≡ 0 → Adds m buffer portion (Ok (Open finished added)) buffer
  unfolding adding buffer_added
  nothing_more none =
      record { answers = rw (e, adding, eq-eqb (length portion) 0 none); buffer_after = rw (e, buffer_added, eq-eqb (length portion) 0 none) }

  pub no_room : (length portion ≡ 0 → ⊥) → fits finished (added + length portion) (length buffer) ≡ false →
      Adds m buffer portion (Err MessageFull) buffer
  unfolding adding buffer_added
  no_room some full =
      record {
        answers = rw (e, adding, ne_eqb (length portion) 0 some, full);
        buffer_after = rw (e, buffer_added, ne_eqb (length portion) 0 some, full);
      }

  pub more : {buffer' : List ℕ} → (length portion ≡ 0 → ⊥) → fits finished (added + length portion) (length buffer) ≡ true →
      buffer' ≡ take finished buffer ++ extended added (drop finished buffer) portion →
      Adds m buffer portion (Ok (Open finished (added + length portion))) buffer'
  unfolding adding buffer_added
  more some fit is =
      record {
        answers = rw (e, adding, ne_eqb (length portion) 0 some, fit);
        buffer_after = rw (e, buffer_added, ne_eqb (length portion) 0 some, fit) is;
      }
