-- A finished reference keeps its number and its bytes, whatever is called afterwards (W9).
use Prim.Native.Nat.{ℕ, ◌<◌}
use mathlib.Core.Path.{◌≡◌, refl, sym, ◌∙◌, ap}
use mathlib.Core.Bool.{Bool, true, false, cond, ◌&&◌}
use mathlib.Core.List.{List, [], ◌∷◌, ◌++◌, append_assoc, append-nil}
use lib.ListN.{length, get_or, get_or-append}
use lib.Dec.{leb}
use Rattle.model.specs.declared.Message.{Message}
use Rattle.model.specs.Reference.{longest_reference}
use Rattle.model.specs.MessageHistory.{Content, whole, partial, finished, content_bytes, Call, opens, adds, closes, done, refused, lengthened, outcome, left, after, History, begun, then, not_started}

-- The finished references of `c`, and perhaps more behind them.
record Grown (c c' : Content) : Type 0 where
  more : List (List ℕ)
  is : finished c' ≡ finished c ++ more

same : {c c' : Content} → finished c' ≡ finished c → Grown c c'
same {c} e = record { more = []; is = e ∙ sym (append-nil (finished c)) }

one_call : (mb : List ℕ) (room : ℕ) (c : Content) (call : Call) → Grown c (left c (outcome mb room c call))
unfolding left outcome lengthened
one_call mb room (whole rs) opens = same refl
one_call mb room (whole rs) (adds portion) = same refl
one_call mb room (whole rs) closes = same refl
one_call mb room (partial rs bs) opens = same refl
one_call mb room (partial rs bs) (adds portion) =
    go (leb (length (bs ++ portion)) longest_reference && leb (length (content_bytes mb (partial rs (bs ++ portion)))) room)
  where
    go : (t : Bool) → Grown (partial rs bs) (left (partial rs bs) (cond t (done (partial rs (bs ++ portion))) (refused 28)))
    go true = same refl
    go false = same refl
one_call mb room (partial rs []) closes = same refl
one_call mb room (partial rs (b ∷ bs)) closes = record { more = (b ∷ bs) ∷ []; is = refl }

later_calls : (mb : List ℕ) (room : ℕ) (later calls : List Call) → Grown (after mb room calls) (after mb room (later ++ calls))
unfolding after
later_calls mb room [] calls = same refl
later_calls mb room (call ∷ later) calls =
    let g = later_calls mb room later calls in
    let o = one_call mb room (after mb room (later ++ calls)) call in
    record {
      more = g.more ++ o.more;
      is = o.is ∙ ap (λ (rs : List (List ℕ)). rs ++ o.more) g.is ∙ append_assoc (finished (after mb room calls)) g.more o.more;
    }

pub lasts : (mb : List ℕ) (room : ℕ) (later calls : List Call) (n : ℕ) → n < length (finished (after mb room calls)) →
    get_or (finished (after mb room (later ++ calls))) n [] ≡ get_or (finished (after mb room calls)) n []
lasts mb room later calls n h =
    let g = later_calls mb room later calls in
    ap (λ (rs : List (List ℕ)). get_or rs n []) g.is ∙ get_or-append (finished (after mb room calls)) g.more [] n h

-- Calls after calls.
pub joined : {m₀ m : Message} {b₀ buffer : List ℕ} {calls later : List Call} {m' : Message} {buffer' : List ℕ} → History m₀ b₀ calls m buffer →
    History m buffer later m' buffer' → History m₀ b₀ (later ++ calls) m' buffer'
joined h begun = h
joined h (then earlier call) = then (joined h earlier) call
joined h (not_started earlier call) = not_started (joined h earlier) call
