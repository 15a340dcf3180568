-- A node and a line, read number by number and then stored.
use Rattle.work_area.specs.Area.{node_size, node_place, line_size, line_place}
use Rattle.model.specs.Map.{greatest_line_length, Line, MapAnswer, refused, read_node, read_line}
use Prim.Native.Nat.{ℕ, ◌+◌, ◌≤◌, ◌<◌}
use mathlib.Core.Path.{◌≡◌, refl, sym, ap, ◌∙◌}
use mathlib.Core.Logic.{◌≢◌}
use mathlib.Core.List.{List, [], ◌∷◌}
use native.Mathlib.Nat.{add_assoc}
use native.Mathlib.Omega.{arith}
use lib.ListN.{length, get_or, drop}
use lib.Seq.{sets}
use lib.Dec.{lit<}
use borrow.Author.Tests.{eq-eqb, ne_eqb}
use Rattle.work_area.specs.Held.{held_node, line_from, held_line}
use Rattle.depot_map.specs.Part.{fault_of, go_on, PartRead, FieldRead, StepsRead, NodeRead, read_attributes, held_attributes, AttributesRead, LineRead, Attributes}
use Rattle.depot_map.specs.declared.field.Fault.{Fault}
use Rattle.model.proofs.Ranges.{stops, passes}
use Rattle.work_area.proofs.Held.{node_path, line_path}
use Rattle.std.specs.Prelude.{Result, Ok, Err, IsErrAnd}
use Rattle.std.proofs.lemmas.Result.{err_from_is_err_and}
use Rattle.buffers.specs.declared.number.Number.{Number}
use Rattle.buffers.proofs.Kept.{kept_none, kept_within, kept_over}
use Rattle.buffers.specs.Kept.{Kept}
use Rattle.buffers.proofs.Stored.{stored, stored_first}
use Rattle.depot_map.specs.declared.field.Fault.TheVariants as Fault

-- What a `?` returns is the fault that it was handed.
pub handed_on : {A : Type 0} (r : Result A Fault) {why : Fault} → IsErrAnd r (λ y. y ≡ why) → r ≡ Err why
handed_on r h = let p = err_from_is_err_and r h in p.1 ∙ ap Err p.2

-- A refused number is handed on; after its last number a part is done.
pub part_refused : {A : Type 0} {part : (A → List ℕ → MapAnswer) → MapAnswer} {held : A} {low high : ℕ} {w bytes : List ℕ} {why : Fault} →
    ((rest : A → List ℕ → MapAnswer) → part rest ≡ refused (fault_of why)) → PartRead part bytes held low high w w (Err why)
part_refused goes = record { goes = goes; kept = kept_none }

pub part_read : {A : Type 0} {part : (A → List ℕ → MapAnswer) → MapAnswer} {held : A} {low high : ℕ} {w v bytes : List ℕ} {next : ℕ} (thing : A) →
    ((rest : A → List ℕ → MapAnswer) → part rest ≡ rest thing (drop next bytes)) → held ≡ thing → Kept low high w v →
    PartRead part bytes held low high w v (Ok next)
part_read {A} {bytes = bytes} {next = next} thing goes there kept =
    record { goes = λ rest. goes rest ∙ sym (ap (λ (a : A). rest a (drop next bytes)) there); kept = kept }

-- ---- a node

pub node_read : {bytes : List ℕ} {from : ℕ} {lon lat : Number} {w v : List ℕ} (i : ℕ) →
    FieldRead bytes from 0 35_999_998 Fault.Coordinate (Ok lon) → FieldRead bytes lon.next 0 18_000_000 Fault.Coordinate (Ok lat) →
    node_place i + node_size ≤ length w → v ≡ sets w (node_place i) (lon.value ∷ lat.value ∷ []) → NodeRead bytes from i w v (Ok lat.next)
unfolding read_node held_node
node_read {lon = lon} {lat = lat} {w = w} i f₁ f₂ fits put =
    let s = stored (lon.value ∷ lat.value ∷ []) w (node_place i) fits put in
    part_read _ (λ rest. f₁.goes _ ∙ f₂.goes _) (node_path (stored_first (node_place i) s) (s.held 1 (lit< tt))) s.kept

-- ---- the attributes of a line

pub attributes_path : {a b c d e a' b' c' d' e' : ℕ} → a ≡ a' → b ≡ b' → c ≡ c' → d ≡ d' → e ≡ e' →
    ◌≡◌ {A = Attributes} (record { length = a; frc = b; fow = c; out = d; back = e }) (record { length = a'; frc = b'; fow = c'; out = d'; back = e' })
attributes_path p q r s t = λ i. record { length = p i; frc = q i; fow = r i; out = s i; back = t i }

pub attributes_read : {bytes : List ℕ} {from : ℕ} {len frc fow out back : Number} {w v : List ℕ} (at : ℕ) →
    FieldRead bytes from 1 greatest_line_length Fault.Line (Ok len) → FieldRead bytes len.next 0 7 Fault.Line (Ok frc) →
    FieldRead bytes frc.next 0 7 Fault.Line (Ok fow) → StepsRead bytes fow.next (Ok out) → StepsRead bytes out.next (Ok back) →
    at + line_size ≤ length w → v ≡ sets w (at + 2) (len.value ∷ frc.value ∷ fow.value ∷ out.value ∷ back.value ∷ []) →
    AttributesRead bytes from at w v (Ok back.next)
unfolding read_attributes held_attributes
attributes_read {len = len} {frc = frc} {fow = fow} {out = out} {back = back} {w = w} {v = v} at f₁ f₂ f₃ f₄ f₅ fits put =
    let numbers = len.value ∷ frc.value ∷ fow.value ∷ out.value ∷ back.value ∷ [] in
    let s = stored numbers w (at + 2) (omega arith) put in
    let f : (k : ℕ) → k < 5 → get_or v (at + (2 + k)) 0 ≡ get_or numbers k 0 = λ k h. rw (add_assoc at 2 k) at (s.held k h) in
    part_read _ (λ rest. f₁.goes _ ∙ f₂.goes _ ∙ f₃.goes _ ∙ f₄.goes _ ∙ f₅.goes _)
    (attributes_path (f 0 (lit< tt)) (f 1 (lit< tt)) (f 2 (lit< tt)) (f 3 (lit< tt)) (f 4 (lit< tt)))
    (kept_within (omega arith) (omega arith) s.kept)

-- ---- a line

-- Its two ends have been read.
module _ {bytes : List ℕ} {from last : ℕ} {start end : Number} (i : ℕ) {w : List ℕ}
    (f₁ : FieldRead bytes from 0 last Fault.Line (Ok start)) (f₂ : FieldRead bytes start.next 0 last Fault.Line (Ok end)) where
  pub line_equal : start.value ≡ end.value → LineRead bytes from last i w w (Err Fault.Line)
  unfolding read_line
  line_equal h = record { goes = λ rest. f₁.goes _ ∙ f₂.goes _ ∙ stops _ 5 _ (eq-eqb start.value end.value h); kept = kept_none }

  pub line_read : {v u : List ℕ} {r : Result ℕ Fault} → start.value ≢ end.value → line_place i + 2 ≤ length w →
      AttributesRead bytes end.next (line_place i) v u r → v ≡ sets w (line_place i) (start.value ∷ end.value ∷ []) → LineRead bytes from last i w u r
  unfolding read_line read_attributes held_attributes held_line line_from
  line_read {r = r} h fits attributes put =
      let s = stored (start.value ∷ end.value ∷ []) w (line_place i) fits put in
      let k = attributes.kept in
      record {
        goes = λ rest.
            f₁.goes _ ∙ f₂.goes _ ∙ passes _ 5 _ (ne_eqb start.value end.value h)
            ∙ attributes.goes (λ a. rest (record { start = start.value; end = end.value; length = a.length; frc = a.frc; fow = a.fow; out = a.out; back = a.back }))
            ∙ ap (λ (l : Line). go_on (λ (next : ℕ). rest l (drop next bytes)) r)
            (sym (line_path (k.below (line_place i) (omega arith) ∙ stored_first (line_place i) s) (k.below (line_place i + 1) (omega arith) ∙ s.held 1 (lit< tt))
            refl refl refl refl refl));
        kept = kept_over (omega arith) s.kept k;
      }
