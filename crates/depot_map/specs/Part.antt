-- What reading a part of the map's bytes has to do: a number, two steps, a node or a line, and then whatever `rest` is made of it.
use Rattle.work_area.specs.Area.{node_size, node_place, line_size, line_place}
use Rattle.model.specs.Map.{greatest_line_length, MapAnswer, refused, field, read_steps, read_node, read_line}
use Rattle.std.specs.Prelude.{ℕ, ◌+◌, ◌≤◌, ◌≡◌, List, Result, Ok, Err, get_or, drop}
use Rattle.model.specs.Refusal.{Refused, row}
use Rattle.buffers.specs.Kept.{Kept}
use Rattle.work_area.specs.Held.{held_node, held_line}
use Rattle.buffers.specs.declared.number.Number.{Number}
use Rattle.depot_map.specs.declared.field.Fault.{Fault}
use Rattle.depot_map.specs.declared.field.Fault.TheVariants as Fault

-- The row of the table that each fault is.
abbrev pub fault_of : Fault → Refused
fault_of Fault.Number = row 2
fault_of Fault.Count = row 3
fault_of Fault.Coordinate = row 4
fault_of Fault.Line = row 5
fault_of Fault.Step = row 24

-- How reading goes on after an answer: by `rest` with what was read, or not at all.
abbrev pub go_on : {A : Type 0} → (A → MapAnswer) → Result A Fault → MapAnswer
go_on rest (Ok a) = rest a
go_on rest (Err why) = refused (fault_of why)

abbrev pub InRange : ℕ → ℕ → Result Number Fault → Type 0
InRange low high (Ok n) = (low ≤ n.value) × (n.value ≤ high)
InRange low high (Err why) = Unit {0}

pub record FieldRead (bytes : List ℕ) (from low high : ℕ) (why : Fault) (r : Result Number Fault) : Type 0 where
  pub goes : (rest : ℕ → List ℕ → MapAnswer) →
      field (drop from bytes) low high (fault_of why) rest ≡ go_on (λ (n : Number). rest n.value (drop n.next bytes)) r
  pub within : InRange low high r

-- Two steps, as their sector (W3).
pub record StepsRead (bytes : List ℕ) (from : ℕ) (r : Result Number Fault) : Type 0 where
  pub goes : (rest : ℕ → List ℕ → MapAnswer) → read_steps (drop from bytes) rest ≡ go_on (λ (n : Number). rest n.value (drop n.next bytes)) r

-- A node, a line or a part of one, put into the work area, which was `w` and is `v`: what `part` reads is `held` there, and only the
-- numbers from `low` up to `high` are changed. The answer is the position after it.
pub record PartRead {A : Type 0} (part : (A → List ℕ → MapAnswer) → MapAnswer) (bytes : List ℕ) (held : A) (low high : ℕ)
    (w v : List ℕ) (r : Result ℕ Fault) : Type 0 where
  pub goes : (rest : A → List ℕ → MapAnswer) → part rest ≡ go_on (λ (next : ℕ). rest held (drop next bytes)) r
  pub kept : Kept low high w v

-- One node more.
abbrev pub NodeRead : List ℕ → ℕ → ℕ → List ℕ → List ℕ → Result ℕ Fault → Type 0
NodeRead bytes from i w v r = PartRead (read_node (drop from bytes)) bytes (held_node v i) (node_place i) (node_place i + node_size) w v r

-- What a line has besides its ends, as `read_line` reads it, and in the work area, for the line whose numbers start at `at`.
pub record Attributes : Type 0 where
  pub length : ℕ
  pub frc : ℕ
  pub fow : ℕ
  pub out : ℕ
  pub back : ℕ

unfoldable pub read_attributes : List ℕ → (Attributes → List ℕ → MapAnswer) → MapAnswer
read_attributes bs rest =
    field bs 1 greatest_line_length (row 5) λ len bs₁.
    field bs₁ 0 7 (row 5) λ frc bs₂.
    field bs₂ 0 7 (row 5) λ fow bs₃.
    read_steps bs₃ λ out bs₄.
    read_steps bs₄ λ back bs₅.
    rest (record { length = len; frc = frc; fow = fow; out = out; back = back }) bs₅

unfoldable pub held_attributes : List ℕ → ℕ → Attributes
held_attributes w at =
    record {
      length = get_or w (at + 2) 0;
      frc = get_or w (at + 3) 0;
      fow = get_or w (at + 4) 0;
      out = get_or w (at + 5) 0;
      back = get_or w (at + 6) 0;
    }

abbrev pub AttributesRead : List ℕ → ℕ → ℕ → List ℕ → List ℕ → Result ℕ Fault → Type 0
AttributesRead bytes from at w v r = PartRead (read_attributes (drop from bytes)) bytes (held_attributes v at) (at + 2) (at + line_size) w v r

-- One line more.
abbrev pub LineRead : List ℕ → ℕ → ℕ → ℕ → List ℕ → List ℕ → Result ℕ Fault → Type 0
LineRead bytes from last i w v r = PartRead (read_line last (drop from bytes)) bytes (held_line v i) (line_place i) (line_place i + line_size) w v r
