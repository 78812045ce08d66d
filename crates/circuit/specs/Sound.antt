-- Which records and gate tables are a model: what a reader accepts, and what joining them requires.
use Rattle.std.specs.Prelude.{ℕ, ◌+◌, ◌*◌, ◌%◌, Bool, true, false, cond, not, ◌&&◌, ◌||◌, List, [], ◌∷◌, ◌++◌, map, length, drop, ◌==◌, nat_le}
use Rattle.literal.specs.declared.Literal.{Literal}
use Rattle.literal.specs.Truth.{variable_of}
use Rattle.circuit.specs.declared.record.Gate.{Gate}
use Rattle.circuit.specs.declared.record.Input.{Input}
use Rattle.circuit.specs.declared.record.Latch.{Latch}
use Rattle.circuit.specs.declared.record.Record.{Record}
use Rattle.circuit.specs.declared.record.Side.{Side}
use Rattle.circuit.specs.declared.record.Side.TheVariants.{Event, Answer}
use Rattle.circuit.specs.Parts.{inputs_of, latches_of, gates_of, answers?}

abbrev pub member : ℕ → List ℕ → Bool
member v [] = false
member v (w ∷ ws) = v == w || member v ws

abbrev pub every : {X : Type 0} → (X → Bool) → List X → Bool
every p [] = true
every p (x ∷ xs) = p x && every p xs

-- how many inputs are on the host's side, and how many are not
abbrev pub answer_count : List Input → ℕ
answer_count [] = 0
answer_count (i ∷ is) = cond (answers? i.side) 1 0 + answer_count is

abbrev pub event_count : List Input → ℕ
event_count [] = 0
event_count (i ∷ is) = cond (answers? i.side) 0 1 + event_count is

abbrev pub side_count : Side → List Input → ℕ
side_count Event is = event_count is
side_count Answer is = answer_count is

-- a literal that may be defined, where the variables listed already are: positive, at most the largest variable's, and new
abbrev pub fresh : ℕ → List ℕ → Literal → Bool
fresh m vs l = nat_le l.code (2 * m + 1) && (l.code % 2 == 0 && (not (l.code == 0) && not (member (variable_of l) vs)))

abbrev pub known : List ℕ → Literal → Bool
known vs l = member (variable_of l) vs

-- the variables defined after some more literals
abbrev pub defined : List ℕ → List Literal → List ℕ
defined vs [] = vs
defined vs (l ∷ ls) = defined (variable_of l ∷ vs) ls

abbrev pub all_fresh : ℕ → List ℕ → List Literal → Bool
all_fresh m vs [] = true
all_fresh m vs (l ∷ ls) = fresh m vs l && all_fresh m (variable_of l ∷ vs) ls

-- each gate defines a new variable from operands that are defined before it
abbrev pub gates_ordered : ℕ → List ℕ → List Gate → Bool
gates_ordered m vs [] = true
gates_ordered m vs (g ∷ gs) =
    fresh m vs g.output
    && (known vs g.left && (known vs g.right && gates_ordered m (variable_of g.output ∷ vs) gs))

-- inputs and latches, in the order in which they are defined
abbrev pub sources : Record → List Literal
sources r = map (λ i. i.literal) (inputs_of r) ++ map (λ l. l.literal) (latches_of r)

-- the constant, the inputs and the latches
abbrev pub source_variables : Record → List ℕ
source_variables r = defined (0 ∷ []) (sources r)

-- those and the gates: every variable that has a value
abbrev pub variables : Record → List Gate → List ℕ
variables r gs = defined (source_variables r) (map (λ g. g.output) (gates_of r gs))

abbrev pub sized : Record → ℕ → Bool
sized r places =
    nat_le r.maximum 4096
    && (nat_le r.input_count 24
    && (nat_le r.latch_count 32
    && (nat_le r.gate_count 2048
    && (nat_le (r.input_count + r.latch_count + r.gate_count) r.maximum
    && (nat_le r.gate_count places
    && (length r.inputs == 24 && length r.latches == 32))))))

abbrev pub sides_fit : Record → Bool
sides_fit r = nat_le (event_count (inputs_of r)) 12 && nat_le (answer_count (inputs_of r)) 12

abbrev pub is_blank_input : Input → Bool
is_blank_input i = i.literal.code == 0 && not (answers? i.side)

abbrev pub is_blank_latch : Latch → Bool
is_blank_latch l = l.literal.code == 0 && l.next.code == 0

abbrev pub is_blank_gate : Gate → Bool
is_blank_gate g = g.output.code == 0 && (g.left.code == 0 && g.right.code == 0)

abbrev pub blank_past : Record → List Gate → Bool
blank_past r gs =
    every is_blank_input (drop r.input_count r.inputs)
    && (every is_blank_latch (drop r.latch_count r.latches) && every is_blank_gate (drop r.gate_count gs))

unfoldable pub sound : Record → List Gate → Bool
sound r gs =
    sized r (length gs)
    && (sides_fit r
    && (all_fresh r.maximum (0 ∷ []) (sources r)
    && (gates_ordered r.maximum (source_variables r) (gates_of r gs)
    && (every (λ l. known (variables r gs) l.next) (latches_of r)
    && (known (variables r gs) r.output
    && blank_past r gs)))))
