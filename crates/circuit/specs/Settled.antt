-- What a step means, with no word on the order in which gates are worked out: at a state, an event and an answer, one set of values
-- agrees with the inputs, the latches and every gate, and the step answers by it.
use Rattle.std.specs.Prelude.{◌≡◌, ℕ, ◌<◌, Bool, true, false, ◌&&◌, List, length, is_ok, Ok, Err, Decides, filter, Result, slice_index_or}
use Rattle.literal.specs.Truth.{Values, variable_of, truth}
use Rattle.circuit.specs.declared.record.Gate.{Gate}
use Rattle.circuit.specs.declared.record.Input.{Input}
use Rattle.circuit.specs.declared.record.Latch.{Latch}
use Rattle.circuit.specs.declared.record.Record.{Record}
use Rattle.circuit.specs.declared.record.Side.{Side}
use Rattle.circuit.specs.declared.record.Side.TheVariants.{Event, Answer}
use Rattle.circuit.specs.declared.fault.StepFault.{StepFault}
use Rattle.circuit.specs.Parts.{inputs_of, latches_of, gates_of}
use Rattle.circuit.specs.Sound.{member, variables}
use Rattle.circuit.specs.Step.{bit, state_count, event_numbers, answer_numbers, values_at}

abbrev pub same_side : Side → Side → Bool
same_side Event Event = true
same_side Event Answer = false
same_side Answer Event = false
same_side Answer Answer = true

-- the inputs of a side, in file order, and the number that they hold
abbrev pub of_side : Side → List Input → List Input
of_side t is = filter (λ i. same_side t i.side) is

abbrev pub number_of : Side → ℕ → ℕ → ℕ
number_of Event e a = e
number_of Answer e a = a

-- values that a state, an event and an answer allow
pub record Agrees (r : Record) (gs : List Gate) (s e a : ℕ) (w : Values) : Type 0 where
  pub constant : w 0 ≡ false
  pub input : (t : Side) (i : ℕ) (d : Input) → i < length (of_side t (inputs_of r))
      → w (variable_of (slice_index_or (of_side t (inputs_of r)) i d).literal) ≡ bit (number_of t e a) i
  pub latch : (j : ℕ) (d : Latch) → j < length (latches_of r) → w (variable_of (slice_index_or (latches_of r) j d).literal) ≡ bit s j
  pub gate : (k : ℕ) (d : Gate) → k < length (gates_of r gs)
      → w (variable_of (slice_index_or (gates_of r gs) k d).output) ≡ (truth w (slice_index_or (gates_of r gs) k d).left && truth w (slice_index_or (gates_of r gs) k d).right)

-- what an answer says of such values: it is bad where the output is true, and bit j of the next state is latch j's next literal
abbrev pub Tells : Record → Values → Result (Bool × ℕ) StepFault → Type 0
Tells r w (Ok p) =
    (p.0 ≡ truth w r.output) × (p.1 < state_count r)
    × ((j : ℕ) (d : Latch) → j < length (latches_of r) → bit p.1 j ≡ truth w (slice_index_or (latches_of r) j d).next)
Tells r w (Err f) = Unit {0}

pub record Settled (r : Record) (gs : List Gate) (s e a : ℕ) (answer : Result (Bool × ℕ) StepFault) : Type 0 where
  -- a step is answered exactly where its three numbers are in range
  pub range : Decides (is_ok answer) ((s < state_count r) × (e < event_numbers r) × (a < answer_numbers r))
  -- there are such values
  pub some : Agrees r gs s e a (values_at r gs s e a)
  -- any two such have the same value at every variable that is defined
  pub only : (v w : Values) → Agrees r gs s e a v → Agrees r gs s e a w → (x : ℕ) → member x (variables r gs) ≡ true → v x ≡ w x
  -- so the answer is what any of them says
  pub tells : (w : Values) → Agrees r gs s e a w → Tells r w answer
