-- What a step answers: the values of the variables, worked out in the order of the table, and what they say.
use Rattle.std.specs.Prelude.{ℕ, ◌+◌, ◌*◌, ◌/◌, ◌%◌, ◌^◌, Bool, false, cond, ◌&&◌, List, [], ◌∷◌, Ok, Err, Result, ◌==◌, nat_lt}
use Rattle.literal.specs.Truth.{Values, variable_of, truth}
use Rattle.circuit.specs.declared.record.Gate.{Gate}
use Rattle.circuit.specs.declared.record.Input.{Input}
use Rattle.circuit.specs.declared.record.Latch.{Latch}
use Rattle.circuit.specs.declared.record.Record.{Record}
use Rattle.circuit.specs.declared.fault.StepFault.{StepFault}
use Rattle.circuit.specs.declared.fault.StepFault.TheVariants.{OutOfRange}
use Rattle.circuit.specs.Parts.{inputs_of, latches_of, gates_of, answers?}
use Rattle.circuit.specs.Sound.{event_count, answer_count}

-- bit j of a number, the lowest being bit 0
abbrev pub bit : ℕ → ℕ → Bool
bit n j = n / 2 ^ j % 2 == 1

-- the lowest bit
abbrev pub low_bit : ℕ → Bool
low_bit n = n % 2 == 1

-- values with another one at a variable
abbrev pub with_value : Values → ℕ → Bool → Values
with_value v x b y = cond (y == x) b (v y)

-- event inputs take the bits of the event in file order, answer inputs those of the answer
abbrev pub with_inputs : List Input → ℕ → ℕ → Values → Values
with_inputs [] e a v = v
with_inputs (i ∷ is) e a v =
    cond (answers? i.side)
    (with_inputs is e (a / 2) (with_value v (variable_of i.literal) (low_bit a)))
    (with_inputs is (e / 2) a (with_value v (variable_of i.literal) (low_bit e)))

abbrev pub with_latches : List Latch → ℕ → Values → Values
with_latches [] s v = v
with_latches (l ∷ ls) s v = with_latches ls (s / 2) (with_value v (variable_of l.literal) (low_bit s))

-- the value of a gate
abbrev pub conjunction : Values → Gate → Bool
conjunction v g = truth v g.left && truth v g.right

-- gates are worked out in the order of the table
abbrev pub with_gates : List Gate → Values → Values
with_gates [] v = v
with_gates (g ∷ gs) v = with_gates gs (with_value v (variable_of g.output) (conjunction v g))

abbrev pub all_false : Values
all_false x = false

-- the values of all variables at a state, an event and an answer
unfoldable pub values_at : Record → List Gate → ℕ → ℕ → ℕ → Values
values_at r gs s e a = with_gates (gates_of r gs) (with_latches (latches_of r) s (with_inputs (inputs_of r) e a all_false))

-- the number whose bit j is the truth of latch j's next literal
abbrev pub next_of : Values → List Latch → ℕ
next_of v [] = 0
next_of v (l ∷ ls) = cond (truth v l.next) 1 0 + 2 * next_of v ls

-- how many states, events and answers there are
abbrev pub state_count : Record → ℕ
state_count r = 2 ^ r.latch_count

abbrev pub event_numbers : Record → ℕ
event_numbers r = 2 ^ event_count (inputs_of r)

abbrev pub answer_numbers : Record → ℕ
answer_numbers r = 2 ^ answer_count (inputs_of r)

abbrev pub in_range : Record → ℕ → ℕ → ℕ → Bool
in_range r s e a = nat_lt s (state_count r) && (nat_lt e (event_numbers r) && nat_lt a (answer_numbers r))

-- the two things that a step answers
abbrev pub bad_at : Record → List Gate → ℕ → ℕ → ℕ → Bool
bad_at r gs s e a = truth (values_at r gs s e a) r.output

abbrev pub next_at : Record → List Gate → ℕ → ℕ → ℕ → ℕ
next_at r gs s e a = next_of (values_at r gs s e a) (latches_of r)

abbrev pub step_of : Record → List Gate → ℕ → ℕ → ℕ → Result (Bool × ℕ) StepFault
step_of r gs s e a = cond (in_range r s e a) (Ok (bad_at r gs s e a, next_at r gs s e a)) (Err OutOfRange)
