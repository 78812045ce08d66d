-- Literals of clauses that stand for a model's: signs, the literals that a mask picks, and the numbers that values hold.
use Rattle.std.specs.Prelude.{ℕ, ◌+◌, ◌*◌, ◌/◌, Bool, cond, List, [], ◌∷◌, map, ◌==◌, nat_eq}
use Rattle.bits.specs.Bits.{from_bits}
use Rattle.literal.specs.declared.Literal.{Literal}
use Rattle.literal.specs.Truth.{Values, truth, negation_of}
use Rattle.circuit.specs.declared.record.Record.{Record}
use Rattle.circuit.specs.declared.record.Side.{Side}
use Rattle.circuit.specs.declared.record.Side.TheVariants.{Event, Answer}
use Rattle.circuit.specs.Parts.{inputs_of, latches_of}
use Rattle.circuit.specs.Settled.{of_side}
use Rattle.circuit.specs.Step.{low_bit}

-- a variable's literals
abbrev pub positive : ℕ → Literal
positive x = record { code = 2 * x }

abbrev pub negative : ℕ → Literal
negative x = record { code = 2 * x + 1 }

-- a circuit's literal in a clause, where M is the circuit's largest variable: variable M + 1 is always true, so that false becomes its
-- negation and true becomes it
abbrev pub clause_literal : ℕ → Literal → Literal
clause_literal M l = cond (l.code == 0) (negative (M + 1)) (cond (l.code == 1) (positive (M + 1)) l)

-- the variables that choose what is due: s₀ for a bad step, tᵢ for a step into row i, and sᵢ₊₁ for tᵢ or sᵢ
abbrev pub due_variable : ℕ → ℕ → ℕ
due_variable M i = M + 2 + 2 * i

abbrev pub entry_variable : ℕ → ℕ → ℕ
entry_variable M i = M + 3 + 2 * i

abbrev pub due_literal : Record → ℕ → Literal
due_literal r i = positive (due_variable r.maximum i)

-- the literals of the latches, of what they take over, and of the inputs of a side, in file order
abbrev pub latch_literals : Record → List Literal
latch_literals r = map (λ l. l.literal) (latches_of r)

abbrev pub next_literals : Record → List Literal
next_literals r = map (λ l. clause_literal r.maximum l.next) (latches_of r)

abbrev pub side_literals : Side → Record → List Literal
side_literals t r = map (λ i. i.literal) (of_side t (inputs_of r))

-- a literal as it is for a 1, and negated for a 0
abbrev pub signed : Bool → Literal → Literal
signed b l = cond b l (negation_of l)

-- literals with the signs of a number's bits, the first with the lowest
abbrev pub with_signs : List Literal → ℕ → List Literal
with_signs [] n = []
with_signs (l ∷ ls) n = signed (low_bit n) l ∷ with_signs ls (n / 2)

-- those at the bits of a mask
abbrev pub cared : List Literal → ℕ → ℕ → List Literal
cared [] care value = []
cared (l ∷ ls) care value =
    cond (low_bit care) (signed (low_bit value) l ∷ cared ls (care / 2) (value / 2)) (cared ls (care / 2) (value / 2))

-- the number whose bits are the truths of literals
abbrev pub number_in : Values → List Literal → ℕ
number_in v ls = from_bits (map (truth v) ls)

-- assumptions that say which the state, the event and the answer are
abbrev pub state_literals : Record → ℕ → List Literal
state_literals r s = with_signs (latch_literals r) s

abbrev pub event_literals : Record → ℕ → List Literal
event_literals r e = with_signs (side_literals Event r) e

abbrev pub answer_literals : Record → ℕ → List Literal
answer_literals r a = with_signs (side_literals Answer r) a

-- the state, the event and the answer that values say
abbrev pub state_in : Record → Values → ℕ
state_in r v = number_in v (latch_literals r)

abbrev pub event_in : Record → Values → ℕ
event_in r v = number_in v (side_literals Event r)

abbrev pub answer_in : Record → Values → ℕ
answer_in r v = number_in v (side_literals Answer r)

-- the mask of the places whose mark is 1
abbrev pub care_of : List ℕ → ℕ
care_of ms = from_bits (map (λ m. nat_eq m 1) ms)
