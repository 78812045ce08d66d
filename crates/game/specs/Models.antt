-- The arena of a model: its steps are the circuit's.
use Rattle.std.specs.Prelude.{ℕ, ◌<◌, Bool, cond, ◌&&◌, List, Ok, Err, Result, nat_lt}
use Rattle.circuit.specs.declared.fault.StepFault.{StepFault}
use Rattle.circuit.specs.declared.fault.StepFault.TheVariants.{OutOfRange}
use Rattle.circuit.specs.declared.model.Model.{Model}
use Rattle.circuit.specs.declared.record.Gate.{Gate}
use Rattle.circuit.specs.declared.record.Record.{Record}
use Rattle.circuit.specs.Step.{state_count, event_numbers, answer_numbers, bad_at, next_at}
use Rattle.game.specs.Game.{Arena, InRange}

abbrev pub arena_of : Record → List Gate → Arena
arena_of r gs = record {
  states = state_count r;
  events = event_numbers r;
  answers = answer_numbers r;
  bad = bad_at r gs;
  next = next_at r gs;
}

abbrev pub model_arena : Model → Arena
model_arena m = arena_of m.«record».now m.gates.now

-- a step in an arena: both answers of the step, or a refusal where a number is out of range
abbrev pub step_in : Arena → ℕ → ℕ → ℕ → Result (Bool × ℕ) StepFault
step_in g s e a =
    cond (nat_lt s g.states && (nat_lt e g.events && nat_lt a g.answers)) (Ok (g.bad s e a, g.next s e a)) (Err OutOfRange)

-- an arena that can be played: steps end in range, and there is a state, an event and an answer
pub record Playable (g : Arena) : Type 0 where
  pub in_range : InRange g
  pub some_state : 0 < g.states
  pub some_event : 0 < g.events
  pub some_answer : 0 < g.answers
