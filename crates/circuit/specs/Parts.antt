-- The parts of a model, and the blank ones.
use Rattle.std.specs.Prelude.{Bool, true, false, List, take, replicate}
use Rattle.literal.specs.declared.Literal.{Literal}
use Rattle.circuit.specs.declared.record.Gate.{Gate}
use Rattle.circuit.specs.declared.record.Input.{Input}
use Rattle.circuit.specs.declared.record.Latch.{Latch}
use Rattle.circuit.specs.declared.record.Record.{Record}
use Rattle.circuit.specs.declared.record.Side.{Side}
use Rattle.circuit.specs.declared.record.Side.TheVariants.{Event, Answer}

abbrev pub blank_literal : Literal
blank_literal = record { code = 0 }

abbrev pub blank_gate : Gate
blank_gate = record { output = blank_literal; left = blank_literal; right = blank_literal }

abbrev pub blank_input : Input
blank_input = record { literal = blank_literal; side = Event }

abbrev pub blank_latch : Latch
blank_latch = record { literal = blank_literal; next = blank_literal }

abbrev pub blank_record : Record
blank_record = record {
  maximum = 0;
  inputs = replicate 24 blank_input;
  input_count = 0;
  latches = replicate 32 blank_latch;
  latch_count = 0;
  output = blank_literal;
  gate_count = 0;
}

abbrev pub inputs_of : Record → List Input
inputs_of r = take r.input_count r.inputs

abbrev pub latches_of : Record → List Latch
latches_of r = take r.latch_count r.latches

abbrev pub gates_of : Record → List Gate → List Gate
gates_of r gs = take r.gate_count gs

abbrev pub answers? : Side → Bool
answers? Event = false
answers? Answer = true
