-- The one-latch model.
use Rattle.std.specs.Prelude.{List, [], ◌∷◌, slice_set}
use Rattle.circuit.specs.declared.record.Gate.{Gate}
use Rattle.circuit.specs.declared.record.Record.{Record}
use Rattle.circuit.specs.declared.record.Side.TheVariants.{Event, Answer}
use Rattle.circuit.specs.Parts.{blank_record}

abbrev pub one_latch : Record
one_latch = record {
  maximum = 4;
  inputs = slice_set (slice_set blank_record.inputs 0 record { literal = record { code = 2 }; side = Event }) 1 record { literal = record { code = 4 }; side = Answer };
  input_count = 2;
  latches = slice_set blank_record.latches 0 record { literal = record { code = 6 }; next = record { code = 5 } };
  latch_count = 1;
  output = record { code = 8 };
  gate_count = 1;
}

abbrev pub one_gate : List Gate
one_gate = record { output = record { code = 8 }; left = record { code = 6 }; right = record { code = 2 } } ∷ []
