-- A host with one latch that takes over the answer. No step is bad.
use Rattle.std.specs.Prelude.{slice_set}
use Rattle.circuit.specs.Parts.{blank_record}
use Rattle.circuit.specs.declared.record.Record.{Record}
use Rattle.circuit.specs.declared.record.Side.TheVariants.{Event, Answer}

abbrev pub free_latch : Record
free_latch = record {
  maximum = 3;
  inputs = slice_set (slice_set blank_record.inputs 0 record { literal = record { code = 2 }; side = Event }) 1 record { literal = record { code = 4 }; side = Answer };
  input_count = 2;
  latches = slice_set blank_record.latches 0 record { literal = record { code = 6 }; next = record { code = 4 } };
  latch_count = 1;
  output = record { code = 0 };
  gate_count = 0;
}
