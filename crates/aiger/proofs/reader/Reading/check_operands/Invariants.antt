use Rattle.std.proofs.Common.{◌≡◌, ◌+◌, drop}
use Rattle.circuit.specs.Parts.{latches_of}
use Rattle.aiger.specs.Advance.{close_from, close_on}
use Rattle.aiger.proofs.reader.Reading.check_operands.Given as goal

abbrev pub invariant-loop-j : goal.invariant-loop-j
invariant-loop-j l = close_from l.self.state (l.self.state.model.input_count + 2 + l.j) (drop l.j (latches_of l.self.state.model)) ≡ close_on l.self.state
