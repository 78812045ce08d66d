use Rattle.std.proofs.Common.{◌≡◌, drop}
use Rattle.literal.specs.Truth.{values_of}
use Rattle.circuit.specs.Step.{with_gates}
use Rattle.circuit.proofs.model.Model.put_gates.Given as goal

-- what is left of the table gives the values of the whole
abbrev pub invariant-loop-gate : goal.invariant-loop-gate
invariant-loop-gate l =
    let gs = l.gate-items in
    with_gates (drop l.gate-index gs) (values_of l.values) ≡ with_gates gs (values_of l.initial.values)
