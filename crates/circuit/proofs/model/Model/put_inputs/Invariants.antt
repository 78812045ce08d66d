use Rattle.std.proofs.Common.{◌≡◌, length, drop}
use Rattle.literal.specs.Truth.{values_of}
use Rattle.circuit.specs.Step.{with_inputs}
use Rattle.circuit.proofs.model.Model.put_inputs.Given as goal

-- what is left of the inputs, with what is left of both numbers, gives the values of all
abbrev pub invariant-loop-input : goal.invariant-loop-input
invariant-loop-input l =
    (with_inputs (drop l.input-index l.input-items) l.event l.answer (values_of l.values) ≡ with_inputs l.input-items l.initial.event l.initial.answer (values_of l.initial.values))
    × (length l.values ≡ 4097)
