use Rattle.std.proofs.Common.{◌≡◌, drop}
use Rattle.literal.specs.Truth.{values_of}
use Rattle.circuit.specs.Step.{with_latches}
use Rattle.circuit.proofs.model.Model.put_latches.Given as goal

-- what is left of the latches, with what is left of the state, gives the values of all
abbrev pub invariant-loop-latch : goal.invariant-loop-latch
invariant-loop-latch l =
    let ls = l.latch-items in
    with_latches (drop l.latch-index ls) l.state (values_of l.values) ≡ with_latches ls l.initial.state (values_of l.initial.values)
