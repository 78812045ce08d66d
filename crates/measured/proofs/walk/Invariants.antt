use Rattle.std.proofs.Common.{◌≡◌, ◌-◌}
use Rattle.measured.specs.Walk.{walked}
use Rattle.measured.proofs.walk.Given as goal

-- the steps that are left give the last state
abbrev pub invariant-loop-i : goal.invariant-loop-i
invariant-loop-i l =
    walked l.model.record.now l.model.gates.now (l.count - l.i) l.i l.state
    ≡ walked l.model.record.now l.model.gates.now l.count 0 0
