use Rattle.std.proofs.Common.{◌≡◌, ◌+◌, ◌≤◌, length}
use Rattle.aiger.specs.Advance.{state_of, Fits}
use Rattle.aiger.specs.Read.{folded, lines_of}
use Rattle.aiger.proofs.file.read_lines.Given as goal

abbrev pub invariant-loop-line : goal.invariant-loop-line
invariant-loop-line l =
    (folded l.at (lines_of l.rest) (state_of l.reading.state l.gates) ≡ folded 2 (lines_of l.text) (state_of l.initial.reading.state l.initial.gates))
    × Fits l.reading.state (length l.gates)
    × (l.at + length l.rest ≤ 65538)

abbrev pub decreases-loop-line : goal.decreases-loop-line
decreases-loop-line l = length l.rest
