use Rattle.std.proofs.Common.{◌≡◌}
use Rattle.dimacs_text.specs.Words.{content, lines}
use Rattle.dimacs_text.specs.Lines.{lines_left}
use Rattle.dimacs_text.proofs.head.read_header.Given as goal

abbrev pub invariant-loop-line : goal.invariant-loop-line
invariant-loop-line l = content (lines_left l.lines) ≡ content (lines l.text)
