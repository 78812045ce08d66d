-- The lines that are left of a text.
use Rattle.std.specs.Prelude.{ℕ, List, [], Some, None, Option}
use Rattle.std.specs.Borrow.{Bor}
use Rattle.dimacs_text.specs.Words.{lines}
use Rattle.dimacs_text.specs.declared.lines.Lines.{Lines}

abbrev pub lines_of : Option (Bor (List ℕ)) → List (List ℕ)
lines_of None = []
lines_of (Some text) = lines text.now

abbrev pub lines_left : Lines → List (List ℕ)
lines_left s = lines_of s.rest
