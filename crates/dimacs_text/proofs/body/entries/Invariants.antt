use Rattle.std.proofs.Common.{◌≡◌, ◌++◌, vec_items}
use Rattle.dimacs_text.specs.Words.{lines, content}
use Rattle.dimacs_text.specs.Lines.{lines_left}
use Rattle.dimacs_text.specs.Entries.{spellings, SomeUnspelled}
use Rattle.dimacs_text.proofs.body.entries.Given as goal

abbrev pub invariant-loop-line : goal.invariant-loop-line
invariant-loop-line l =
    (spellings (vec_items l.entries) ++ content (lines_left l.line-iterator) ≡ content (lines l.text))
    × (SomeUnspelled (content (lines_left l.line-iterator)) → SomeUnspelled (content (lines l.text)))
