use Rattle.std.proofs.Common.{◌≡◌, ◌++◌, vec_items}
use Rattle.dimacs_text.specs.Words.{words, line_content}
use Rattle.dimacs_text.specs.Entries.{spellings, SomeUnspelled}
use Rattle.dimacs_text.proofs.body.push_line.Given as goal

abbrev pub invariant-loop-word : goal.invariant-loop-word
invariant-loop-word l =
    (spellings (vec_items l.entries) ++ words l.word-iterator.rest.now ≡ spellings (vec_items l.initial.entries) ++ line_content l.line)
    × (SomeUnspelled (words l.word-iterator.rest.now) → SomeUnspelled (line_content l.line))
