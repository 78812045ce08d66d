use Rattle.std.proofs.Common.{◌-◌, length, take, drop, rules}
use Rattle.std.proofs.lemmas.List.{take_rest}
use Rattle.dimacs_text.proofs.Spellings.{negative_none, negative_zero}
use Rattle.dimacs_text.proofs.entry.entry.Goals as goal

pub returns-in_err-variable-2 : goal.returns-in_err-variable-2
returns-in_err-variable-2 c =
    let w = c.args.word.now in
    rw c.from_residual-in_err-variable-2.ensures
    (negative_none w (take (length w - 1) (drop 1 w)) (search rules) (search rules) (search (rules, take_rest)) c.in_err-variable-2.ensures)

pub returns-then-variable-eq0 : goal.returns-then-variable-eq0
returns-then-variable-eq0 c =
    let w = c.args.word.now in
    negative_zero w (take (length w - 1) (drop 1 w)) c.in_ok-variable-2.variable (search rules) (search rules) (search (rules, take_rest))
    c.in_ok-variable-2.ensures.0 c.if-variable-eq0.true
