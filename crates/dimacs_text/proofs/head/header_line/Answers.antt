use Rattle.std.proofs.Common.{[]}
use Rattle.dimacs_text.proofs.head.header_line.Goals as goal

pub returns-in_err-clauses : goal.returns-in_err-clauses
returns-in_err-clauses c =
    rw c.from_residual-in_err-clauses.ensures
    (λ v k h q e. c.in_err-clauses.ensures k [] q (cc (c.of-words.ensures, c.if-not-takes.ensures, c.if-not-takes-2.ensures, c.in_ok-variables.ensures.0, e)))
