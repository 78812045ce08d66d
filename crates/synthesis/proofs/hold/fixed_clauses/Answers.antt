use Rattle.std.proofs.Common.{arith}
use Rattle.synthesis.proofs.Sizing.{bounds}
use Rattle.synthesis.proofs.Counting.{rows_bound, fixed_length}
use Rattle.synthesis.proofs.hold.fixed_clauses.Goals as goal

pub overflow_mul-result : goal.overflow_mul-result
overflow_mul-result c = let b = bounds c.args.model.now in record { fits = omega (arith, c.gates.ensures) }

pub overflow_add-result : goal.overflow_add-result
overflow_add-result c = let b = bounds c.args.model.now in record { fits = omega (arith, c.gates.ensures) }

pub overflow_add-result-2 : goal.overflow_add-result-2
overflow_add-result-2 c =
    let m = c.args.model.now in
    let b = bounds m in
    let few = rows_bound m.«record».now m.gates.now m.fit c.args.rows.now c.requires.fit in
    record { fits = omega (arith, c.gates.ensures, c.row_clauses.ensures, c.requires.few) }

pub returns : goal.returns
returns c =
    let m = c.args.model.now in
    let n = fixed_length m.«record».now m.gates.now m.fit c.args.rows.now c.requires.fit in
    omega (arith, c.gates.ensures, c.row_clauses.ensures)
