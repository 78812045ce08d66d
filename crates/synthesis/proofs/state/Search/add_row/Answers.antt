use Rattle.std.proofs.Common.{rules, ◌≡◌, Err, length, take, ap, ◌∙◌, arith}
use Rattle.sat.specs.Clauses.{cells_of}
use Rattle.roll.specs.Rolls.{items_of}
use Rattle.synthesis.specs.Held.{fixed_clauses}
use Rattle.synthesis.specs.Runs.{record_of, gates_of}
use Rattle.synthesis.specs.Searches.{lent_to}
use Rattle.synthesis.specs.declared.fault.RunFault.TheVariants.{RowsFull}
use Rattle.synthesis.proofs.Adding.{grown, no_place, row_cells, answer_cells_lem, rows_full, row_turned}
use Rattle.synthesis.proofs.Growing.{candidate_keep}
use Rattle.synthesis.proofs.state.Search.add_row.Goals as goal

pub returns-in_err-map_err-clause-after : goal.returns-in_err-map_err-clause-after
returns-in_err-map_err-clause-after g c =
    let n = no_place c.args.self.now.rows.now c.append.new.self c.args.row c.append.result c.append.ensures.cases c.in_err-map_err.ensures.variant in
    let e : c.from_residual.result ≡ Err (RowsFull c.count-place.result) = search rules in
    rw e (rows_full (lent_to c.args.self.now) c.requires.turning c.append.new.self n.0 c.count-place.result n.1 c.count-place.ensures c.requires.due)

pub hold_row-requires-clause-cells : goal.hold_row-requires-clause-cells
hold_row-requires-clause-cells g c =
    let l = lent_to c.args.self.now in
    let r = record_of l in
    let gs = gates_of l in
    let more = grown l.rows c.append.new.self c.args.row c.append.result c.append.ensures.cases c.in_ok-map_err.ensures.variant in
    let k : c.fixed_clauses-fixed.result ≡ length (fixed_clauses r gs (items_of l.rows)) =
    c.fixed_clauses-fixed.ensures ∙ ap (λ is. length (fixed_clauses r gs is)) c.items.ensures in
    let e = ap (λ cs. cells_of (take c.fixed_clauses-fixed.result cs)) c.requires.turning.candidate
    ∙ ap cells_of (candidate_keep r gs (items_of l.rows) (items_of l.exceptions) c.fixed_clauses-fixed.result k) in
    let cells = row_cells l c.args.self.now.room (items_of l.rows) (items_of l.exceptions) more.free in
    omega arith

pub hold_row-requires-clause-answer_cells : goal.hold_row-requires-clause-answer_cells
hold_row-requires-clause-answer_cells g c =
    let l = lent_to c.args.self.now in
    let more = grown l.rows c.append.new.self c.args.row c.append.result c.append.ensures.cases c.in_ok-map_err.ensures.variant in
    let e = ap cells_of c.requires.turning.answer in
    let cells = answer_cells_lem l c.args.self.now.room (items_of l.rows) (items_of l.exceptions) more.free in
    omega arith

pub returns-clause-after : goal.returns-clause-after
returns-clause-after g c =
    let l = lent_to c.args.self.now in
    let r = record_of l in
    let gs = gates_of l in
    let more = grown l.rows c.append.new.self c.args.row c.append.result c.append.ensures.cases c.in_ok-map_err.ensures.variant in
    let k : c.fixed_clauses-fixed.result ≡ length (fixed_clauses r gs (items_of l.rows)) =
    c.fixed_clauses-fixed.ensures ∙ ap (λ is. length (fixed_clauses r gs is)) c.items.ensures in
    rw c.then_some.ensures (row_turned l c.requires.turning c.args.row c.requires.good c.append.new.self more c.clear.new.self c.clear.ensures.items _ _ _
    c.fixed_clauses-fixed.result k c.count-place.result c.count-place.ensures (ap (λ m. m.clauses) c.in_ok-hold_row.ensures.after) (ap (λ m. m.clauses) c.in_ok-hold_row.ensures.after_answer)
    c.covers.result c.covers.ensures.value)
