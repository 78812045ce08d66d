use Rattle.std.proofs.Common.{Ok, rules}
use Rattle.circuit.proofs.Answered.{settled, next_bound}
use Rattle.circuit.proofs.Tables.{new_table}
use Rattle.circuit.proofs.model.Model.step.Goals as goal

pub work_out-requires : goal.work_out-requires
work_out-requires c = new_table 4097

pub returns-then-not-in_range-clause-settled : goal.returns-then-not-in_range-clause-settled
returns-then-not-in_range-clause-settled c = let m = c.args.self.now in settled m.record.now m.gates.now c.args.state c.args.event c.args.answer m.fit _ (search rules)

pub returns-clause-bound : goal.returns-clause-bound
returns-clause-bound c =
    let m = c.args.self.now in
    next_bound m.record.now m.gates.now c.args.state c.args.event c.args.answer m.fit (Ok (c.holds-bad.result, c.next_state-next.result)) (search rules)

pub returns-clause-settled : goal.returns-clause-settled
returns-clause-settled c = let m = c.args.self.now in settled m.record.now m.gates.now c.args.state c.args.event c.args.answer m.fit _ (search rules)
