use Rattle.std.proofs.Common.{◌≤◌, length, refl, arith, rules}
use Rattle.aiger.specs.Format.{written}
use Rattle.aiger.proofs.Writing.{from_start, written_short}
use Rattle.aiger.proofs.writer.emit.Goals as goal

pub returns : goal.returns
returns c =
    let m = c.args.model.now in
    let short = written_short m.record.now m.gates.now m.fit in
    let start = from_start (written m.record.now m.gates.now) _ _ (omega arith) refl c.model.ensures in
    record {
      value = start.at;
      after = λ h.
          let fits : length (written m.record.now m.gates.now) ≤ length c.args.buffer.now = omega (arith, start.at) in
          let bytes = start.bytes fits in
          let name = start.same in
          let at = start.at in
          search rules;
    }
