use Rattle.std.proofs.Common.{◌<◌, length, arith}
use Rattle.roll.specs.Rolls.{table_of}
use Rattle.roll.proofs.Places.{one_written}
use Rattle.roll.proofs.roll.Roll.append.Goals as goal

pub returns-clause-cases : goal.returns-clause-cases
returns-clause-cases g c =
    let l : c.args.self.now.used < length (table_of c.args.self.now) = omega arith in
    let w = one_written (table_of c.args.self.now) c.args.self.now.used c.args.x l in record { free = w.0; used = w.1; places = w.2 }
