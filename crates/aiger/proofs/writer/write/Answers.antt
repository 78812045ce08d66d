use Rattle.std.proofs.Common.{rules}
use Rattle.aiger.proofs.RoundTrip.{round_trip}
use Rattle.aiger.proofs.writer.write.Goals as goal

pub returns-then-needed-buffer : goal.returns-then-needed-buffer
returns-then-needed-buffer c =
    let m = c.args.model.now in
    record { value = search rules; law = round_trip m.«record».now m.gates.now m.fit }

pub returns : goal.returns
returns c =
    let m = c.args.model.now in
    record { value = search rules; law = round_trip m.«record».now m.gates.now m.fit }
