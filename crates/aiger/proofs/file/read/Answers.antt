use Rattle.std.proofs.Common.{◌≡◌, length, Ok, Err, rules}
use Rattle.aiger.specs.Read.{answered, read_of}
use Rattle.aiger.proofs.Laws.{read_law, read_sound}
use Rattle.aiger.proofs.file.read.Goals as goal

pub returns : goal.returns
unfolding read_of
returns c =
    let v : answered (Ok tt) c.fill.new.«record» c.fill.new.gates ≡ read_of c.args.file.now (length c.args.gates.now) = search rules in
    record { value = v; law = read_law _ _ _ v; model = read_sound _ _ (Ok tt) _ _ v }

pub returns-in-Err : goal.returns-in-Err
unfolding read_of
returns-in-Err c =
    let v : answered (Err c.in-Err.fault) c.blank.result c.fill-in-Err.new.self ≡ read_of c.args.file.now (length c.args.gates.now) = search rules in
    record { value = v; law = read_law _ _ _ v; model = tt }
