use Rattle.std.proofs.Common.{rules}
use Rattle.circuit.proofs.Sides.{counted}
use Rattle.circuit.proofs.counts.on_side.Goals as goal

pub returns : goal.returns
returns c = rw (counted c.args.side c.args.inputs.now) (search rules)
