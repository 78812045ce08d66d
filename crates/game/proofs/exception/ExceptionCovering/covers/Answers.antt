use Rattle.std.proofs.Common.{◌≡◌, rules}
use Rattle.game.specs.Rows.{exception_covers}
use Rattle.game.proofs.Bits.{exception_bits}
use Rattle.game.proofs.exception.ExceptionCovering.covers.Goals as goal

pub returns-then-agrees_on : goal.returns-then-agrees_on
returns-then-agrees_on c =
    let e : c.agrees_on-then-agrees_on.result ≡ exception_covers c.args.self.now c.args.point.now.state c.args.point.now.event =
    search rules in
    record { value = e; bits = exception_bits c.args.self.now c.args.point.now.state c.args.point.now.event c.agrees_on-then-agrees_on.result e }

pub returns-else-agrees_on : goal.returns-else-agrees_on
returns-else-agrees_on c =
    let e : c.agrees_on.result ≡ exception_covers c.args.self.now c.args.point.now.state c.args.point.now.event =
    search rules in
    record { value = e; bits = exception_bits c.args.self.now c.args.point.now.state c.args.point.now.event c.agrees_on.result e }
