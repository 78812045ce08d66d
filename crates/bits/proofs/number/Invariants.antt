use Rattle.std.proofs.Common.{take}
use Rattle.bits.specs.Bits.{IsNumberOf}
use Rattle.bits.proofs.number.Given as goal

-- the bits so far
abbrev pub invariant-loop-j : goal.invariant-loop-j
invariant-loop-j g l = IsNumberOf g.F.Fn l.is_one (take l.j l.items) l.number
