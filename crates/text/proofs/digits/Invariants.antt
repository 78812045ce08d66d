use Rattle.std.proofs.Common.{◌≡◌, ◌≤◌, drop}
use Rattle.text.specs.Number.{read_on}
use Rattle.text.proofs.digits.Given as goal

-- what is left gives the number of the whole, and the number so far is one of 16 bits
abbrev pub invariant-loop-byte : goal.invariant-loop-byte
invariant-loop-byte l = (read_on l.number (drop l.byte-index l.bytes) ≡ read_on 0 l.bytes) × (l.number ≤ 65535)
