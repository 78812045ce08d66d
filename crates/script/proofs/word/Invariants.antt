use Rattle.std.proofs.Common.{◌≡◌, ◌≤◌, drop}
use Rattle.script.specs.Asked.{all_digits}
use Rattle.script.proofs.Words.{bounded_on}
use Rattle.script.proofs.word.Given as goal

-- what is left decides whether all are digits, and gives the number of the whole
abbrev pub invariant-loop-byte : goal.invariant-loop-byte
invariant-loop-byte l =
    (all_digits (drop l.byte-index l.bytes) ≡ all_digits l.bytes) × (bounded_on l.value (drop l.byte-index l.bytes) ≡ bounded_on 0 l.bytes)
    × (l.value ≤ 4294967295)
