use Rattle.std.proofs.Common.{◌≡◌, ◌++◌, take, drop}
use Rattle.encoding.specs.Literals.{with_signs}
use Rattle.encoding.proofs.picked.push_signed.Given as goal

-- what stands there and what is left to put
abbrev pub invariant-loop-literal : goal.invariant-loop-literal
invariant-loop-literal l = take 64 (l.table ++ with_signs (drop l.literal-index l.literal-items) l.number) ≡ take 64 (l.initial.table ++ with_signs l.literals l.initial.number)
