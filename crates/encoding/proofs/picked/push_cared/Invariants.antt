use Rattle.std.proofs.Common.{◌≡◌, ◌++◌, take, drop}
use Rattle.encoding.specs.Literals.{cared}
use Rattle.encoding.proofs.picked.push_cared.Given as goal

-- what stands there and what is left to put
abbrev pub invariant-loop-literal : goal.invariant-loop-literal
invariant-loop-literal l = take 64 (l.table ++ cared (drop l.literal-index l.literal-items) l.care l.value) ≡ take 64 (l.initial.table ++ cared l.literals l.initial.care l.initial.value)
