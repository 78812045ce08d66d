use Rattle.std.proofs.Common.{◌≡◌, drop}
use Rattle.aiger.specs.Writing.{put}
use Rattle.aiger.proofs.writer.Writer.bytes.Given as goal

-- what is left of the text gives all of it
abbrev pub invariant-loop-b : goal.invariant-loop-b
invariant-loop-b l = put (drop l.b-index l.text) l.self ≡ put l.text l.initial.self
