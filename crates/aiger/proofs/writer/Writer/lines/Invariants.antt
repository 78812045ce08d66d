use Rattle.std.proofs.Common.{◌≡◌, map, drop}
use Rattle.aiger.specs.Line.{texts}
use Rattle.aiger.specs.Writing.{put}
use Rattle.aiger.proofs.writer.Writer.lines.Given as goal

-- the lines that are left give all of them
abbrev pub invariant-loop-item : goal.invariant-loop-item
invariant-loop-item g l = put (texts (map g.T.Line.line (drop l.item-index l.items))) l.self ≡ put (texts (map g.T.Line.line l.items)) l.initial.self
