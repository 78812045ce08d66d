use Rattle.std.proofs.Common.{rules}
use Rattle.std.proofs.lemmas.List.{set_past}
use Rattle.aiger.specs.Writing.{put, put_byte}
use Rattle.aiger.proofs.writer.Writer.byte.Goals as goal

pub returns : goal.returns
unfolding put put_byte
returns c = search (rules, set_past)
