use Rattle.std.proofs.Common.{arith}
use Rattle.encoding.proofs.Sizes.{candidate_fits}
use Rattle.encoding.proofs.laws.candidate_sizes.Goals as goal

pub returns : goal.returns
returns c = λ r gs h places V wide. candidate_fits r gs h V (omega arith) places wide
