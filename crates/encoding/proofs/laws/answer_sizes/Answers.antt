use Rattle.encoding.proofs.Sizes.{answer_fits}
use Rattle.encoding.proofs.laws.answer_sizes.Goals as goal

pub returns : goal.returns
returns c = answer_fits
