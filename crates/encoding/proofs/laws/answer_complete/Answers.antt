use Rattle.encoding.proofs.Answering.{answer_complete}
use Rattle.encoding.proofs.laws.answer_complete.Goals as goal

pub returns : goal.returns
returns c = answer_complete
