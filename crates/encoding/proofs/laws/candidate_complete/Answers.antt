use Rattle.encoding.proofs.Candidates.{candidate_complete}
use Rattle.encoding.proofs.laws.candidate_complete.Goals as goal

pub returns : goal.returns
returns c = candidate_complete
