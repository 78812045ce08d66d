use Rattle.session.proofs.Laws.{region_law}
use Rattle.session.proofs.calls.open.Goals as goal

pub returns-clause-law : goal.returns-clause-law
returns-clause-law c = region_law c.args.region.now
