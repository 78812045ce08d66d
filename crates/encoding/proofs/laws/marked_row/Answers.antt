use Rattle.encoding.proofs.Said.{marked_row}
use Rattle.encoding.proofs.laws.marked_row.Goals as goal

pub returns : goal.returns
returns c = marked_row
