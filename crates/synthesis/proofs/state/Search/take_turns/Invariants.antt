use Rattle.std.proofs.Common.{◌+◌, ◌-◌, ◌*◌, length}
use Rattle.roll.specs.Rolls.{items_of}
use Rattle.synthesis.specs.Runs.{Turning, places_of, exception_places_of}
use Rattle.synthesis.specs.Searches.{Same, lent_to}
use Rattle.synthesis.proofs.state.Search.take_turns.Given as goal

abbrev pub invariant-loop-verdict : goal.invariant-loop-verdict
invariant-loop-verdict g l = Turning (lent_to l.self) × Same l.initial.self l.self

-- the exceptions that can come before the next row, and for each row that can come all exceptions and one turn
abbrev pub decreases-loop-verdict : goal.decreases-loop-verdict
decreases-loop-verdict g l =
    let before = lent_to l.initial.self in
    (places_of before - length (items_of l.self.rows.now)) * (exception_places_of before + 1)
    + (exception_places_of before - length (items_of l.self.exceptions.now))
