use Rattle.session_tests.proofs.Small.{nothing_sound}
use Rattle.session_tests.proofs.models.Host.nothing.Goals as goal

pub invariant_of-result : goal.invariant_of-result
invariant_of-result c = let h = nothing_sound c.blank.result c.blank.ensures in record { sound = h.sound; exact = h.exact }
