use Rattle.session_tests.proofs.Small.{free_sound}
use Rattle.session_tests.proofs.models.Host.free_latch.Goals as goal

pub invariant_of-result : goal.invariant_of-result
invariant_of-result c = let h = free_sound c.free_latch.result c.free_latch.ensures in record { sound = h.sound; exact = h.exact }
