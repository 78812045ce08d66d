use Rattle.session_tests.proofs.Small.{one_latch_sound}
use Rattle.session_tests.proofs.models.Host.one_latch.Goals as goal

pub invariant_of-result : goal.invariant_of-result
invariant_of-result c = let h = one_latch_sound c.one_latch.result c.one_latch.ensures in record { sound = h.sound; exact = h.exact }
