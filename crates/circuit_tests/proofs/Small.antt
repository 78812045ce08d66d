-- The small models are sound: computed.
use Rattle.std.proofs.Common.{◌≡◌, true, List, [], refl, ap, ◌∙◌}
use Rattle.circuit.specs.declared.record.Gate.{Gate}
use Rattle.circuit.specs.declared.record.Record.{Record}
use Rattle.circuit.specs.Parts.{blank_record}
use Rattle.circuit.specs.Sound.{sound}
use Rattle.circuit_tests.specs.Models.{one_latch, one_gate}

one_latch_computes : sound one_latch one_gate ≡ true
unfolding sound
one_latch_computes = refl

nothing_computes : sound blank_record [] ≡ true
unfolding sound
nothing_computes = refl

pub one_latch_sound : (r : Record) (gs : List Gate) → r ≡ one_latch → gs ≡ one_gate → sound r gs ≡ true
one_latch_sound r gs p q = ap (λ t. sound t gs) p ∙ ap (sound one_latch) q ∙ one_latch_computes

pub nothing_sound : (r : Record) → r ≡ blank_record → sound r [] ≡ true
nothing_sound r p = ap (λ t. sound t []) p ∙ nothing_computes
