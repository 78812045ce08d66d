-- The arena of a model is in range: its next states are numbers of as many bits as there are latches.
use Rattle.std.proofs.Common.{◌≡◌, ℕ, ◌^◌, ◌<◌, ◌≤◌, List, length, refl, arith, pow_mono}
use Rattle.std.proofs.lemmas.Nat.{pow_pos}
use Rattle.std.proofs.lemmas.List.{length-take}
use Rattle.circuit.proofs.Numbers.{next_below}
use Rattle.circuit.specs.declared.record.Gate.{Gate}
use Rattle.circuit.specs.declared.record.Record.{Record}
use Rattle.circuit.specs.Parts.{inputs_of, latches_of}
use Rattle.circuit.specs.Sound.{event_count, answer_count}
use Rattle.circuit.specs.Step.{state_count, values_at, next_at, step_of}
use Rattle.game.specs.Models.{arena_of, step_in, Playable}

next_in_range : (r : Record) (gs : List Gate) (s e a : ℕ) → next_at r gs s e a < state_count r
next_in_range r gs s e a =
    let few : length (latches_of r) ≤ r.latch_count = omega (arith, length-take r.latch_count r.latches) in
    let more : 2 ^ length (latches_of r) ≤ 2 ^ r.latch_count = pow_mono few in
    omega (arith, next_below (values_at r gs s e a) (latches_of r))

pub playable : (r : Record) (gs : List Gate) → Playable (arena_of r gs)
playable r gs =
    record {
      in_range = λ s e a ls le la. next_in_range r gs s e a;
      some_state = pow_pos r.latch_count;
      some_event = pow_pos (event_count (inputs_of r));
      some_answer = pow_pos (answer_count (inputs_of r));
    }

-- what the circuit's step answers is the arena's step
pub step_in_lem : (r : Record) (gs : List Gate) (s e a : ℕ) → step_of r gs s e a ≡ step_in (arena_of r gs) s e a
step_in_lem r gs s e a = refl
