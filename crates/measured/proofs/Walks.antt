-- One step of a walk.
use Rattle.std.proofs.Common.{◌≡◌, ℕ, suc, ◌+◌, ◌-◌, ◌/◌, ◌%◌, ◌<◌, Bool, List, Result, sym, ap, ◌∙◌, arith}
use Rattle.circuit.specs.declared.record.Gate.{Gate}
use Rattle.circuit.specs.declared.record.Record.{Record}
use Rattle.circuit.specs.declared.fault.StepFault.{StepFault}
use Rattle.circuit.specs.Step.{step_of, event_numbers, answer_numbers}
use Rattle.measured.specs.Walk.{next_or, walk_step, walked}

pub walk_more : (r : Record) (gs : List Gate) (count i s t : ℕ) → i < count → t ≡ walk_step r gs i s
    → walked r gs (count - (i + 1)) (i + 1) t ≡ walked r gs (count - i) i s
walk_more r gs count i s t h e =
    let left : count - i ≡ suc (count - (i + 1)) = omega arith in
    ap (walked r gs (count - (i + 1)) (i + 1)) e ∙ sym (ap (λ n. walked r gs n i s) left)

pub walk_step_lem : (r : Record) (gs : List Gate) (i s t m k : ℕ) (x : Result (Bool × ℕ) StepFault) → m ≡ event_numbers r → k ≡ answer_numbers r
    → x ≡ step_of r gs s (i % m) (i / m % k) → t ≡ next_or s x → t ≡ walk_step r gs i s
unfolding walk_step
walk_step_lem r gs i s t m k x em ek ex et =
    et ∙ ap (next_or s) ex ∙ ap (λ n. next_or s (step_of r gs s (i % n) (i / n % k))) em
    ∙ ap (λ n. next_or s (step_of r gs s (i % event_numbers r) (i / event_numbers r % n))) ek
