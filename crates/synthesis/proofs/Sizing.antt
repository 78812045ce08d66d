-- Sizes stay far below what a number holds.
use Rattle.std.proofs.Common.{ℕ, ◌*◌, ◌≤◌}
use Rattle.std.proofs.lemmas.Nat.{mul-le}
use Rattle.circuit.specs.declared.model.Model.{Model}
use Rattle.circuit.specs.declared.record.Record.{Record}
use Rattle.circuit.specs.Parts.{inputs_of}
use Rattle.circuit.specs.Sound.{event_count, answer_count}
use Rattle.circuit.proofs.Soundness.{soundness}

pub record Bounds (r : Record) : Type 0 where
  pub maximum : r.maximum ≤ 4096
  pub latches : r.latch_count ≤ 32
  pub gates : r.gate_count ≤ 2048
  pub events : event_count (inputs_of r) ≤ 12
  pub answers : answer_count (inputs_of r) ≤ 12

pub bounds : (m : Model) → Bounds m.«record».now
bounds m =
    let s = soundness m.«record».now m.gates.now m.fit in
    record { maximum = s.sizes.maximum; latches = s.sizes.latches; gates = s.sizes.gates; events = s.events; answers = s.answers }

pub product : (a b : ℕ) → a ≤ 133 → b ≤ 4096 → a * b ≤ 544768
product a b p q = mul-le a b 133 4096 p q
