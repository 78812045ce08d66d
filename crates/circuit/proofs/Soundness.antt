-- What a sound record and its gates keep to, part by part.
use Rattle.std.proofs.Common.{◌≡◌, ℕ, ◌+◌, ◌≤◌, true, eqb, leb, List, [], ◌∷◌, length, length-take, arith}
use Rattle.std.proofs.lemmas.Bool.{and_parts, leb-true, eqb-true}
use Rattle.circuit.specs.declared.record.Gate.{Gate}
use Rattle.circuit.specs.declared.record.Record.{Record}
use Rattle.circuit.specs.Parts.{inputs_of, latches_of, gates_of}
use Rattle.circuit.specs.Sound.{sound, sized, sides_fit, all_fresh, sources, gates_ordered, source_variables, variables, every, known, event_count, answer_count, blank_past}

pub record Sizes (r : Record) (places : ℕ) : Type 0 where
  pub maximum : r.maximum ≤ 4096
  pub inputs : r.input_count ≤ 24
  pub latches : r.latch_count ≤ 32
  pub gates : r.gate_count ≤ 2048
  pub all : r.input_count + r.latch_count + r.gate_count ≤ r.maximum
  pub table : r.gate_count ≤ places
  pub input_places : length r.inputs ≡ 24
  pub latch_places : length r.latches ≡ 32

pub record Soundness (r : Record) (gs : List Gate) : Type 0 where
  pub sizes : Sizes r (length gs)
  pub events : event_count (inputs_of r) ≤ 12
  pub answers : answer_count (inputs_of r) ≤ 12
  pub fresh : all_fresh r.maximum (0 ∷ []) (sources r) ≡ true
  pub ordered : gates_ordered r.maximum (source_variables r) (gates_of r gs) ≡ true
  pub next_known : every (λ l. known (variables r gs) l.next) (latches_of r) ≡ true
  pub output_known : known (variables r gs) r.output ≡ true
  pub blank : blank_past r gs ≡ true

pub sizes_of : (r : Record) (n : ℕ) → sized r n ≡ true → Sizes r n
sizes_of r n h =
    let h₀ = and_parts (leb r.maximum 4096) _ h in
    let h₁ = and_parts (leb r.input_count 24) _ h₀.1 in
    let h₂ = and_parts (leb r.latch_count 32) _ h₁.1 in
    let h₃ = and_parts (leb r.gate_count 2048) _ h₂.1 in
    let h₄ = and_parts (leb (r.input_count + r.latch_count + r.gate_count) r.maximum) _ h₃.1 in
    let h₅ = and_parts (leb r.gate_count n) _ h₄.1 in
    let h₆ = and_parts (eqb (length r.inputs) 24) _ h₅.1 in
    record {
      maximum = leb-true r.maximum 4096 h₀.0;
      inputs = leb-true r.input_count 24 h₁.0;
      latches = leb-true r.latch_count 32 h₂.0;
      gates = leb-true r.gate_count 2048 h₃.0;
      all = leb-true (r.input_count + r.latch_count + r.gate_count) r.maximum h₄.0;
      table = leb-true r.gate_count n h₅.0;
      input_places = eqb-true (length r.inputs) 24 h₆.0;
      latch_places = eqb-true (length r.latches) 32 h₆.1;
    }

pub soundness : (r : Record) (gs : List Gate) → sound r gs ≡ true → Soundness r gs
unfolding sound
soundness r gs h =
    let h₀ = and_parts (sized r (length gs)) _ h in
    let h₁ = and_parts (sides_fit r) _ h₀.1 in
    let h₂ = and_parts (all_fresh r.maximum (0 ∷ []) (sources r)) _ h₁.1 in
    let h₃ = and_parts (gates_ordered r.maximum (source_variables r) (gates_of r gs)) _ h₂.1 in
    let h₄ = and_parts (every (λ l. known (variables r gs) l.next) (latches_of r)) _ h₃.1 in
    let h₅ = and_parts (known (variables r gs) r.output) _ h₄.1 in
    let sides = and_parts (leb (event_count (inputs_of r)) 12) _ h₁.0 in
    record {
      sizes = sizes_of r (length gs) h₀.0;
      events = leb-true (event_count (inputs_of r)) 12 sides.0;
      answers = leb-true (answer_count (inputs_of r)) 12 sides.1;
      fresh = h₂.0;
      ordered = h₃.0;
      next_known = h₄.0;
      output_known = h₅.0;
      blank = h₅.1;
    }

module _ (r : Record) (gs : List Gate) (h : sound r gs ≡ true) where
  pub few_inputs : r.input_count ≤ 24
  few_inputs = (soundness r gs h).sizes.inputs

  pub few_latches : r.latch_count ≤ 32
  few_latches = (soundness r gs h).sizes.latches

  pub as_many_latches : r.latch_count ≡ length (latches_of r)
  as_many_latches = omega (arith, (soundness r gs h).sizes, length-take r.latch_count r.latches)

  pub as_many_gates : r.gate_count ≡ length (gates_of r gs)
  as_many_gates = omega (arith, (soundness r gs h).sizes.table, length-take r.gate_count gs)

  pub few_events : event_count (inputs_of r) ≤ 12
  few_events = (soundness r gs h).events

  pub few_answers : answer_count (inputs_of r) ≤ 12
  few_answers = (soundness r gs h).answers
