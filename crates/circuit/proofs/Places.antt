-- The variables of a sound model have places in a table of 4,097.
use Rattle.std.proofs.Common.{◌≡◌, ◌<◌, ◌≤◌, true, List, arith}
use Rattle.std.specs.List.{AllByRecursion}
use Rattle.std.proofs.ByRecursion.{All-weaker}
use Rattle.literal.specs.declared.Literal.{Literal}
use Rattle.literal.specs.Truth.{variable_of}
use Rattle.circuit.specs.declared.record.Gate.{Gate}
use Rattle.circuit.specs.declared.record.Record.{Record}
use Rattle.circuit.specs.Parts.{inputs_of, latches_of, gates_of}
use Rattle.circuit.specs.Sound.{sound, source_variables}
use Rattle.circuit.proofs.Freshness.{sources_fresh, fresh_inside, outputs_inside, all_from_map}
use Rattle.circuit.proofs.Soundness.{soundness}

module _ (r : Record) (gs : List Gate) (h : sound r gs ≡ true) where
  in_place : {X : Type 0} (f : X → Literal) (xs : List X) → AllByRecursion (λ x. variable_of (f x) ≤ r.maximum) xs → AllByRecursion (λ x. variable_of (f x) < 4097) xs
  in_place f xs =
      All-weaker (λ x. variable_of (f x) ≤ r.maximum) (λ x. variable_of (f x) < 4097) (λ x k. omega (arith, (soundness r gs h).sizes.maximum)) xs

  pub inputs_in_place : AllByRecursion (λ i. variable_of i.literal < 4097) (inputs_of r)
  inputs_in_place =
      in_place (λ i. i.literal) (inputs_of r)
      (all_from_map (λ l. variable_of l ≤ r.maximum) (λ i. i.literal) (inputs_of r) (fresh_inside _ _ _ (sources_fresh r (soundness r gs h).fresh).0))

  pub latches_in_place : AllByRecursion (λ l. variable_of l.literal < 4097) (latches_of r)
  latches_in_place =
      in_place (λ l. l.literal) (latches_of r)
      (all_from_map (λ l. variable_of l ≤ r.maximum) (λ l. l.literal) (latches_of r) (fresh_inside _ _ _ (sources_fresh r (soundness r gs h).fresh).1))

  pub gates_in_place : AllByRecursion (λ g. variable_of g.output < 4097) (gates_of r gs)
  gates_in_place =
      in_place (λ g. g.output) (gates_of r gs) (outputs_inside r.maximum (source_variables r) (gates_of r gs) (soundness r gs h).ordered)
