-- Sizes of a model, and tables of its literals.
use Rattle.std.proofs.Common.{◌≡◌, ℕ, ◌≤◌, true, List, map, length, take, ap, ◌∙◌, arith}
use Rattle.std.proofs.lemmas.List.{take_all, length-map}
use Rattle.literal.specs.declared.Literal.{Literal}
use Rattle.circuit.specs.declared.record.Gate.{Gate}
use Rattle.circuit.specs.declared.record.Input.{Input}
use Rattle.circuit.specs.declared.record.Latch.{Latch}
use Rattle.circuit.specs.declared.record.Record.{Record}
use Rattle.circuit.specs.declared.record.Side.{Side}
use Rattle.circuit.specs.declared.record.Side.TheVariants.{Event, Answer}
use Rattle.circuit.specs.Parts.{inputs_of, latches_of}
use Rattle.circuit.specs.Settled.{of_side}
use Rattle.circuit.specs.Sound.{sound}
use Rattle.circuit.proofs.Soundness.{soundness}
use Rattle.encoding.specs.Literals.{clause_literal, latch_literals, next_literals, side_literals}
use Rattle.encoding.proofs.Parts.{latch_number, events_length, answers_length}

pub maximum_fits : (r : Record) (gs : List Gate) → sound r gs ≡ true → r.maximum ≤ 4096
maximum_fits r gs h = (soundness r gs h).sizes.maximum

-- a table that holds the first 64 of a list holds all of a short one
abbrev pub Filled : List Literal → List Literal → ℕ → Type 0
Filled table ls most = (table ≡ ls) × (length table ≤ most)

filled : (table ls : List Literal) (most : ℕ) → length ls ≤ most → most ≤ 64 → table ≡ take 64 ls → Filled table ls most
filled table ls most few m e =
    let p : table ≡ ls = e ∙ take_all 64 ls (omega arith) in (p, omega (arith, ap length p))

module _ (r : Record) (gs : List Gate) (h : sound r gs ≡ true) (table : List Literal) where
  few : length (latches_of r) ≤ 32
  few = omega (arith, latch_number r gs h, (soundness r gs h).sizes.latches)

  pub latches_filled : (ls : List Latch) → ls ≡ latches_of r → table ≡ take 64 (map (λ l. l.literal) ls) → Filled table (latch_literals r) 32
  latches_filled ls is e =
      filled table (latch_literals r) 32 (omega (arith, length-map (latches_of r) (λ l. l.literal), few)) (omega arith)
      (e ∙ ap (λ t. take 64 (map (λ l. l.literal) t)) is)

  pub next_filled : (ls : List Latch) (m : ℕ) → ls ≡ latches_of r → m ≡ r.maximum → table ≡ take 64 (map (λ l. clause_literal m l.next) ls)
      → Filled table (next_literals r) 32
  next_filled ls m is max e =
      filled table (next_literals r) 32 (omega (arith, length-map (latches_of r) (λ l. clause_literal r.maximum l.next), few)) (omega arith)
      (e ∙ ap (λ t. take 64 (map (λ l. clause_literal m l.next) t)) is ∙ ap (λ n. take 64 (map (λ l. clause_literal n l.next) (latches_of r))) max)

  few_inputs : (t : Side) → length (side_literals t r) ≤ 12
  few_inputs Event = omega (arith, events_length r gs h, (soundness r gs h).events)
  few_inputs Answer = omega (arith, answers_length r gs h, (soundness r gs h).answers)

  pub inputs_filled : (t : Side) (is : List Input) → is ≡ inputs_of r → table ≡ take 64 (map (λ i. i.literal) (of_side t is)) → Filled table (side_literals t r) 12
  inputs_filled t is same e =
      filled table (side_literals t r) 12 (few_inputs t) (omega arith) (e ∙ ap (λ x. take 64 (map (λ i. i.literal) (of_side t x))) same)
