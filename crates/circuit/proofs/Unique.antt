-- Values that agree with a step's numbers and with every gate are the same at every variable that is defined, so any of them tell the
-- step's answer.
use Rattle.std.proofs.Common.{◌≡◌, ℕ, suc, ◌+◌, ◌*◌, ◌<◌, true, false, cond, List, [], ◌∷◌, map, length, get_or, sym, refl, ap, ◌∙◌, suc-le-suc, zero-le}
use Rattle.std.specs.List.{AllByRecursion}
use Rattle.std.proofs.ByRecursion.{All-from_get_or, All-append, All-map}
use Rattle.std.proofs.lemmas.Bool.{and_parts, both_ways}
use Rattle.literal.specs.declared.Literal.{Literal}
use Rattle.literal.specs.Truth.{Values, variable_of, truth}
use Rattle.circuit.specs.declared.record.Gate.{Gate}
use Rattle.circuit.specs.declared.record.Input.{Input}
use Rattle.circuit.specs.declared.record.Latch.{Latch}
use Rattle.circuit.specs.declared.record.Record.{Record}
use Rattle.circuit.specs.declared.record.Side.{Side}
use Rattle.circuit.specs.declared.record.Side.TheVariants.{Event, Answer}
use Rattle.circuit.specs.Parts.{inputs_of, latches_of, gates_of, blank_latch, blank_gate}
use Rattle.circuit.specs.Settled.{same_side, of_side, Agrees}
use Rattle.circuit.specs.Sound.{known, every, gates_ordered, defined, sources, source_variables, variables, sound}
use Rattle.circuit.specs.Step.{conjunction, next_of, values_at, bad_at, next_at}
use Rattle.circuit.proofs.Agreement.{values_agree}
use Rattle.circuit.proofs.Freshness.{ordered_parts}
use Rattle.circuit.proofs.Membership.{conjunction_same, truth_same, Same, same_more, same_defined}
use Rattle.circuit.proofs.Soundness.{soundness}

module _ (v w : Values) where
  -- the same values at the inputs of a list, by place
  abbrev SameAt : List Input → Type 0
  SameAt is = (k : ℕ) (d : Input) → k < length is → v (variable_of (get_or is k d).literal) ≡ w (variable_of (get_or is k d).literal)

  input_apart : (i : Input) (is : List Input) (u : Side) → ((t : Side) → SameAt (cond (same_side t u) (i ∷ of_side t is) (of_side t is)))
      → (v (variable_of i.literal) ≡ w (variable_of i.literal)) × ((t : Side) → SameAt (of_side t is))
  input_apart i is Event h = (
    h Event 0 i (suc-le-suc zero-le),
    λ t. elim t as (λ t. SameAt (of_side t is)) [ Event ↦ λ k d l. h Event (suc k) d (suc-le-suc l) | Answer ↦ h Answer ],
  )
  input_apart i is Answer h = (
    h Answer 0 i (suc-le-suc zero-le),
    λ t. elim t as (λ t. SameAt (of_side t is)) [ Event ↦ h Event | Answer ↦ λ k d l. h Answer (suc k) d (suc-le-suc l) ],
  )

  -- what holds of both sides by place holds of every input
  inputs_same : (is : List Input) → ((t : Side) → SameAt (of_side t is)) → AllByRecursion (λ i. v (variable_of i.literal) ≡ w (variable_of i.literal)) is
  inputs_same [] h = tt
  inputs_same (i ∷ is) h = let p = input_apart i is i.side h in (p.0, inputs_same is p.1)

  -- an operand is defined before its gate
  gates_same : (m : ℕ) (vs : List ℕ) (gs : List Gate) → gates_ordered m vs gs ≡ true → Same v w vs
      → AllByRecursion (λ g. v (variable_of g.output) ≡ conjunction v g) gs → AllByRecursion (λ g. w (variable_of g.output) ≡ conjunction w g) gs
      → Same v w (defined vs (map (λ g. g.output) gs))
  gates_same m vs [] h same p q = same
  gates_same m vs (g ∷ gs) h same p q =
      let o = ordered_parts m vs g gs h in
      gates_same m (variable_of g.output ∷ vs) gs o.rest
      (same_more v w (variable_of g.output) vs same
      (p.0 ∙ conjunction_same v w g (same (variable_of g.left) o.left) (same (variable_of g.right) o.right) ∙ sym q.0))
      p.1 q.1

  next_same : (vs : List ℕ) (ls : List Latch) → Same v w vs → every (λ l. known vs l.next) ls ≡ true → next_of v ls ≡ next_of w ls
  next_same vs [] same h = refl
  next_same vs (l ∷ ls) same h =
      let p = and_parts (known vs l.next) _ h in
      ap (λ b. cond b 1 0 + 2 * next_of v ls) (truth_same v w l.next (same (variable_of l.next) p.0))
      ∙ ap (λ n. cond (truth w l.next) 1 0 + 2 * n) (next_same vs ls same p.1)

module _ (r : Record) (gs : List Gate) (s e a : ℕ) (h : sound r gs ≡ true) where
  sources_same : (v w : Values) → Agrees r gs s e a v → Agrees r gs s e a w → Same v w (source_variables r)
  sources_same v w p q =
      let P : Literal → Type 0 = λ l. v (variable_of l) ≡ w (variable_of l) in
      same_defined v w (0 ∷ []) (sources r)
      (same_more v w 0 [] (λ x m. absurd (both_ways false refl m)) (p.constant ∙ sym q.constant))
      (All-append P (map (λ i. i.literal) (inputs_of r)) (map (λ l. l.literal) (latches_of r))
      (All-map P (λ i. i.literal) (inputs_of r) (inputs_same v w (inputs_of r) (λ t k d l. p.input t k d l ∙ sym (q.input t k d l))))
      (All-map P (λ l. l.literal) (latches_of r)
      (All-from_get_or (λ x. P x.literal) (latches_of r) blank_latch (λ j l. p.latch j blank_latch l ∙ sym (q.latch j blank_latch l)))))

  -- any two that agree are the same
  pub agree_same : (v w : Values) → Agrees r gs s e a v → Agrees r gs s e a w → Same v w (variables r gs)
  agree_same v w p q =
      gates_same v w r.maximum (source_variables r) (gates_of r gs) (soundness r gs h).ordered (sources_same v w p q)
      (All-from_get_or (λ g. v (variable_of g.output) ≡ conjunction v g) (gates_of r gs) blank_gate (λ k l. p.gate k blank_gate l))
      (All-from_get_or (λ g. w (variable_of g.output) ≡ conjunction w g) (gates_of r gs) blank_gate (λ k l. q.gate k blank_gate l))

  -- so both things that a step answers are what any such values say
  pub bad_by : (w : Values) → Agrees r gs s e a w → bad_at r gs s e a ≡ truth w r.output
  bad_by w q =
      truth_same (values_at r gs s e a) w r.output
      (agree_same (values_at r gs s e a) w (values_agree r gs s e a h) q (variable_of r.output) (soundness r gs h).output_known)

  pub next_by : (w : Values) → Agrees r gs s e a w → next_at r gs s e a ≡ next_of w (latches_of r)
  next_by w q =
      next_same (values_at r gs s e a) w (variables r gs) (latches_of r)
      (agree_same (values_at r gs s e a) w (values_agree r gs s e a h) q) (soundness r gs h).next_known
