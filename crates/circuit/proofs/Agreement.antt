-- The values that a step works out agree with the inputs, the latches and the gates, and no other values do.
use Rattle.std.proofs.Common.{◌≡◌, ℕ, ◌/◌, ◌<◌, Bool, true, false, cond, List, [], ◌∷◌, map, length, get_or, sym, refl, ap, ◌∙◌, arith}
use Rattle.std.specs.List.{AllByRecursion}
use Rattle.std.proofs.ByRecursion.{All-get_or, all_kept_by}
use Rattle.literal.specs.declared.Literal.{Literal}
use Rattle.literal.specs.Truth.{Values, variable_of}
use Rattle.circuit.specs.declared.record.Gate.{Gate}
use Rattle.circuit.specs.declared.record.Input.{Input}
use Rattle.circuit.specs.declared.record.Latch.{Latch}
use Rattle.circuit.specs.declared.record.Record.{Record}
use Rattle.circuit.specs.declared.record.Side.{Side}
use Rattle.circuit.specs.declared.record.Side.TheVariants.{Event, Answer}
use Rattle.circuit.specs.Parts.{answers?, inputs_of, latches_of, gates_of}
use Rattle.circuit.specs.Settled.{same_side, of_side, number_of, Agrees}
use Rattle.circuit.specs.Sound.{member, all_fresh, gates_ordered, defined, source_variables, sound}
use Rattle.circuit.specs.Step.{bit, low_bit, with_value, with_inputs, with_latches, with_gates, conjunction, all_false, values_at}
use Rattle.circuit.proofs.Bits.{by_place}
use Rattle.circuit.proofs.Freshness.{ordered_parts, defined_append, sources_fresh, all_from_map}
use Rattle.circuit.proofs.Membership.{member_here, member_later, defined_keeps, defined_has, with_here, with_new, conjunction_same}
use Rattle.circuit.proofs.Soundness.{soundness}
use Rattle.circuit.proofs.Stays.{fresh_first, inputs_stay, latches_stay, gates_stay}

-- the values of inputs are the bits of a number, by place
abbrev pub InputBits : List Input → ℕ → Values → Type 0
InputBits is n w = (k : ℕ) (d : Input) → k < length is → w (variable_of (get_or is k d).literal) ≡ bit n k

-- one input more, of side u, as the inputs of side t see it
input_more : (i : Input) (is : List Input) (e a : ℕ) (t u : Side) (w : ℕ → ℕ → Bool → Values)
    → ((e' a' : ℕ) (b : Bool) → w e' a' b (variable_of i.literal) ≡ b)
    → ((e' a' : ℕ) (b : Bool) → InputBits is (number_of t e' a') (w e' a' b))
    → InputBits (cond (same_side t u) (i ∷ is) is) (number_of t e a) (cond (answers? u) (w e (a / 2) (low_bit a)) (w (e / 2) a (low_bit e)))
input_more i is e a Event Event w here rest =
    by_place (λ j. j.literal) (w (e / 2) a (low_bit e)) i is e (here (e / 2) a (low_bit e)) (rest (e / 2) a (low_bit e))
input_more i is e a Event Answer w here rest = rest e (a / 2) (low_bit a)
input_more i is e a Answer Event w here rest = rest (e / 2) a (low_bit e)
input_more i is e a Answer Answer w here rest =
    by_place (λ j. j.literal) (w e (a / 2) (low_bit a)) i is a (here e (a / 2) (low_bit a)) (rest e (a / 2) (low_bit a))

inputs_agree : (m : ℕ) (vs : List ℕ) (is : List Input) (e a : ℕ) (v : Values) (t : Side)
    → all_fresh m vs (map (λ i. i.literal) is) ≡ true → InputBits (of_side t is) (number_of t e a) (with_inputs is e a v)
inputs_agree m vs [] e a v t h = λ k d l. let none : ⊥ = omega arith in absurd none
inputs_agree m vs (i ∷ is) e a v t h =
    let x : ℕ = variable_of i.literal in
    let p = fresh_first m vs i.literal (map (λ j. j.literal) is) h in
    input_more i (of_side t is) e a t i.side (λ e' a' b. with_inputs is e' a' (with_value v x b))
    (λ e' a' b. inputs_stay m (x ∷ vs) is e' a' (with_value v x b) x p.1 (member_here x vs) ∙ with_here v x b)
    (λ e' a' b. inputs_agree m (x ∷ vs) is e' a' (with_value v x b) t p.1)

-- the latches have the bits of the state
latches_agree : (m : ℕ) (vs : List ℕ) (ls : List Latch) (s : ℕ) (v : Values) → all_fresh m vs (map (λ l. l.literal) ls) ≡ true
    → (k : ℕ) (d : Latch) → k < length ls → with_latches ls s v (variable_of (get_or ls k d).literal) ≡ bit s k
latches_agree m vs [] s v h = λ k d l. let none : ⊥ = omega arith in absurd none
latches_agree m vs (l ∷ ls) s v h =
    let x : ℕ = variable_of l.literal in
    let p = fresh_first m vs l.literal (map (λ j. j.literal) ls) h in
    let v' : Values = with_value v x (low_bit s) in
    by_place (λ j. j.literal) (with_latches ls (s / 2) v') l ls s
    (latches_stay m (x ∷ vs) ls (s / 2) v' x p.1 (member_here x vs) ∙ with_here v x (low_bit s))
    (latches_agree m (x ∷ vs) ls (s / 2) v' p.1)

-- each gate's equation holds
gates_agree : (m : ℕ) (vs : List ℕ) (gs : List Gate) (v : Values) → gates_ordered m vs gs ≡ true
    → AllByRecursion (λ g. with_gates gs v (variable_of g.output) ≡ conjunction (with_gates gs v) g) gs
gates_agree m vs [] v h = tt
gates_agree m vs (g ∷ gs) v h =
    let x : ℕ = variable_of g.output in
    let p = ordered_parts m vs g gs h in
    let v' : Values = with_value v x (conjunction v g) in
    let w : Values = with_gates gs v' in
    let stays : (y : ℕ) → member y vs ≡ true → v y ≡ w y =
    λ y old. sym (gates_stay m (x ∷ vs) gs v' y p.rest (member_later x y vs old) ∙ with_new vs v x (conjunction v g) y p.output.new old) in (
      gates_stay m (x ∷ vs) gs v' x p.rest (member_here x vs) ∙ with_here v x (conjunction v g)
          ∙ conjunction_same v w g (stays (variable_of g.left) p.left) (stays (variable_of g.right) p.right),
      gates_agree m (x ∷ vs) gs v' p.rest,
    )

abbrev input_literals : Record → List Literal
input_literals r = map (λ i. i.literal) (inputs_of r)

abbrev latch_literals : Record → List Literal
latch_literals r = map (λ l. l.literal) (latches_of r)

-- the constant and the inputs
abbrev input_variables : Record → List ℕ
input_variables r = defined (0 ∷ []) (input_literals r)

input_is_source : (r : Record) (y : ℕ) → member y (input_variables r) ≡ true → member y (source_variables r) ≡ true
input_is_source r y h =
    ap (member y) (defined_append (0 ∷ []) (input_literals r) (latch_literals r)) ∙ defined_keeps y (input_variables r) (latch_literals r) h

inputs_defined : (r : Record) → AllByRecursion (λ i. member (variable_of i.literal) (input_variables r) ≡ true) (inputs_of r)
inputs_defined r =
    all_from_map (λ l. member (variable_of l) (input_variables r) ≡ true) (λ i. i.literal) (inputs_of r) (defined_has (0 ∷ []) (input_literals r))

latches_defined : (r : Record) → AllByRecursion (λ l. member (variable_of l.literal) (defined (input_variables r) (latch_literals r)) ≡ true) (latches_of r)
latches_defined r =
    all_from_map (λ l. member (variable_of l) (defined (input_variables r) (latch_literals r)) ≡ true) (λ l. l.literal) (latches_of r)
    (defined_has (input_variables r) (latch_literals r))

abbrev after_inputs : Record → ℕ → ℕ → Values
after_inputs r e a = with_inputs (inputs_of r) e a all_false

abbrev after_latches : Record → ℕ → ℕ → ℕ → Values
after_latches r s e a = with_latches (latches_of r) s (after_inputs r e a)

module _ (r : Record) (gs : List Gate) (s e a : ℕ) (h : sound r gs ≡ true) where
  past_gates : (y : ℕ) → member y (source_variables r) ≡ true → values_at r gs s e a y ≡ after_latches r s e a y
  unfolding values_at
  past_gates y = gates_stay r.maximum (source_variables r) (gates_of r gs) (after_latches r s e a) y (soundness r gs h).ordered

  past_latches : (y : ℕ) → member y (input_variables r) ≡ true → values_at r gs s e a y ≡ after_inputs r e a y
  past_latches y old =
      past_gates y (input_is_source r y old)
      ∙ latches_stay r.maximum (input_variables r) (latches_of r) s (after_inputs r e a) y (sources_fresh r (soundness r gs h).fresh).1 old

  constant_agrees : values_at r gs s e a 0 ≡ false
  constant_agrees =
      past_latches 0 (defined_keeps 0 (0 ∷ []) (input_literals r) refl)
      ∙ inputs_stay r.maximum (0 ∷ []) (inputs_of r) e a all_false 0 (sources_fresh r (soundness r gs h).fresh).0 refl

  input_agrees : (t : Side) → InputBits (of_side t (inputs_of r)) (number_of t e a) (values_at r gs s e a)
  input_agrees t k d l =
      let P : Input → Type 0 = λ i. member (variable_of i.literal) (input_variables r) ≡ true in
      let side : List Input = of_side t (inputs_of r) in
      past_latches (variable_of (get_or side k d).literal)
      (All-get_or P side k d l (all_kept_by (λ i. same_side t i.side) P (inputs_of r) (inputs_defined r)))
      ∙ inputs_agree r.maximum (0 ∷ []) (inputs_of r) e a all_false t (sources_fresh r (soundness r gs h).fresh).0 k d l

  latch_agrees : (j : ℕ) (d : Latch) → j < length (latches_of r) → values_at r gs s e a (variable_of (get_or (latches_of r) j d).literal) ≡ bit s j
  latch_agrees j d l =
      let P : Latch → Type 0 = λ x. member (variable_of x.literal) (defined (input_variables r) (latch_literals r)) ≡ true in
      let y : ℕ = variable_of (get_or (latches_of r) j d).literal in
      past_gates y
      (ap (member y) (defined_append (0 ∷ []) (input_literals r) (latch_literals r)) ∙ All-get_or P (latches_of r) j d l (latches_defined r))
      ∙ latches_agree r.maximum (input_variables r) (latches_of r) s (after_inputs r e a) (sources_fresh r (soundness r gs h).fresh).1 j d l

  gate_agrees : AllByRecursion (λ g. values_at r gs s e a (variable_of g.output) ≡ conjunction (values_at r gs s e a) g) (gates_of r gs)
  unfolding values_at
  gate_agrees = gates_agree r.maximum (source_variables r) (gates_of r gs) (after_latches r s e a) (soundness r gs h).ordered

  pub values_agree : Agrees r gs s e a (values_at r gs s e a)
  values_agree = record {
    constant = constant_agrees;
    input = input_agrees;
    latch = latch_agrees;
    gate = λ k d l.
        All-get_or (λ g. values_at r gs s e a (variable_of g.output) ≡ conjunction (values_at r gs s e a) g) (gates_of r gs) k d l gate_agrees;
  }
