-- Values that satisfy the clauses of a step are those that agree with the model at the numbers that they say.
use Rattle.std.proofs.Common.{◌≡◌, ℕ, ◌+◌, ◌*◌, ◌/◌, ◌%◌, ◌^◌, ◌<◌, ◌≤◌, Bool, true, false, cond, not, ◌&&◌, ◌||◌, eqb, leb, List, [], ◌∷◌, map, length, get_or, sym, refl, ap, ◌∙◌, subst, inl, inr, arith, pow_mono}
use Rattle.std.specs.List.{flat_map, AllByRecursion}
use Rattle.std.proofs.lemmas.Nat.{div_below, pow_pos}
use Rattle.std.proofs.ByRecursion.{All-get_or, All-from_get_or, all_kept_by}
use Rattle.std.proofs.lemmas.List.{get_or-map, length-map}
use Rattle.std.proofs.lemmas.Bool.{and_parts, cases_lt, cases_eq, eq-eqb, ne_eqb, le-leb, lt-leb, cond-true, cond-false}
use Rattle.literal.specs.declared.Literal.{Literal}
use Rattle.literal.specs.Truth.{Values, variable_of, negated, negation_of, truth}
use Rattle.circuit.specs.declared.record.Gate.{Gate}
use Rattle.circuit.specs.declared.record.Input.{Input}
use Rattle.circuit.specs.declared.record.Latch.{Latch}
use Rattle.circuit.specs.declared.record.Record.{Record}
use Rattle.circuit.specs.declared.record.Side.{Side}
use Rattle.circuit.specs.declared.record.Side.TheVariants.{Event, Answer}
use Rattle.circuit.specs.Parts.{inputs_of, latches_of, gates_of, blank_gate}
use Rattle.circuit.specs.Settled.{same_side, of_side, number_of, Agrees}
use Rattle.circuit.specs.Sound.{sound}
use Rattle.circuit.specs.Step.{bit, with_value, next_of, values_at, bad_at, next_at, state_count, event_numbers, answer_numbers, conjunction}
use Rattle.circuit.proofs.Agreement.{values_agree}
use Rattle.circuit.proofs.Freshness.{all_from_map}
use Rattle.circuit.proofs.Membership.{conjunction_same}
use Rattle.circuit.proofs.Unique.{bad_by, next_by}
use Rattle.sat.specs.Clauses.{any_true, satisfies}
use Rattle.sat.proofs.Laws.{satisfies_append, satisfies_parts}
use Rattle.game.proofs.Bits.{same_bits}
use Rattle.encoding.specs.Literals.{positive, negative, clause_literal, next_literals, side_literals, number_in, state_in, event_in, answer_in}
use Rattle.encoding.specs.Clauses.{both_clauses, gate_clauses, constant_clause, step_clauses}
use Rattle.encoding.specs.Laws.{Says}
use Rattle.encoding.proofs.Bits.{from_bit}
use Rattle.encoding.proofs.Meaning.{truth_negation}
use Rattle.encoding.proofs.Parts.{Own, GateInside, latches_own, inputs_own, gates_own, latches_length, events_length, answers_length}
use Rattle.encoding.proofs.Said.{said_in_range, said_by_literals}

-- the values of the circuit's variables: those of the clauses, and false at variable 0
abbrev pub cleared : Values → Values
cleared v = with_value v 0 false

pub cleared_at : (v : Values) (x : ℕ) → 0 < x → cleared v x ≡ v x
cleared_at v x h = cond-false (eqb x 0) false (v x) (ne_eqb x 0 (λ e. omega arith))

pub truth_positive : (v : Values) (x : ℕ) → truth v (positive x) ≡ v x
truth_positive v x =
    cond-false (negated (positive x)) _ _ (ne_eqb (2 * x % 2) 1 (λ e. omega arith)) ∙ ap v (let e : 2 * x / 2 ≡ x = omega arith in e)

pub truth_negative : (v : Values) (x : ℕ) → truth v (negative x) ≡ not (v x)
truth_negative v x =
    cond-true (negated (negative x)) _ _ (eq-eqb ((2 * x + 1) % 2) 1 (omega arith)) ∙ ap (λ y. not (v y)) (let e : (2 * x + 1) / 2 ≡ x = omega arith in e)

-- a variable's own literal has its value
own_value : (m : ℕ) (v : Values) (l : Literal) → Own m l → truth v l ≡ v (variable_of l)
own_value m v l o = cond-false (negated l) _ _ (ne_eqb (l.code % 2) 1 (λ e. omega (arith, o.even, e)))

own_truth : (m : ℕ) (v : Values) (l : Literal) → Own m l → truth v l ≡ cleared v (variable_of l)
own_truth m v l o = own_value m v l o ∙ sym (cleared_at v (variable_of l) (omega (arith, o.some)))

-- a circuit's literal in a clause has its truth
pub clause_truth : (M : ℕ) (v : Values) (l : Literal) → v (M + 1) ≡ true → truth v (clause_literal M l) ≡ truth (cleared v) l
clause_truth M v l t = elim (cases_eq l.code 0) [ inl e ↦ low e | inr n ↦ elim (cases_eq l.code 1) [ inl e ↦ high n e | inr m ↦ other n m ] ]
  where
    low : l.code ≡ 0 → truth v (clause_literal M l) ≡ truth (cleared v) l
    low e =
        ap (truth v) (cond-true (eqb l.code 0) _ _ (eq-eqb l.code 0 e)) ∙ truth_negative v (M + 1) ∙ ap not t
        ∙ sym (ap (λ n. truth (cleared v) (record { code = n })) e)

    high : (l.code ≡ 0 → ⊥) → l.code ≡ 1 → truth v (clause_literal M l) ≡ truth (cleared v) l
    high n e =
        ap (truth v) (cond-false (eqb l.code 0) _ _ (ne_eqb l.code 0 n) ∙ cond-true (eqb l.code 1) _ _ (eq-eqb l.code 1 e))
        ∙ truth_positive v (M + 1) ∙ t ∙ sym (ap (λ n. truth (cleared v) (record { code = n })) e)

    other : (l.code ≡ 0 → ⊥) → (l.code ≡ 1 → ⊥) → truth v (clause_literal M l) ≡ truth (cleared v) l
    other n m =
        ap (truth v) (cond-false (eqb l.code 0) _ _ (ne_eqb l.code 0 n) ∙ cond-false (eqb l.code 1) _ _ (ne_eqb l.code 1 m))
        ∙ ap (λ b. cond (negated l) (not b) b) (sym (cleared_at v (variable_of l) (omega (arith, n, m))))

-- the clauses of a gate are satisfied exactly where the output is what both operands make it
abbrev equal : Bool → Bool → Bool
equal true b = b
equal false b = not b

equal_from : (a b : Bool) → equal a b ≡ true → a ≡ b
equal_from true true e = refl
equal_from true false e = sym e
equal_from false true e = e
equal_from false false e = refl

equal_to : (a b : Bool) → a ≡ b → equal a b ≡ true
equal_to true b e = sym e
equal_to false b e = ap not (sym e)

both_table : (a b c : Bool)
    → ((not a || (b || false)) && ((not a || (c || false)) && ((a || (not b || (not c || false))) && true))) ≡ equal a (b && c)
both_table true true true = refl
both_table true true false = refl
both_table true false true = refl
both_table true false false = refl
both_table false true true = refl
both_table false true false = refl
both_table false false true = refl
both_table false false false = refl

both_true : (v : Values) (o p q : Literal) → satisfies v (both_clauses o p q) ≡ equal (truth v o) (truth v p && truth v q)
both_true v o p q =
    let a : Bool = truth v o in
    let b : Bool = truth v p in
    let c : Bool = truth v q in
    ap (λ t. (t || (b || false)) && ((t || (c || false)) && ((a || (truth v (negation_of p) || (truth v (negation_of q) || false))) && true))) (truth_negation v o)
    ∙ ap (λ t. (not a || (b || false)) && ((not a || (c || false)) && ((a || (t || (truth v (negation_of q) || false))) && true))) (truth_negation v p)
    ∙ ap (λ t. (not a || (b || false)) && ((not a || (c || false)) && ((a || (not b || (t || false))) && true))) (truth_negation v q)
    ∙ both_table a b c

module _ (M : ℕ) (v : Values) (t : v (M + 1) ≡ true) where
  abbrev GateHolds : Gate → Type 0
  GateHolds g = cleared v (variable_of g.output) ≡ conjunction (cleared v) g

  gate_true : (g : Gate) → GateInside M g
      → satisfies v (gate_clauses M g) ≡ equal (cleared v (variable_of g.output)) (conjunction (cleared v) g)
  gate_true g k =
      both_true v (clause_literal M g.output) (clause_literal M g.left) (clause_literal M g.right)
      ∙ ap (λ b. equal b (truth v (clause_literal M g.left) && truth v (clause_literal M g.right)))
      (clause_truth M v g.output t ∙ own_value M (cleared v) g.output k.output)
      ∙ ap (λ b. equal (cleared v (variable_of g.output)) (b && truth v (clause_literal M g.right))) (clause_truth M v g.left t)
      ∙ ap (λ b. equal (cleared v (variable_of g.output)) (truth (cleared v) g.left && b)) (clause_truth M v g.right t)

  gates_hold : (gs : List Gate) → AllByRecursion (GateInside M) gs → satisfies v (flat_map (gate_clauses M) gs) ≡ true → AllByRecursion GateHolds gs
  gates_hold [] k h = tt
  gates_hold (g ∷ gs) k h =
      let p = satisfies_parts v (gate_clauses M g) (flat_map (gate_clauses M) gs) h in
      (equal_from _ _ (sym (gate_true g k.0) ∙ p.0), gates_hold gs k.1 p.1)

  gates_satisfied : (gs : List Gate) → AllByRecursion (GateInside M) gs → AllByRecursion GateHolds gs → satisfies v (flat_map (gate_clauses M) gs) ≡ true
  gates_satisfied [] k h = refl
  gates_satisfied (g ∷ gs) k h =
      satisfies_append v (gate_clauses M g) (flat_map (gate_clauses M) gs) (gate_true g k.0 ∙ equal_to _ _ h.0) (gates_satisfied gs k.1 h.1)

  -- the number of what the latches take over
  next_number : (ls : List Latch) → number_in v (map (λ l. clause_literal M l.next) ls) ≡ next_of (cleared v) ls
  next_number [] = refl
  next_number (l ∷ ls) =
      ap (λ b. cond b 1 0 + 2 * number_in v (map (λ x. clause_literal M x.next) ls)) (clause_truth M v l.next t)
      ∙ ap (λ n. cond (truth (cleared v) l.next) 1 0 + 2 * n) (next_number ls)

-- a bit of the number that values hold is the truth of the literal there
number_bit : {X : Type 0} (f : X → Literal) (v : Values) (xs : List X) (i : ℕ) (d : X) → i < length xs
    → bit (number_in v (map f xs)) i ≡ truth v (f (get_or xs i d))
number_bit f v xs i d l =
    let k : i < length (map f xs) = omega (arith, length-map xs f) in
    from_bit (map (truth v) (map f xs)) i ∙ get_or-map (truth v) (map f xs) i (f d) false k ∙ ap (truth v) (get_or-map f xs i d (f d) l)

high_bit : (n k j : ℕ) → n < 2 ^ k → k ≤ j → bit n j ≡ false
high_bit n k j h l =
    let more : 2 ^ k ≤ 2 ^ j = pow_mono l in
    let z : n / 2 ^ j ≡ 0 = omega (arith, div_below n (2 ^ j) 1 (pow_pos j) (omega arith)) in
    ap (λ t. eqb (t % 2) 1) z

-- a number with those bits is the number
number_is : {X : Type 0} (f : X → Literal) (v : Values) (xs : List X) (n : ℕ) → n < 2 ^ length xs → number_in v (map f xs) < 2 ^ length xs
    → ((i : ℕ) (d : X) → i < length xs → truth v (f (get_or xs i d)) ≡ bit n i) → number_in v (map f xs) ≡ n
number_is f v [] n a b h = omega arith
number_is f v (x ∷ xs) n a b h =
    same_bits (number_in v (map f (x ∷ xs))) n (λ j. elim (cases_lt j (length (x ∷ xs))) [
      | inl l ↦ number_bit f v (x ∷ xs) j x l ∙ h j x l
      | inr g ↦ high_bit (number_in v (map f (x ∷ xs))) (length (x ∷ xs)) j b g ∙ sym (high_bit n (length (x ∷ xs)) j a g)
    ])

pub record Encodes (r : Record) (gs : List Gate) (v : Values) (s e a : ℕ) : Type 0 where
  pub constant : v (r.maximum + 1) ≡ true
  pub agrees : Agrees r gs s e a (cleared v)

side_number : (t : Side) (r : Record) (v : Values) → number_of t (event_in r v) (answer_in r v) ≡ number_in v (side_literals t r)
side_number Event r v = refl
side_number Answer r v = refl

module _ (r : Record) (gs : List Gate) (h : sound r gs ≡ true) where
  side_own : (t : Side) (i : ℕ) (d : Input) → i < length (of_side t (inputs_of r)) → Own r.maximum (get_or (of_side t (inputs_of r)) i d).literal
  side_own t i d l =
      let P : Input → Type 0 = λ x. Own r.maximum x.literal in
      All-get_or P (of_side t (inputs_of r)) i d l (all_kept_by (λ x. same_side t x.side) P (inputs_of r) (inputs_own r gs h))

  latch_own : (j : ℕ) (d : Latch) → j < length (latches_of r) → Own r.maximum (get_or (latches_of r) j d).literal
  latch_own j d l =
      All-get_or (λ x. Own r.maximum x.literal) (latches_of r) j d l (all_from_map (Own r.maximum) (λ x. x.literal) (latches_of r) (latches_own r gs h))

  -- satisfying values agree with the model
  pub step_sound : (v : Values) → satisfies v (step_clauses r gs) ≡ true → Encodes r gs v (state_in r v) (event_in r v) (answer_in r v)
  step_sound v sat =
      let p = satisfies_parts v (flat_map (gate_clauses r.maximum) (gates_of r gs)) (constant_clause r.maximum ∷ []) sat in
      let one = and_parts (any_true v (constant_clause r.maximum)) true p.1 in
      let t : v (r.maximum + 1) ≡ true = sym (truth_positive v (r.maximum + 1)) ∙ from_or (truth v (positive (r.maximum + 1))) one.0 in
      record {
        constant = t;
        agrees = record {
          constant = refl;
          input = λ u i d l.
              sym (own_truth r.maximum v (get_or (of_side u (inputs_of r)) i d).literal (side_own u i d l))
              ∙ sym (number_bit (λ x. x.literal) v (of_side u (inputs_of r)) i d l) ∙ ap (λ n. bit n i) (sym (side_number u r v));
          latch = λ j d l.
              sym (own_truth r.maximum v (get_or (latches_of r) j d).literal (latch_own j d l))
              ∙ sym (number_bit (λ x. x.literal) v (latches_of r) j d l);
          gate = λ k d l.
              All-get_or (GateHolds r.maximum v t) (gates_of r gs) k d l (gates_hold r.maximum v t (gates_of r gs) (gates_own r gs h) p.0);
        };
      }
    where
      from_or : (b : Bool) → (b || false) ≡ true → b ≡ true
      from_or true e = refl
      from_or false e = e

  module _ (v : Values) (s e a : ℕ) (enc : Encodes r gs v s e a) where
    -- values that agree satisfy the clauses
    pub step_satisfied : satisfies v (step_clauses r gs) ≡ true
    step_satisfied =
        satisfies_append v (flat_map (gate_clauses r.maximum) (gates_of r gs)) (constant_clause r.maximum ∷ [])
        (gates_satisfied r.maximum v enc.constant (gates_of r gs) (gates_own r gs h)
        (All-from_get_or (GateHolds r.maximum v enc.constant) (gates_of r gs) blank_gate (λ k l. enc.agrees.gate k blank_gate l)))
        (ap (λ b. (b || false) && true) (truth_positive v (r.maximum + 1) ∙ enc.constant))

    -- the output is true exactly at a bad step, and the next literals hold the next state
    pub output_bad : truth v (clause_literal r.maximum r.output) ≡ bad_at r gs s e a
    output_bad = clause_truth r.maximum v r.output enc.constant ∙ sym (bad_by r gs s e a h (cleared v) enc.agrees)

    pub next_is : number_in v (next_literals r) ≡ next_at r gs s e a
    next_is = next_number r.maximum v enc.constant (latches_of r) ∙ sym (next_by r gs s e a h (cleared v) enc.agrees)

    -- the values say the numbers
    module _ (ls : s < state_count r) (le : e < event_numbers r) (la : a < answer_numbers r) where
      pub state_is : state_in r v ≡ s
      state_is =
          let k : length (latches_of r) ≡ r.latch_count = sym (length-map (latches_of r) (λ l. l.literal)) ∙ latches_length r gs h in
          number_is (λ l. l.literal) v (latches_of r) s (subst (λ n. s < 2 ^ n) (sym k) ls)
          (subst (λ n. state_in r v < 2 ^ n) (sym k) (said_in_range r gs h v).state)
          (λ j d l. own_truth r.maximum v (get_or (latches_of r) j d).literal (latch_own j d l) ∙ enc.agrees.latch j d l)

      pub event_is : event_in r v ≡ e
      event_is =
          let k = sym (length-map (of_side Event (inputs_of r)) (λ i. i.literal)) ∙ events_length r gs h in
          number_is (λ i. i.literal) v (of_side Event (inputs_of r)) e (subst (λ n. e < 2 ^ n) (sym k) le)
          (subst (λ n. event_in r v < 2 ^ n) (sym k) (said_in_range r gs h v).event)
          (λ j d l. own_truth r.maximum v (get_or (of_side Event (inputs_of r)) j d).literal (side_own Event j d l) ∙ enc.agrees.input Event j d l)

      pub answer_is : answer_in r v ≡ a
      answer_is =
          let k = sym (length-map (of_side Answer (inputs_of r)) (λ i. i.literal)) ∙ answers_length r gs h in
          number_is (λ i. i.literal) v (of_side Answer (inputs_of r)) a (subst (λ n. a < 2 ^ n) (sym k) la)
          (subst (λ n. answer_in r v < 2 ^ n) (sym k) (said_in_range r gs h v).answer)
          (λ j d l. own_truth r.maximum v (get_or (of_side Answer (inputs_of r)) j d).literal (side_own Answer j d l) ∙ enc.agrees.input Answer j d l)

      pub says : Says r v s e a
      says =
          let q = said_by_literals r gs h v in
          ((q.state s ls).1 state_is, (q.event e le).1 event_is, (q.answer a la).1 answer_is)

  -- values of a step, with any values past the constant
  pub chosen : (s e a : ℕ) → Values → Values
  chosen s e a rest x = cond (leb x r.maximum) (values_at r gs s e a x) (cond (eqb x (r.maximum + 1)) true (rest x))

  chosen_inside : (s e a : ℕ) (rest : Values) (x : ℕ) → x ≤ r.maximum → cleared (chosen s e a rest) x ≡ values_at r gs s e a x
  unfolding chosen
  chosen_inside s e a rest x k = elim (cases_eq x 0) [
    | inl z ↦ ap (cleared (chosen s e a rest)) z ∙ sym (ap (values_at r gs s e a) z ∙ (values_agree r gs s e a h).constant)
    | inr n ↦ (cleared_at (chosen s e a rest) x (omega (arith, n)) ∙ cond-true (leb x r.maximum) _ _ (le-leb x r.maximum k))
  ]

  pub chosen_past : (s e a : ℕ) (rest : Values) (x : ℕ) → r.maximum + 1 < x → chosen s e a rest x ≡ rest x
  unfolding chosen
  chosen_past s e a rest x k =
      cond-false (leb x r.maximum) _ _ (lt-leb x r.maximum (omega arith)) ∙ cond-false (eqb x (r.maximum + 1)) _ _ (ne_eqb x (r.maximum + 1) (λ z. omega arith))

  pub chosen_encodes : (s e a : ℕ) (rest : Values) → Encodes r gs (chosen s e a rest) s e a
  unfolding chosen
  chosen_encodes s e a rest =
      let w : Values = values_at r gs s e a in
      let u : Values = cleared (chosen s e a rest) in
      let q = values_agree r gs s e a h in
      let same : (x : ℕ) → x ≤ r.maximum → u x ≡ w x = chosen_inside s e a rest in
      record {
        constant = cond-false (leb (r.maximum + 1) r.maximum) _ _ (lt-leb (r.maximum + 1) r.maximum (omega arith))
            ∙ cond-true (eqb (r.maximum + 1) (r.maximum + 1)) _ _ (eq-eqb (r.maximum + 1) (r.maximum + 1) refl);
        agrees = record {
          constant = refl;
          input = λ t i d l. same _ (side_own t i d l).inside ∙ q.input t i d l;
          latch = λ j d l. same _ (latch_own j d l).inside ∙ q.latch j d l;
          gate = λ k d l.
              (let i = All-get_or (GateInside r.maximum) (gates_of r gs) k d l (gates_own r gs h) in
              same _ i.output.inside ∙ q.gate k d l
              ∙ conjunction_same w u (get_or (gates_of r gs) k d) (sym (same _ i.left)) (sym (same _ i.right)));
        };
      }
