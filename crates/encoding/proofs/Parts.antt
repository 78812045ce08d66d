-- The literals of a sound model: which are a variable's own, and that none passes the largest variable.
use Rattle.std.proofs.Common.{◌≡◌, ℕ, ◌+◌, ◌*◌, ◌%◌, ◌≤◌, true, false, cond, not, eqb, leb, List, [], ◌∷◌, map, length, refl, ◌∙◌, ⊎_elim, arith}
use Rattle.std.specs.List.{AllByRecursion}
use Rattle.std.proofs.ByRecursion.{All-map, all_kept_by}
use Rattle.std.proofs.lemmas.List.{length-take-le, length-map}
use Rattle.std.proofs.lemmas.Bool.{and_parts, leb-true, eqb-true, eqb-false, not-true, or_cases, both_ways}
use Rattle.literal.specs.declared.Literal.{Literal}
use Rattle.literal.specs.Truth.{variable_of}
use Rattle.circuit.specs.declared.record.Gate.{Gate}
use Rattle.circuit.specs.declared.record.Input.{Input}
use Rattle.circuit.specs.declared.record.Latch.{Latch}
use Rattle.circuit.specs.declared.record.Record.{Record}
use Rattle.circuit.specs.declared.record.Side.{Side}
use Rattle.circuit.specs.declared.record.Side.TheVariants.{Event, Answer}
use Rattle.circuit.specs.Parts.{inputs_of, latches_of, gates_of, answers?}
use Rattle.circuit.specs.Settled.{same_side, of_side}
use Rattle.circuit.specs.Sound.{sound, member, fresh, known, every, defined, all_fresh, gates_ordered, sources, source_variables, variables, event_count, answer_count}
use Rattle.circuit.proofs.Freshness.{ordered_parts, sources_fresh, all_from_map, fresh_inside, outputs_inside}
use Rattle.circuit.proofs.Soundness.{soundness}
use Rattle.encoding.specs.Literals.{latch_literals, side_literals}

-- a literal that is a variable's own, up to the largest
pub record Own (m : ℕ) (l : Literal) : Type 0 where
  pub some : 2 ≤ l.code
  pub even : l.code % 2 ≡ 0
  pub inside : variable_of l ≤ m

pub own_fresh : (m : ℕ) (vs : List ℕ) (l : Literal) → fresh m vs l ≡ true → Own m l
own_fresh m vs l h =
    let h₀ = and_parts (leb l.code (2 * m + 1)) _ h in
    let h₁ = and_parts (eqb (l.code % 2) 0) _ h₀.1 in
    let h₂ = and_parts (not (eqb l.code 0)) _ h₁.1 in
    let e : l.code % 2 ≡ 0 = eqb-true (l.code % 2) 0 h₁.0 in
    let n : l.code ≡ 0 → ⊥ = eqb-false l.code 0 (not-true (eqb l.code 0) h₂.0) in
    record {
      some = omega (arith, n);
      even = e;
      inside = omega (arith, leb-true l.code (2 * m + 1) h₀.0);
    }

own_all : (m : ℕ) (vs : List ℕ) (ls : List Literal) → all_fresh m vs ls ≡ true → AllByRecursion (Own m) ls
own_all m vs [] h = tt
own_all m vs (l ∷ ls) h =
    let p = and_parts (fresh m vs l) _ h in (own_fresh m vs l p.0, own_all m (variable_of l ∷ vs) ls p.1)

-- the variables of a list are at most the largest
abbrev Inside : ℕ → List ℕ → Type 0
Inside m vs = (x : ℕ) → member x vs ≡ true → x ≤ m

inside_more : (m y : ℕ) (vs : List ℕ) → Inside m vs → y ≤ m → Inside m (y ∷ vs)
inside_more m y vs h le x e = ⊎_elim (λ t. let p = eqb-true x y t in omega arith) (λ t. h x t) (or_cases (eqb x y) (member x vs) e)

inside_defined : (m : ℕ) (vs : List ℕ) (ls : List Literal) → Inside m vs → AllByRecursion (λ l. variable_of l ≤ m) ls → Inside m (defined vs ls)
inside_defined m vs [] h a = h
inside_defined m vs (l ∷ ls) h a = inside_defined m (variable_of l ∷ vs) ls (inside_more m (variable_of l) vs h a.0) a.1

pub record GateInside (m : ℕ) (g : Gate) : Type 0 where
  pub output : Own m g.output
  pub left : variable_of g.left ≤ m
  pub right : variable_of g.right ≤ m

gates_inside : (m : ℕ) (vs : List ℕ) (gs : List Gate) → gates_ordered m vs gs ≡ true → Inside m vs → AllByRecursion (GateInside m) gs
gates_inside m vs [] h k = tt
gates_inside m vs (g ∷ gs) h k =
    let p = ordered_parts m vs g gs h in
    let f = and_parts (fresh m vs g.output) _ h in (
      record { output = own_fresh m vs g.output f.0; left = k (variable_of g.left) p.left; right = k (variable_of g.right) p.right },
      gates_inside m (variable_of g.output ∷ vs) gs p.rest (inside_more m (variable_of g.output) vs k p.output.inside),
    )

nexts_inside : (m : ℕ) (vs : List ℕ) (ls : List Latch) → Inside m vs → every (λ l. known vs l.next) ls ≡ true → AllByRecursion (λ l. variable_of l.next ≤ m) ls
nexts_inside m vs [] k h = tt
nexts_inside m vs (l ∷ ls) k h =
    let p = and_parts (known vs l.next) _ h in (k (variable_of l.next) p.0, nexts_inside m vs ls k p.1)

event_count_lem : (is : List Input) → length (of_side Event is) ≡ event_count is
event_count_lem [] = refl
event_count_lem (i ∷ is) =
    let h = event_count_lem is in
    elim i.side as (λ t. length (cond (same_side Event t) (i ∷ of_side Event is) (of_side Event is)) ≡ cond (answers? t) 0 1 + event_count is)
    [ Event ↦ omega arith | Answer ↦ omega arith ]

answer_count_lem : (is : List Input) → length (of_side Answer is) ≡ answer_count is
answer_count_lem [] = refl
answer_count_lem (i ∷ is) =
    let h = answer_count_lem is in
    elim i.side as (λ t. length (cond (same_side Answer t) (i ∷ of_side Answer is) (of_side Answer is)) ≡ cond (answers? t) 1 0 + answer_count is)
    [ Event ↦ omega arith | Answer ↦ omega arith ]

module _ (r : Record) (gs : List Gate) (h : sound r gs ≡ true) where
  sources_inside : Inside r.maximum (source_variables r)
  sources_inside =
      inside_defined r.maximum (0 ∷ []) (sources r) (inside_more r.maximum 0 [] (λ x e. absurd (both_ways false refl e)) (omega arith))
      (fresh_inside r.maximum (0 ∷ []) (sources r) (soundness r gs h).fresh)

  pub variables_inside : (x : ℕ) → member x (variables r gs) ≡ true → x ≤ r.maximum
  variables_inside =
      inside_defined r.maximum (source_variables r) (map (λ g. g.output) (gates_of r gs)) sources_inside
      (All-map (λ l. variable_of l ≤ r.maximum) (λ g. g.output) (gates_of r gs)
      (outputs_inside r.maximum (source_variables r) (gates_of r gs) (soundness r gs h).ordered))

  pub latches_own : AllByRecursion (Own r.maximum) (latch_literals r)
  latches_own = own_all r.maximum _ (latch_literals r) (sources_fresh r (soundness r gs h).fresh).1

  pub inputs_own : AllByRecursion (λ i. Own r.maximum i.literal) (inputs_of r)
  inputs_own =
      all_from_map (Own r.maximum) (λ i. i.literal) (inputs_of r)
      (own_all r.maximum (0 ∷ []) (map (λ i. i.literal) (inputs_of r)) (sources_fresh r (soundness r gs h).fresh).0)

  pub sides_own : (t : Side) → AllByRecursion (Own r.maximum) (side_literals t r)
  sides_own t =
      All-map (Own r.maximum) (λ i. i.literal) (of_side t (inputs_of r))
      (all_kept_by (λ i. same_side t i.side) (λ i. Own r.maximum i.literal) (inputs_of r) inputs_own)

  pub gates_own : AllByRecursion (GateInside r.maximum) (gates_of r gs)
  gates_own = gates_inside r.maximum (source_variables r) (gates_of r gs) (soundness r gs h).ordered sources_inside

  pub nexts_known : AllByRecursion (λ l. variable_of l.next ≤ r.maximum) (latches_of r)
  nexts_known = nexts_inside r.maximum (variables r gs) (latches_of r) variables_inside (soundness r gs h).next_known

  pub output_known_lem : variable_of r.output ≤ r.maximum
  output_known_lem = variables_inside (variable_of r.output) (soundness r gs h).output_known

  -- how many there are
  pub latch_number : length (latches_of r) ≡ r.latch_count
  latch_number =
      let z = (soundness r gs h).sizes in length-take-le r.latch_count r.latches (omega (arith, z.latches, z.latch_places))

  pub latches_length : length (latch_literals r) ≡ r.latch_count
  latches_length = length-map (latches_of r) (λ l. l.literal) ∙ latch_number

  pub gate_number : length (gates_of r gs) ≡ r.gate_count
  gate_number = let z = (soundness r gs h).sizes in length-take-le r.gate_count gs (omega (arith, z.table))

  pub events_length : length (side_literals Event r) ≡ event_count (inputs_of r)
  events_length = length-map (of_side Event (inputs_of r)) (λ i. i.literal) ∙ event_count_lem (inputs_of r)

  pub answers_length : length (side_literals Answer r) ≡ answer_count (inputs_of r)
  answers_length = length-map (of_side Answer (inputs_of r)) (λ i. i.literal) ∙ answer_count_lem (inputs_of r)
