-- What it says of a literal that it is fresh, and of literals and gates that they are defined in turn.
use Rattle.std.proofs.Common.{◌≡◌, ℕ, ◌+◌, ◌*◌, ◌%◌, ◌≤◌, Bool, true, false, not, ◌&&◌, eqb, leb, List, [], ◌∷◌, ◌++◌, map, sym, refl, ap, ◌∙◌, arith}
use Rattle.std.specs.List.{AllByRecursion}
use Rattle.std.proofs.lemmas.Bool.{and_parts, leb-true, not-true}
use Rattle.literal.specs.declared.Literal.{Literal}
use Rattle.literal.specs.Truth.{variable_of}
use Rattle.circuit.specs.declared.record.Gate.{Gate}
use Rattle.circuit.specs.declared.record.Record.{Record}
use Rattle.circuit.specs.Parts.{inputs_of, latches_of}
use Rattle.circuit.specs.Sound.{sources, member, fresh, known, defined, all_fresh, gates_ordered}

pub record Fresh (m : ℕ) (vs : List ℕ) (l : Literal) : Type 0 where
  pub inside : variable_of l ≤ m
  pub new : member (variable_of l) vs ≡ false

pub fresh_parts : (m : ℕ) (vs : List ℕ) (l : Literal) → fresh m vs l ≡ true → Fresh m vs l
fresh_parts m vs l h =
    let h₀ = and_parts (leb l.code (2 * m + 1)) _ h in
    let h₁ = and_parts (eqb (l.code % 2) 0) _ h₀.1 in
    let h₂ = and_parts (not (eqb l.code 0)) _ h₁.1 in
    record {
      inside = omega (arith, leb-true l.code (2 * m + 1) h₀.0);
      new = not-true (member (variable_of l) vs) h₂.1;
    }

pub record Ordered (m : ℕ) (vs : List ℕ) (g : Gate) (gs : List Gate) : Type 0 where
  pub output : Fresh m vs g.output
  pub left : member (variable_of g.left) vs ≡ true
  pub right : member (variable_of g.right) vs ≡ true
  pub rest : gates_ordered m (variable_of g.output ∷ vs) gs ≡ true

pub ordered_parts : (m : ℕ) (vs : List ℕ) (g : Gate) (gs : List Gate) → gates_ordered m vs (g ∷ gs) ≡ true → Ordered m vs g gs
ordered_parts m vs g gs h =
    let h₀ = and_parts (fresh m vs g.output) _ h in
    let h₁ = and_parts (known vs g.left) _ h₀.1 in
    let h₂ = and_parts (known vs g.right) _ h₁.1 in
    record {
      output = fresh_parts m vs g.output h₀.0;
      left = h₁.0;
      right = h₂.0;
      rest = h₂.1;
    }

-- literals that are fresh in turn have variables up to the largest
pub fresh_inside : (m : ℕ) (vs : List ℕ) (ls : List Literal) → all_fresh m vs ls ≡ true → AllByRecursion (λ l. variable_of l ≤ m) ls
fresh_inside m vs [] h = tt
fresh_inside m vs (l ∷ ls) h =
    let p = and_parts (fresh m vs l) _ h in
    ((fresh_parts m vs l p.0).inside, fresh_inside m (variable_of l ∷ vs) ls p.1)

pub outputs_inside : (m : ℕ) (vs : List ℕ) (gs : List Gate) → gates_ordered m vs gs ≡ true → AllByRecursion (λ g. variable_of g.output ≤ m) gs
outputs_inside m vs [] h = tt
outputs_inside m vs (g ∷ gs) h =
    let p = ordered_parts m vs g gs h in
    (p.output.inside, outputs_inside m (variable_of g.output ∷ vs) gs p.rest)

and_assoc : (x y z : Bool) → (x && (y && z)) ≡ ((x && y) && z)
and_assoc true y z = refl
and_assoc false y z = refl

-- one list of literals after another
pub fresh_append : (m : ℕ) (vs : List ℕ) (xs ys : List Literal)
    → all_fresh m vs (xs ++ ys) ≡ (all_fresh m vs xs && all_fresh m (defined vs xs) ys)
fresh_append m vs [] ys = refl
fresh_append m vs (x ∷ xs) ys =
    ap (λ t. fresh m vs x && t) (fresh_append m (variable_of x ∷ vs) xs ys)
    ∙ and_assoc (fresh m vs x) (all_fresh m (variable_of x ∷ vs) xs) (all_fresh m (defined (variable_of x ∷ vs) xs) ys)

pub defined_append : (vs : List ℕ) (xs ys : List Literal) → defined vs (xs ++ ys) ≡ defined (defined vs xs) ys
defined_append vs [] ys = refl
defined_append vs (x ∷ xs) ys = defined_append (variable_of x ∷ vs) xs ys

pub all_from_map : {X Y : Type 0} (P : Y → Type 0) (f : X → Y) (xs : List X) → AllByRecursion P (map f xs) → AllByRecursion (λ x. P (f x)) xs
all_from_map P f [] h = tt
all_from_map P f (x ∷ xs) h = (h.0, all_from_map P f xs h.1)

-- the inputs of a record are fresh in turn, and then its latches
pub sources_fresh : (r : Record) → all_fresh r.maximum (0 ∷ []) (sources r) ≡ true
    → (all_fresh r.maximum (0 ∷ []) (map (λ i. i.literal) (inputs_of r)) ≡ true)
    × (all_fresh r.maximum (defined (0 ∷ []) (map (λ i. i.literal) (inputs_of r))) (map (λ l. l.literal) (latches_of r)) ≡ true)
sources_fresh r h =
    and_parts _ _ (sym (fresh_append r.maximum (0 ∷ []) (map (λ i. i.literal) (inputs_of r)) (map (λ l. l.literal) (latches_of r))) ∙ h)
