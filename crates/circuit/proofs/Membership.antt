-- Which variables are defined, and values that are the same at them.
use Rattle.std.proofs.Common.{◌≡◌, ℕ, Bool, true, false, cond, not, ◌&&◌, eqb, List, [], ◌∷◌, sym, refl, ap, ◌∙◌, subst, ⊎_elim}
use Rattle.std.specs.List.{AllByRecursion}
use Rattle.std.proofs.lemmas.Bool.{both_ways, eq-eqb, ne_eqb, eqb-true, or_left, or_right, or_cases, cond-true, cond-false}
use Rattle.literal.specs.declared.Literal.{Literal}
use Rattle.literal.specs.Truth.{Values, variable_of, negated, truth}
use Rattle.circuit.specs.declared.record.Gate.{Gate}
use Rattle.circuit.specs.Sound.{member, defined}
use Rattle.circuit.specs.Step.{with_value, conjunction}

pub member_here : (x : ℕ) (vs : List ℕ) → member x (x ∷ vs) ≡ true
member_here x vs = or_left (eqb x x) (member x vs) (eq-eqb x x refl)

pub member_later : (x y : ℕ) (vs : List ℕ) → member y vs ≡ true → member y (x ∷ vs) ≡ true
member_later x y vs h = or_right (eqb y x) (member y vs) h

-- what was defined stays defined, and each literal is defined in its turn
pub defined_keeps : (x : ℕ) (vs : List ℕ) (ls : List Literal) → member x vs ≡ true → member x (defined vs ls) ≡ true
defined_keeps x vs [] h = h
defined_keeps x vs (l ∷ ls) h = defined_keeps x (variable_of l ∷ vs) ls (member_later (variable_of l) x vs h)

pub defined_has : (vs : List ℕ) (ls : List Literal) → AllByRecursion (λ l. member (variable_of l) (defined vs ls) ≡ true) ls
defined_has vs [] = tt
defined_has vs (l ∷ ls) =
    (defined_keeps (variable_of l) (variable_of l ∷ vs) ls (member_here (variable_of l) vs), defined_has (variable_of l ∷ vs) ls)

-- another value at a variable
pub with_here : (v : Values) (x : ℕ) (b : Bool) → with_value v x b x ≡ b
with_here v x b = cond-true (eqb x x) b (v x) (eq-eqb x x refl)

-- a new variable's value leaves those of the variables that are defined
pub with_new : (vs : List ℕ) (v : Values) (x : ℕ) (b : Bool) (y : ℕ) → member x vs ≡ false → member y vs ≡ true → with_value v x b y ≡ v y
with_new vs v x b y new old =
    cond-false (eqb y x) b (v y) (ne_eqb y x (λ e. both_ways (member x vs) new (subst (λ z. member z vs ≡ true) e old)))

pub truth_same : (v w : Values) (l : Literal) → v (variable_of l) ≡ w (variable_of l) → truth v l ≡ truth w l
truth_same v w l e = ap (λ b. cond (negated l) (not b) b) e

pub conjunction_same : (v w : Values) (g : Gate) → v (variable_of g.left) ≡ w (variable_of g.left)
    → v (variable_of g.right) ≡ w (variable_of g.right) → conjunction v g ≡ conjunction w g
conjunction_same v w g l r =
    ap (λ b. b && truth v g.right) (truth_same v w g.left l) ∙ ap (λ b. truth w g.left && b) (truth_same v w g.right r)

-- the same values at every variable of a list
abbrev pub Same : Values → Values → List ℕ → Type 0
Same v w vs = (x : ℕ) → member x vs ≡ true → v x ≡ w x

pub same_more : (v w : Values) (y : ℕ) (vs : List ℕ) → Same v w vs → v y ≡ w y → Same v w (y ∷ vs)
same_more v w y vs h e x m =
    ⊎_elim
    (λ t. let p = eqb-true x y t in ap v p ∙ e ∙ sym (ap w p))
    (λ t. h x t)
    (or_cases (eqb x y) (member x vs) m)

pub same_defined : (v w : Values) (vs : List ℕ) (ls : List Literal) → Same v w vs
    → AllByRecursion (λ l. v (variable_of l) ≡ w (variable_of l)) ls → Same v w (defined vs ls)
same_defined v w vs [] h a = h
same_defined v w vs (l ∷ ls) h a = same_defined v w (variable_of l ∷ vs) ls (same_more v w (variable_of l) vs h a.0) a.1
