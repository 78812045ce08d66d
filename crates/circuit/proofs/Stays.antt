-- What is put later leaves the variables that are defined before it as they are.
use Rattle.std.proofs.Common.{◌≡◌, ℕ, ◌/◌, Bool, true, false, List, [], ◌∷◌, map, refl, ◌∙◌}
use Rattle.std.proofs.lemmas.Bool.{and_parts, cond_both}
use Rattle.literal.specs.declared.Literal.{Literal}
use Rattle.literal.specs.Truth.{Values, variable_of}
use Rattle.circuit.specs.declared.record.Gate.{Gate}
use Rattle.circuit.specs.declared.record.Input.{Input}
use Rattle.circuit.specs.declared.record.Latch.{Latch}
use Rattle.circuit.specs.Parts.{answers?}
use Rattle.circuit.specs.Sound.{member, fresh, all_fresh, gates_ordered}
use Rattle.circuit.specs.Step.{low_bit, with_value, with_inputs, with_latches, with_gates, conjunction}
use Rattle.circuit.proofs.Freshness.{fresh_parts, ordered_parts}
use Rattle.circuit.proofs.Membership.{member_later, with_new}

-- literals that are fresh in turn: the first is new, and those after it are fresh
pub fresh_first : (m : ℕ) (vs : List ℕ) (l : Literal) (ls : List Literal) → all_fresh m vs (l ∷ ls) ≡ true
    → (member (variable_of l) vs ≡ false) × (all_fresh m (variable_of l ∷ vs) ls ≡ true)
fresh_first m vs l ls h = let p = and_parts (fresh m vs l) _ h in ((fresh_parts m vs l p.0).new, p.1)

pub inputs_stay : (m : ℕ) (vs : List ℕ) (is : List Input) (e a : ℕ) (v : Values) (y : ℕ)
    → all_fresh m vs (map (λ i. i.literal) is) ≡ true → member y vs ≡ true → with_inputs is e a v y ≡ v y
inputs_stay m vs [] e a v y h old = refl
inputs_stay m vs (i ∷ is) e a v y h old =
    let x : ℕ = variable_of i.literal in
    let p = fresh_first m vs i.literal (map (λ j. j.literal) is) h in
    let go : (e' a' : ℕ) (b : Bool) → with_inputs is e' a' (with_value v x b) y ≡ v y =
    λ e' a' b. inputs_stay m (x ∷ vs) is e' a' (with_value v x b) y p.1 (member_later x y vs old) ∙ with_new vs v x b y p.0 old in
    cond_both (answers? i.side) (with_inputs is e (a / 2) (with_value v x (low_bit a))) (with_inputs is (e / 2) a (with_value v x (low_bit e)))
    (λ (w : Values). w y ≡ v y)
    (λ _. go e (a / 2) (low_bit a)) (λ _. go (e / 2) a (low_bit e))

pub latches_stay : (m : ℕ) (vs : List ℕ) (ls : List Latch) (s : ℕ) (v : Values) (y : ℕ)
    → all_fresh m vs (map (λ l. l.literal) ls) ≡ true → member y vs ≡ true → with_latches ls s v y ≡ v y
latches_stay m vs [] s v y h old = refl
latches_stay m vs (l ∷ ls) s v y h old =
    let x : ℕ = variable_of l.literal in
    let p = fresh_first m vs l.literal (map (λ j. j.literal) ls) h in
    latches_stay m (x ∷ vs) ls (s / 2) (with_value v x (low_bit s)) y p.1 (member_later x y vs old) ∙ with_new vs v x (low_bit s) y p.0 old

pub gates_stay : (m : ℕ) (vs : List ℕ) (gs : List Gate) (v : Values) (y : ℕ)
    → gates_ordered m vs gs ≡ true → member y vs ≡ true → with_gates gs v y ≡ v y
gates_stay m vs [] v y h old = refl
gates_stay m vs (g ∷ gs) v y h old =
    let x : ℕ = variable_of g.output in
    let p = ordered_parts m vs g gs h in
    gates_stay m (x ∷ vs) gs (with_value v x (conjunction v g)) y p.rest (member_later x y vs old)
    ∙ with_new vs v x (conjunction v g) y p.output.new old
