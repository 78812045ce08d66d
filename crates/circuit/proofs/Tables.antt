-- A table of values, as the code fills it, and the values that the definitions speak of.
use Rattle.std.proofs.Common.{◌≡◌, ℕ, zero, suc, ◌+◌, ◌/◌, ◌<◌, Bool, false, cond, eqb, List, length, get_or, drop, set, replicate, sym, refl, ap, ◌∙◌, ⊎_elim, arith}
use mathlib.Core.Path.{fun_ext}
use Rattle.std.proofs.lemmas.List.{at_drop_more, get_or-set_same, get_or-set_other}
use Rattle.std.proofs.lemmas.Bool.{cases_eq, eq-eqb, ne_eqb, cond-true, cond-false}
use Rattle.std.proofs.ByRecursion.{All-get_or}
use Rattle.std.specs.List.{AllByRecursion}
use Rattle.literal.specs.Truth.{Values, variable_of, values_of}
use Rattle.circuit.specs.declared.record.Gate.{Gate}
use Rattle.circuit.specs.declared.record.Input.{Input}
use Rattle.circuit.specs.declared.record.Latch.{Latch}
use Rattle.circuit.specs.declared.record.Side.{Side}
use Rattle.circuit.specs.declared.record.Side.TheVariants.{Event, Answer}
use Rattle.circuit.specs.Parts.{answers?}
use Rattle.circuit.specs.Settled.{number_of}
use Rattle.circuit.specs.Step.{all_false, low_bit, with_value, with_inputs, with_latches, with_gates, conjunction}

put_at : (vs : List Bool) (x : ℕ) (b : Bool) (y : ℕ) → x < length vs → values_of (set vs x b) y ≡ with_value (values_of vs) x b y
put_at vs x b y h =
    ⊎_elim
    (λ e. ap (λ z. get_or (set vs x b) z false) e ∙ get_or-set_same vs x b false h ∙ sym (cond-true (eqb y x) b (get_or vs y false) (eq-eqb y x e)))
    (λ ne. get_or-set_other vs x y b false ne ∙ sym (cond-false (eqb y x) b (get_or vs y false) (ne_eqb y x ne)))
    (cases_eq y x)

-- a write at a place is another value at that variable
pub put_value : (vs : List Bool) (x : ℕ) (b : Bool) → x < length vs → values_of (set vs x b) ≡ with_value (values_of vs) x b
put_value vs x b h = fun_ext (λ y. put_at vs x b y h)

-- what is written at place i of a list of variables has a place in the table
inside : {X : Type 0} (f : X → ℕ) (xs : List X) (i n m : ℕ) (d : X) → AllByRecursion (λ x. f x < n) xs → i < length xs → m ≡ n → f (get_or xs i d) < m
inside f xs i n m d all h e = omega (arith, All-get_or (λ x. f x < n) xs i d h all)

-- one gate more
pub gates_more : (gs : List Gate) (i n : ℕ) (d : Gate) (vs : List Bool) (x : ℕ) (b : Bool) → AllByRecursion (λ g. variable_of g.output < n) gs
    → i < length gs → length vs ≡ n → x ≡ variable_of (get_or gs i d).output → b ≡ conjunction (values_of vs) (get_or gs i d)
    → with_gates (drop (i + 1) gs) (values_of (set vs x b)) ≡ with_gates (drop i gs) (values_of vs)
gates_more gs i n d vs x b all h long ex eb =
    let k : x < length vs = omega (arith, inside (λ g. variable_of g.output) gs i n (length vs) d all h long) in
    ap (with_gates (drop (i + 1) gs)) (put_value vs x b k)
    ∙ ap (λ z. with_gates (drop (i + 1) gs) (with_value (values_of vs) z b)) ex
    ∙ ap (λ z. with_gates (drop (i + 1) gs) (with_value (values_of vs) (variable_of (get_or gs i d).output) z)) eb
    ∙ sym (at_drop_more (λ t. with_gates t (values_of vs)) gs i d h)

-- one latch more
pub latches_more : (ls : List Latch) (i n : ℕ) (d : Latch) (s : ℕ) (vs : List Bool) (x : ℕ) → AllByRecursion (λ l. variable_of l.literal < n) ls
    → i < length ls → length vs ≡ n → x ≡ variable_of (get_or ls i d).literal
    → with_latches (drop (i + 1) ls) (s / 2) (values_of (set vs x (low_bit s))) ≡ with_latches (drop i ls) s (values_of vs)
latches_more ls i n d s vs x all h long ex =
    let k : x < length vs = omega (arith, inside (λ l. variable_of l.literal) ls i n (length vs) d all h long) in
    ap (with_latches (drop (i + 1) ls) (s / 2)) (put_value vs x (low_bit s) k)
    ∙ ap (λ z. with_latches (drop (i + 1) ls) (s / 2) (with_value (values_of vs) z (low_bit s))) ex
    ∙ sym (at_drop_more (λ t. with_latches t s (values_of vs)) ls i d h)

-- one input more, on either side: what is left of the two numbers, and the bit that is written
pub inputs_more : (is : List Input) (i n : ℕ) (d : Input) (e a : ℕ) (vs : List Bool) → AllByRecursion (λ i. variable_of i.literal < n) is
    → i < length is → length vs ≡ n → (t : Side) (x : ℕ) → x ≡ variable_of (get_or is i d).literal → (get_or is i d).side ≡ t
    → with_inputs (drop (i + 1) is) (cond (answers? t) e (e / 2)) (cond (answers? t) (a / 2) a) (values_of (set vs x (low_bit (number_of t e a))))
    ≡ with_inputs (drop i is) e a (values_of vs)
inputs_more is i n d e a vs all h long t x ex side =
    let k : x < length vs = omega (arith, inside (λ i. variable_of i.literal) is i n (length vs) d all h long) in
    let rest : ℕ → ℕ → Bool → Values = λ m n c. with_inputs (drop (i + 1) is) m n (with_value (values_of vs) (variable_of (get_or is i d).literal) c) in
    let to : Side → Values = λ u. cond (answers? u) (rest e (a / 2) (low_bit a)) (rest (e / 2) a (low_bit e)) in
    let b : Bool = low_bit (number_of t e a) in
    ap (with_inputs (drop (i + 1) is) (cond (answers? t) e (e / 2)) (cond (answers? t) (a / 2) a)) (put_value vs x b k)
    ∙ ap (λ z. with_inputs (drop (i + 1) is) (cond (answers? t) e (e / 2)) (cond (answers? t) (a / 2) a) (with_value (values_of vs) z b)) ex
    ∙ elim t as (λ u. rest (cond (answers? u) e (e / 2)) (cond (answers? u) (a / 2) a) (low_bit (number_of u e a)) ≡ to u) [ Event ↦ refl | Answer ↦ refl ]
    ∙ ap to (sym side)
    ∙ sym (at_drop_more (λ l. with_inputs l e a (values_of vs)) is i d h)

replicate_false : (n y : ℕ) → get_or (replicate n false) y false ≡ false
replicate_false zero y = refl
replicate_false (suc n) zero = refl
replicate_false (suc n) (suc y) = replicate_false n y

-- in a new table every variable is false
pub new_table : (n : ℕ) → values_of (replicate n false) ≡ all_false
new_table n = fun_ext (replicate_false n)
