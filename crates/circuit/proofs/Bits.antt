-- Bits of a number, by place.
use Rattle.std.proofs.Common.{◌≡◌, ℕ, zero, suc, ◌+◌, ◌*◌, ◌/◌, ◌%◌, ◌^◌, ◌<◌, Bool, true, false, cond, eqb, List, [], ◌∷◌, length, get_or, sym, ap, ◌∙◌, le_of_suc-le-suc, div-one, one-add, arith}
use Rattle.std.proofs.lemmas.Nat.{shr-shr}
use Rattle.literal.specs.declared.Literal.{Literal}
use Rattle.literal.specs.Truth.{Values, variable_of, truth}
use Rattle.circuit.specs.declared.record.Latch.{Latch}
use Rattle.circuit.specs.Step.{bit, low_bit, next_of}

pub bit_low : (n : ℕ) → bit n 0 ≡ low_bit n
bit_low n = ap (λ t. eqb (t % 2) 1) (div-one n)

pub bit_next : (n j : ℕ) → bit n (suc j) ≡ bit (n / 2) j
bit_next n j = ap (λ t. eqb (t % 2) 1) (sym (shr-shr n 1 j ∙ ap (λ t. n / 2 ^ t) (one-add j)))

-- the values of a list's literals are the bits of a number, where the first is the lowest and the others are those of the half
pub by_place : {X : Type 0} (f : X → Literal) (w : Values) (x : X) (xs : List X) (n : ℕ) → w (variable_of (f x)) ≡ low_bit n
    → ((k : ℕ) (d : X) → k < length xs → w (variable_of (f (get_or xs k d))) ≡ bit (n / 2) k)
    → (k : ℕ) (d : X) → k < length (x ∷ xs) → w (variable_of (f (get_or (x ∷ xs) k d))) ≡ bit n k
by_place f w x xs n low rest zero d h = low ∙ sym (bit_low n)
by_place f w x xs n low rest (suc k) d h = rest k d (le_of_suc-le-suc h) ∙ sym (bit_next n k)

lowest : (b : Bool) (n : ℕ) → low_bit (cond b 1 0 + 2 * n) ≡ b
lowest true n = ap (λ t. eqb t 1) (let e : (1 + 2 * n) % 2 ≡ 1 = omega arith in e)
lowest false n = ap (λ t. eqb t 1) (let e : (0 + 2 * n) % 2 ≡ 0 = omega arith in e)

halved : (b : Bool) (n : ℕ) → (cond b 1 0 + 2 * n) / 2 ≡ n
halved true n = omega arith
halved false n = omega arith

-- bit j of the next state is latch j's next literal
pub next_bit : (v : Values) (ls : List Latch) (j : ℕ) (d : Latch) → j < length ls → bit (next_of v ls) j ≡ truth v (get_or ls j d).next
next_bit v [] j d h = let none : ⊥ = omega arith in absurd none
next_bit v (l ∷ ls) zero d h = bit_low (next_of v (l ∷ ls)) ∙ lowest (truth v l.next) (next_of v ls)
next_bit v (l ∷ ls) (suc j) d h =
    bit_next (next_of v (l ∷ ls)) j ∙ ap (λ t. bit t j) (halved (truth v l.next) (next_of v ls)) ∙ next_bit v ls j d (le_of_suc-le-suc h)
