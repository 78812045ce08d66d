-- Numbers made of bits.
use Rattle.std.proofs.Common.{◌≡◌, ℕ, zero, suc, ◌+◌, ◌*◌, ◌/◌, ◌%◌, ◌^◌, min, Bool, true, false, cond, eqb, List, [], ◌∷◌, length, get_or, take, sym, ap, ◌∙◌, inl, inr, arith}
use Rattle.std.proofs.lemmas.Nat.{shr_le}
use Rattle.std.proofs.lemmas.List.{take_all}
use Rattle.std.proofs.lemmas.Bool.{cases_lt}
use Rattle.circuit.specs.Step.{bit, low_bit}
use Rattle.circuit.proofs.Bits.{bit_low, bit_next}
use Rattle.bits.specs.Bits.{from_bits}

pub low_from : (b : Bool) (n : ℕ) → low_bit (cond b 1 0 + 2 * n) ≡ b
low_from true n = ap (λ t. eqb t 1) (let e : (1 + 2 * n) % 2 ≡ 1 = omega arith in e)
low_from false n = ap (λ t. eqb t 1) (let e : (0 + 2 * n) % 2 ≡ 0 = omega arith in e)

pub half_from : (b : Bool) (n : ℕ) → (cond b 1 0 + 2 * n) / 2 ≡ n
half_from true n = omega arith
half_from false n = omega arith

-- each bit is the one of its place
pub from_bit : (bs : List Bool) (j : ℕ) → bit (from_bits bs) j ≡ get_or bs j false
from_bit [] j = ap (λ t. eqb (t % 2) 1) (zero_shr j)
  where
    zero_shr : (j : ℕ) → 0 / 2 ^ j ≡ 0
    zero_shr j = omega (arith, shr_le 0 j)
from_bit (b ∷ bs) zero = bit_low (from_bits (b ∷ bs)) ∙ low_from b (from_bits bs)
from_bit (b ∷ bs) (suc j) = bit_next (from_bits (b ∷ bs)) j ∙ ap (λ t. bit t j) (half_from b (from_bits bs)) ∙ from_bit bs j

-- the front of a list, of so many or of all
pub front : {X : Type 0} (xs : List X) (n m : ℕ) → m ≡ min (length xs) n → take m xs ≡ take n xs
front xs n m e = elim (cases_lt (length xs) n) [
  | inl l ↦ take_all m xs (omega arith) ∙ sym (take_all n xs (omega arith))
  | inr g ↦ (let s : m ≡ n = omega arith in ap (λ k. take k xs) s)
]
