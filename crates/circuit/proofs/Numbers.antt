-- The number whose bits are the truths of the next literals.
use Rattle.std.proofs.Common.{◌≡◌, suc, ◌+◌, ◌*◌, ◌^◌, ◌<◌, true, false, cond, List, [], ◌∷◌, map, length, refl, ap, pow-suc, arith}
use Rattle.bits.specs.Bits.{from_bits}
use Rattle.literal.specs.Truth.{Values, truth}
use Rattle.circuit.specs.declared.record.Latch.{Latch}
use Rattle.circuit.specs.Step.{next_of}

-- a number of as many bits as there are latches
pub next_below : (v : Values) (ls : List Latch) → next_of v ls < 2 ^ length ls
next_below v [] = omega arith
next_below v (l ∷ ls) =
    let h = next_below v ls in
    let p : 2 ^ suc (length ls) ≡ 2 ^ length ls * 2 = pow-suc 2 (length ls) in
    elim (truth v l.next) as (λ b. cond b 1 0 + 2 * next_of v ls < 2 ^ suc (length ls)) [ true ↦ omega arith | false ↦ omega arith ]

-- the same as the bits of its truths
pub next_bits : (v : Values) (ls : List Latch) → next_of v ls ≡ from_bits (map (λ l. truth v l.next) ls)
next_bits v [] = refl
next_bits v (l ∷ ls) = ap (λ n. cond (truth v l.next) 1 0 + 2 * n) (next_bits v ls)
