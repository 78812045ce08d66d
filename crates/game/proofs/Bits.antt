-- Numbers bit by bit.
use Rattle.std.proofs.Common.{◌≡◌, ℕ, zero, suc, ◌+◌, ◌-◌, ◌*◌, ◌/◌, ◌%◌, ◌^◌, ◌≤◌, Bool, true, false, not, ◌&&◌, eqb, ◌⊎◌, sym, refl, ap, ◌∙◌, inl, inr, mul_assoc, pow-suc, one-add, arith}
use lib.Bits.{bit_and}
use Rattle.std.proofs.lemmas.Nat.{and_shr, and_mod, shr-shr, div-add-mod', mul-le}
use Rattle.std.proofs.lemmas.Bool.{cases_Bool, eqb-true, eq-eqb, ne_eqb, cases_eq}
use Rattle.std.proofs.lemmas.Bool.Decides.{nat_tests, Decides-at, Decides-and}
use Rattle.std.proofs.Math.Bool.{and-true, and-false}
use Rattle.circuit.specs.Step.{bit}
use Rattle.game.specs.Bits.{AgreesByBits, LessByBits, RowBits, ExceptionBits}
use Rattle.game.specs.Rows.{agrees, row_covers, exception_covers, less_bit}
use Rattle.game.specs.declared.exception.Exception.{Exception}
use Rattle.game.specs.declared.row.Row.{Row}

low_cases : (n : ℕ) → (n % 2 ≡ 0) ⊎ (n % 2 ≡ 1)
low_cases n = elim (cases_eq (n % 2) 0) [ inl e ↦ inl e | inr d ↦ inr (omega (arith, d)) ]

-- the lowest bit of a conjunction
low_and : (a b : ℕ) → eqb (bit_and a b % 2) 1 ≡ (eqb (a % 2) 1 && eqb (b % 2) 1)
low_and a b = ap (λ t. eqb t 1) (and_mod a b 1) ∙ cases (low_cases a) (low_cases b)
  where
    cases : (a % 2 ≡ 0) ⊎ (a % 2 ≡ 1) → (b % 2 ≡ 0) ⊎ (b % 2 ≡ 1) → eqb (bit_and (a % 2) (b % 2)) 1 ≡ (eqb (a % 2) 1 && eqb (b % 2) 1)
    cases (inl p) _ = rw p refl
    cases (inr p) (inl q) = rw (p, q) refl
    cases (inr p) (inr q) = rw (p, q) refl

pub bit_and_lem : (a b j : ℕ) → bit (bit_and a b) j ≡ (bit a j && bit b j)
bit_and_lem a b j = ap (λ t. eqb (t % 2) 1) (and_shr a b j) ∙ low_and (a / 2 ^ j) (b / 2 ^ j)

-- a bit past the lowest is one of the half
pub bit_half : (n j : ℕ) → bit (n / 2) j ≡ bit n (suc j)
bit_half n j = ap (λ t. eqb (t % 2) 1) (shr-shr n 1 j ∙ ap (λ k. n / 2 ^ k) (one-add j))

pub bit_low : (n : ℕ) → bit n 0 ≡ eqb (n % 2) 1
bit_low n = ap (λ t. eqb (t % 2) 1) (omega arith)

low_same : (a b : ℕ) → eqb (a % 2) 1 ≡ eqb (b % 2) 1 → a % 2 ≡ b % 2
low_same a b e = grind (arith, nat_tests)

same_upto : (n a b : ℕ) → a ≤ n → b ≤ n → ((j : ℕ) → bit a j ≡ bit b j) → a ≡ b
same_upto zero a b la lb h = omega arith
same_upto (suc n) a b la lb h =
    let half : a / 2 ≡ b / 2 = same_upto n (a / 2) (b / 2) (omega arith) (omega arith) (λ j. bit_half a j ∙ (h (suc j) ∙ sym (bit_half b j))) in
    let low : a % 2 ≡ b % 2 = low_same a b (sym (bit_low a) ∙ (h 0 ∙ bit_low b)) in
    omega arith

-- numbers with the same bits are the same
pub same_bits : (a b : ℕ) → ((j : ℕ) → bit a j ≡ bit b j) → a ≡ b
same_bits a b h = same_upto (a + b) a b (omega arith) (omega arith) h

-- a value has no bit outside its care
outside : (care value j : ℕ) → bit_and value care ≡ value → bit care j ≡ false → bit value j ≡ false
outside care value j inside c =
    sym (ap (λ t. bit t j) inside) ∙ (bit_and_lem value care j ∙ (ap (λ t. bit value j && t) c ∙ and-false (bit value j)))

pub agrees_by_bits : AgreesByBits
agrees_by_bits care value n inside = (there, back)
  where
    there : agrees care value n ≡ true → (j : ℕ) → bit care j ≡ true → bit n j ≡ bit value j
    there e j c =
        sym (and-true (bit n j))
        ∙ (ap (λ t. bit n j && t) (sym c) ∙ (sym (bit_and_lem n care j) ∙ ap (λ t. bit t j) (eqb-true (bit_and n care) value e)))

    back : ((j : ℕ) → bit care j ≡ true → bit n j ≡ bit value j) → agrees care value n ≡ true
    back h =
        eq-eqb (bit_and n care) value (same_bits (bit_and n care) value (λ j.
        bit_and_lem n care j
        ∙ elim (cases_Bool (bit care j)) [
          | inl c ↦ ap (λ t. bit n j && t) c ∙ (and-true (bit n j) ∙ h j c)
          | inr c ↦ ap (λ t. bit n j && t) c ∙ (and-false (bit n j) ∙ sym (outside care value j inside c))
        ]))

-- a number without a bit past the lowest: its half without the bit before, and the lowest bit
less_half : (n j : ℕ) → less_bit n (suc j) ≡ less_bit (n / 2) j * 2 + n % 2
less_half n j =
    let b : ℕ = n / 2 / 2 ^ j % 2 in
    let same : n / 2 ^ suc j ≡ n / 2 / 2 ^ j = sym (shr-shr n 1 j ∙ ap (λ k. n / 2 ^ k) (one-add j)) in
    let fits : b * 2 ^ j ≤ n / 2 = fits_half in
    ap (λ t. n - t) (ap (λ t. (t % 2) * 2 ^ suc j) same ∙ (ap (λ t. b * t) (pow-suc 2 j) ∙ sym (mul_assoc b (2 ^ j) 2)))
    ∙ omega arith
  where
    fits_half : n / 2 / 2 ^ j % 2 * 2 ^ j ≤ n / 2
    fits_half =
        let q : ℕ = n / 2 / 2 ^ j in
        omega (arith, mul-le (q % 2) (2 ^ j) q (2 ^ j) (omega arith) (omega arith), div-add-mod' (n / 2) (2 ^ j))

pub less_bits : (j n k : ℕ) → bit (less_bit n j) k ≡ (bit n k && not (eqb k j))
less_bits zero n zero = ne_eqb (less_bit n 0 / 2 ^ 0 % 2) 1 (λ e. omega arith) ∙ sym (and-false (bit n 0))
less_bits zero n (suc k) =
    sym (bit_half (less_bit n 0) k)
    ∙ (ap (λ t. bit t k) (omega arith)
    ∙ (bit_half n k ∙ sym (ap (λ t. bit n (suc k) && not t) (ne_eqb (suc k) 0 (λ e. omega arith)) ∙ and-true (bit n (suc k)))))
less_bits (suc j) n zero =
    ap (λ t. bit t 0) (less_half n j)
    ∙ (bit_low (less_bit (n / 2) j * 2 + n % 2)
    ∙ (ap (λ t. eqb t 1) (omega arith)
    ∙ (sym (bit_low n) ∙ sym (ap (λ t. bit n 0 && not t) (ne_eqb 0 (suc j) (λ e. omega arith)) ∙ and-true (bit n 0)))))
less_bits (suc j) n (suc k) =
    ap (λ t. bit t (suc k)) (less_half n j)
    ∙ (sym (bit_half (less_bit (n / 2) j * 2 + n % 2) k)
    ∙ (ap (λ t. bit t k) (omega arith)
    ∙ (less_bits j (n / 2) k ∙ (ap (λ t. t && not (eqb k j)) (bit_half n k) ∙ ap (λ t. bit n (suc k) && not t) (next_eqb k j)))))
  where
    next_eqb : (a b : ℕ) → eqb a b ≡ eqb (suc a) (suc b)
    next_eqb a b = grind (arith, nat_tests)

within : (v c x : Bool) → (v && c) ≡ v → ((v && x) && (c && x)) ≡ (v && x)
within true c true e = ap (λ t. t && true) e
within true c false e = refl
within false c x e = refl

less_inside : (care value j : ℕ) → bit_and value care ≡ value → bit_and (less_bit value j) (less_bit care j) ≡ less_bit value j
less_inside care value j inside =
    same_bits (bit_and (less_bit value j) (less_bit care j)) (less_bit value j) (λ k.
    bit_and_lem (less_bit value j) (less_bit care j) k
    ∙ (ap (λ t. t && bit (less_bit care j) k) (less_bits j value k)
    ∙ (ap (λ t. (bit value k && not (eqb k j)) && t) (less_bits j care k)
    ∙ (within (bit value k) (bit care k) (not (eqb k j)) (sym (bit_and_lem value care k) ∙ ap (λ t. bit t k) inside)
    ∙ sym (less_bits j value k)))))

pub less_by_bits : LessByBits
less_by_bits = record { others = λ n j k. less_bits j n k; inside = less_inside }

pub row_bits : (r : Row) (s : ℕ) (b : Bool) → b ≡ row_covers r s → RowBits r s b
row_bits r s b e inside = Decides-at b (row_covers r s) e (agrees_by_bits r.care r.value s inside)

pub exception_bits : (x : Exception) (s e : ℕ) (b : Bool) → b ≡ exception_covers x s e → ExceptionBits x s e b
exception_bits x s e b is inState inEvent =
    Decides-at b (exception_covers x s e) is
    (Decides-and _ _ (agrees_by_bits x.state_care x.state_value s inState)
    (agrees_by_bits x.event_care x.event_value e inEvent))
