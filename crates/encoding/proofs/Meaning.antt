-- What signs, masks and marks say of the numbers that values hold.
use Rattle.std.proofs.Common.{◌≡◌, ℕ, suc, ◌+◌, ◌*◌, ◌/◌, ◌%◌, ◌^◌, ◌<◌, ◌≤◌, Bool, true, false, cond, not, ◌&&◌, ◌||◌, eqb, ◌⊎◌, List, [], ◌∷◌, ◌++◌, map, length, get_or, take, drop, Decides, sym, refl, ap, ◌∙◌, subst, inl, inr, pow-suc, arith, pow_mono}
use lib.Bits.{bit_and}
use Rattle.std.proofs.lemmas.Nat.{and_shr, and_mod, and_le_r}
use Rattle.std.proofs.lemmas.List.{get_or-map, get_or_past, length-map}
use Rattle.std.proofs.lemmas.Bool.{cases_lt, cases_eq, eq-eqb, ne_eqb, cond-true, cond-false}
use Rattle.std.proofs.lemmas.Bool.Decides.{nat_tests, Decides-eqb, Decides-at}
use Rattle.literal.specs.declared.Literal.{Literal}
use Rattle.literal.specs.Truth.{Values, variable_of, negated, negation_of, truth}
use Rattle.circuit.specs.Step.{bit, low_bit}
use Rattle.sat.specs.Clauses.{any_true, all_true, marked}
use Rattle.game.specs.Rows.{agrees}
use Rattle.game.proofs.Bits.{bit_and_lem, same_bits}
use Rattle.encoding.specs.Literals.{signed, with_signs, cared, number_in, care_of}
use Rattle.encoding.specs.Clauses.{not_all}
use Rattle.encoding.specs.Laws.{MarksSay}
use Rattle.bits.proofs.Numbers.{from_bits_below}
use Rattle.encoding.proofs.Bits.{low_from, half_from, from_bit}
use Rattle.encoding.proofs.Sizes.{negation_variable}

-- a negation is true exactly where the literal is not
pub truth_negation : (v : Values) (l : Literal) → truth v (negation_of l) ≡ not (truth v l)
truth_negation v l = elim (cases_eq (l.code % 2) 1) [
  | inl e ↦ odd e
  | inr n ↦ even n
]
  where
    not_not : (b : Bool) → b ≡ not (not b)
    not_not true = refl
    not_not false = refl

    odd : l.code % 2 ≡ 1 → truth v (negation_of l) ≡ not (truth v l)
    odd e =
        let was : negated l ≡ true = eq-eqb (l.code % 2) 1 e in
        let is : negated (negation_of l) ≡ false = rw was (ne_eqb _ 1 (λ z. omega (arith, z, e))) in
        cond-false (negated (negation_of l)) _ _ is ∙ ap v (negation_variable l) ∙ not_not (v (variable_of l))
        ∙ ap not (sym (cond-true (negated l) (not (v (variable_of l))) (v (variable_of l)) was))

    even : (l.code % 2 ≡ 1 → ⊥) → truth v (negation_of l) ≡ not (truth v l)
    even n =
        let was : negated l ≡ false = ne_eqb (l.code % 2) 1 n in
        let is : negated (negation_of l) ≡ true = rw was (eq-eqb _ 1 (omega (arith, n))) in
        cond-true (negated (negation_of l)) _ _ is ∙ ap (λ x. not (v x)) (negation_variable l)
        ∙ ap not (sym (cond-false (negated l) (not (v (variable_of l))) (v (variable_of l)) was))

-- a signed literal is true exactly where its truth is the bit
abbrev same : Bool → Bool → Bool
same true b = b
same false b = not b

truth_signed : (v : Values) (b : Bool) (l : Literal) → truth v (signed b l) ≡ same b (truth v l)
truth_signed v true l = refl
truth_signed v false l = truth_negation v l

-- a number is another exactly where its lowest bit and its half are
eqb_half : (x y : ℕ) → eqb x y ≡ (eqb (x % 2) (y % 2) && eqb (x / 2) (y / 2))
eqb_half x y = grind (arith, nat_tests)

same_low : (b : Bool) (n : ℕ) → same (low_bit n) b ≡ eqb (cond b 1 0) (n % 2)
same_low true n = low_true (cases_eq (n % 2) 1)
  where
    low_true : (n % 2 ≡ 1) ⊎ (n % 2 ≡ 1 → ⊥) → same (low_bit n) true ≡ eqb 1 (n % 2)
    low_true (inl e) = rw e refl
    low_true (inr d) = let z : n % 2 ≡ 0 = omega (arith, d) in rw z refl
same_low false n = low_false (cases_eq (n % 2) 1)
  where
    low_false : (n % 2 ≡ 1) ⊎ (n % 2 ≡ 1 → ⊥) → same (low_bit n) false ≡ eqb 0 (n % 2)
    low_false (inl e) = rw e refl
    low_false (inr d) = let z : n % 2 ≡ 0 = omega (arith, d) in rw z refl

low_mod : (b : Bool) (n : ℕ) → (cond b 1 0 + 2 * n) % 2 ≡ cond b 1 0
low_mod true n = omega arith
low_mod false n = omega arith

half_below : (n k : ℕ) → n < 2 ^ suc k → n / 2 < 2 ^ k
half_below n k h = omega (arith, pow-suc 2 k)

-- the literals of a number are all true exactly where the values hold that number
pub signs_true : (v : Values) (ls : List Literal) (n : ℕ) → n < 2 ^ length ls → all_true v (with_signs ls n) ≡ eqb (number_in v ls) n
signs_true v [] n h = let z : n ≡ 0 = omega arith in rw z refl
signs_true v (l ∷ ls) n h =
    let rest : ℕ = number_in v ls in
    let whole : ℕ = cond (truth v l) 1 0 + 2 * rest in
    ap (λ b. b && all_true v (with_signs ls (n / 2))) (truth_signed v (low_bit n) l ∙ same_low (truth v l) n)
    ∙ ap (λ b. eqb (cond (truth v l) 1 0) (n % 2) && b) (signs_true v ls (n / 2) (half_below n (length ls) h))
    ∙ ap (λ x. eqb x (n % 2) && eqb rest (n / 2)) (sym (low_mod (truth v l) rest))
    ∙ ap (λ x. eqb (whole % 2) (n % 2) && eqb x (n / 2)) (sym (half_from (truth v l) rest))
    ∙ sym (eqb_half whole n)

pub signs_decide : (v : Values) (ls : List Literal) (n : ℕ) → n < 2 ^ length ls → Decides (all_true v (with_signs ls n)) (number_in v ls ≡ n)
signs_decide v ls n h = Decides-at (all_true v (with_signs ls n)) (eqb (number_in v ls) n) (signs_true v ls n h) (Decides-eqb (number_in v ls) n)

-- past the end of bytes a variable is false
pub past_false : (bytes : List ℕ) (x : ℕ) → length bytes ≤ x → false ≡ eqb (get_or bytes x 0) 1
past_false bytes x h = sym (ap (λ n. eqb n 1) (get_or_past bytes x 0 h))

-- a mask on the lowest bit and on the half
agrees_half : (care value n : ℕ) → agrees care value n ≡ (eqb (bit_and (n % 2) (care % 2)) (value % 2) && agrees (care / 2) (value / 2) (n / 2))
agrees_half care value n =
    eqb_half (bit_and n care) value
    ∙ ap (λ t. eqb t (value % 2) && eqb (bit_and n care / 2) (value / 2)) (and_mod n care 1)
    ∙ ap (λ t. eqb (bit_and (n % 2) (care % 2)) (value % 2) && eqb t (value / 2)) (and_shr n care 1)

bit_cases : (n : ℕ) → (n % 2 ≡ 0) ⊎ (n % 2 ≡ 1)
bit_cases n = elim (cases_eq (n % 2) 0) [ inl e ↦ inl e | inr d ↦ inr (omega (arith, d)) ]

-- one literal of a mask: passed over where the care is 0, and else with the sign of the value
cared_low : (b : Bool) (care value : ℕ) → bit_and (value % 2) (care % 2) ≡ value % 2
    → (x : Bool) → cond (low_bit care) (same (low_bit value) b && x) x ≡ (eqb (bit_and (cond b 1 0) (care % 2)) (value % 2) && x)
cared_low b care value inside x = cases b (bit_cases care) (bit_cases value)
  where
    cases : (b : Bool) → (care % 2 ≡ 0) ⊎ (care % 2 ≡ 1) → (value % 2 ≡ 0) ⊎ (value % 2 ≡ 1)
        → cond (low_bit care) (same (low_bit value) b && x) x ≡ (eqb (bit_and (cond b 1 0) (care % 2)) (value % 2) && x)
    cases true (inl c) (inl z) = rw (c, z) refl
    cases true (inl c) (inr o) = let k : bit_and 1 0 ≡ 1 = rw (c, o) at inside in absurd (omega (arith, k))
    cases true (inr c) (inl z) = rw (c, z) refl
    cases true (inr c) (inr o) = rw (c, o) refl
    cases false (inl c) (inl z) = rw (c, z) refl
    cases false (inl c) (inr o) = let k : bit_and 1 0 ≡ 1 = rw (c, o) at inside in absurd (omega (arith, k))
    cases false (inr c) (inl z) = rw (c, z) refl
    cases false (inr c) (inr o) = rw (c, o) refl

all_cond : (v : Values) (b : Bool) (x : Literal) (xs : List Literal) → all_true v (cond b (x ∷ xs) xs) ≡ cond b (truth v x && all_true v xs) (all_true v xs)
all_cond v true x xs = refl
all_cond v false x xs = refl

-- what a mask picks is all true exactly where the number agrees with the value on the mask
pub cared_true : (v : Values) (ls : List Literal) (care value : ℕ) → care < 2 ^ length ls → bit_and value care ≡ value
    → all_true v (cared ls care value) ≡ agrees care value (number_in v ls)
cared_true v [] care value h inside =
    let c : care ≡ 0 = omega arith in
    let z : value ≡ 0 = omega (arith, and_le_r value care, inside) in
    rw z refl
cared_true v (l ∷ ls) care value h inside =
    let rest : ℕ = number_in v ls in
    let n : ℕ = cond (truth v l) 1 0 + 2 * rest in
    let low : bit_and (value % 2) (care % 2) ≡ value % 2 = sym (and_mod value care 1) ∙ ap (λ t. t % 2) inside in
    let high : bit_and (value / 2) (care / 2) ≡ value / 2 = sym (and_shr value care 1) ∙ ap (λ t. t / 2) inside in
    all_cond v (low_bit care) (signed (low_bit value) l) (cared ls (care / 2) (value / 2))
    ∙ ap (λ b. cond (low_bit care) (b && all_true v (cared ls (care / 2) (value / 2))) (all_true v (cared ls (care / 2) (value / 2)))) (truth_signed v (low_bit value) l)
    ∙ cared_low (truth v l) care value low (all_true v (cared ls (care / 2) (value / 2)))
    ∙ ap (λ b. eqb (bit_and (cond (truth v l) 1 0) (care % 2)) (value % 2) && b) (cared_true v ls (care / 2) (value / 2) (half_below care (length ls) h) high)
    ∙ ap (λ x. eqb (bit_and x (care % 2)) (value % 2) && agrees (care / 2) (value / 2) rest) (sym (low_mod (truth v l) rest))
    ∙ ap (λ x. eqb (bit_and (n % 2) (care % 2)) (value % 2) && agrees (care / 2) (value / 2) x) (sym (half_from (truth v l) rest))
    ∙ sym (agrees_half care value n)

-- not all of some literals
pub not_all_true : (v : Values) (ls : List Literal) → any_true v (not_all ls) ≡ not (all_true v ls)
not_all_true v [] = refl
not_all_true v (l ∷ ls) =
    ap (λ b. b || any_true v (not_all ls)) (truth_negation v l) ∙ ap (λ b. not (truth v l) || b) (not_all_true v ls)
    ∙ elim (truth v l) as (λ b. (not b || not (all_true v ls)) ≡ not (b && all_true v ls)) [ true ↦ refl | false ↦ refl ]

-- marks

cared_zero : (ls : List Literal) (value : ℕ) → cared ls 0 value ≡ []
cared_zero [] value = refl
cared_zero (l ∷ ls) value = cared_zero ls (value / 2)

-- the marked ones of a number's literals are those that the marks' mask picks
marked_cared : (ls : List Literal) (n : ℕ) (ms : List ℕ) → marked (with_signs ls n) ms ≡ cared ls (care_of ms) n
marked_cared [] n ms = refl
marked_cared (l ∷ ls) n [] = sym (cared_zero (l ∷ ls) n)
marked_cared (l ∷ ls) n (m ∷ ms) =
    let rest : ℕ = care_of ms in
    ap (λ t. cond (eqb m 1) (signed (low_bit n) l ∷ t) t) (marked_cared ls (n / 2) ms)
    ∙ ap (λ b. cond b (signed (low_bit n) l ∷ cared ls rest (n / 2)) (cared ls rest (n / 2))) (sym (low_from (eqb m 1) rest))
    ∙ ap (λ k. cond (low_bit (care_of (m ∷ ms))) (signed (low_bit n) l ∷ cared ls k (n / 2)) (cared ls k (n / 2))) (sym (half_from (eqb m 1) rest))

-- outside the mask the value does not matter
cared_masked : (ls : List Literal) (care n : ℕ) → cared ls care n ≡ cared ls care (bit_and n care)
cared_masked [] care n = refl
cared_masked (l ∷ ls) care n =
    ap (λ t. cond (low_bit care) (signed (low_bit n) l ∷ t) t) (cared_masked ls (care / 2) (n / 2) ∙ ap (cared ls (care / 2)) (sym (and_shr n care 1)))
    ∙ here (bit_cases care)
  where
    rest : List Literal
    rest = cared ls (care / 2) (bit_and n care / 2)

    low_same : care % 2 ≡ 1 → low_bit n ≡ low_bit (bit_and n care)
    low_same c = ap (λ t. eqb t 1) (one (bit_cases n) ∙ sym (and_mod n care 1))
      where
        one : (n % 2 ≡ 0) ⊎ (n % 2 ≡ 1) → n % 2 ≡ bit_and (n % 2) (care % 2)
        one (inl z) = rw (c, z) refl
        one (inr o) = rw (c, o) refl

    here : (care % 2 ≡ 0) ⊎ (care % 2 ≡ 1) → cond (low_bit care) (signed (low_bit n) l ∷ rest) rest ≡ cond (low_bit care) (signed (low_bit (bit_and n care)) l ∷ rest) rest
    here (inl z) = let e : low_bit care ≡ false = ap (λ t. eqb t 1) z in
        ap (λ b. cond b (signed (low_bit n) l ∷ rest) rest) e ∙ ap (λ b. cond b (signed (low_bit (bit_and n care)) l ∷ rest) rest) (sym e)
    here (inr o) = ap (λ b. cond (low_bit care) (signed b l ∷ rest) rest) (low_same o)

and_twice : (n care : ℕ) → bit_and (bit_and n care) care ≡ bit_and n care
and_twice n care = same_bits (bit_and (bit_and n care) care) (bit_and n care) (λ j. bit_and_lem (bit_and n care) care j ∙ ap (λ b. b && bit care j) (bit_and_lem n care j)
    ∙ twice (bit n j) (bit care j) ∙ sym (bit_and_lem n care j))
  where
    twice : (x y : Bool) → ((x && y) && y) ≡ (x && y)
    twice true true = refl
    twice true false = refl
    twice false y = refl

mark_bits : (ms : List ℕ) (j : ℕ) → bit (care_of ms) j ≡ eqb (get_or ms j 0) 1
mark_bits ms j = from_bit (map (λ m. eqb m 1) ms) j ∙ elim (cases_lt j (length ms)) [
  | inl l ↦ get_or-map (λ m. eqb m 1) ms j 0 false l
  | inr g ↦ get_or_past (map (λ m. eqb m 1) ms) j false (omega (arith, length-map ms (λ m. eqb m 1))) ∙ past_false ms j g
]

mark_below : (ms : List ℕ) → care_of ms < 2 ^ length ms
mark_below ms = subst (λ n. care_of ms < 2 ^ n) (length-map ms (λ m. eqb m 1)) (from_bits_below (map (λ m. eqb m 1) ms))

marked_true : (v : Values) (ls : List Literal) (n : ℕ) (ms : List ℕ) → length ms ≤ length ls
    → all_true v (marked (with_signs ls n) ms) ≡ agrees (care_of ms) (bit_and n (care_of ms)) (number_in v ls)
marked_true v ls n ms h =
    let few : 2 ^ length ms ≤ 2 ^ length ls = pow_mono h in
    ap (all_true v) (marked_cared ls n ms ∙ cared_masked ls (care_of ms) n)
    ∙ cared_true v ls (care_of ms) (bit_and n (care_of ms)) (omega (arith, mark_below ms)) (and_twice n (care_of ms))

marked_append : (xs ys : List Literal) (ms : List ℕ) → marked (xs ++ ys) ms ≡ marked xs (take (length xs) ms) ++ marked ys (drop (length xs) ms)
marked_append [] ys ms = refl
marked_append (x ∷ xs) [] [] = refl
marked_append (x ∷ xs) (y ∷ ys) [] = refl
marked_append (x ∷ xs) ys (m ∷ ms) =
    ap (λ t. cond (eqb m 1) (x ∷ t) t) (marked_append xs ys ms)
    ∙ elim (eqb m 1) as (λ b. cond b (x ∷ (marked xs (take (length xs) ms) ++ marked ys (drop (length xs) ms))) (marked xs (take (length xs) ms) ++ marked ys (drop (length xs) ms))
    ≡ cond b (x ∷ marked xs (take (length xs) ms)) (marked xs (take (length xs) ms)) ++ marked ys (drop (length xs) ms)) [ true ↦ refl | false ↦ refl ]

pub marks_say : MarksSay
marks_say = record { bits = mark_bits; below = mark_below; inside = and_twice; agree = marked_true; joined = marked_append }
