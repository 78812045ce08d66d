-- What marks of assumptions say of rows and exceptions, from what the clauses mean.
use Rattle.std.proofs.Common.{◌≡◌, ℕ, zero, suc, ◌+◌, ◌/◌, ◌^◌, ◌<◌, ◌≤◌, Bool, true, false, cond, not, ◌&&◌, eqb, List, [], ◌∷◌, ◌++◌, length, get_or, take, drop, set, sym, refl, ap, ◌∙◌, inl, inr, arith, pow_mono}
use lib.Bits.{bit_and}
use Rattle.std.proofs.lemmas.List.{length-take, length-set, get_or-take, get_or-drop, get_or_past, get_or-set_same, get_or-set_other, drop-set-add, drop-set-lt, take-set-le}
use Rattle.std.proofs.lemmas.Bool.{cases_lt, cases_eq, eqb-true, eq-eqb, ne_eqb}
use Rattle.literal.specs.declared.Literal.{Literal}
use Rattle.literal.specs.Truth.{Values}
use Rattle.circuit.specs.Step.{bit}
use Rattle.sat.specs.Clauses.{all_true, marked}
use Rattle.sat.proofs.Laws.{all_append, all_parts}
use Rattle.game.specs.Rows.{agrees, less_bit}
use Rattle.game.proofs.Bits.{bit_and_lem, same_bits, less_bits}
use Rattle.encoding.specs.Laws.{MarksSay}
use Rattle.synthesis.specs.Narrow.{section}
use Rattle.encoding.specs.Literals.{with_signs, number_in, care_of}

abbrev none : Literal
none = record { code = 0 }

pub signs_length : (ls : List Literal) (n : ℕ) → length (with_signs ls n) ≡ length ls
signs_length [] n = refl
signs_length (l ∷ ls) n = omega (arith, signs_length ls (n / 2))

-- only as many marks count as there are assumptions
pub marked_take : (ls : List Literal) (ms : List ℕ) → marked ls (take (length ls) ms) ≡ marked ls ms
marked_take [] ms = refl
marked_take (l ∷ ls) [] = refl
marked_take (l ∷ ls) (m ∷ ms) = ap (λ x. cond (eqb m 1) (l ∷ x) x) (marked_take ls ms)

-- a mark can be taken away before or after others are left out
take_set_in : (n : ℕ) (ms : List ℕ) (j : ℕ) → take n (set ms j 0) ≡ set (take n ms) j 0
take_set_in zero ms j = refl
take_set_in (suc n) [] j = refl
take_set_in (suc n) (m ∷ ms) zero = refl
take_set_in (suc n) (m ∷ ms) (suc j) = ap (λ t. m ∷ t) (take_set_in n ms j)

pub section_less : (off n : ℕ) (ms : List ℕ) (j : ℕ) → section off n (set ms (off + j) 0) ≡ set (section off n ms) j 0
section_less off n ms j = ap (take n) (drop-set-add off ms j 0) ∙ take_set_in n (drop off ms) j

pub section_past : (off n : ℕ) (ms : List ℕ) (k : ℕ) → k < off → section off n (set ms k 0) ≡ section off n ms
section_past off n ms k h = ap (take n) (drop-set-lt off ms k 0 h)

pub section_before : (off n : ℕ) (ms : List ℕ) (j : ℕ) → n ≤ j → section off n (set ms (off + j) 0) ≡ section off n ms
section_before off n ms j h = ap (take n) (drop-set-add off ms j 0) ∙ take-set-le n (drop off ms) j 0 h

pub section_length : (off n : ℕ) (ms : List ℕ) → length (section off n ms) ≤ n
section_length off n ms = omega (arith, length-take n (drop off ms))

pub section_at : (off n : ℕ) (ms : List ℕ) (i : ℕ) → i < n → get_or (section off n ms) i 0 ≡ get_or ms (off + i) 0
section_at off n ms i h = get_or-take n (drop off ms) i 0 h ∙ get_or-drop off ms i 0

-- a mark of a section lies within it
pub section_within : (off n : ℕ) (ms : List ℕ) (i : ℕ) → get_or (section off n ms) i 0 ≡ 1 → i < n
section_within off n ms i e = elim (cases_lt i n) [
  | inl l ↦ l
  | inr g ↦ (let z : get_or (section off n ms) i 0 ≡ 0 = get_or_past (section off n ms) i 0 (omega (arith, section_length off n ms)) in absurd (omega arith))
]

-- a bit of a section's mask is a mark
pub mask_mark : MarksSay → (off n : ℕ) (ms : List ℕ) (j : ℕ) → bit (care_of (section off n ms)) j ≡ true → (j < n) × (get_or ms (off + j) 0 ≡ 1)
mask_mark say off n ms j b =
    let e : get_or (section off n ms) j 0 ≡ 1 = eqb-true (get_or (section off n ms) j 0) 1 (sym (say.bits (section off n ms) j) ∙ b) in
    let l = section_within off n ms j e in
    (l, sym (section_at off n ms j l) ∙ e)

-- the marked assumptions of two lists, one after the other
module _ (say : MarksSay) (v : Values) (xs ys : List Literal) (off k : ℕ) (ms : List ℕ) (lx : length xs ≡ off) (ly : length ys ≡ k) where
  second : marked ys (drop (length xs) ms) ≡ marked ys (section off k ms)
  second = sym (marked_take ys (drop (length xs) ms)) ∙ ap (λ q. marked ys (take q (drop (length xs) ms))) ly ∙ ap (λ o. marked ys (take k (drop o ms))) lx

  pub asked_both : all_true v (marked xs ms) ≡ true → all_true v (marked ys (section off k ms)) ≡ true → all_true v (marked (xs ++ ys) ms) ≡ true
  asked_both hx hy =
      ap (all_true v) (say.joined xs ys ms)
      ∙ all_append v (marked xs (take (length xs) ms)) (marked ys (drop (length xs) ms)) (ap (all_true v) (marked_take xs ms) ∙ hx) (ap (all_true v) second ∙ hy)

  pub asked_parts : all_true v (marked (xs ++ ys) ms) ≡ true → (all_true v (marked xs ms) ≡ true) × (all_true v (marked ys (section off k ms)) ≡ true)
  asked_parts h =
      let p = all_parts v (marked xs (take (length xs) ms)) (marked ys (drop (length xs) ms)) (sym (ap (all_true v) (say.joined xs ys ms)) ∙ h) in
      (sym (ap (all_true v) (marked_take xs ms)) ∙ p.0, sym (ap (all_true v) second) ∙ p.1)

-- a mask without the mark of one place
care_less : MarksSay → (ms : List ℕ) (j : ℕ) → care_of (set ms j 0) ≡ less_bit (care_of ms) j
care_less say ms j = same_bits (care_of (set ms j 0)) (less_bit (care_of ms) j) (λ k.
    say.bits (set ms j 0) k ∙ one k ∙ ap (λ b. b && not (eqb k j)) (sym (say.bits ms k)) ∙ sym (less_bits j (care_of ms) k))
  where
    one : (k : ℕ) → eqb (get_or (set ms j 0) k 0) 1 ≡ (eqb (get_or ms k 0) 1 && not (eqb k j))
    one k = elim (cases_eq k j) [
      | inl e ↦ zeroed k e ∙ sym (ap (λ b. eqb (get_or ms k 0) 1 && not b) (eq-eqb k j e) ∙ and_false (eqb (get_or ms k 0) 1))
      | inr n ↦ ap (λ x. eqb x 1) (get_or-set_other ms j k 0 0 n) ∙ sym (ap (λ b. eqb (get_or ms k 0) 1 && not b) (ne_eqb k j n) ∙ and_true (eqb (get_or ms k 0) 1))
    ]
      where
        and_false : (b : Bool) → (b && false) ≡ false
        and_false true = refl
        and_false false = refl

        and_true : (b : Bool) → (b && true) ≡ b
        and_true true = refl
        and_true false = refl

        zeroed : (k : ℕ) → k ≡ j → eqb (get_or (set ms j 0) k 0) 1 ≡ false
        zeroed k e = elim (cases_lt j (length ms)) [
          | inl l ↦ ap (λ x. eqb x 1) (ap (λ i. get_or (set ms j 0) i 0) e ∙ get_or-set_same ms j 0 0 l)
          | inr g ↦ ap (λ x. eqb x 1) (get_or_past (set ms j 0) k 0 (omega (arith, length-set ms j 0)))
        ]

value_less : MarksSay → (ms : List ℕ) (j n : ℕ) → bit_and n (care_of (set ms j 0)) ≡ less_bit (bit_and n (care_of ms)) j
value_less say ms j n = ap (bit_and n) (care_less say ms j) ∙ same_bits (bit_and n (less_bit (care_of ms) j)) (less_bit (bit_and n (care_of ms)) j) (λ k.
    bit_and_lem n (less_bit (care_of ms) j) k
    ∙ ap (λ b. bit n k && b) (less_bits j (care_of ms) k)
    ∙ assoc (bit n k) (bit (care_of ms) k) (not (eqb k j))
    ∙ ap (λ b. b && not (eqb k j)) (sym (bit_and_lem n (care_of ms) k))
    ∙ sym (less_bits j (bit_and n (care_of ms)) k))
  where
    assoc : (a b c : Bool) → (a && (b && c)) ≡ ((a && b) && c)
    assoc true b c = refl
    assoc false b c = refl

module _ (say : MarksSay) (ls : List Literal) (n : ℕ) (v : Values) (off k : ℕ) (marks : List ℕ) (lk : length ls ≡ k) where
  -- the marked ones of a number's literals are true exactly where the values' number agrees on the marked bits
  pub part_agrees : all_true v (marked (with_signs ls n) (section off k marks))
      ≡ agrees (care_of (section off k marks)) (bit_and n (care_of (section off k marks))) (number_in v ls)
  part_agrees = say.agree v ls n (section off k marks) (omega (arith, section_length off k marks))

  -- and without the mark of one place
  pub part_agrees_less : (j : ℕ) → all_true v (marked (with_signs ls n) (set (section off k marks) j 0))
      ≡ agrees (less_bit (care_of (section off k marks)) j) (less_bit (bit_and n (care_of (section off k marks))) j) (number_in v ls)
  part_agrees_less j =
      let ms = section off k marks in
      say.agree v ls n (set ms j 0) (omega (arith, length-set ms j 0, section_length off k marks))
      ∙ ap (λ c. agrees c (bit_and n (care_of (set ms j 0))) (number_in v ls)) (care_less say ms j)
      ∙ ap (λ x. agrees (less_bit (care_of ms) j) x (number_in v ls)) (value_less say ms j n)

  -- a section's mask is in range
  pub mask_below : care_of (section off k marks) < 2 ^ k
  mask_below =
      let more : 2 ^ length (section off k marks) ≤ 2 ^ k = pow_mono (section_length off k marks) in
      omega (arith, say.below (section off k marks))
