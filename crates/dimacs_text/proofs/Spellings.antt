-- How entries are written, and what a word's first byte says.
use Rattle.std.proofs.Common.{◌≡◌, ℕ, zero, suc, ◌+◌, ◌*◌, ◌/◌, ◌%◌, ◌<◌, ◌≤◌, true, false, eqb, ltb, List, [], ◌∷◌, ◌++◌, length, get_or, drop, Some, sym, refl, ap, ◌∙◌, inl, inr, arith}
use Rattle.std.proofs.lemmas.List.{drop_more}
use Rattle.std.proofs.lemmas.Bool.{cond-true, cond-false, cond_both, eq-eqb, ne_eqb, cases_eq}
use Rattle.literal.specs.declared.Literal.{Literal}
use Rattle.literal.specs.Truth.{variable_of}
use Rattle.text.specs.Number.{decimal, decimal_in, number_of}
use Rattle.text.proofs.Inverse.{number_decimal}
use Rattle.dimacs_text.specs.Entries.{spelling, Writable, Unspelled}

first_push : (xs : List ℕ) (y : ℕ) → 48 ≤ get_or xs 0 48 → 48 ≤ y → 48 ≤ get_or (xs ++ y ∷ []) 0 48
first_push [] y h k = k
first_push (x ∷ xs) y h k = h

first_digit : (k n : ℕ) → 48 ≤ get_or (decimal_in k n) 0 48
first_digit zero n = omega arith
first_digit (suc k) n =
    cond_both (ltb n 10) ((48 + n) ∷ []) (decimal_in k (n / 10) ++ (48 + n % 10) ∷ []) (λ x. 48 ≤ get_or x 0 48)
    (λ e. omega arith) (λ e. first_push (decimal_in k (n / 10)) (48 + n % 10) (first_digit k (n / 10)) (omega arith))

first_default : (xs : List ℕ) (d e : ℕ) → 0 < length xs → get_or xs 0 d ≡ get_or xs 0 e
first_default [] d e h = absurd (omega arith)
first_default (x ∷ xs) d e h = refl

-- a number's spelling has no sign
unsigned : (w : List ℕ) (v : ℕ) → w ≡ decimal v → 0 < length w → get_or w 0 0 ≡ 45 → ⊥
unfolding decimal
unsigned w v e h s =
    omega (arith, first_digit 5 v, ap (λ (x : List ℕ). get_or x 0 48) e, first_default w 0 48 h)

pub negative : (w digits : List ℕ) (v : ℕ) → 0 < length w → get_or w 0 0 ≡ 45 → digits ≡ drop 1 w → digits ≡ decimal v → w ≡ spelling (record { code = 2 * v + 1 })
negative w digits v h s d e =
    let n : eqb ((2 * v + 1) % 2) 1 ≡ true = eq-eqb ((2 * v + 1) % 2) 1 (omega arith) in
    let q : (2 * v + 1) / 2 ≡ v = omega arith in
    drop_more w 0 0 h ∙ ap (λ x. x ∷ drop 1 w) s ∙ ap (λ (x : List ℕ). 45 ∷ x) (sym d ∙ e ∙ ap decimal (sym q)) ∙ sym (cond-true _ _ _ n)

pub positive : (w : List ℕ) (v : ℕ) → w ≡ decimal v → w ≡ spelling (record { code = 2 * v })
positive w v e =
    let n : eqb ((2 * v) % 2) 1 ≡ false = ne_eqb ((2 * v) % 2) 1 (omega arith) in
    let q : (2 * v) / 2 ≡ v = omega arith in
    e ∙ ap decimal (sym q) ∙ sym (cond-false _ _ _ n)

-- what is spelled with a sign, and without one
signed_is : (w : List ℕ) (l : Literal) → Writable l → w ≡ spelling l → 0 < length w → get_or w 0 0 ≡ 45 → (drop 1 w ≡ decimal (variable_of l)) × (l.code % 2 ≡ 1)
signed_is w l k e h s = elim (cases_eq (l.code % 2) 1) [
  | inl o ↦ (ap (drop 1) (e ∙ cond-true _ _ _ (eq-eqb (l.code % 2) 1 o)), o)
  | inr z ↦ absurd (unsigned w (variable_of l) (e ∙ cond-false _ _ _ (ne_eqb (l.code % 2) 1 z)) h s)
]

pub negative_none : (w digits : List ℕ) → 0 < length w → get_or w 0 0 ≡ 45 → digits ≡ drop 1 w → ((v : ℕ) → v ≤ 32767 → digits ≡ decimal v → ⊥) → Unspelled w
negative_none w digits h s d f l k e =
    f (variable_of l) (omega (arith, k.0)) (d ∙ (signed_is w l k e h s).0)

same_decimal : (a b : ℕ) → a ≤ 65535 → b ≤ 65535 → decimal a ≡ decimal b → a ≡ b
same_decimal a b h k e =
    let q : Some a ≡ Some b = sym (number_decimal a h) ∙ ap number_of e ∙ number_decimal b k in
    cc

-- -0 is no entry
pub negative_zero : (w digits : List ℕ) (v : ℕ) → 0 < length w → get_or w 0 0 ≡ 45 → digits ≡ drop 1 w → digits ≡ decimal v → v ≡ 0 → Unspelled w
negative_zero w digits v h s d e z l k q =
    let w-is = signed_is w l k q h s in
    let same : 0 ≡ variable_of l = same_decimal 0 (variable_of l) (omega arith) (omega (arith, k.0)) (ap decimal (sym z) ∙ sym e ∙ d ∙ w-is.0) in
    k.1 (omega (arith, w-is.1))

pub positive_none : (w : List ℕ) → (0 < length w → get_or w 0 0 ≡ 45 → ⊥) → ((v : ℕ) → v ≤ 32767 → w ≡ decimal v → ⊥) → Unspelled w
positive_none w s f l k e = elim (cases_eq (l.code % 2) 1) [
  | inl o ↦
      (let q = e ∙ cond-true _ _ _ (eq-eqb (l.code % 2) 1 o) in
      s (omega (arith, ap length q)) (ap (λ (x : List ℕ). get_or x 0 0) q))
  | inr z ↦ f (variable_of l) (omega (arith, k.0)) (e ∙ cond-false _ _ _ (ne_eqb (l.code % 2) 1 z))
]
