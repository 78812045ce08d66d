-- Tables of literals as loops fill them: what stands there, and what is left to put.
use Rattle.std.proofs.Common.{◌≡◌, ℕ, ◌+◌, ◌/◌, ◌%◌, ◌<◌, ◌≤◌, Bool, true, false, cond, List, [], ◌∷◌, ◌++◌, length, get_or, take, drop, sym, ap, ◌∙◌, arith}
use Rattle.std.proofs.lemmas.List.{append_assoc, append-nil, take_all, length-append, at_drop_more}
use Rattle.std.proofs.lemmas.Bool.{eq-eqb, ne_eqb}
use Rattle.literal.specs.declared.Literal.{Literal}
use Rattle.circuit.specs.Step.{low_bit}
use Rattle.sat.proofs.Loops.{take_push}
use Rattle.encoding.specs.Literals.{signed, cared}
use Rattle.encoding.proofs.Sizes.{cared_length}

-- one more is put
pub put_more : (here next : List Literal) (x : Literal) (rest left all : List Literal) → next ≡ take 64 (here ++ x ∷ []) → left ≡ x ∷ rest
    → take 64 (here ++ left) ≡ all → take 64 (next ++ rest) ≡ all
put_more here next x rest left all e l h =
    ap (λ t. take 64 (t ++ rest)) e ∙ take_push 64 (here ++ x ∷ []) rest
    ∙ ap (take 64) (append_assoc here (x ∷ []) rest ∙ ap (λ t. here ++ t) (sym l)) ∙ h

-- one is passed over
pub put_none : (here rest left all : List Literal) → left ≡ rest → take 64 (here ++ left) ≡ all → take 64 (here ++ rest) ≡ all
put_none here rest left all l h = ap (λ t. take 64 (here ++ t)) (sym l) ∙ h

-- at the end nothing is left
pub put_all : (here left all : List Literal) → length here ≤ 64 → left ≡ [] → take 64 (here ++ left) ≡ all → here ≡ all
put_all here left all few l h =
    sym (ap (λ x. take 64 (here ++ x)) l ∙ ap (take 64) (append-nil here) ∙ take_all 64 here few) ∙ h

-- a literal that the mask picks, and one that it does not
module _ (ls : List Literal) (i : ℕ) (d : Literal) (h : i < length ls) (care value : ℕ) where
  cared_more : (b : Bool) → low_bit care ≡ b → cared (drop i ls) care value
      ≡ cond b (signed (low_bit value) (get_or ls i d) ∷ cared (drop (i + 1) ls) (care / 2) (value / 2)) (cared (drop (i + 1) ls) (care / 2) (value / 2))
  cared_more b e =
      at_drop_more (λ t. cared t care value) ls i d h
      ∙ ap (λ c. cond c (signed (low_bit value) (get_or ls i d) ∷ cared (drop (i + 1) ls) (care / 2) (value / 2)) (cared (drop (i + 1) ls) (care / 2) (value / 2))) e

  pub cared_yes : care % 2 ≡ 1
      → cared (drop i ls) care value ≡ signed (low_bit value) (get_or ls i d) ∷ cared (drop (i + 1) ls) (care / 2) (value / 2)
  cared_yes e = cared_more true (eq-eqb (care % 2) 1 e)

  pub cared_no : (care % 2 ≡ 1 → ⊥) → cared (drop i ls) care value ≡ cared (drop (i + 1) ls) (care / 2) (value / 2)
  cared_no n = cared_more false (ne_eqb (care % 2) 1 n)

-- what a mask picks, put into an empty table; and what another picks, put after it
pub mask_literals : (ls none inside : List Literal) (care value : ℕ) → length ls ≤ 64 → none ≡ [] → inside ≡ take 64 (none ++ cared ls care value)
    → inside ≡ cared ls care value
mask_literals ls none inside care value few n i =
    i ∙ ap (λ t. take 64 (t ++ cared ls care value)) n ∙ take_all 64 (cared ls care value) (omega (arith, cared_length ls care value))

pub masks_literals : (ls ms first inside : List Literal) (care value care' value' : ℕ) → length ls + length ms ≤ 64 → first ≡ cared ls care value
    → inside ≡ take 64 (first ++ cared ms care' value') → inside ≡ cared ls care value ++ cared ms care' value'
masks_literals ls ms first inside care value care' value' few f i =
    i ∙ ap (λ t. take 64 (t ++ cared ms care' value')) f
    ∙ take_all 64 (cared ls care value ++ cared ms care' value')
    (omega (arith, length-append (cared ls care value) (cared ms care' value'), cared_length ls care value, cared_length ms care' value'))
