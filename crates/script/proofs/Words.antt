-- Words of digits, as a loop reads them.
use Rattle.std.proofs.Common.{◌≡◌, ℕ, ◌+◌, ◌-◌, ◌*◌, ◌<◌, min, true, List, [], ◌∷◌, length, Some, None, sym, refl, ap, ◌∙◌, arith}
use Rattle.std.proofs.lemmas.Bool.{cond-true}
use Rattle.script.specs.Asked.{all_digits, is_word, value_on, value_of, largest, word_of}

-- the same number, held to the largest at each digit
abbrev pub bounded_on : ℕ → List ℕ → ℕ
bounded_on n [] = n
bounded_on n (b ∷ bs) = bounded_on (min (n * 10 + (b - 48)) largest) bs

cap : (n d : ℕ) → min (min n largest * 10 + d) largest ≡ min (n * 10 + d) largest
cap n d = omega arith

bounded_is : (n : ℕ) (bs : List ℕ) → bounded_on (min n largest) bs ≡ min (value_on n bs) largest
bounded_is n [] = refl
bounded_is n (b ∷ bs) = ap (λ t. bounded_on t bs) (cap n (b - 48)) ∙ bounded_is (n * 10 + (b - 48)) bs

word_long : (bs : List ℕ) → 0 < length bs → is_word bs ≡ all_digits bs
word_long [] h = let none : ⊥ = omega arith in absurd none
word_long (b ∷ bs) h = refl

pub word_some : (bs : List ℕ) (n : ℕ) → 0 < length bs → all_digits bs ≡ true → n ≡ bounded_on 0 bs → Some n ≡ word_of bs
word_some bs n h e v =
    ap (λ t. Some t) (v ∙ bounded_is 0 bs) ∙ sym (cond-true (is_word bs) (Some (value_of bs)) None (word_long bs h ∙ e))
