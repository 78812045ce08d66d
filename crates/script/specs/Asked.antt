-- Which lines ask for a step, and for which.
use Rattle.std.specs.Prelude.{◌≡◌, ℕ, ◌+◌, ◌-◌, ◌*◌, min, Bool, true, false, cond, ◌&&◌, List, [], ◌∷◌, ◌++◌, Some, None, Option, nat_le}
use Rattle.text.specs.Cut.{Parts, cut_at}
use Rattle.script.specs.declared.Asked.{Asked}

abbrev pub is_digit : ℕ → Bool
is_digit b = nat_le 48 b && nat_le b 57

abbrev pub all_digits : List ℕ → Bool
all_digits [] = true
all_digits (b ∷ bs) = is_digit b && all_digits bs

-- a word of digits, one at least
abbrev pub is_word : List ℕ → Bool
is_word [] = false
is_word (b ∷ bs) = all_digits (b ∷ bs)

-- the number that digits write after a number, however large, and the largest that is told apart
abbrev pub value_on : ℕ → List ℕ → ℕ
value_on n [] = n
value_on n (b ∷ bs) = value_on (n * 10 + (b - 48)) bs

abbrev pub largest : ℕ
largest = 4294967295

abbrev pub value_of : List ℕ → ℕ
value_of bs = min (value_on 0 bs) largest

abbrev pub word_of : List ℕ → Option ℕ
word_of bs = cond (is_word bs) (Some (value_of bs)) None

abbrev pub asked_by : Option ℕ → Option ℕ → Option Asked
asked_by None a = None
asked_by (Some e) None = None
asked_by (Some e) (Some a) = Some (record { event = e; answer = a })

abbrev pub asked_in : Option Parts → Option Asked
asked_in None = None
asked_in (Some p) = asked_by (word_of p.front) (word_of p.back)

abbrev pub asked_of : List ℕ → Option Asked
asked_of bs = asked_in (cut_at 32 bs)

-- a step is asked for exactly where the line is a word of digits, a space, and a word of digits
pub record AskedLaw (bs : List ℕ) (r : Option Asked) : Type 0 where
  pub back : (f g : List ℕ) → is_word f ≡ true → is_word g ≡ true → bs ≡ f ++ 32 ∷ g
      → r ≡ Some (record { event = value_of f; answer = value_of g })
  pub only : (x : Asked) → r ≡ Some x
      → (f : List ℕ) × (g : List ℕ) × (bs ≡ f ++ 32 ∷ g) × (is_word f ≡ true) × (is_word g ≡ true) × (x.event ≡ value_of f) × (x.answer ≡ value_of g)
