-- A number, a space and the rest, both ways.
use Rattle.std.proofs.Common.{◌≡◌, ℕ, ◌<◌, ◌≤◌, true, List, [], ◌∷◌, ◌++◌, Some, None, Option, sym, refl, ap, ◌∙◌, arith}
use Rattle.std.specs.Str.{all_ascii_digits}
use Rattle.std.proofs.lemmas.Bool.Decides.{nat_tests}
use Rattle.text.specs.Number.{number_of, decimal}
use Rattle.text.specs.Cut.{Parts, Taken, cut_at, before, field_in, field_of, without, FieldLaw}
use Rattle.text.proofs.Cuts.{cut_text, cut_none, cut_gives}
use Rattle.text.proofs.Inverse.{number_decimal, decimal_number, decimal_digits}

pub digits_without : (b : ℕ) (ds : List ℕ) → b < 48 → all_ascii_digits ds ≡ true → without b ds ≡ true
digits_without b [] h d = refl
digits_without b (x ∷ xs) h d = grind (arith, nat_tests, digits_without b xs)

pub field_text : (n : ℕ) (r : List ℕ) → n ≤ 65535 → field_of (decimal n ++ 32 ∷ r) ≡ Some (record { value = n; rest = r })
unfolding field_of
field_text n r h =
    ap field_in (cut_text 32 (decimal n) r (digits_without 32 (decimal n) (omega arith) (decimal_digits n h)))
    ∙ ap (λ o. before o r) (number_decimal n h)

pub field_none : (n : ℕ) → n ≤ 65535 → field_of (decimal n) ≡ None
unfolding field_of
field_none n h = ap field_in (cut_none 32 (decimal n) (digits_without 32 (decimal n) (omega arith) (decimal_digits n h)))

before_gives : (o : Option ℕ) (r : List ℕ) (t : Taken) → before o r ≡ Some t → (o ≡ Some t.value) × (t.rest ≡ r)
before_gives None r t e = grind arith
before_gives (Some n) r t e = grind arith

field_in_gives : (bs : List ℕ) (c : Option Parts) (t : Taken) → cut_at 32 bs ≡ c → field_in c ≡ Some t → (bs ≡ decimal t.value ++ 32 ∷ t.rest) × (t.value ≤ 65535)
field_in_gives bs None t c e = grind arith
field_in_gives bs (Some p) t c e =
    let g = cut_gives 32 bs p c in
    let b = before_gives (number_of p.front) p.back t e in
    let d = decimal_number p.front t.value b.0 in
    (g.0 ∙ ap (λ f. f ++ 32 ∷ p.back) (sym d.0) ∙ ap (λ r. decimal t.value ++ 32 ∷ r) (sym b.1), d.1)

pub field_gives : (bs : List ℕ) (t : Taken) → field_of bs ≡ Some t → (bs ≡ decimal t.value ++ 32 ∷ t.rest) × (t.value ≤ 65535)
unfolding field_of
field_gives bs t e = field_in_gives bs (cut_at 32 bs) t refl e

pub field_law : (bs : List ℕ) (r : Option Taken) → r ≡ field_of bs → FieldLaw bs r
field_law bs r e =
    record {
      back = λ n rest h d. e ∙ ap field_of d ∙ field_text n rest h;
      only = λ t s. field_gives bs t (sym e ∙ s);
    }
