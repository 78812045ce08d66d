use Rattle.std.proofs.Common.{◌≡◌, ℕ, ◌+◌, ◌-◌, ◌*◌, ◌<◌, ◌≤◌, true, List, [], ◌∷◌, length, get_or, Some, Option, sym, refl, ap, ◌∙◌, ⊎_elim, arith, rules}
use Rattle.std.specs.Str.{all_ascii_digits}
use Rattle.std.specs.Fmt as std
use Rattle.std.proofs.lemmas.Str.Parse.{IsNumeralModel, numerals_by_fold}
use Rattle.std.proofs.lemmas.Fmt.{AppendsLastDigit, decimal_from_appends, length-decimal-le, digits_decimal, digits_value-decimal, decimal-digits_value, decimal_nonempty, first_decimal, decimal_digit}
use Rattle.std.proofs.lemmas.Bool.{cases_lt}
use Rattle.std.proofs.lemmas.Bool.Decides.{nat_tests}
use Rattle.text.specs.Number.{decimal_in, decimal, read_on, number_of, Spelled}

abbrev value_on : ℕ → List ℕ → ℕ
value_on n [] = n
value_on n (b ∷ bs) = value_on (n * 10 + (b - 48)) bs

own : IsNumeralModel (λ ds. all_ascii_digits ds ≡ true) (value_on 0)
own = numerals_by_fold _ (search rules) value_on (search rules)

value_grows : (n : ℕ) (bs : List ℕ) → n ≤ value_on n bs
value_grows n [] = omega arith
value_grows n (b ∷ bs) = omega (arith, value_grows (n * 10 + (b - 48)) bs)

read_gives : (n v : ℕ) (bs : List ℕ) → n ≤ 65535 → read_on n bs ≡ Some v → (all_ascii_digits bs ≡ true) × (value_on n bs ≡ v) × (v ≤ 65535)
read_gives n v [] small e = search rules
read_gives n v (b ∷ bs) small e = grind (arith, nat_tests, read_gives (n * 10 + (b - 48)) v bs)

read_value : (n : ℕ) (bs : List ℕ) → all_ascii_digits bs ≡ true → value_on n bs ≤ 65535 → read_on n bs ≡ Some (value_on n bs)
read_value n [] d h = refl
read_value n (b ∷ bs) d h = grind (arith, nat_tests, read_value (n * 10 + (b - 48)) bs, value_grows (n * 10 + (b - 48)) bs)

spells : AppendsLastDigit decimal_in
spells = search rules

pub std_decimal : (n : ℕ) → n ≤ 65535 → decimal n ≡ std.decimal n
unfolding decimal
std_decimal n h = decimal_from_appends decimal_in spells 5 n (omega arith) (length-decimal-le 5 n (omega arith) (omega arith) (omega arith))

accepts : (ds : List ℕ) (n : ℕ) → 0 < length ds → (get_or ds 0 0 ≡ 48 → length ds ≡ 1) → read_on 0 ds ≡ Some n → number_of ds ≡ Some n
unfolding number_of
accepts ds n s z r = grind (arith, nat_tests)

accepted : (ds : List ℕ) (n : ℕ) → number_of ds ≡ Some n → (0 < length ds) × (get_or ds 0 0 ≡ 48 → length ds ≡ 1) × (read_on 0 ds ≡ Some n)
unfolding number_of
accepted ds n e = grind (arith, nat_tests)

one_only : (n : ℕ) → n ≤ 65535 → get_or (std.decimal n) 0 0 ≡ 48 → length (std.decimal n) ≡ 1
one_only n h e =
    ⊎_elim (λ z. ap length (decimal_digit n (omega arith)))
    (λ z. absurd (let f = first_decimal n z (omega arith) in omega arith))
    (cases_lt n 1)

pub number_decimal : (n : ℕ) → n ≤ 65535 → number_of (decimal n) ≡ Some n
number_decimal n h =
    let v = digits_value-decimal own n (omega arith) in
    let r : read_on 0 (std.decimal n) ≡ Some n =
    read_value 0 (std.decimal n) (digits_decimal own n (omega arith)) (omega arith) ∙ ap (λ x. Some x) v in
    ap number_of (std_decimal n h) ∙ accepts (std.decimal n) n (decimal_nonempty n (omega arith)) (one_only n h) r

pub decimal_number : (bs : List ℕ) (n : ℕ) → number_of bs ≡ Some n → (decimal n ≡ bs) × (n ≤ 65535)
decimal_number bs n e =
    let a = accepted bs n e in
    let r = read_gives 0 n bs (omega arith) a.2 in
    let d = decimal-digits_value own bs r.0 a.0 a.1 (omega arith) in
    (std_decimal n r.2 ∙ ap std.decimal (sym r.1) ∙ d, r.2)

pub decimal_digits : (n : ℕ) → n ≤ 65535 → all_ascii_digits (decimal n) ≡ true
decimal_digits n h = ap all_ascii_digits (std_decimal n h) ∙ digits_decimal own n (omega arith)

pub decimal_long : (n : ℕ) → n ≤ 65535 → 0 < length (decimal n)
decimal_long n h = rw (std_decimal n h) (decimal_nonempty n (omega arith))

pub number_spelled : (bs : List ℕ) (r : Option ℕ) → r ≡ number_of bs → Spelled bs r
number_spelled bs r e =
    record {
      back = λ n h d. e ∙ ap number_of d ∙ number_decimal n h;
      only = λ n s. let d = decimal_number bs n (sym e ∙ s) in (sym d.0, d.1);
    }
