-- Numbers in decimal.
use Rattle.std.specs.Prelude.{◌≡◌, ℕ, zero, suc, ◌+◌, ◌-◌, ◌*◌, ◌/◌, ◌%◌, ◌≤◌, cond, ◌&&◌, ◌||◌, List, [], ◌∷◌, ◌++◌, length, Some, None, Option, ◌==◌, nat_lt, slice_index}

-- a number in decimal, with no leading zero, by its last k digits at most
abbrev pub decimal_in : ℕ → ℕ → List ℕ
decimal_in zero n = []
decimal_in (suc k) n = cond (nat_lt n 10) ((48 + n) ∷ []) (decimal_in k (n / 10) ++ ((48 + n % 10) ∷ []))

unfoldable pub decimal : ℕ → List ℕ
decimal n = decimal_in 5 n

-- the value of a digit
abbrev pub digit_of : ℕ → Option ℕ
digit_of b = cond (nat_lt b 48 || nat_lt 57 b) None (Some (b - 48))

-- the value of some digits after a value; none where a byte is no digit or the value passes 65,535
abbrev pub read_on : ℕ → List ℕ → Option ℕ
read_on n [] = Some n
read_on n (b ∷ bs) =
    cond (nat_lt b 48 || nat_lt 57 b) None
    (cond (nat_lt 65535 (n * 10 + (b - 48))) None (read_on (n * 10 + (b - 48)) bs))

unfoldable pub number_of : List ℕ → Option ℕ
number_of bs =
    cond (length bs == 0) None
    (cond (slice_index bs 0 == 48 && nat_lt 1 (length bs)) None (read_on 0 bs))

-- a number is read exactly where the bytes are its decimal
pub record Spelled (bs : List ℕ) (r : Option ℕ) : Type 0 where
  pub back : (n : ℕ) → n ≤ 65535 → bs ≡ decimal n → r ≡ Some n
  pub only : (n : ℕ) → r ≡ Some n → (bs ≡ decimal n) × (n ≤ 65535)
