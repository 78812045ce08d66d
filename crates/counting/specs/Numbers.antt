-- Values counted through: each number stands for the values that its bits give.
use Rattle.std.specs.Prelude.{ℕ, zero, suc, ◌-◌, ◌/◌, ◌%◌, Bool, ◌&&◌, List, map, ◌==◌, nat_lt}
use Rattle.std.specs.List.{range_with_len}
use Rattle.literal.specs.Truth.{Values}

abbrev pub bit_at : ℕ → ℕ → Bool
bit_at n zero = n % 2 == 1
bit_at n (suc k) = bit_at (n / 2) k

-- variable v is true where bit v - 1 is 1
abbrev pub values_at : ℕ → Values
values_at n v = bit_at n (v - 1)

-- the values of variables 0 to 20 in a table; variable 0 is false
unfoldable pub table_at : ℕ → List Bool
table_at n = map (λ v. nat_lt 0 v && values_at n v) (range_with_len 0 21)
