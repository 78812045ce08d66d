-- What masks and values say of single bits.
use Rattle.std.specs.Prelude.{◌≡◌, ℕ, Bool, true, not, ◌&&◌, Decides, ◌==◌, bit_and}
use Rattle.circuit.specs.Step.{bit}
use Rattle.game.specs.Rows.{agrees, less_bit}
use Rattle.game.specs.declared.exception.Exception.{Exception}
use Rattle.game.specs.declared.row.Row.{Row}

-- a number has the value's bit wherever the care has one
abbrev pub BitsAgree : ℕ → ℕ → ℕ → Type 0
BitsAgree care value n = (j : ℕ) → bit care j ≡ true → bit n j ≡ bit value j

-- a row covers exactly the states that have its value's bit at each latch of its care
abbrev pub RowBits : Row → ℕ → Bool → Type 0
RowBits r s b = bit_and r.value r.care ≡ r.value → Decides b (BitsAgree r.care r.value s)

-- an exception covers exactly the pairs of which both numbers do
abbrev pub ExceptionBits : Exception → ℕ → ℕ → Bool → Type 0
ExceptionBits x s e b =
    bit_and x.state_value x.state_care ≡ x.state_value → bit_and x.event_value x.event_care ≡ x.event_value
    → Decides b (BitsAgree x.state_care x.state_value s × BitsAgree x.event_care x.event_value e)

-- a number agrees with a value, which has no bit outside the care, exactly when their bits agree
abbrev pub AgreesByBits : Type 0
AgreesByBits =
    (care value n : ℕ) → bit_and value care ≡ value → Decides (agrees care value n) (BitsAgree care value n)

-- a number without a bit has all its other bits; a value without a bit still has none outside the care without that bit
pub record LessByBits : Type 0 where
  pub others : (n j k : ℕ) → bit (less_bit n j) k ≡ (bit n k && not (k == j))
  pub inside : (care value j : ℕ) → bit_and value care ≡ value → bit_and (less_bit value j) (less_bit care j) ≡ less_bit value j
