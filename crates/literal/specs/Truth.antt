-- What a literal means.
use Rattle.std.specs.Prelude.{ℕ, ◌+◌, ◌-◌, ◌/◌, ◌%◌, Bool, false, cond, not, List, ◌==◌, slice_index_or}
use Rattle.literal.specs.declared.Literal.{Literal}

abbrev pub variable_of : Literal → ℕ
variable_of l = l.code / 2

abbrev pub negated : Literal → Bool
negated l = l.code % 2 == 1

-- the literal of the same variable and the other sign
abbrev pub negation_of : Literal → Literal
negation_of l = record { code = cond (negated l) (l.code - 1) (l.code + 1) }

-- values by variable; variable 0 is false in all that are used, so that literal 0 is false and literal 1 is true
abbrev pub Values : Type 0
Values = ℕ → Bool

-- a literal's truth under values
abbrev pub truth : Values → Literal → Bool
truth v l = cond (negated l) (not (v (variable_of l))) (v (variable_of l))

-- the values that a table holds; past its end a variable is false
abbrev pub values_of : List Bool → Values
values_of bs v = slice_index_or bs v false
