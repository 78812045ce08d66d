-- The worked cases hold.
use Rattle.std.proofs.Common.{◌≡◌, Bool, true, false, not, ◌&&◌, ◌||◌, eqb, refl}
use Rattle.std.proofs.lemmas.Bool.{false≢true}
use Rattle.literal.specs.Truth.{Values}
use Rattle.sat.specs.Worked.{WorkedSolver}

abbrev given : Values
given x = eqb x 2

one_is : (a b : Bool) → ((a || (b || false)) && ((not a || false) && true)) ≡ true → a ≡ false
one_is true true h = absurd (false≢true h)
one_is true false h = absurd (false≢true h)
one_is false b h = refl

two_is : (a b : Bool) → ((a || (b || false)) && ((not a || false) && true)) ≡ true → b ≡ true
two_is true true h = refl
two_is true false h = absurd (false≢true h)
two_is false true h = refl
two_is false false h = absurd (false≢true h)

not_two : (b : Bool) → b ≡ true → (not b && true) ≡ true → ⊥
not_two true e h = false≢true h
not_two false e h = false≢true e

pub worked_solver : WorkedSolver
worked_solver = record {
  some = (given, refl, refl);
  one = λ v h. one_is (v 1) (v 2) h;
  two = λ v h. two_is (v 1) (v 2) h;
  none = λ v h a. not_two (v 2) (two_is (v 1) (v 2) h) a;
  marks = λ v h a. not_two (v 2) (two_is (v 1) (v 2) h) a;
  fewer = (given, refl, refl);
}
