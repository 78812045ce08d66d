-- Numbers as lists of bits, the lowest first.
use Rattle.std.specs.Prelude.{◌≡◌, ℕ, ◌+◌, ◌*◌, Bool, cond, List, [], ◌∷◌}
use Rattle.std.specs.List.{AllZip}
use Rattle.std.specs.Fn.{Shared, FnReturnsAt}
use denote.Ref.{Bor}

abbrev pub from_bits : List Bool → ℕ
from_bits [] = 0
from_bits (b ∷ bs) = cond b 1 0 + 2 * from_bits bs

-- n's bits are what a closure answers at each item, in order
pub record IsNumberOf {F T : Type 0} (g : Shared F (Bor T × Unit {0}) Bool) (f : F) (xs : List T) (n : ℕ) : Type 0 where
  pub answers : List Bool
  pub given : AllZip (FnReturnsAt g f) xs answers
  pub value : n ≡ from_bits answers
