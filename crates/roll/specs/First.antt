-- The first element of a list that passes a test.
use Rattle.std.specs.Prelude.{◌≡◌, ℕ, ◌<◌, Bool, true, false, ◌||◌, List, [], ◌∷◌, length, Some, None, Option, slice_index_or}

-- some element passes
abbrev pub any_passes : {X : Type 0} → (X → Bool) → List X → Bool
any_passes test [] = false
any_passes test (x ∷ xs) = test x || any_passes test xs

-- the element at a place passes, and none before it does
pub record FirstAt {X : Type 0} (test : X → Bool) (xs : List X) (place : ℕ) : Type 0 where
  pub within : place < length xs
  pub passes : (d : X) → test (slice_index_or xs place d) ≡ true
  pub before : (i : ℕ) (d : X) → i < place → test (slice_index_or xs i d) ≡ false

abbrev pub NonePasses : {X : Type 0} → (X → Bool) → List X → Type 0
NonePasses {X} test xs = (i : ℕ) (d : X) → i < length xs → test (slice_index_or xs i d) ≡ false

-- a place where it is the first that passes, and no place where none passes
abbrev pub First : {X : Type 0} → (X → Bool) → List X → Option ℕ → Type 0
First test xs None = NonePasses test xs
First test xs (Some place) = FirstAt test xs place

-- no answer but that one
pub record OnlyFirst {X : Type 0} (test : X → Bool) (xs : List X) (r : Option ℕ) : Type 0 where
  pub some : (place : ℕ) → FirstAt test xs place → r ≡ Some place
  pub none : NonePasses test xs → r ≡ None
