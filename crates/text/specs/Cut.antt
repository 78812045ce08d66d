-- A line cut at a byte, and the number before a space.
use Rattle.std.specs.Prelude.{◌≡◌, ℕ, ◌≤◌, Bool, true, cond, not, ◌&&◌, List, [], ◌∷◌, ◌++◌, Some, None, Option, ◌==◌}
use Rattle.std.specs.Borrow.{Bor}
use Rattle.text.specs.Number.{number_of, decimal}

-- the part before the first mark and the part after it
pub record Parts : Type 0 where
  pub front : List ℕ
  pub back : List ℕ

abbrev pub parts_of : Option (Bor (List ℕ) × Bor (List ℕ)) → Option Parts
parts_of None = None
parts_of (Some p) = Some (record { front = p.0.now; back = p.1.now })

abbrev pub onto : ℕ → Option Parts → Option Parts
onto x None = None
onto x (Some p) = Some (record { front = x ∷ p.front; back = p.back })

abbrev pub cut_at : ℕ → List ℕ → Option Parts
cut_at b [] = None
cut_at b (x ∷ xs) = cond (x == b) (Some (record { front = []; back = xs })) (onto x (cut_at b xs))

abbrev pub without : ℕ → List ℕ → Bool
without b [] = true
without b (x ∷ xs) = not (x == b) && without b xs

-- there are parts exactly where the bytes are a front without the mark, the mark, and the rest
pub record CutLaw (b : ℕ) (bs : List ℕ) (r : Option Parts) : Type 0 where
  pub back : (f g : List ℕ) → without b f ≡ true → bs ≡ f ++ b ∷ g → r ≡ Some (record { front = f; back = g })
  pub only : (p : Parts) → r ≡ Some p → (bs ≡ p.front ++ b ∷ p.back) × (without b p.front ≡ true)

-- a number, and what stands after it
pub record Taken : Type 0 where
  pub value : ℕ
  pub rest : List ℕ

abbrev pub taken_of : Option (ℕ × Bor (List ℕ)) → Option Taken
taken_of None = None
taken_of (Some p) = Some (record { value = p.0; rest = p.1.now })

abbrev pub before : Option ℕ → List ℕ → Option Taken
before None rest = None
before (Some n) rest = Some (record { value = n; rest = rest })

abbrev pub field_in : Option Parts → Option Taken
field_in None = None
field_in (Some p) = before (number_of p.front) p.back

unfoldable pub field_of : List ℕ → Option Taken
field_of bs = field_in (cut_at 32 bs)

-- a field is taken exactly where the bytes begin with a number in decimal and a space
pub record FieldLaw (bs : List ℕ) (r : Option Taken) : Type 0 where
  pub back : (n : ℕ) (rest : List ℕ) → n ≤ 65535 → bs ≡ decimal n ++ 32 ∷ rest → r ≡ Some (record { value = n; rest = rest })
  pub only : (t : Taken) → r ≡ Some t → (bs ≡ decimal t.value ++ 32 ∷ t.rest) × (t.value ≤ 65535)
