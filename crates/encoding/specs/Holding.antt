-- Holding clauses one after another, up to the first that is refused.
use Rattle.std.specs.Prelude.{◌≡◌, ℕ, ◌+◌, ◌≤◌, Bool, true, List, [], ◌∷◌, ◌++◌, Some, None, Option}
use Rattle.sat.specs.declared.fault.SolverFault.{SolverFault}
use Rattle.sat.specs.Clauses.{Clause, Meaning, cells_of, free, with_clause, with_clauses}
use Rattle.sat.specs.Faults.{hold_fault}

-- what is left by a clause's refusal or by those after it
abbrev pub else_after : {X : Type 0} → (SolverFault → X) → X → Option SolverFault → X
else_after stop go None = go
else_after stop go (Some f) = stop f

-- what a solver means after, and the refusal
abbrev pub held_after : Meaning → List Clause → Meaning
held_after m [] = m
held_after m (c ∷ cs) = else_after (λ f. m) (held_after (with_clause m c) cs) (hold_fault m.variables (free m) c)

abbrev pub held_fault : Meaning → List Clause → Option SolverFault
held_fault m [] = None
held_fault m (c ∷ cs) = else_after Some (held_fault (with_clause m c) cs) (hold_fault m.variables (free m) c)

-- what holding clauses one after another does to a solver, and what it answers
pub record Held (m : Meaning) (added : List Clause) (m' : Meaning) (refusal : Option SolverFault) : Type 0 where
  pub refused : refusal ≡ held_fault m added
  pub after : m' ≡ held_after m added

-- where the largest variable and the free cells are enough, all clauses are held
abbrev pub Whole : ℕ → ℕ → Meaning → List Clause → Meaning → Bool → Type 0
Whole variables need m added m' ok =
    variables ≤ m.variables → cells_of m.clauses + need ≤ m.cells → (ok ≡ true) × (m' ≡ with_clauses m (m.clauses ++ added))
