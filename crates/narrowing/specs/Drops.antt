-- What becomes of the marks when one assumption is tried without.
use Rattle.std.specs.Prelude.{◌≡◌, ℕ, ◌<◌, ◌≤◌, ◌⊎◌, List, length, drop, slice_index, slice_index_or, slice_set}
use Rattle.literal.specs.declared.Literal.{Literal}
use Rattle.sat.specs.Clauses.{Clause, Satisfiable, Unsatisfiable, marked}

-- fewer marks, not on assumption i and still on the first ones, are enough
pub record Dropped (cs : List Clause) (assumed : List Literal) (first i : ℕ) (before after : List ℕ) : Type 0 where
  pub bound : (k : ℕ) → slice_index after k ≤ slice_index before k
  pub fewer : (k : ℕ) → slice_index after k ≡ 1 → slice_index before k ≡ 1
  pub firsts : (k : ℕ) → k < first → slice_index after k ≡ slice_index before k
  pub gone : slice_index_or after i 0 ≡ 1 → ⊥
  pub none : Unsatisfiable cs (marked assumed after)
  pub rest : drop (length assumed) after ≡ drop (length assumed) before

-- assumption i is needed, or is dropped with others
abbrev pub Tried : List Clause → List Literal → ℕ → ℕ → List ℕ → List ℕ → Type 0
Tried cs assumed first i before after =
    ((after ≡ before) × Satisfiable cs (marked assumed (slice_set before i 0))) ⊎ Dropped cs assumed first i before after
