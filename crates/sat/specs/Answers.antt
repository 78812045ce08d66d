-- What a solver's answer says of its clauses, and what it leaves in the two buffers.
use Rattle.std.specs.Prelude.{◌≡◌, ℕ, ◌+◌, ◌<◌, ◌≤◌, true, List, ◌++◌, length, drop, replicate, Ok, Err, Result, slice_index, slice_index_or, slice_set}
use Rattle.literal.specs.declared.Literal.{Literal}
use Rattle.sat.specs.declared.answer.Answer.{Answer}
use Rattle.sat.specs.declared.answer.Answer.TheVariants.{Yes, No}
use Rattle.sat.specs.declared.fault.SolverFault.{SolverFault}
use Rattle.sat.specs.Clauses.{Clause, satisfies, all_true, Satisfiable, Unsatisfiable, marked, byte_values}

abbrev pub answer_number : Answer → ℕ
answer_number No = 0
answer_number Yes = 1

-- the value bytes of a yes over V variables: which values they are is free, but that they satisfy everything
pub record Solved (V : ℕ) (cs : List Clause) (assumed : List Literal) (before after : List ℕ) : Type 0 where
  pub zero : slice_index_or after 0 0 ≡ 0
  pub bits : (k : ℕ) → k ≤ V → slice_index after k ≤ 1
  pub clauses : satisfies (byte_values after) cs ≡ true
  pub assumptions : all_true (byte_values after) assumed ≡ true
  pub rest : drop (V + 1) after ≡ drop (V + 1) before

-- the marks of a no: which assumptions are marked is free, but that with them the clauses have no satisfying values
pub record Refuted (cs : List Clause) (assumed : List Literal) (before after : List ℕ) : Type 0 where
  pub bits : (k : ℕ) → k < length assumed → slice_index after k ≤ 1
  pub none : Unsatisfiable cs (marked assumed after)
  pub rest : drop (length assumed) after ≡ drop (length assumed) before

-- the marks of a narrow no: the first assumptions are marked, and no other marked one can be left out alone
pub record Narrowed (cs : List Clause) (assumed : List Literal) (first : ℕ) (before after : List ℕ) : Type 0 where
  pub refuted : Refuted cs assumed before after
  pub firsts : (k : ℕ) → k < first → slice_index after k ≡ 1
  pub narrow :
      (k : ℕ) → first ≤ k → k < length assumed → slice_index after k ≡ 1 → Satisfiable cs (marked assumed (slice_set after k 0))

-- bytes with the first n zeroed
abbrev pub zeroed : ℕ → List ℕ → List ℕ
zeroed n bytes = replicate n 0 ++ drop n bytes

-- the two buffers after a decision; values and marks before it, and after it
abbrev pub Decided :
    ℕ → List Clause → List Literal → List ℕ → List ℕ → List ℕ → List ℕ → Result Answer SolverFault → Type 0
Decided V cs assumed values marks values' marks' (Ok Yes) = Solved V cs assumed values values' × (marks' ≡ marks)
Decided V cs assumed values marks values' marks' (Ok No) = Refuted cs assumed marks marks' × (values' ≡ values)
Decided V cs assumed values marks values' marks' (Err e) = (values' ≡ values) × (marks' ≡ marks)

-- the same where a no is narrow, and zeroes the values
abbrev pub DecidedNarrowly :
    ℕ → List Clause → List Literal → ℕ → List ℕ → List ℕ → List ℕ → List ℕ → Result Answer SolverFault → Type 0
DecidedNarrowly V cs assumed first values marks values' marks' (Ok Yes) = Solved V cs assumed values values' × (marks' ≡ marks)
DecidedNarrowly V cs assumed first values marks values' marks' (Ok No) =
    Narrowed cs assumed first marks marks' × (values' ≡ zeroed (V + 1) values)
DecidedNarrowly V cs assumed first values marks values' marks' (Err e) = (values' ≡ values) × (marks' ≡ marks)
