-- Clauses from entries into a solver.
use Rattle.std.specs.Prelude.{◌≡◌, ℕ, ◌<◌, List, [], ◌∷◌, ◌++◌, length, Some, ◌≢◌, slice_index_or}
use Rattle.literal.specs.declared.Literal.{Literal}
use Rattle.sat.specs.Clauses.{Clause, Meaning, free, with_clauses}
use Rattle.sat.specs.declared.fault.SolverFault.{SolverFault}
use Rattle.sat.specs.Faults.{hold_fault}
use Rattle.dimacs_text.specs.Entries.{end, terminated}
use Rattle.dimacs_text.specs.declared.fault.DimacsFault.{DimacsFault}
use Rattle.dimacs_text.specs.declared.fault.DimacsFault.TheVariants.{HeaderMissing, HeaderMalformed, EntryMalformed, ClauseUnfinished, CountWrong, MemoryShort, Refused}

-- no 0 among entries
abbrev pub Endless : List Literal → Type 0
Endless ls = (k : ℕ) → k < length ls → (slice_index_or ls k end).code ≢ 0

-- entries that are so many clauses, each with its 0, have gone to the end of a solver's clauses
pub record Loaded (entries : List Literal) (count : ℕ) (before after : Meaning) : Type 0 where
  pub clauses : List Clause
  pub whole : entries ≡ terminated clauses
  pub held : after ≡ with_clauses before (before.clauses ++ clauses)
  pub counted : length clauses ≡ count

-- entries that end in a clause without its 0
pub record Unfinished (entries : List Literal) : Type 0 where
  pub clauses : List Clause
  pub last : List Literal
  pub whole : entries ≡ terminated clauses ++ last
  pub endless : Endless last
  pub some : last ≡ [] → ⊥

-- entries that are another number of clauses
pub record Miscounted (entries : List Literal) (count : ℕ) : Type 0 where
  pub clauses : List Clause
  pub whole : entries ≡ terminated clauses
  pub counted : length clauses ≡ count → ⊥

-- a clause that the solver refuses after it has taken those before it
pub record Stopped (entries : List Literal) (before after : Meaning) (e : SolverFault) : Type 0 where
  pub clauses : List Clause
  pub clause : Clause
  pub rest : List Literal
  pub whole : entries ≡ terminated clauses ++ (clause ++ end ∷ rest)
  pub held : after ≡ with_clauses before (before.clauses ++ clauses)
  pub refused : Some e ≡ hold_fault before.variables (free after) clause

-- why the entries were not loaded; where no clause was refused, which clauses the solver holds then is free
abbrev pub Unloaded : DimacsFault → List Literal → ℕ → Meaning → Meaning → Type 0
Unloaded ClauseUnfinished entries count before after = Unfinished entries
Unloaded CountWrong entries count before after = Miscounted entries count
Unloaded (Refused e) entries count before after = Stopped entries before after e
Unloaded HeaderMissing entries count before after = ⊥
Unloaded HeaderMalformed entries count before after = ⊥
Unloaded EntryMalformed entries count before after = ⊥
Unloaded MemoryShort entries count before after = ⊥
