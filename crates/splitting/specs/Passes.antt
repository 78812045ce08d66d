-- Passes over the clauses.
use Rattle.std.specs.Prelude.{◌≡◌, ℕ, ◌/◌, ◌<◌, Bool, true, false, List, length, Some, None, Option}
use Rattle.splitting.specs.Cells.{Unset}
use Rattle.splitting.specs.Trails.{AllMet, Clash}
use Rattle.splitting.specs.declared.propagate.Pass.{Pass}
use Rattle.splitting.specs.declared.propagate.Pass.TheVariants as pass
use Rattle.splitting.specs.declared.propagate.End.{End}
use Rattle.splitting.specs.declared.propagate.End.TheVariants.{Done, Stuck, Choose}

-- a literal without a value, in the table
abbrev pub Free : List ℕ → ℕ → Type 0
Free value l = Unset value l × (l / 2 < length value)

abbrev pub opened : Pass → ℕ → Pass
opened pass.Clean l = pass.Open l
opened (pass.Open first) l = pass.Open first
opened pass.Changed l = pass.Changed

-- what a pass comes to at the last clause, where every clause is met or not; after a change another is due
abbrev pub pass_end : Pass → Bool → Option End
pass_end pass.Clean whole = Some Done
pass_end (pass.Open l) whole = Some (Choose l)
pass_end pass.Changed true = Some Done
pass_end pass.Changed false = None

-- what a pass knows that has come to place p, where every clause before the front is met
abbrev pub Passing : Pass → List ℕ → ℕ → ℕ → Type 0
Passing pass.Clean value front p = front ≡ p
Passing (pass.Open l) value front p = Free value l
Passing pass.Changed value front p = Unit {0}

-- after a change one more pass is due
abbrev pub due : Pass → ℕ
due pass.Clean = 0
due (pass.Open l) = 0
due pass.Changed = 1

abbrev pub Ended : End → List ℕ → List ℕ → List ℕ → ℕ → Type 0
Ended Done cells value trail n = AllMet cells value
Ended (Stuck p) cells value trail n = Clash cells trail n p × (p < length cells)
Ended (Choose l) cells value trail n = Free value l
