-- How a clause stands under a table of values, by its first literals.
use Rattle.std.specs.Prelude.{◌≡◌, ℕ, ◌<◌, List, ◌≢◌, slice_index, slice_index_or}
use Rattle.splitting.specs.Cells.{Unset, Fails, Met}
use Rattle.splitting.specs.declared.clause.State.{State}
use Rattle.splitting.specs.declared.clause.State.TheVariants.{Satisfied, Forces, Conflict, Open}

-- of the first i literals of c, l has no value and every other is false
pub record Forced (c value : List ℕ) (i l : ℕ) : Type 0 where
  pub place : ℕ
  pub below : place < i
  pub is : slice_index_or c place 0 ≡ l
  pub unset : Unset value l
  pub others : (k : ℕ) → k < i → (slice_index c k ≢ l) → Fails value (slice_index c k)

-- l is one of the first i literals of c, and it and a later one have no value
pub record Undecided (c value : List ℕ) (i l : ℕ) : Type 0 where
  pub place : ℕ
  pub other : ℕ
  pub order : place < other
  pub below : other < i
  pub is : slice_index_or c place 0 ≡ l
  pub unset : Unset value l
  pub other_unset : Unset value (slice_index c other)

abbrev pub Standing : State → List ℕ → List ℕ → ℕ → Type 0
Standing Satisfied c value i = Met value c
Standing (Forces l) c value i = Forced c value i l
Standing Conflict c value i = (k : ℕ) → k < i → Fails value (slice_index c k)
Standing (Open l) c value i = Undecided c value i l

-- a state and one more literal that has no value
abbrev pub Joined : State → ℕ → State
Joined Satisfied l = Satisfied
Joined Conflict l = Forces l
Joined (Forces first) l = Open first
Joined (Open first) l = Open first
