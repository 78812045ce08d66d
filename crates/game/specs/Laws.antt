-- Laws of the game, for every arena whose steps end in range.
use Rattle.std.specs.Prelude.{◌≡◌, ℕ, suc, ◌<◌, ◌≤◌, true, false, List, [], ◌∷◌, ◌++◌, length, slice_index_or}
use Rattle.game.specs.Game.{Arena, InRange, lasts, Safe, Lost}
use Rattle.game.specs.Rows.{row_covers, covered, good, Justified, JustifiedRows, Answered, AllGood, GoodRows, exception_covers, Serves, GoodExceptions, RowDue, ExceptionDue}
use Rattle.game.specs.Runs.{Exact, Forced, Kept, GivenUp}
use Rattle.game.specs.declared.exception.Exception.{Exception}
use Rattle.game.specs.declared.row.Row.{Row}

-- who lasts some steps lasts fewer
abbrev pub LastingFalls : Type 0
LastingFalls = (g : Arena) (k h s : ℕ) → k ≤ h → lasts g h s ≡ true → lasts g k s ≡ true

-- no state is safe and lost, and a state from which the host does not last some number of steps is lost
pub record SafeOrLost : Type 0 where
  pub apart : (g : Arena) (s : ℕ) → Safe g s → Lost g s → ⊥
  pub fails : (g : Arena) (h s : ℕ) → lasts g h s ≡ false → Lost g s

-- a state covered by the row at place j does not last j + 1 steps
abbrev pub RowsForce : Type 0
RowsForce =
    (g : Arena) → InRange g → (rs : List Row) → JustifiedRows g rs
    → (j s : ℕ) (d : Row) → j < length rs → s < g.states → row_covers (slice_index_or rs j d) s ≡ true → lasts g (suc j) s ≡ false

-- where every event can be answered outside the rows, the states outside are safe
abbrev pub RestSafe : Type 0
RestSafe =
    (g : Arena) → InRange g → (rs : List Row) → Answered g rs → (s : ℕ) → s < g.states → covered rs s ≡ false → Safe g s

-- both: the rows cover exactly the lost states
abbrev pub RowsExact : Type 0
RowsExact =
    (g : Arena) → InRange g → (rs : List Row) → JustifiedRows g rs → Answered g rs → covered rs 0 ≡ false → Exact g rs

-- coverage by an exact list does not depend on the list
abbrev pub OneCover : Type 0
OneCover = (g : Arena) (xs ys : List Row) → Exact g xs → Exact g ys → (s : ℕ) → s < g.states → covered xs s ≡ covered ys s

-- outside exact rows every event can be answered, so that the host stays outside
abbrev pub ExactAnswered : Type 0
ExactAnswered = (g : Arena) → InRange g → (rs : List Row) → Exact g rs → Answered g rs

-- raising in each state the event of the first row that covers it forces a bad step within as many steps as there are rows
abbrev pub PlayForced : Type 0
PlayForced =
    (g : Arena) → InRange g → (rs : List Row) → JustifiedRows g rs → (s : ℕ) → s < g.states → covered rs s ≡ true → Forced g rs s

-- a row stays justified when earlier rows are added, wherever they are put
abbrev pub JustifiedKept : Type 0
JustifiedKept =
    (g : Arena) (before earlier after : List Row) (r : Row) → Justified g earlier r → Justified g (before ++ (earlier ++ after)) r

-- why a row may not rest on itself: in an arena where nothing is ever bad, such a row would cover a safe state
pub record HarmlessLoop : Type 0 where
  pub arena : Arena
  pub in_range : InRange arena
  pub never_bad : (s e a : ℕ) → arena.bad s e a ≡ false
  pub row : Row
  pub by_itself : Justified arena (row ∷ []) row
  pub by_none : Justified arena [] row → ⊥
  pub state : ℕ
  pub inside : state < arena.states
  pub covers : row_covers row state ≡ true
  pub safe : Safe arena state

-- what is due, where there is at least one answer: neither a row nor an exception is due exactly when every answer is good outside
-- the exceptions, and where no row is due every event can be answered
pub record DueLaw (g : Arena) (rs : List Row) (xs : List Exception) : Type 0 where
  pub no_row : AllGood g rs xs → RowDue g rs → ⊥
  pub no_exception : AllGood g rs xs → ExceptionDue g rs xs → ⊥
  pub all_good : (RowDue g rs → ⊥) → (ExceptionDue g rs xs → ⊥) → AllGood g rs xs
  pub answered : (RowDue g rs → ⊥) → Answered g rs

abbrev pub Dues : Type 0
Dues = (g : Arena) (rs : List Row) (xs : List Exception) → 0 < g.answers → GoodExceptions g rs xs → DueLaw g rs xs

-- an exception that one answer serves is harmless where the earlier ones are
abbrev pub ServedHarmless : Type 0
ServedHarmless =
    (g : Arena) (rs : List Row) (earlier : List Exception) (x : Exception) (answer : ℕ) → GoodExceptions g rs earlier
    → answer < g.answers → Serves g rs earlier x answer
    → (s e : ℕ) → s < g.states → e < g.events → exception_covers x s e ≡ true → covered rs s ≡ false
    → (a : ℕ) × (a < g.answers) × (good g rs s e a ≡ true)

-- rows and exceptions with which a run may end: nothing is left to do, or the newest row covers reset
abbrev pub KeptRun : Type 0
KeptRun =
    (g : Arena) → InRange g → 0 < g.states → 0 < g.answers
    → (rs : List Row) (xs : List Exception) (row_places exception_places : ℕ) → GoodRows g rs → length rs ≤ row_places
    → GoodExceptions g rs xs → length xs ≤ exception_places → AllGood g rs xs → covered rs 0 ≡ false
    → Kept g row_places exception_places rs

abbrev pub LostRun : Type 0
LostRun =
    (g : Arena) → InRange g → 0 < g.states → (earlier : List Row) (r : Row) (row_places : ℕ)
    → GoodRows g (earlier ++ (r ∷ [])) → length (earlier ++ (r ∷ [])) ≤ row_places → row_covers r 0 ≡ true → covered earlier 0 ≡ false
    → GivenUp g row_places (earlier ++ (r ∷ []))
