-- What a run may answer, and what its rows then are.
use Rattle.std.specs.Prelude.{◌≡◌, ℕ, zero, suc, ◌-◌, ◌<◌, ◌≤◌, true, false, cond, List, [], ◌∷◌, length, take, slice_index_or}
use Rattle.game.specs.Game.{Arena, Safe, Lost}
use Rattle.game.specs.Rows.{row_covers, covered, GoodRows, GoodExceptions, RowDue, ExceptionDue}
use Rattle.game.specs.declared.row.Row.{Row}
use Rattle.game.specs.declared.exception.Exception.{Exception}

-- the event of the first row that covers a state (0 where none does)
abbrev pub first_event : List Row → ℕ → ℕ
first_event [] s = 0
first_event (r ∷ rs) s = cond (row_covers r s) r.event (first_event rs s)

-- the states met from a state, where each event is that of the first row covering the state, and the host answers as it likes
abbrev pub met : Arena → List Row → (ℕ → ℕ) → ℕ → ℕ → ℕ
met g rs answer s zero = s
met g rs answer s (suc i) = g.next (met g rs answer s i) (first_event rs (met g rs answer s i)) (answer i)

-- whatever the host answers, a bad step comes within as many steps as there are rows, and each state met up to it is covered
abbrev pub Forced : Arena → List Row → ℕ → Type 0
Forced g rs s =
    (answer : ℕ → ℕ) → ((i : ℕ) → answer i < g.answers)
    → (j : ℕ) × (j < length rs)
    × (g.bad (met g rs answer s j) (first_event rs (met g rs answer s j)) (answer j) ≡ true)
    × ((i : ℕ) → i ≤ j → covered rs (met g rs answer s i) ≡ true)

-- the rows cover exactly the lost states, and not reset
pub record Exact (g : Arena) (rs : List Row) : Type 0 where
  pub safe : (s : ℕ) → s < g.states → covered rs s ≡ false → Safe g s
  pub lost : (s : ℕ) → s < g.states → covered rs s ≡ true → Lost g s
  pub reset : covered rs 0 ≡ false

-- kept: neither a row nor an exception is due
pub record Kept (g : Arena) (row_places exception_places : ℕ) (rs : List Row) : Type 0 where
  pub rows : GoodRows g rs
  pub within : length rs ≤ row_places
  pub exact : Exact g rs
  pub verdict : Safe g 0
  pub exceptions : List Exception
  pub good : GoodExceptions g rs exceptions
  pub few : length exceptions ≤ exception_places
  pub no_row_due : RowDue g rs → ⊥
  pub no_exception_due : ExceptionDue g rs exceptions → ⊥

-- lost: the newest row covers reset
pub record GivenUp (g : Arena) (row_places : ℕ) (rs : List Row) : Type 0 where
  pub rows : GoodRows g rs
  pub within : length rs ≤ row_places
  pub verdict : Lost g 0
  pub last : (d : Row) → row_covers (slice_index_or rs (length rs - 1) d) 0 ≡ true
  pub before : covered (take (length rs - 1) rs) 0 ≡ false
  pub forced : Forced g rs 0

-- a row is due, and every row place is used
pub record RowsFull (g : Arena) (places : ℕ) (rs : List Row) : Type 0 where
  pub rows : GoodRows g rs
  pub full : length rs ≡ places
  pub due : RowDue g rs
  pub reset_open : covered rs 0 ≡ false

-- an exception is due, and every exception place is used
pub record ExceptionsFull (g : Arena) (row_places exception_places : ℕ) (rs : List Row) : Type 0 where
  pub rows : GoodRows g rs
  pub within : length rs ≤ row_places
  pub exceptions : List Exception
  pub good : GoodExceptions g rs exceptions
  pub full : length exceptions ≡ exception_places
  pub due : ExceptionDue g rs exceptions
  pub reset_open : covered rs 0 ≡ false
