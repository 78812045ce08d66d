-- What the answers about rows and a state say of the game.
use Rattle.std.specs.Prelude.{ℕ, ◌<◌, Bool, cond, List, Some, None, MatchBool, Option}
use Rattle.game.specs.Game.{Arena, InRange, Safe, Lost}
use Rattle.game.specs.Rows.{covered, JustifiedRows}
use Rattle.game.specs.Runs.{first_event, Forced, Exact}
use Rattle.game.specs.declared.row.Row.{Row}

-- where the rows are exact, a covered state is lost and any other is safe
abbrev pub Judges : List Row → ℕ → Bool → Type 0
Judges rs s r = (g : Arena) → Exact g rs → s < g.states → MatchBool r (Lost g s) (Safe g s)

-- the event of the first row that covers the state
abbrev pub forcing : List Row → ℕ → Option ℕ
forcing rs s = cond (covered rs s) (Some (first_event rs s)) None

-- where the rows are justified and one covers the state, the play from it is forced, and the state is lost
abbrev pub Forces : List Row → ℕ → Option ℕ → Type 0
Forces rs s None = Unit {0}
Forces rs s (Some e) = (g : Arena) → InRange g → JustifiedRows g rs → s < g.states → Forced g rs s × Lost g s
