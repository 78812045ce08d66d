-- What a region says of a state and of a step.
use Rattle.std.specs.Prelude.{◌≡◌, ℕ, ◌<◌, Bool, true, false, cond, ◌&&◌, ◌⊎◌, List, Some, None, MatchBool, Option, nat_lt}
use Rattle.game.specs.Game.{Arena, Safe, Lost}
use Rattle.game.specs.Rows.{good}
use Rattle.game.specs.declared.row.Row.{Row}
use Rattle.region.specs.declared.judge.Passed.{Passed}

-- a covered state is one from which bad steps cannot be avoided for ever, and any other is safe
abbrev pub Judged : Arena → ℕ → Bool → Type 0
Judged g s r = s < g.states → MatchBool r (Lost g s) (Safe g s)

abbrev pub within : Arena → ℕ → ℕ → ℕ → Bool
within g s e a = nat_lt s g.states && (nat_lt e g.events && nat_lt a g.answers)

-- the next state, where the numbers are in range, the step is not bad and ends uncovered
abbrev pub passing : Arena → List Row → ℕ → ℕ → ℕ → Option ℕ
passing g rs s e a = cond (within g s e a && good g rs s e a) (Some (g.next s e a)) None

-- a step passes where it is not bad and bad steps can be avoided for ever after it, and no other step in range does
abbrev pub Passes : Arena → ℕ → ℕ → ℕ → Option ℕ → Type 0
Passes g s e a (Some n) = (n ≡ g.next s e a) × (g.bad s e a ≡ false) × Safe g n
Passes g s e a None =
    s < g.states → e < g.events → a < g.answers → (g.bad s e a ≡ true) ⊎ Lost g (g.next s e a)

-- the lowest answer whose step passes, with the state to which it leads; none where no step passes
abbrev pub Lowest : Arena → List Row → ℕ → ℕ → Option Passed → Type 0
Lowest g rs s e (Some p) =
    (passing g rs s e p.answer ≡ Some p.next) × ((b : ℕ) → b < p.answer → passing g rs s e b ≡ None)
Lowest g rs s e None = (b : ℕ) → passing g rs s e b ≡ None
