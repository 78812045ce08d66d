-- That rows are exact, in two facts: outside them the host lasts every number of steps, and the states inside are lost.
use Rattle.std.specs.Prelude.{◌≡◌, ℕ, Bool, true, not, ◌&&◌, List, nat_lt}
use Rattle.game.specs.Game.{Arena, lasts, Lost}
use Rattle.game.specs.Rows.{covered}
use Rattle.game.specs.declared.row.Row.{Row}

-- one of the arena's states, outside the rows, and inside
abbrev pub outside : Arena → List Row → ℕ → Bool
outside g rs s = nat_lt s g.states && not (covered rs s)

abbrev pub inside : Arena → List Row → ℕ → Bool
inside g rs s = nat_lt s g.states && covered rs s

abbrev pub SafeOutside : Arena → List Row → Type 0
SafeOutside g rs = (s h : ℕ) → outside g rs s ≡ true → lasts g h s ≡ true

abbrev pub LostInside : Arena → List Row → Type 0
LostInside g rs = (s : ℕ) → inside g rs s ≡ true → Lost g s
