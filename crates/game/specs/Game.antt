-- The host as a game: what a step does, how long the host lasts, and from which states it lasts for ever.
use Rattle.std.specs.Prelude.{◌≡◌, ℕ, zero, suc, ◌<◌, Bool, true, false, not, ◌&&◌, ◌||◌}

-- the numbers of states, events and answers, and the two things that a step answers
pub record Arena : Type 0 where
  pub states : ℕ
  pub events : ℕ
  pub answers : ℕ
  pub bad : ℕ → ℕ → ℕ → Bool
  pub next : ℕ → ℕ → ℕ → ℕ

-- a step from one of the states, by one of the events and one of the answers, ends in one of the states
abbrev pub InRange : Arena → Type 0
InRange g = (s e a : ℕ) → s < g.states → e < g.events → a < g.answers → g.next s e a < g.states

-- whether a test passes at some number below a limit, and at every one
abbrev pub some : ℕ → (ℕ → Bool) → Bool
some zero p = false
some (suc n) p = p n || some n p

abbrev pub every : ℕ → (ℕ → Bool) → Bool
every zero p = true
every (suc n) p = p n && every n p

-- whether the host lasts that many steps from a state: for every event, some answer gives a step that is not bad, to a state
-- from which it lasts one step less
abbrev pub lasts : Arena → ℕ → ℕ → Bool
lasts g zero s = true
lasts g (suc h) s = every g.events (λ e. some g.answers (λ a. not (g.bad s e a) && lasts g h (g.next s e a)))

-- bad steps can be avoided for ever
abbrev pub Safe : Arena → ℕ → Type 0
Safe g s = (h : ℕ) → lasts g h s ≡ true

abbrev pub Lost : Arena → ℕ → Type 0
Lost g s = Safe g s → ⊥
