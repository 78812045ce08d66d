-- The forced play: the place of the first covering row falls with each step.
use Rattle.std.proofs.Common.{◌≡◌, ℕ, zero, suc, ◌<◌, ◌≤◌, true, false, List, [], ◌∷◌, length, get_or, take, sym, refl, ap, ◌∙◌, subst, inl, inr, arith}
use Rattle.std.proofs.lemmas.List.{take_all, take-take}
use Rattle.std.proofs.lemmas.Bool.{both_ways}
use Rattle.roll.specs.First.{FirstAt}
use Rattle.roll.proofs.First.{first_of, first_take}
use Rattle.game.specs.Game.{Arena, InRange}
use Rattle.game.specs.Rows.{covered, good, JustifiedRows}
use Rattle.game.specs.Runs.{first_event, met, Forced}
use Rattle.game.specs.declared.row.Row.{Row}
use Rattle.game.proofs.Covered.{at, covered_take, first_event_lem, not_good}

-- the play after its first step is the play from the state reached, with the answers that are left
met_later : (g : Arena) (rs : List Row) (answer : ℕ → ℕ) (s i : ℕ)
    → met g rs answer s (suc i) ≡ met g rs (λ k. answer (suc k)) (g.next s (first_event rs s) (answer 0)) i
met_later g rs answer s zero = refl
met_later g rs answer s (suc i) =
    ap (λ t. g.next t (first_event rs t) (answer (suc i))) (met_later g rs answer s i)

-- more rows cover more
covered_upto : (rs : List Row) (i n s : ℕ) → i ≤ n → covered (take i rs) s ≡ true → covered (take n rs) s ≡ true
covered_upto rs i n s l e = covered_take (take n rs) i s (rw (take-take i n rs l) e)

some_of : (rs : List Row) (n : ℕ) → n < length rs → Row
some_of [] n l = absurd (omega arith)
some_of (r ∷ rs) n l = r

module _ (g : Arena) (in_range : InRange g) (rs : List Row) (justified : JustifiedRows g rs) where
  -- a bad step before the nth, and covered states up to it
  Ends : (ℕ → ℕ) → ℕ → ℕ → Type 0
  Ends answer s n =
      (j : ℕ) × (j < n)
      × (g.bad (met g rs answer s j) (first_event rs (met g rs answer s j)) (answer j) ≡ true)
      × ((i : ℕ) → i ≤ j → covered rs (met g rs answer s i) ≡ true)

  at_once : (answer : ℕ → ℕ) (s n : ℕ) → covered rs s ≡ true → g.bad s (first_event rs s) (answer 0) ≡ true → Ends answer s (suc n)
  unfolding Ends
  at_once answer s n c b = (0, omega arith, b, only)
    where
      only : (i : ℕ) → i ≤ 0 → covered rs (met g rs answer s i) ≡ true
      only zero l = c
      only (suc i) l = absurd (omega arith)

  later : (answer : ℕ → ℕ) (s n : ℕ) → covered rs s ≡ true
      → Ends (λ k. answer (suc k)) (g.next s (first_event rs s) (answer 0)) n → Ends answer s (suc n)
  unfolding Ends
  later answer s n c w = (
    suc w.0,
    omega (arith, w.1),
    (let P : ℕ → Type 0 = λ t. g.bad t (first_event rs t) (answer (suc w.0)) ≡ true in subst P (sym (met_later g rs answer s w.0)) w.2),
    upto,
  )
    where
      upto : (i : ℕ) → i ≤ suc w.0 → covered rs (met g rs answer s i) ≡ true
      upto zero l = c
      upto (suc i) l = ap (covered rs) (met_later g rs answer s i) ∙ w.3 i (omega arith)

  -- one step of the play, where the first rows up to place n cover the state
  step : (n : ℕ) (answer : ℕ → ℕ) → ((i : ℕ) → answer i < g.answers) → (s : ℕ) → s < g.states → covered (take (suc n) rs) s ≡ true
      → ((t : ℕ) → t < g.states → covered (take n rs) t ≡ true → Ends (λ k. answer (suc k)) t n)
      → (i : ℕ) × FirstAt (at s) (take (suc n) rs) i → Ends answer s (suc n)
  step n answer la s ls e rest w =
      let f = first_take (at s) rs (suc n) w.0 w.1 in
      let d = some_of rs w.0 f.1.within in
      let c : covered rs s ≡ true = covered_take rs (suc n) s e in
      let q : first_event rs s ≡ (get_or rs w.0 d).event = first_event_lem rs s w.0 d f.1 in
      let ev : first_event rs s < g.events =
      (let P : ℕ → Type 0 = λ t. t < g.events in subst P (sym q) (justified w.0 d f.1.within).0) in
      let j : good g (take w.0 rs) s (first_event rs s) (answer 0) ≡ false =
      (let P : ℕ → Type 0 = λ t. good g (take w.0 rs) s t (answer 0) ≡ false in
      subst P (sym q) ((justified w.0 d f.1.within).1 s (answer 0) ls (la 0) (f.1.passes d))) in
      elim (not_good g (take w.0 rs) s (first_event rs s) (answer 0) j) [
        | inl b ↦ at_once answer s n c b
        | inr r ↦ later answer s n c
            (rest (g.next s (first_event rs s) (answer 0)) (in_range s (first_event rs s) (answer 0) ls ev (la 0))
            (covered_upto rs w.0 n (g.next s (first_event rs s) (answer 0)) (omega (arith, f.0)) r))
      ]

  play : (n : ℕ) → n ≤ length rs → (answer : ℕ → ℕ) → ((i : ℕ) → answer i < g.answers)
      → (s : ℕ) → s < g.states → covered (take n rs) s ≡ true → Ends answer s n
  play zero l answer la s ls e = absurd (both_ways false refl e)
  play (suc n) l answer la s ls e =
      step n answer la s ls e (λ t lt c. play n (omega arith) (λ k. answer (suc k)) (λ k. la (suc k)) t lt c)
      (first_of (at s) (take (suc n) rs) e)

  pub forced : (s : ℕ) → s < g.states → covered rs s ≡ true → Forced g rs s
  unfolding Ends
  forced s ls e answer la = play (length rs) (omega arith) answer la s ls (rw (take_all (length rs) rs (omega arith)) e)
