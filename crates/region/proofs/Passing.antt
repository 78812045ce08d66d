-- Which steps pass.
use Rattle.std.proofs.Common.{refl, is_some, option_map, ◌≡◌, ℕ, ◌<◌, ◌≤◌, Bool, true, false, List, Some, None, Ok, Option, inl, inr, arith}
use Rattle.std.proofs.lemmas.Bool.{cases_lt}
use Rattle.std.proofs.lemmas.Bool.Decides.{nat_tests}
use Rattle.game.specs.Game.{Arena, InRange, Safe}
use Rattle.game.specs.Models.{step_in}
use Rattle.game.specs.Rows.{covered, good}
use Rattle.game.specs.Runs.{Exact}
use Rattle.game.specs.declared.row.Row.{Row}
use Rattle.game.proofs.Answers.{exact_answered}
use Rattle.game.proofs.Covered.{good_parts, not_good}
use Rattle.region.specs.Judged.{within, passing, Passes, Lowest}
use Rattle.region.specs.Parts.{arena_in, rows_in}
use Rattle.region.specs.declared.judge.Passed.{Passed}
use Rattle.region.specs.declared.region.Region.{Region}
use Rattle.region.proofs.Exactness.{region_exact, region_playable}
use Rattle.region.proofs.FirstFound.{FirstFound}

module _ (g : Arena) (s e a : ℕ) where
  pub within_parts : within g s e a ≡ true → (s < g.states) × (e < g.events) × (a < g.answers)
  within_parts h = grind (arith, nat_tests)

  pub within_from : s < g.states → e < g.events → a < g.answers → within g s e a ≡ true
  within_from ls le la = grind (arith, nat_tests)

  -- what an answered step says of the numbers
  pub step_ok : (b : Bool) (n : ℕ) → Ok (b, n) ≡ step_in g s e a → (within g s e a ≡ true) × (b ≡ g.bad s e a) × (n ≡ g.next s e a)
  step_ok b n h = grind (arith, nat_tests)

module _ (g : Arena) (rs : List Row) (s e a : ℕ) where
  pub passing_good : s < g.states → e < g.events → a < g.answers → good g rs s e a ≡ true → passing g rs s e a ≡ Some (g.next s e a)
  passing_good ls le la h = grind (arith, nat_tests)

  pub passing_past : g.answers ≤ a → passing g rs s e a ≡ None
  passing_past la = grind (arith, nat_tests)

  -- what it says of a step that it passes, or does not
  pub some_parts : (n : ℕ) → Some n ≡ passing g rs s e a
      → (within g s e a ≡ true) × (good g rs s e a ≡ true) × (n ≡ g.next s e a)
  some_parts n h = grind (arith, nat_tests)

  pub none_parts : None ≡ passing g rs s e a → s < g.states → e < g.events → a < g.answers → good g rs s e a ≡ false
  none_parts h ls le la = grind (arith, nat_tests)

  -- what the equation of a step says of safety
  pub judged : InRange g → Exact g rs → (r : Option ℕ) → r ≡ passing g rs s e a → Passes g s e a r
  judged in_range ex (Some n) h =
      let w = some_parts n h in
      let b = within_parts g s e a w.0 in
      let p = good_parts g rs s e a w.1 in
      let safe : Safe g (g.next s e a) = ex.safe (g.next s e a) (in_range s e a b.0 b.1 b.2) p.1 in
      (w.2, p.0, rw w.2 safe)
  judged in_range ex None h =
      λ ls le la. elim (not_good g rs s e a (none_parts h ls le la)) [ inl b ↦ inl b | inr c ↦ inr (ex.lost (g.next s e a) (in_range s e a ls le la) c) ]

  -- an answer that passes, with the state to which it leads
  abbrev pub found : Option Passed
  found = option_map (λ n. record { answer = a; next = n }) (passing g rs s e a)

module _ (g : Arena) (rs : List Row) (s e : ℕ) where
  pub lowest : (o : Option Passed) → FirstFound (found g rs s e) g.answers o → Lowest g rs s e o
  lowest None f = λ b. elim (cases_lt b g.answers) [ inl l ↦ grind (arith, f b l) | inr l ↦ passing_past g rs s e b l ]
  lowest (Some p) f = grind arith

-- at an uncovered state some step passes
pub some_passes : (g : Arena) → InRange g → (rs : List Row) → Exact g rs → (s e : ℕ) → s < g.states → e < g.events
    → covered rs s ≡ false → ((b : ℕ) → passing g rs s e b ≡ None) → ⊥
some_passes g in_range rs ex s e ls le c none =
    let w = exact_answered g in_range rs ex s e ls le c in
    let p = passing_good g rs s e w.0 ls le w.1 w.2 in
    let n = none w.0 in
    cc

module _ (r : Region) (s e : ℕ) where
  -- on a region's own arena and rows
  pub region_judged : (a : ℕ) (o : Option ℕ) → o ≡ passing (arena_in r) (rows_in r) s e a → Passes (arena_in r) s e a o
  region_judged a = judged (arena_in r) (rows_in r) s e a (region_playable r).in_range (region_exact r)

  -- at an uncovered state some answer passes
  pub answered : (o : Option Passed) → Lowest (arena_in r) (rows_in r) s e o
      → s < (arena_in r).states → e < (arena_in r).events → covered (rows_in r) s ≡ false → is_some o ≡ true
  answered (Some p) h ls le c = refl
  answered None h ls le c = absurd (some_passes (arena_in r) (region_playable r).in_range (rows_in r) (region_exact r) s e ls le c h)
