-- When a session is at home on a region: its state is one of the arena's, and uncovered.
use Rattle.std.proofs.Common.{◌≡◌, ◌<◌, true, false, List, arith}
use Rattle.std.proofs.lemmas.Bool.Decides.{nat_tests}
use Rattle.region.specs.Subject.{Arena, Row, covered}
use Rattle.session.specs.Sessions.{Stage, waiting, pending, ForeignTo, at_home}

module _ (g : Arena) (rs : List Row) where
  -- what keeps a session at home
  abbrev pub Home : Stage → Type 0
  Home (waiting s) = (s < g.states) × (covered rs s ≡ false)
  Home (pending s e) = (s < g.states) × (covered rs s ≡ false) × (e < g.events)

  pub home_not_foreign : (t : Stage) → Home t → ForeignTo g rs t → ⊥
  home_not_foreign (waiting s) h f = grind arith
  home_not_foreign (pending s e) h f = grind arith

  pub home_parts : (t : Stage) → at_home g rs t ≡ true → Home t
  home_parts (waiting s) h = grind (arith, nat_tests)
  home_parts (pending s e) h = grind (arith, nat_tests)

  pub not_home : (t : Stage) → at_home g rs t ≡ false → ForeignTo g rs t
  not_home (waiting s) h = grind (arith, nat_tests)
  not_home (pending s e) h = grind (arith, nat_tests)

  pub own : (t : Stage) → at_home g rs t ≡ true → ForeignTo g rs t → ⊥
  own t h = home_not_foreign t (home_parts t h)
