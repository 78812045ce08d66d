-- What a search holds, and what its calls leave as it is.
use Rattle.std.specs.Prelude.{◌≡◌}
use Rattle.sat.specs.declared.solver.Solver.{Ghosts}
use Rattle.synthesis.specs.Runs.{Lent, lent, Alike}
use Rattle.synthesis.specs.declared.state.Search.{Search}

abbrev pub lent_to : {C A : Type 0} {c : Ghosts C} {a : Ghosts A} → Search C A c a → Lent
lent_to {c = c} {a = a} s =
    lent s.model.now s.rows.now s.exceptions.now (c.meaning s.candidate.now) (a.meaning s.answer.now) s.work.now

-- the same loans, of the same sizes
pub record Same {C A : Type 0} {c : Ghosts C} {a : Ghosts A} (before after : Search C A c a) : Type 0 where
  pub candidate : after.candidate.ghost_name ≡ before.candidate.ghost_name
  pub answer : after.answer.ghost_name ≡ before.answer.ghost_name
  pub rows : after.rows.ghost_name ≡ before.rows.ghost_name
  pub exceptions : after.exceptions.ghost_name ≡ before.exceptions.ghost_name
  pub work : after.work.ghost_name ≡ before.work.ghost_name
  pub sizes : Alike (lent_to before) (lent_to after)
