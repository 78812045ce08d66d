use Rattle.std.proofs.Common.{◌∙◌, get_or}
use Rattle.game.specs.Rows.{blank_row}
use Rattle.game.proofs.Judged.{forcing_at, forcing_none, forces_at}
use Rattle.game.proofs.covers.forcing_event.Goals as goal

pub returns-in_err-place-clause-value : goal.returns-in_err-place-clause-value
returns-in_err-place-clause-value c = c.from_residual.ensures ∙ forcing_none _ _ c.in_err-place.ensures.cases

pub returns-clause-value : goal.returns-clause-value
returns-clause-value c = forcing_at _ _ _ blank_row c.in_ok-place.ensures.cases

pub returns-clause-forces : goal.returns-clause-forces
returns-clause-forces c = forces_at c.args.rows.now c.args.state c.in_ok-place.place (get_or c.args.rows.now c.in_ok-place.place blank_row).event blank_row c.in_ok-place.ensures.cases
