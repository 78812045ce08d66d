-- What the answers about rows and a state say of the game.
use Rattle.std.proofs.Common.{◌≡◌, ℕ, Bool, true, false, List, get_or, Some, None, sym, ap, ◌∙◌}
use Rattle.std.proofs.lemmas.Bool.{cond-true, cond-false}
use Rattle.roll.specs.First.{FirstAt, NonePasses}
use Rattle.roll.proofs.First.{any_at, none_any}
use Rattle.game.specs.Rows.{covered}
use Rattle.game.specs.Runs.{first_event}
use Rattle.game.specs.Judged.{Judges, forcing, Forces}
use Rattle.game.specs.declared.row.Row.{Row}
use Rattle.game.proofs.Covered.{at, first_event_lem}
use Rattle.game.proofs.Exactness.{covered_lost}
use Rattle.game.proofs.Play.{forced}

pub judges : (rs : List Row) (s : ℕ) (r : Bool) → r ≡ covered rs s → Judges rs s r
judges rs s true e g exact ls = exact.lost s ls (sym e)
judges rs s false e g exact ls = exact.safe s ls (sym e)

pub forcing_at : (rs : List Row) (s i : ℕ) (d : Row) → FirstAt (at s) rs i → Some (get_or rs i d).event ≡ forcing rs s
forcing_at rs s i d f =
    sym (cond-true (covered rs s) (Some (first_event rs s)) None (any_at (at s) rs i d f.within (f.passes d)) ∙ ap Some (first_event_lem rs s i d f))

pub forcing_none : (rs : List Row) (s : ℕ) → NonePasses (at s) rs → None ≡ forcing rs s
forcing_none rs s h = sym (cond-false (covered rs s) (Some (first_event rs s)) None (none_any (at s) rs h))

pub forces_at : (rs : List Row) (s i e : ℕ) (d : Row) → FirstAt (at s) rs i → Forces rs s (Some e)
forces_at rs s i e d f g in_range justified ls =
    let c = any_at (at s) rs i d f.within (f.passes d) in
    (forced g in_range rs justified s ls c, covered_lost g in_range rs justified s ls c)
