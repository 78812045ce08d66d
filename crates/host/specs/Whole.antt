-- What serving comes to: the run's verdict, and where the host is kept what its calls are told.
use Rattle.std.specs.Prelude.{◌≡◌, ℕ, List, Ok, Err, Result}
use Rattle.game.specs.Game as game
use Rattle.region.specs.Subject.{Arena, Row, Exact}
use Rattle.session.specs.Laws.{Law}
use Rattle.session.specs.Sessions.{Stage, waiting}
use Rattle.synthesis.specs.declared.fault.RunFault.{RunFault}
use Rattle.synthesis.specs.declared.verdict.Verdict.{Verdict}
use Rattle.synthesis.specs.declared.verdict.Verdict.TheVariants.{Kept, Lost}
use Rattle.host.specs.Served.{Served}
use Rattle.host.specs.declared.exchange.Exchange.{Exchange}

-- a session was opened at reset on rows that cover exactly the lost states, and each call has its reply
pub record Attended (g : Arena) (rows : List Row) (after : List Exchange) : Type 0 where
  pub safe : game.Safe g 0
  pub exact : Exact g rows
  pub end : Stage
  pub served : Served g (waiting 0) after end
  pub law : Law g rows

-- a host that is lost is not served, and nothing of the list is touched
pub record Unattended (g : Arena) (before after : List Exchange) : Type 0 where
  pub lost : game.Lost g 0
  pub same : after ≡ before

-- by the verdict
abbrev pub AttendedBy : Arena → List Row → List Exchange → List Exchange → Verdict → Type 0
AttendedBy g rows before after Kept = Attended g rows after
AttendedBy g rows before after Lost = Unattended g before after

abbrev pub Serving : Arena → List Row → List Exchange → List Exchange → Result (Verdict × ℕ) RunFault → Type 0
Serving g rows before after (Ok p) = AttendedBy g rows before after p.0
Serving g rows before after (Err f) = after ≡ before
