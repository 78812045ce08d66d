-- What the code's replies say of what a session returns.
use Rattle.std.specs.Prelude.{◌≡◌, ℕ, true, false, ◌⊎◌, List}
use Rattle.region.specs.Subject.{Arena, Row}
use Rattle.session.specs.Faults.{session_number}
use Rattle.session.specs.Sessions as sessions
use Rattle.session.specs.Sessions.{Stage, waiting, pending, done, settled, refused, Allows, Gives}
use Rattle.session.specs.Views.{waiting_stage, raised_stage}
use Rattle.host.specs.declared.answer.Session.{Session}
use Rattle.host.specs.declared.answer.Session.TheVariants as stage
use Rattle.host.specs.declared.exchange.Call.{Call}
use Rattle.host.specs.declared.exchange.Reply.{Reply}
use Rattle.host.specs.declared.exchange.Reply.TheVariants.{Raised, Used, Replaced, Restarted, Refused, NotAllowed}
use Rattle.host.specs.Served.{call_of}

abbrev pub stage_of : Session → Stage
stage_of (stage.Waiting w) = waiting_stage w
stage_of (stage.Raised r) = raised_stage r

-- a reply says what the session returned, and where the session then is
abbrev pub Says : Reply → sessions.Reply → Stage → Type 0
Says (Raised s) o t = (o ≡ done) × ((e : ℕ) × (t ≡ pending s e))
Says (Used n) o t = ((w : ℕ) × (o ≡ settled w false)) × (t ≡ waiting n)
Says (Replaced a n) o t = (o ≡ settled a true) × (t ≡ waiting n)
Says Restarted o t = (o ≡ done) × (t ≡ waiting 0)
Says (Refused f) o t = o ≡ refused (session_number f)
Says NotAllowed o t = ⊥

-- a call that is allowed is the session's to answer; another changes nothing
abbrev pub Answers : Arena → List Row → Stage → Call → Reply → Stage → Type 0
Answers g rs t c r u =
    ((o : sessions.Reply) × Gives g rs t (call_of c) o u × Says r o u)
    ⊎ ((Allows t (call_of c) → ⊥) × (r ≡ NotAllowed) × (u ≡ t))
