-- What the calls work out, as equations; the relation of calls is above them.
use Rattle.std.specs.Prelude.{◌≡◌, ℕ, ◌<◌, ◌≤◌, Bool, true, cond, List, Some, None, Ok, Err, MatchBool, Result, nat_lt}
use Rattle.region.specs.Subject.{Arena, Row}
use Rattle.region.specs.Judged.{passing, Lowest}
use Rattle.session.specs.Sessions.{Stage, at_home}
use Rattle.session.specs.Views.{waiting_stage, raised_stage}
use Rattle.session.specs.declared.fault.SessionFault.TheVariants.{Foreign, OutOfRange}
use Rattle.session.specs.declared.stage.Raised.{Raised}
use Rattle.session.specs.declared.stage.Refusal.{Refusal}
use Rattle.session.specs.declared.stage.Settled.{Settled}
use Rattle.session.specs.declared.stage.Waiting.{Waiting}

-- the session itself, where it is at home and the call's number is in range; otherwise the session comes back
abbrev pub checked_of : {S : Type 0} → Arena → List Row → Stage → S → Bool → Result S (Refusal S)
checked_of g rs t x b =
    cond (at_home g rs t) (cond b (Ok x) (Err record { session = x; fault = OutOfRange })) (Err record { session = x; fault = Foreign })

abbrev pub reset_session : Waiting
reset_session = record { state = 0 }

abbrev pub raise_of : Arena → List Row → Waiting → ℕ → Result Raised (Refusal Waiting)
raise_of g rs w e =
    cond (at_home g rs (waiting_stage w))
    (cond (nat_lt e g.events) (Ok record { state = w.state; event = e }) (Err record { session = w; fault = OutOfRange }))
    (Err record { session = w; fault = Foreign })

abbrev pub reset_of : Arena → List Row → Waiting → Result Waiting (Refusal Waiting)
reset_of g rs w = cond (at_home g rs (waiting_stage w)) (Ok reset_session) (Err record { session = w; fault = Foreign })

-- the lowest answer that passes, where the wish does not; otherwise the wish
abbrev pub JudgedAs : Arena → List Row → Raised → ℕ → Settled → Type 0
JudgedAs g rs t w r =
    MatchBool r.replaced
    ((passing g rs t.state t.event w ≡ None) × Lowest g rs t.state t.event (Some record { answer = r.answer; next = r.session.state }))
    ((passing g rs t.state t.event w ≡ Some r.session.state) × (r.answer ≡ w))

-- that, on the session's own region, where the wish is in range; otherwise the session comes back
abbrev pub SettledAs : Arena → List Row → Raised → ℕ → Result Settled (Refusal Raised) → Type 0
SettledAs g rs t w (Ok r) = (at_home g rs (raised_stage t) ≡ true) × (w < g.answers) × JudgedAs g rs t w r
SettledAs g rs t w (Err f) =
    (f.session ≡ t) × (f.fault ≡ cond (at_home g rs (raised_stage t)) OutOfRange Foreign) × (at_home g rs (raised_stage t) ≡ true → g.answers ≤ w)
