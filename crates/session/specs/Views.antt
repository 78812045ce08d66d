-- What the code's sessions and results say, in the words of the law.
use Rattle.std.specs.Prelude.{Ok, Err, Result}
use Rattle.session.specs.Faults.{session_number}
use Rattle.session.specs.Sessions.{Stage, waiting, pending, Reply, done, settled, refused}
use Rattle.session.specs.declared.stage.Raised.{Raised}
use Rattle.session.specs.declared.stage.Refusal.{Refusal}
use Rattle.session.specs.declared.stage.Settled.{Settled}
use Rattle.session.specs.declared.stage.Waiting.{Waiting}

abbrev pub waiting_stage : Waiting → Stage
waiting_stage w = waiting w.state

abbrev pub raised_stage : Raised → Stage
raised_stage r = pending r.state r.event

abbrev pub raise_reply : Result Raised (Refusal Waiting) → Reply
raise_reply (Ok r) = done
raise_reply (Err f) = refused (session_number f.fault)

abbrev pub raise_stage : Result Raised (Refusal Waiting) → Stage
raise_stage (Ok r) = raised_stage r
raise_stage (Err f) = waiting_stage f.session

abbrev pub reset_reply : Result Waiting (Refusal Waiting) → Reply
reset_reply (Ok w) = done
reset_reply (Err f) = refused (session_number f.fault)

abbrev pub reset_stage : Result Waiting (Refusal Waiting) → Stage
reset_stage (Ok w) = waiting_stage w
reset_stage (Err f) = waiting_stage f.session

abbrev pub settle_reply : Result Settled (Refusal Raised) → Reply
settle_reply (Ok s) = settled s.answer s.replaced
settle_reply (Err f) = refused (session_number f.fault)

abbrev pub settle_stage : Result Settled (Refusal Raised) → Stage
settle_stage (Ok s) = waiting_stage s.session
settle_stage (Err f) = raised_stage f.session
