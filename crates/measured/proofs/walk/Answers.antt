use Rattle.std.proofs.Common.{◌≡◌, sym, ap, ◌∙◌}
use Rattle.measured.specs.Walk.{next_or}
use Rattle.measured.proofs.Walks.{walk_more, walk_step_lem}
use Rattle.measured.proofs.walk.Goals as goal
use Rattle.measured.proofs.walk.Goals.{in-Ok, in_default}

pub loop-i-preserved : goal.loop-i-preserved
loop-i-preserved c =
    let m = c.args.model.now in
    let new : c.match-step.state ≡ next_or c.loop-i.state c.step.result =
    elim c.match-step.branch [
      | in-Ok w ↦ w.state-is ∙ sym (ap (next_or c.loop-i.state) w.in-Ok.is)
      | in_default w ↦ w.state-is ∙ sym (ap (next_or c.loop-i.state) w.in_default.is)
    ] in
    walk_more m.record.now m.gates.now c.args.count c.loop-i.i c.loop-i.state c.match-step.state c.loop-i-test.true
    (walk_step_lem m.record.now m.gates.now c.loop-i.i c.loop-i.state c.match-step.state
    c.events-events.result c.answers-answers.result c.step.result c.events-events.ensures c.answers-answers.ensures c.step.ensures.value new)
    ∙ c.loop-i.invariant
