use Rattle.splitting.specs.States.{Standing}
use Rattle.splitting.proofs.trail.Trail.state.Given as goal

abbrev pub invariant-loop-literal : goal.invariant-loop-literal
invariant-loop-literal l = Standing l.state l.clause l.self.value.now l.literal-index
