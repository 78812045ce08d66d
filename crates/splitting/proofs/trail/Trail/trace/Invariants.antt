use Rattle.splitting.specs.Trails.{Grows}
use Rattle.splitting.specs.Blames.{Blamed, Placed}
use Rattle.splitting.proofs.trail.Trail.trace.Given as goal

abbrev pub invariant-loop-i : goal.invariant-loop-i
invariant-loop-i l = record {
  after : Blamed l.blame l.cells l.self.literals.now l.self.reasons.now l.seen l.self.base l.i;
  placed : Placed l.blame l.self.reasons.now l.self.base l.self.count l.i;
  grows : Grows l.self.literals.now l.fn.seen l.seen l.self.base;
}
