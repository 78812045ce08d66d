use Rattle.std.proofs.Common.{◌+◌, ◌-◌, ◌*◌, length}
use Rattle.cells.specs.Cells.{At}
use Rattle.splitting.specs.Trails.{Front, left}
use Rattle.splitting.specs.Searches.{GoodTrail, Spreads}
use Rattle.splitting.specs.Passes.{Passing, due}
use Rattle.splitting.proofs.trail.Trail.propagate.Given as goal

abbrev pub invariant-sweep : goal.invariant-sweep
invariant-sweep l = record {
  good : GoodTrail l.cells l.self;
  front : Front l.cells l.self.value.now l.front;
  at : At l.cells l.at;
  passing : Passing l.pass l.self.value.now l.front l.at;
  spread : Spreads l.initial.self l.self;
}

abbrev pub decreases-sweep : goal.decreases-sweep
decreases-sweep l = left l.self.reasons.now l.self.count * (2 * (length l.cells + 1)) + (due l.pass * (length l.cells + 1) + (length l.cells - l.at))
