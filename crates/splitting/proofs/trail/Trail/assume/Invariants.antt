use Rattle.std.proofs.Common.{◌≡◌, length}
use Rattle.cells.specs.Cells.{codes}
use Rattle.splitting.specs.Trails.{Assumed}
use Rattle.splitting.proofs.trail.Trail.assume.Given as goal

abbrev pub invariant-loop-literal : goal.invariant-loop-literal
invariant-loop-literal l = record {
  size : length l.self.value.now ≡ length l.initial.self.value.now;
  assumed : Assumed (codes l.assumed) l.self.literals.now l.self.count l.literal-index;
}
