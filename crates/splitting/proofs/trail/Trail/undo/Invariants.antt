use Rattle.std.proofs.Common.{◌≡◌, ◌<◌, ◌≤◌, get_or, length}
use Rattle.splitting.specs.Cells.{Unset}
use Rattle.splitting.proofs.trail.Trail.undo.Given as goal

abbrev pub invariant-loop-i : goal.invariant-loop-i
invariant-loop-i l = record {
  size : length l.self.value.now ≡ length l.initial.self.value.now;
  literals : l.self.literals.now ≡ l.initial.self.literals.now;
  reasons : l.self.reasons.now ≡ l.initial.self.reasons.now;
  count : l.self.count ≡ l.i;
  above : l.place ≤ l.i;
  base : l.self.base ≡ l.initial.self.base;
  unset : l.i < l.initial.self.count → Unset l.self.value.now (get_or l.self.literals.now l.i 0);
}
