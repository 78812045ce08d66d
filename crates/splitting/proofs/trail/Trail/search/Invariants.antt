use Rattle.std.proofs.Common.{◌≡◌, ℕ, ◌<◌, get_or, length}
use Rattle.splitting.specs.Trails.{Front, Follows, left}
use Rattle.splitting.specs.Searches.{GoodTrail}
use Rattle.splitting.proofs.trail.Trail.search.Given as goal

abbrev pub invariant-search : goal.invariant-search
invariant-search l = record {
  good : GoodTrail l.cells l.self;
  front : Front l.cells l.self.value.now l.front;
  size : length l.self.value.now ≡ length l.initial.self.value.now;
  base : l.self.base ≡ l.initial.self.base;
  same : (j : ℕ) → j < l.initial.self.base → get_or l.self.literals.now j 0 ≡ get_or l.initial.self.literals.now j 0;
  follows : Follows l.cells l.self.literals.now l.self.reasons.now l.seen l.self.base l.self.count;
}

abbrev pub decreases-search : goal.decreases-search
decreases-search l = left l.self.reasons.now l.self.count
