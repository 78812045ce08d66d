use Rattle.std.proofs.Common.{◌∙◌, subst, arith}
use Rattle.splitting.specs.Reasons.{number_of}
use Rattle.splitting.specs.Passes.{Ended, Free}
use Rattle.splitting.specs.declared.propagate.End.{End}
use Rattle.splitting.proofs.Weights.{less_pushed, less_turned}
use Rattle.splitting.proofs.Walks.{follows_grown}
use Rattle.splitting.proofs.Entails.{good_write, follows_at, follows_same, turned, front_by, front_turned}
use Rattle.splitting.proofs.Sweeps.{front_push, same_more, front_first}
use Rattle.splitting.proofs.trail.Trail.search.Goals as goal

pub search-smaller-in-Choose : goal.search-smaller-in-Choose
search-smaller-in-Choose c =
    let s = c.propagate-spread in
    omega (arith, s.ensures.spread.bound, less_pushed s.new.self c.push.new.self _ _ c.push.ensures.place)

pub search-preserved-in-Choose : goal.search-preserved-in-Choose
search-preserved-in-Choose c =
    let cells = c.args.cells.now in
    let s = c.propagate-spread in
    let t = s.new.self in
    let t' = c.push.new.self in
    let w = c.push.ensures.place in
    let l = c.in-Choose.literal in
    let why = number_of c.opening.result in
    let P : End → Type 0 = λ e. Ended e cells t.value.now t.literals.now t.count in
    let free : Free t.value.now l = subst P c.in-Choose.is s.ensures.end in
    record {
      good = good_write cells t t' t.count l why w s.ensures.good t.based (omega arith) (λ z. absurd (omega (arith, c.opening.ensures.odd)))
          (λ o. front_first cells t.literals.now t.count s.result.front why c.requires.whole.coded c.opening.ensures.half
          (front_by cells t.value.now t.literals.now t.count s.result.front t.kept s.ensures.front));
      front = front_push cells t.value.now t'.value.now l s.result.front free.0 c.push.ensures.value s.ensures.front;
      size = w.size ∙ s.ensures.spread.size ∙ c.search.invariant.size;
      base = w.base ∙ s.ensures.spread.base ∙ c.search.invariant.base;
      same = same_more t.literals.now t'.literals.now c.args.self.now.literals.now c.args.self.now.base t.count l (omega (arith, t.based, s.ensures.spread.base)) w.literals
          (λ j b. s.ensures.spread.same_literals j (omega (arith, c.search.self.based)) ∙ c.search.invariant.same j b);
      follows = follows_at cells c.search.seen t t' t.count l why w t.based (omega arith) (follows_same cells c.search.seen c.search.self t s.ensures.spread c.search.invariant.follows)
          (λ z. absurd (omega (arith, c.opening.ensures.odd, z)));
    }

pub search-smaller : goal.search-smaller
search-smaller c =
    let s = c.propagate-spread in
    let o = c.in-Place.ensures.placed in
    omega (arith, s.ensures.spread.bound, less_turned s.new.self c.turn-front.new.self c.in-Place.place _ c.turn-front.ensures.place o.1 o.2)

pub search-preserved : goal.search-preserved
search-preserved c =
    let cells = c.args.cells.now in
    let s = c.propagate-spread in
    let t = s.new.self in
    let t' = c.turn-front.new.self in
    let w = c.turn-front.ensures.place in
    let b = c.in-Place.ensures in
    let o = b.placed in
    let i = c.in-Place.place in
    record {
      good = good_write cells t t' i _ 0 w s.ensures.good o.0 (omega (arith, o.1)) (λ z y. absurd (omega arith)) (λ z. absurd (omega arith));
      front = rw c.turn-front.ensures.front (front_turned cells t t' i _ w s.ensures.good o.0 o.1 o.2);
      size = w.size ∙ s.ensures.spread.size ∙ c.search.invariant.size;
      base = w.base ∙ s.ensures.spread.base ∙ c.search.invariant.base;
      same = same_more t.literals.now t'.literals.now c.args.self.now.literals.now c.args.self.now.base i _ (omega (arith, o.0, s.ensures.spread.base)) w.literals
          (λ j h. s.ensures.spread.same_literals j (omega (arith, c.search.self.based)) ∙ c.search.invariant.same j h);
      follows = follows_at cells c.trace.new.seen t t' i _ 0 w o.0 (omega (arith, o.1))
          (follows_grown cells t.literals.now t.reasons.now c.search.seen c.trace.new.seen t.base t.count b.grows (follows_same cells c.search.seen c.search.self t s.ensures.spread c.search.invariant.follows))
          (λ z. turned cells t.literals.now t.reasons.now c.trace.new.seen t.base i b.after);
    }
