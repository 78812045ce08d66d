use Rattle.std.proofs.Common.{◌≡◌, true, Option, sym, refl, subst}
use Rattle.splitting.specs.Trails.{AllMet}
use Rattle.splitting.specs.Columns.{shown}
use Rattle.splitting.specs.declared.trail.Columns.{Columns}
use Rattle.splitting.proofs.Givens.{refutes_trail}
use Rattle.splitting.proofs.lazy.LazyTrail.ask.Goals as goal

pub returns-clause-met : goal.returns-clause-met
returns-clause-met c =
    let P : Option Columns → Type 0 = λ o. c.search.result ≡ true → AllMet c.args.cells.now (shown o c.search.new.self).value.now in
    subst P (sym c.begin.ensures.made) c.search.ensures.met

pub returns-clause-none : goal.returns-clause-none
returns-clause-none c =
    let t = c.assume.new.self in
    λ e. refutes_trail c.args.cells.now c.search.new.seen t.literals.now c.args.assumed.now t.base (c.if-not-assume.ensures.assumed refl) (c.search.ensures.none e)
