use Rattle.std.proofs.Common.{[], ◌≡◌, sym, refl, ap, ◌∙◌, subst, arith}
use Rattle.region.specs.Parts.{arena_in, rows_in}
use Rattle.session.specs.Laws.{History, opened}
use Rattle.session.specs.Sessions.{Stage, waiting}
use Rattle.host.specs.Answers.{stage_of}
use Rattle.host.proofs.Tellings.{follow_more}
use Rattle.host.proofs.serving.follow.Goals as goal

pub loop-exchange-init : goal.loop-exchange-init
loop-exchange-init c =
    let H : Stage → Type 0 = λ t. History (arena_in c.args.region.now) (rows_in c.args.region.now) [] [] t in
    let e : stage_of c.from-session.result ≡ waiting 0 = ap stage_of c.from-session.ensures ∙ c.open.ensures.value in
    (c.open.ensures.law, ([], [], subst H (sym e) opened), e, refl)

pub loop-exchange-preserved : goal.loop-exchange-preserved
loop-exchange-preserved c =
    let i = c.loop-exchange.invariant in
    let w = follow_more _ _ i.0 c.loop-exchange.exchanges c.args.exchanges.now c.loop-exchange.exchange-index _ (stage_of c.loop-exchange.session) (stage_of c.answer-after.result.0) c.answer-after.result.1
    (omega arith) i.1 i.2 i.3 c.answer-after.ensures in
    (i.0, w.0, w.1, w.2)
