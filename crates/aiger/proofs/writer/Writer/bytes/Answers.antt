use Rattle.std.proofs.Common.{sym, refl, ◌∙◌}
use Rattle.std.proofs.lemmas.List.{at_drop_more, at_drop_all}
use Rattle.aiger.specs.Writing.{put}
use Rattle.aiger.proofs.Writing.{chained, put_none}
use Rattle.aiger.proofs.writer.Writer.bytes.Goals as goal

pub loop-b-preserved : goal.loop-b-preserved
loop-b-preserved c =
    chained _ _ _ c.byte.ensures refl
    ∙ sym (at_drop_more (λ t. put t c.loop-b.self) c.args.text.now c.loop-b.b-index 0 c.loop-b-test.true)
    ∙ c.loop-b.invariant

pub returns : goal.returns
returns c =
    sym (at_drop_all (λ t. put t c.loop-b.self) c.args.text.now c.loop-b.b-index c.loop-b-test.false ∙ put_none c.loop-b.self)
    ∙ c.loop-b.invariant
