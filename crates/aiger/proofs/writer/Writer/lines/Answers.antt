use Rattle.std.proofs.Common.{[], ◌∷◌, sym, ap, ◌∙◌}
use Rattle.aiger.specs.Line.{texts}
use Rattle.aiger.specs.Writing.{put}
use Rattle.aiger.proofs.Writing.{lines_more, lines_all}
use Rattle.aiger.proofs.writer.Writer.lines.Goals as goal

pub loop-item-preserved : goal.loop-item-preserved
loop-item-preserved g c =
    lines_more g.T.Line.line c.args.items.now c.loop-item.item-index c.loop-item.self c.item-item.result _ c.loop-item-test.true
    (c.write.ensures ∙ ap (λ t. put (texts (g.T.Line.line t ∷ [])) c.loop-item.self) c.item-item.is)
    ∙ c.loop-item.invariant

pub returns : goal.returns
returns g c = sym (lines_all g.T.Line.line c.args.items.now c.loop-item.item-index c.loop-item.self c.loop-item-test.false) ∙ c.loop-item.invariant
