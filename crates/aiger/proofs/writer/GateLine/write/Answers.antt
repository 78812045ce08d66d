use Rattle.std.proofs.Common.{ap, ◌∙◌, append_assoc}
use Rattle.aiger.specs.Writing.{put}
use Rattle.aiger.proofs.Writing.{chained}
use Rattle.aiger.proofs.writer.GateLine.write.Goals as goal

pub returns : goal.returns
returns c =
    chained _ _ _ (chained _ _ _ c.field.ensures c.field-2.ensures) c.field-3.ensures
    ∙ ap (λ t. put t c.args.writer.now) (simp append_assoc)
