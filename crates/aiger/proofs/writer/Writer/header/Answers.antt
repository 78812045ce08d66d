use Rattle.std.proofs.Common.{ap, ◌∙◌, append_assoc}
use Rattle.aiger.specs.Writing.{put}
use Rattle.aiger.proofs.Writing.{chained}
use Rattle.aiger.proofs.writer.Writer.header.Goals as goal

pub returns : goal.returns
returns c =
    let counts = chained _ _ _ (chained _ _ _ (chained _ _ _ c.field.ensures c.field-2.ensures) c.field-3.ensures) c.field-4.ensures in
    chained _ _ _ (chained _ _ _ c.bytes.ensures counts) c.field-5.ensures
    ∙ ap (λ t. put t c.args.self.now) (simp append_assoc)
