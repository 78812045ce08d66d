use Rattle.std.proofs.Common.{arith}
use Rattle.std.proofs.lemmas.Grind.{common_steps}
use Rattle.splitting.proofs.Tables.{kept_none}
use Rattle.splitting.proofs.trail.Trail.new.Goals as goal

pub invariant_of-result-clause-kept : goal.invariant_of-result-clause-kept
invariant_of-result-clause-kept c = kept_none _ _ (λ v. grind (arith, common_steps, c.fill.ensures)) (omega arith)
