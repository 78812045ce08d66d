use Rattle.std.proofs.Common.{arith, rules}
use Rattle.cells.proofs.Steps.{step, part_length, part_reads}
use Rattle.cells.proofs.clause.clause_at.Goals as goal

pub slice_bounds-result-end : goal.slice_bounds-result-end
slice_bounds-result-end c = let s = step c.args.cells.now c.args.at c.requires.starts.number c.requires.starts.starts c.requires.inside in search rules

pub returns : goal.returns
returns c =
    let s = step c.args.cells.now c.args.at c.requires.starts.number c.requires.starts.starts c.requires.inside in
    record {
      value = λ j h. part_reads c.args.cells.now c.args.at j h c.requires.inside;
      bound = omega (arith, part_length c.args.cells.now c.args.at s.fits, s.fits);
    }
