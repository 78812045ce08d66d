use Rattle.std.proofs.Common.{length, arith}
use Rattle.aiger.proofs.Files.{cut_shorter}
use Rattle.aiger.proofs.Fitting.{start_fits}
use Rattle.aiger.proofs.file.fill.Goals as goal

pub invariant_of-reading : goal.invariant_of-reading
invariant_of-reading c =
    let b = (start_fits _ c.new.result (length c.args.gates.now) (length c.fill.new.self) c.in_ok-check_sizes.ensures.bounds c.new.ensures (omega arith)).bounds in
    record { maximum = b.maximum; inputs = b.inputs; latches = b.latches }

pub read_lines-requires : goal.read_lines-requires
read_lines-requires c = record {
  fits = start_fits _ c.new.result (length c.args.gates.now) (length c.fill.new.self) c.in_ok-check_sizes.ensures.bounds c.new.ensures (omega arith);
  short = omega (arith, cut_shorter c.args.file.now c.in-Some.first.now c.in-Some.rest.now c.in-Some.ensures.value);
}
