use Rattle.std.proofs.Common.{◌≡◌, ◌++◌, length, drop}
use Rattle.narrowing.proofs.Sifts.{Sifted, asked}
use Rattle.narrowing.proofs.sift.sift.Given as goal

abbrev pub invariant-loop-i : goal.invariant-loop-i
invariant-loop-i l =
    Sifted l.assumed l.first l.i l.fn.marks l.fn.again (l.mark-items ++ drop (length l.assumed) l.fn.marks)
    × (l.again.rest.now ≡ drop (asked l.assumed l.fn.marks l.i) l.fn.again)
