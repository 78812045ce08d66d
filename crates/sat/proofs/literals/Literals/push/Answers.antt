use Rattle.std.proofs.Common.{arith}
use Rattle.std.proofs.lemmas.Bool.Decides.{nat_tests}
use Rattle.sat.proofs.Loops.{put_more, put_none}
use Rattle.sat.proofs.literals.Literals.push.Goals as goal

pub returns-then-not-is_full : goal.returns-then-not-is_full
returns-then-not-is_full c =
    let v = (c.if-not-is_full.ensures).value in
    put_more c.args.self.now c.args.literal c.self.view_is c.push.ensures.items (grind (arith, nat_tests))

pub returns-else-not-is_full : goal.returns-else-not-is_full
returns-else-not-is_full c =
    let v = c.if-not-is_full.ensures in
    let t = v.value in
    put_none c.args.self.now c.args.literal c.self.view_is (grind (arith, nat_tests)) v.fits
