use Rattle.std.proofs.Common.{length, set, refl, ◌∙◌, arith}
use Rattle.sat.proofs.Decisions.{decided_yes, decided_no}
use Rattle.sat.proofs.Laws.{marked_picked}
use Rattle.narrowing.proofs.Trying.{never, picked_passes, tried_yes, tried_no}
use Rattle.narrowing.proofs.drops.try_without.Goals as goal

pub returns-in_err-decide : goal.returns-in_err-decide
returns-in_err-decide g c =
    let ms = set c.args.marks.now c.args.i 0 in
    let e = c.as_slice.ensures.value ∙ c.marked-picked.ensures ∙ marked_picked c.args.assumed.now ms c.requires.short in
    never _ c.in_err-decide.field-0.0 c.in_err-decide.ensures.refused
    (picked_passes (g.S.Solver.meaning c.args.below.now).variables (length c.args.values.now) 64 c.args.assumed.now c.as_slice.result.now ms c.requires.ranged c.requires.short e c.requires.values_room (omega arith))

pub returns-in-Yes-clause-cases : goal.returns-in-Yes-clause-cases
returns-in-Yes-clause-cases g c =
    let ms = set c.args.marks.now c.args.i 0 in
    let e = c.as_slice.ensures.value ∙ c.marked-picked.ensures ∙ marked_picked c.args.assumed.now ms c.requires.short in
    let d = (decided_yes _ _ _ _ _ _ _ c.in_ok-decide.field-0 c.in_ok-decide.ensures.cases c.in-Yes.is).0 in
    tried_yes _ _ c.args.assumed.now c.as_slice.result.now c.args.first c.args.i _ _ c.args.marks.now _ d e c.requires.is_marked refl

pub returns-in-No-clause-cases : goal.returns-in-No-clause-cases
returns-in-No-clause-cases g c =
    let ms = set c.args.marks.now c.args.i 0 in
    let e = c.as_slice.ensures.value ∙ c.marked-picked.ensures ∙ marked_picked c.args.assumed.now ms c.requires.short in
    let d = decided_no _ _ _ _ _ _ _ c.in_ok-decide.field-0 c.in_ok-decide.ensures.cases c.in-No.is in
    tried_no _ c.args.assumed.now c.as_slice.result.now c.args.first c.args.i _ _ c.args.marks.now c.sift.new.marks d.0 e c.requires.within c.requires.past
    c.sift.ensures.bound c.sift.ensures.fewer c.sift.ensures.firsts c.sift.ensures.asks c.sift.ensures.rest
