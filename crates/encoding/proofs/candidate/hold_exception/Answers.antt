use Rattle.std.proofs.Common.{◌≡◌, [], ◌∷◌, ◌++◌, map, ap, ◌∙◌, arith}
use Rattle.literal.specs.Truth.{negation_of}
use Rattle.encoding.specs.Literals.{latch_literals, cared}
use Rattle.encoding.specs.Clauses.{not_all, exception_clause}
use Rattle.encoding.proofs.Holding.{held_is, held_one, whole_from}
use Rattle.encoding.proofs.Sizes.{candidate_fits}
use Rattle.encoding.proofs.Tables.{mask_literals, masks_literals}
use Rattle.encoding.proofs.candidate.hold_exception.Goals as goal

pub returns-clause-held : goal.returns-clause-held
unfolding exception_clause
returns-clause-held g c =
    let x = c.args.exception in
    let ls = c.latches_of.result in
    let es = c.inputs_of.result in
    let first = mask_literals ls _ _ x.state_care x.state_value (omega (arith, c.latches_of.ensures.bound)) c.none-inside.ensures c.push_cared.ensures in
    let both = masks_literals ls es _ _ x.state_care x.state_value x.event_care x.event_value
    (omega (arith, c.latches_of.ensures.bound, c.inputs_of.ensures.bound)) first c.push_cared-2.ensures in
    let e : c.as_slice.result.now ≡ exception_clause c.args.model.now.«record».now x =
    c.as_slice.ensures.value ∙ c.negations.ensures ∙ ap (map negation_of) both
    ∙ ap (λ t. not_all (cared t x.state_care x.state_value ++ cared es x.event_care x.event_value)) c.latches_of.ensures.value
    ∙ ap (λ t. not_all (cared (latch_literals c.args.model.now.«record».now) x.state_care x.state_value ++ cared t x.event_care x.event_value)) c.inputs_of.ensures.value in
    held_is (ap (λ t. t ∷ []) e) (held_one _ c.hold.result c.hold.ensures.refused c.hold.ensures.after)

pub returns-clause-whole : goal.returns-clause-whole
returns-clause-whole g c wide room =
    let m = c.args.model.now in
    whole_from c.hold.result _ (returns-clause-held g c) ((candidate_fits m.«record».now m.gates.now m.fit _ (omega arith) 0 wide).exception c.args.exception) room
