use Rattle.std.proofs.Common.{◌≡◌, [], ◌∷◌, ap, ◌∙◌}
use Rattle.encoding.specs.Literals.{cared}
use Rattle.encoding.specs.Clauses.{not_all, answer_row}
use Rattle.encoding.proofs.Holding.{held_is, held_one, whole_from}
use Rattle.encoding.proofs.Sizes.{answer_fits}
use Rattle.encoding.proofs.answer.hold_answer_row.Goals as goal

pub returns-clause-held : goal.returns-clause-held
unfolding answer_row
returns-clause-held g c =
    let row = c.args.row in
    let e : c.as_slice.result.now ≡ answer_row c.args.model.now.«record».now row =
    c.as_slice.ensures.value ∙ c.outside-clause.ensures ∙ ap (λ t. not_all (cared t row.care row.value)) c.next_of.ensures.value in
    held_is (ap (λ t. t ∷ []) e) (held_one _ c.hold.result c.hold.ensures.refused c.hold.ensures.after)

pub returns-clause-whole : goal.returns-clause-whole
returns-clause-whole g c wide room =
    let m = c.args.model.now in
    whole_from c.hold.result _ (returns-clause-held g c) ((answer_fits m.«record».now m.gates.now m.fit _ wide).row c.args.row) room
