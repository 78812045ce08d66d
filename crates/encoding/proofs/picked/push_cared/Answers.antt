use Rattle.literal.specs.declared.Literal.{Literal}
use Rattle.std.proofs.Common.{List, length, arith, ◌+◌, ◌/◌, [], ◌∷◌, ◌++◌, take, drop, ap, ◌∙◌}
use Rattle.std.proofs.lemmas.List.{at_drop_all}
use Rattle.circuit.specs.Parts.{blank_literal}
use Rattle.encoding.specs.Literals.{cared}
use Rattle.encoding.proofs.Tables.{put_more, put_none, put_all, cared_yes, cared_no}
use Rattle.encoding.proofs.picked.push_cared.Goals as goal
use Rattle.encoding.proofs.picked.push_cared.Goals.{then-care-eq1, else-care-eq1}

pub loop-literal-preserved : goal.loop-literal-preserved
loop-literal-preserved c =
    let o = c.loop-literal in
    let ls = c.as_slice-literal-items.result.now in
    elim c.if-care-eq1.branch [
      | then-care-eq1 w ↦
          put_more _ c.if-care-eq1.table _ _ _ _
          (w.table-is ∙ w.push.ensures ∙ ap (λ x. take 64 (o.table ++ x ∷ [])) w.signed_as.ensures)
          (cared_yes ls o.literal-index _ c.loop-literal-test.true o.care o.value w.if-care-eq1.true) o.invariant
      | else-care-eq1 w ↦
          ap (λ t. take 64 (t ++ cared (drop (o.literal-index + 1) ls) (o.care / 2) (o.value / 2))) w.table-is
          ∙ put_none o.table _ _ _
          (cared_no ls o.literal-index blank_literal c.loop-literal-test.true o.care o.value w.if-care-eq1.false) o.invariant
    ]

pub returns : goal.returns
returns c =
    put_all c.loop-literal.table _ _ (let e = ap (λ (xs : List Literal). length xs) c.as_slice.ensures.value in let b = c.as_slice.ensures.bound in omega (arith, e, b)) (at_drop_all (λ t. cared t c.loop-literal.care c.loop-literal.value) c.as_slice-literal-items.result.now c.loop-literal.literal-index c.loop-literal-test.false) c.loop-literal.invariant
