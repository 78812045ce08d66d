use Rattle.literal.specs.declared.Literal.{Literal}
use Rattle.std.proofs.Common.{List, length, arith, [], ◌∷◌, ◌++◌, take, ap, ◌∙◌}
use Rattle.std.proofs.lemmas.List.{at_drop_more, at_drop_all}
use Rattle.encoding.specs.Literals.{with_signs}
use Rattle.encoding.proofs.Tables.{put_more, put_all}
use Rattle.encoding.proofs.picked.push_signed.Goals as goal

pub loop-literal-preserved : goal.loop-literal-preserved
loop-literal-preserved c =
    put_more _ _ _ _ _ _ (c.push.ensures ∙ ap (λ x. take 64 (c.loop-literal.table ++ x ∷ [])) c.signed_as.ensures)
    (at_drop_more (λ t. with_signs t c.loop-literal.number) c.as_slice-literal-items.result.now c.loop-literal.literal-index _ c.loop-literal-test.true) c.loop-literal.invariant

pub returns : goal.returns
returns c =
    put_all c.loop-literal.table _ _ (let e = ap (λ (xs : List Literal). length xs) c.as_slice.ensures.value in let b = c.as_slice.ensures.bound in omega (arith, e, b)) (at_drop_all (λ t. with_signs t c.loop-literal.number) c.as_slice-literal-items.result.now c.loop-literal.literal-index c.loop-literal-test.false) c.loop-literal.invariant
