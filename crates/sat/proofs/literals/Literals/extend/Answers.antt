use Rattle.literal.specs.declared.Literal.{Literal}
use Rattle.std.proofs.Common.{List, [], ◌∷◌, ◌++◌, take, length, ap, sym, ◌∙◌, arith}
use Rattle.std.proofs.lemmas.List.{take_all, append-nil, append_assoc}
use Rattle.sat.proofs.Loops.{take_push}
use Rattle.sat.proofs.literals.Literals.extend.Goals as goal

pub loop-literal-init : goal.loop-literal-init
loop-literal-init g c =
    sym (ap (λ xs. take 64 xs) (append-nil c.args.self.now) ∙ take_all 64 c.args.self.now (let e = ap (λ (xs : List Literal). length xs) c.as_slice.ensures.value in let b = c.as_slice.ensures.bound in omega (arith, e, b)))

pub loop-literal-preserved : goal.loop-literal-preserved
loop-literal-preserved g c =
    c.push.ensures ∙ ap (λ xs. take 64 (xs ++ c.in-Some.literal ∷ [])) c.loop-literal.invariant
    ∙ take_push 64 (c.args.self.now ++ c.loop-literal.yielded) (c.in-Some.literal ∷ [])
    ∙ ap (λ xs. take 64 xs) (append_assoc c.args.self.now c.loop-literal.yielded (c.in-Some.literal ∷ []))
