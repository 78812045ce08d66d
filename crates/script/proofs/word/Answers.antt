use Rattle.std.proofs.Common.{length, sym, ◌∙◌, arith}
use borrow.Author.Tests.{eqb-false}
use Rattle.std.proofs.lemmas.List.{at_drop_all}
use Rattle.script.specs.Asked.{all_digits}
use Rattle.script.proofs.Words.{bounded_on, word_some}
use Rattle.script.proofs.word.Goals as goal

pub returns : goal.returns
returns c =
    let bs = c.args.bytes.now in
    let i = c.loop-byte.byte-index in
    word_some bs c.loop-byte.value (let h = eqb-false (length bs) 0 (sym c.if-is_empty.ensures) in omega arith)
    (sym c.loop-byte.invariant.0 ∙ at_drop_all all_digits bs i c.loop-byte-test.false)
    (sym (at_drop_all (bounded_on c.loop-byte.value) bs i c.loop-byte-test.false) ∙ c.loop-byte.invariant.1)
