use Rattle.std.proofs.Common.{◌≡◌, ◌+◌, ◌<◌, length, get_or, set, sym, ap, ◌∙◌, arith, rules, below_more}
use Rattle.std.proofs.lemmas.List.{get_or-map, length-map}
use Rattle.literal.specs.declared.Literal.{Literal}
use Rattle.cells.specs.Cells.{codes, literal}
use Rattle.cells.proofs.Stores.{written_more}
use Rattle.cells.proofs.store.write_clause.Goals as goal

pub loop-i-preserved : goal.loop-i-preserved
loop-i-preserved c =
    let ls = c.args.clause.now in
    let i = c.loop-i.i in
    let b : (get_or ls i (literal 0)).code < 65536 = search rules in
    let n : length (codes ls) ≡ length ls = length-map ls (λ (l : Literal). l.code) in
    let e : (get_or ls i (literal 0)).code ≡ get_or (codes ls) i 0 = sym (get_or-map (λ (l : Literal). l.code) ls i (literal 0) 0 c.loop-i-test.true) in (
      ap (λ x. set x (1 + i) c.from.result) c.loop-i.invariant.0
          ∙ written_more c.args.cells.now (codes ls) (length ls) i c.from.result (omega arith) (omega (arith, c.requires.room)) (c.from.ensures ∙ e),
      below_more (λ k. get_or (codes ls) k 0 < 65536) i c.loop-i.invariant.1 (omega arith),
    )
