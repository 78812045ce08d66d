use Rattle.std.proofs.Common.{◌≡◌, get_or, sym, ◌∙◌, rules}
use Rattle.circuit.specs.declared.record.Side.TheVariants.{Event, Answer}
use Rattle.circuit.specs.Parts.{blank_input}
use Rattle.aiger.proofs.Writing.{symbols_more, symbols_skip, symbols_all}
use Rattle.aiger.proofs.writer.Writer.symbols.Goals as goal
use Rattle.aiger.proofs.writer.Writer.symbols.Goals.{then-eq, else-eq}

pub loop-position-preserved : goal.loop-position-preserved
loop-position-preserved c =
    let is = c.args.inputs.now in
    let i = c.loop-position.position in
    elim c.if-eq.branch [
      | then-eq w ↦
          let e : (get_or is i blank_input).side ≡ Answer = search rules in
          symbols_more is i c.loop-position.self blank_input _ c.loop-position-test.true e (w.self-is ∙ w.symbol.ensures) ∙ c.loop-position.invariant
      | else-eq w ↦
          let e : (get_or is i blank_input).side ≡ Event = search rules in
          symbols_skip is i c.loop-position.self blank_input _ c.loop-position-test.true e w.self-is ∙ c.loop-position.invariant
    ]

pub returns : goal.returns
returns c =
    sym (symbols_all c.args.inputs.now c.loop-position.position c.loop-position.self c.loop-position-test.false) ∙ c.loop-position.invariant
