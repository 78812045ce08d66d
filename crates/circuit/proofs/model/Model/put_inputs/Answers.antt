use Rattle.std.proofs.Common.{◌∙◌, length-set}
use Rattle.circuit.specs.declared.record.Side.TheVariants.{Event, Answer}
use Rattle.circuit.specs.Parts.{blank_input}
use Rattle.circuit.proofs.Tables.{inputs_more}
use Rattle.circuit.proofs.model.Model.put_inputs.Goals as goal
use Rattle.circuit.proofs.model.Model.put_inputs.Goals.{in-Event, in-Answer}

pub loop-input-preserved : goal.loop-input-preserved
loop-input-preserved c =
    let o = c.loop-input in
    let is = c.used_inputs-input-items in
    let more = inputs_more is.result.now o.input-index 4097 blank_input o.event o.answer o.values is.ensures.placed c.loop-input-test.true o.invariant.1 in
    elim c.match-input.branch [
      | in-Event w ↦ simp (w.values-is, w.event-is, w.answer-is, length-set) (more Event w.variable.result w.variable.ensures w.in-Event.is ∙ o.invariant.0, o.invariant.1)
      | in-Answer w ↦ simp (w.values-is, w.event-is, w.answer-is, length-set) (more Answer w.variable-in-loop-input.result w.variable-in-loop-input.ensures w.in-Answer.is ∙ o.invariant.0, o.invariant.1)
    ]
