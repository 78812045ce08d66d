use Rattle.std.proofs.Common.{◌≡◌, ℕ, List, [], ◌∷◌, ◌++◌, ap, ◌∙◌}
use Rattle.std.proofs.lemmas.Result.{err_from_is_err_and}
use Rattle.std.specs.List.{flat_map}
use Rattle.circuit.specs.declared.record.Gate.{Gate}
use Rattle.circuit.specs.declared.record.Record.{Record}
use Rattle.circuit.specs.Parts.{gates_of}
use Rattle.encoding.specs.Clauses.{gate_clauses, constant_clause, step_clauses}
use Rattle.encoding.proofs.Holding.{then_is, stop_is, held_one}
use Rattle.encoding.proofs.gates.hold_step.Goals as goal

step_is : (r : Record) (gs hs : List Gate) (M : ℕ) → M ≡ r.maximum → hs ≡ gates_of r gs
    → flat_map (gate_clauses M) hs ++ constant_clause M ∷ [] ≡ step_clauses r gs
step_is r gs hs M m h =
    ap (λ n. flat_map (gate_clauses n) hs ++ constant_clause n ∷ []) m
    ∙ ap (λ t. flat_map (gate_clauses r.maximum) t ++ constant_clause r.maximum ∷ []) h

pub returns-in_err-hold_gates : goal.returns-in_err-hold_gates
returns-in_err-hold_gates g c =
    let p = err_from_is_err_and c.from_residual.result c.from_residual.ensures.1 in
    let m = c.args.model.now in
    rw (p.1, p.2)
    (stop_is (constant_clause c.of-variables.result.maximum ∷ [])
    (step_is m.«record».now m.gates.now _ _ c.of-variables.ensures c.used_gates.ensures.value) c.in_err-hold_gates.ensures)

pub returns : goal.returns
returns g c =
    let m = c.args.model.now in
    then_is
    (ap (λ l. flat_map (gate_clauses c.of-variables.result.maximum) c.used_gates.result.now ++ (l ∷ []) ∷ []) c.constant.ensures
    ∙ step_is m.«record».now m.gates.now _ _ c.of-variables.ensures c.used_gates.ensures.value)
    c.in_ok-hold_gates.ensures (held_one _ c.hold.result c.hold.ensures.refused c.hold.ensures.after)
