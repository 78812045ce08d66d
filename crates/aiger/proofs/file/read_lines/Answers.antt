use Rattle.std.proofs.Common.{◌<◌, Ok, Result, length, sym, refl, ap, ◌∙◌, arith, rules}
use borrow.Author.Tests.{eqb-false, eqb-true}
use Rattle.aiger.specs.declared.fault.ReadFault.{ReadFault}
use Rattle.aiger.specs.Advance.{and_then, state_of}
use Rattle.aiger.proofs.Files.{turn, stop, cut_shorter, unfinished_turn, plain_end, both_ended}
use Rattle.aiger.proofs.Fitting.{keep}
use Rattle.aiger.proofs.file.read_lines.Goals as goal

pub returns-in_err-take : goal.returns-in_err-take
returns-in_err-take c =
    let h = stop _ _ _ _ _ _ _ _ c.in-Some.ensures.value c.classify.ensures c.in_err-take.ensures c.loop-line.invariant.0 in
    search (rules, h)

pub loop-line-smaller : goal.loop-line-smaller
loop-line-smaller c = cut_shorter _ _ _ c.in-Some.ensures.value

pub loop-line-preserved : goal.loop-line-preserved
loop-line-preserved c = (
  turn _ _ _ _ _ _ _ _ c.in-Some.ensures.value c.classify.ensures c.in_ok-take.ensures c.loop-line.invariant.0,
  keep _ _ _ _ c.in_ok-take.ensures c.loop-line.invariant.1,
  omega (arith, cut_shorter c.loop-line.rest.now c.in-Some.line.now c.in-Some.after.now c.in-Some.ensures.value),
)

pub returns-in_err-take-2 : goal.returns-in_err-take-2
returns-in_err-take-2 c =
    let some : 0 < length c.loop-line.rest.now = let k = eqb-false (length c.loop-line.rest.now) 0 (sym c.if-not-is_empty.ensures) in omega arith in
    let h = unfinished_turn _ _ _ _ _ _ c.in_default.ensures.value some refl c.in_err-take-2.ensures c.loop-line.invariant.0 in
    search (rules, h)

pub returns-then-not-is_empty : goal.returns-then-not-is_empty
returns-then-not-is_empty c =
    let some : 0 < length c.loop-line.rest.now = let k = eqb-false (length c.loop-line.rest.now) 0 (sym c.if-not-is_empty.ensures) in omega arith in
    let h = unfinished_turn _ _ _ _ _ _ c.in_default.ensures.value some refl c.in_ok-take-2.ensures c.loop-line.invariant.0 in
    both_ended c.end.result _ _
    ∙ ap (λ (x : Result (Unit {0}) ReadFault). and_then x λ _. Ok (state_of c.take-then-not-is_empty.new.self.state c.take-then-not-is_empty.new.gates)) c.end.ensures ∙ h

pub returns : goal.returns
returns c =
    let h = plain_end _ _ _ _ c.in_default.ensures.value (eqb-true (length c.loop-line.rest.now) 0 (sym c.if-not-is_empty.ensures)) c.loop-line.invariant.0 in
    both_ended c.end-2.result _ _
    ∙ ap (λ (x : Result (Unit {0}) ReadFault). and_then x λ _. Ok (state_of c.loop-line.reading.state c.loop-line.gates)) c.end-2.ensures ∙ h
