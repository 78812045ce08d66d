use Rattle.std.proofs.Common.{◌≡◌, ◌/◌, ◌<◌, length, get_or, sym, ap, ◌∙◌, arith}
use Rattle.std.proofs.lemmas.Bool.{false≢true}
use Rattle.cells.specs.Cells.{codes}
use Rattle.splitting.specs.Cells.{Fails}
use Rattle.splitting.proofs.Givens.{code_is, code_in, length_codes, assumed_push, assumed_again, contrary}
use Rattle.splitting.proofs.Entails.{room_of}
use Rattle.splitting.proofs.trail.Trail.assume.Goals as goal
use Rattle.splitting.proofs.trail.Trail.assume.Goals.{then-is_unset, else-is_unset+else-not-is_true}

pub is_unset-requires : goal.is_unset-requires
is_unset-requires c =
    rw c.loop-literal.invariant.size (code_in c.args.assumed.now c.loop-literal.literal-index c.from-code.result (length c.args.self.now.value.now) c.loop-literal-test.true c.from-code.ensures c.requires.inside)

pub push-requires-clause-inside : goal.push-requires-clause-inside
push-requires-clause-inside c =
    rw c.loop-literal.invariant.size (code_in c.args.assumed.now c.loop-literal.literal-index c.from-code.result (length c.args.self.now.value.now) c.loop-literal-test.true c.from-code.ensures c.requires.inside)

pub returns-then-not-is_true-clause-contrary : goal.returns-then-not-is_true-clause-contrary
returns-then-not-is_true-clause-contrary c =
    let t = c.loop-literal.self in
    let i = c.loop-literal.literal-index in
    let ls = c.args.assumed.now in
    let l = c.from-code.result in
    let lt : i < length (codes ls) = omega (arith, length_codes ls, c.loop-literal-test.true) in
    let v : c.variable.result ≡ l / 2 = c.variable.ensures ∙ ap (λ x. x / 2) (sym c.from-code.ensures) in
    let inside = code_in ls i l (length c.args.self.now.value.now) c.loop-literal-test.true c.from-code.ensures c.requires.inside in
    let set : get_or t.value.now (l / 2) 0 ≡ 0 → ⊥ = λ q. false≢true (sym c.if-is_unset.false ∙ c.is_unset.ensures.1 q) in
    let fails : Fails t.value.now l = (omega (arith, set), λ q. false≢true (sym c.if-not-is_true.true ∙ c.is_true.ensures.1 q)) in
    λ e. rw v (contrary (codes ls) t.value.now t.literals.now c.loop-literal.seen t.count i l t.kept fails
    (code_is ls i l c.loop-literal-test.true c.from-code.ensures) lt (omega (arith, inside, c.requires.table)) c.loop-literal.invariant.assumed)

pub loop-literal-preserved : goal.loop-literal-preserved
loop-literal-preserved c =
    let t = c.loop-literal.self in
    let i = c.loop-literal.literal-index in
    let ls = c.args.assumed.now in
    let l = c.from-code.result in
    let e = code_is ls i l c.loop-literal-test.true c.from-code.ensures in
    let inside : l / 2 < length t.value.now =
    rw c.loop-literal.invariant.size (code_in ls i l (length c.args.self.now.value.now) c.loop-literal-test.true c.from-code.ensures c.requires.inside) in
    elim c.if-is_unset.branch [
      | then-is_unset w ↦
          (let h = w.push.ensures.place in
          rw (w.self-is, h.count) (record {
            size = h.size ∙ c.loop-literal.invariant.size;
            assumed = assumed_push (codes ls) t.literals.now w.push.new.self.literals.now t.count i l h.literals (room_of t w.push.new.self t.count l 0 h) e c.loop-literal.invariant.assumed;
          }))
      | else-is_unset+else-not-is_true w ↦
          rw w.self-is (record {
            size = c.loop-literal.invariant.size;
            assumed = assumed_again (codes ls) t.value.now t.literals.now t.count i l t.kept (w.is_true.ensures.0 w.if-not-is_true.false) e c.loop-literal.invariant.assumed;
          })
    ]
