use Rattle.std.proofs.Common.{◌≡◌, ℕ, ◌+◌, ◌*◌, ◌^◌, ◌%◌, ◌<◌, ◌≤◌, cond, length, length-take, take, sym, subst, refl, pow_mono, arith}
use Rattle.std.proofs.lemmas.Fn.{says_at}
use Rattle.bits.specs.Bits.{IsNumberOf}
use Rattle.bits.proofs.Numbers.{one_more, number_below, shifted}
use Rattle.bits.proofs.number.Goals as goal

next : (g : _) (c : goal.After-from g) → IsNumberOf g.F.Fn c.args.is_one (take (c.loop-j.j + 1) c.args.items.now) (c.loop-j.number + c.from.result * 2 ^ c.loop-j.j % 4294967296)
next g c =
    let one : c.from.result ≡ cond c.is_one.result 1 0 = grind arith in
    subst (λ (t : ℕ). IsNumberOf g.F.Fn c.args.is_one (take (c.loop-j.j + 1) c.args.items.now) (c.loop-j.number + t)) (sym (shifted c.is_one.result c.loop-j.j c.from.result (omega arith) one))
    (one_more g.F.Fn c.args.is_one c.args.items.now c.loop-j.j c.index-items-j.result c.is_one.result c.loop-j.number c.loop-j-test.true c.index-items-j.is (says_at g.F.Fn c.is_one.ensures refl) c.loop-j.invariant)

pub overflow_add-number : goal.overflow_add-number
overflow_add-number g c =
    let below : c.loop-j.number + c.from.result * 2 ^ c.loop-j.j % 4294967296 < 2 ^ length (take (c.loop-j.j + 1) c.args.items.now) = number_below g.F.Fn c.args.is_one _ _ (next g c) in
    let few : length (take (c.loop-j.j + 1) c.args.items.now) ≤ 32 = omega (arith, length-take (c.loop-j.j + 1) c.args.items.now) in
    let wide : 2 ^ length (take (c.loop-j.j + 1) c.args.items.now) ≤ 2 ^ 32 = pow_mono few in
    omega arith

pub loop-j-preserved : goal.loop-j-preserved
loop-j-preserved g c = next g c
