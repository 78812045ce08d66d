use Rattle.std.proofs.Common.{◌≡◌, ◌^◌, true, false, refl, ap, arith, rules, tests}
use Rattle.std.proofs.lemmas.Nat.{one_shl}
use Rattle.std.proofs.lemmas.Iterator.{YieldsList-from_range, YieldsList-from_map, first_from_find}
use Rattle.cells.specs.Held.{held}
use Rattle.counting.specs.Numbers.{table_at}
use Rattle.counting.proofs.Numbers.{fits, tried}
use Rattle.counting.proofs.question.Question.solve.Goals as goal

pub returns : goal.returns
returns c =
    let s = c.args.self.now.solver.now in
    let test = fits (held s.cells) c.args.self.now.assumed.now in
    let shift = one_shl c.variables.result 32 (omega (arith, s.few, c.variables.ensures)) in
    let same = ap (λ v. 2 ^ v) c.variables.ensures in
    tried s.variables (2 ^ s.variables) (held s.cells) c.args.self.now.assumed.now c.find.result s.few s.ranged c.args.self.now.ranged refl
    (first_from_find c.find.new.self _ c.find.result (λ t. test t ≡ true) (λ t. test t ≡ false) c.find.ensures.ran
    (YieldsList-from_map _ table_at (YieldsList-from_range 0 _ (2 ^ s.variables) c.map.ensures.source (omega (arith, shift, same))) (cc) (λ x r q k. search (rules, tests)))
    (λ x q k. search (rules, tests)) (λ x q k. search (rules, tests)))
