use Rattle.std.proofs.Common.{◌+◌, Some, take, ap, ◌∙◌, arith}
use Rattle.std.proofs.lemmas.List.{take_rest}
use Rattle.text.proofs.Cuts.{cut_law, cut_at_place, cut_nowhere}
use Rattle.text.proofs.cut.Goals as goal

pub returns-then-place-bytes : goal.returns-then-place-bytes
returns-then-place-bytes c =
    let i = c.place_of-place.result in
    let none = cut_nowhere c.args.mark c.args.bytes.now i c.place_of-place.ensures.value (omega (arith, c.if-place-bytes)) in
    record { value = none; law = cut_law c.args.mark c.args.bytes.now _ none }

pub returns : goal.returns
returns c =
    let i = c.place_of-place.result in
    let some = ap (λ t. Some (record { front = take i c.args.bytes.now; back = t })) (take_rest c.args.bytes.now (i + 1))
    ∙ cut_at_place c.args.mark c.args.bytes.now i c.place_of-place.ensures.value (omega (arith, c.if-place-bytes, c.place_of-place.ensures.bound)) in
    record { value = some; law = cut_law c.args.mark c.args.bytes.now _ some }
