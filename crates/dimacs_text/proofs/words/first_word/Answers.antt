use Rattle.std.proofs.Common.{◌≡◌, length, arith, rules}
use Rattle.dimacs_text.proofs.Splits.{words_none, words_at}
use Rattle.dimacs_text.proofs.words.first_word.Goals as goal

pub returns-then-is_empty : goal.returns-then-is_empty
returns-then-is_empty c =
    let z : length c.split_at.result.1.now ≡ 0 = search rules in
    words_none c.args.bytes.now c.first_place.result (omega arith) c.first_place.ensures.before

pub returns : goal.returns
returns c =
    let a = c.first_place.ensures in
    let b = c.first_place-2.ensures in
    words_at c.args.bytes.now c.split_at.result.1.now c.split_at-2.result.0.now c.split_at-2.result.1.now c.first_place.result c.first_place-2.result
    a.bound a.before (search rules) a.here c.split_at.ensures.back b.bound b.before b.here c.split_at-2.ensures.front c.split_at-2.ensures.back
