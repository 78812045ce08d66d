use Rattle.std.proofs.Common.{◌-◌, ◌++◌, length, take, drop, arith}
use Rattle.std.proofs.lemmas.List.{length-take, length-drop, length-append, length-take-le}
use borrow.Rule.Slice.PartMut.{post_of}
use Rattle.cells.proofs.Stores.{used_is, count_used, pushed_on}
use Rattle.cells.proofs.store.Cells.push.Goals as goal

pub overflow_add-self-3 : goal.overflow_add-self-3
overflow_add-self-3 c = let s = c.args.self.now in omega (arith, c.requires.room, used_is s, count_used s)

pub invariant_of-self : goal.invariant_of-self
invariant_of-self c =
    let s = c.args.self.now in
    let xs = s.numbers.now in
    let post = post_of s.used (length xs - s.used) xs in
    let new = c.write_clause.new.cells in
    let f = (pushed_on s c.args.clause.now new _ (length xs - s.used) c.write_clause.ensures.after c.write_clause.ensures.small c.requires.short).0 in
    record {
      within = omega (
        arith,
        c.requires.room,
        used_is s,
        c.write_clause.auto.cells,
        length-take (length xs - s.used) (drop s.used xs),
        length-drop s.used xs,
        length-append (take s.used xs) (new ++ post),
        length-append new post,
        length-take-le s.used xs s.within,
      );
      coded = f.coded;
      small = f.small;
      counted = f.counted;
    }

pub returns-clause-after : goal.returns-clause-after
returns-clause-after c =
    let s = c.args.self.now in
    (pushed_on s c.args.clause.now c.write_clause.new.cells _ (length s.numbers.now - s.used) c.write_clause.ensures.after c.write_clause.ensures.small c.requires.short).1
