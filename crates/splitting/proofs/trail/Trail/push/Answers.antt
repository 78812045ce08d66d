use Rattle.std.proofs.Common.{arith}
use Rattle.std.proofs.lemmas.List.{length-set}
use Rattle.splitting.proofs.Tables.{push_room, kept_push}
use Rattle.splitting.proofs.trail.Trail.push.Goals as goal

pub bounds-self-self : goal.bounds-self-self
bounds-self-self c = let t = c.args.self.now in push_room t.value.now t.literals.now t.count c.args.literal t.kept c.requires.unset c.requires.inside

pub bounds-self-self-2 : goal.bounds-self-self-2
bounds-self-self-2 c =
    let t = c.args.self.now in omega (arith, push_room t.value.now t.literals.now t.count c.args.literal t.kept c.requires.unset c.requires.inside)

pub invariant_of-self-3 : goal.invariant_of-self-3
invariant_of-self-3 c =
    let t = c.args.self.now in
    record {
      kept = kept_push t.value.now t.literals.now t.count c.args.literal t.kept c.requires.unset c.requires.inside;
      literal_room = simp length-set t.literal_room;
      reason_room = simp length-set t.reason_room;
      based = omega arith;
    }
