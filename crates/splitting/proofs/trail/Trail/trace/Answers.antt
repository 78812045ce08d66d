use Rattle.std.proofs.Common.{◌≡◌, ℕ, ◌+◌, ◌-◌, ◌/◌, ◌<◌, ◌≤◌, not, eqb, List, length, get_or, set, sym, subst, arith}
use Rattle.cells.specs.Cells.{Starts}
use Rattle.splitting.specs.Blames.{Blamed, Placed}
use Rattle.splitting.specs.Trails.{Seen}
use Rattle.splitting.proofs.Walks.{clash_blamed, open_step, turned_step, forced_step, unseen_step, grows_on, grows_then, is_seen}
use Rattle.splitting.proofs.trail.Trail.trace.Goals as goal
use Rattle.splitting.proofs.trail.Trail.trace.Goals.{in-Open, in-Turned, in-Forced, in-Forced+else-is_seen}

pub loop-i-init : goal.loop-i-init
loop-i-init c =
    let t = c.args.self.now in
    let q = c.requires.clash in
    let r = c.clause_at.ensures.value q.number q.starts in
    let P : List ℕ → Type 0 = λ x. (k : ℕ) → k < length x → Seen c.see.new.seen (get_or x k 0) in
    record {
      after = clash_blamed c.args.cells.now t.literals.now t.reasons.now c.see.new.seen t.base t.count q.number q.below q.denied (subst P r.clause c.see.ensures.marked);
      placed = tt;
      grows = λ j h s. c.see.ensures.grows _ s;
    }

pub loop-i-preserved : goal.loop-i-preserved
loop-i-preserved c =
    let t = c.args.self.now in
    let cells = c.args.cells.now in
    let trail = t.literals.now in
    let reason = t.reasons.now in
    let base = t.base in
    let n = t.count in
    let seen = c.loop-i.seen in
    let b = c.loop-i.blame in
    let p = c.loop-i.i - 1 in
    let e : c.loop-i.i ≡ p + 1 = omega arith in
    let lo : base ≤ p = omega arith in
    let hi : p < n = omega arith in
    let P : ℕ → Type 0 = λ x. Blamed b cells trail reason seen base x in
    let Q : ℕ → Type 0 = λ x. Placed b reason base n x in
    let old : Blamed b cells trail reason seen base (p + 1) = subst P e c.loop-i.invariant.after in
    let at : Placed b reason base n (p + 1) = subst Q e c.loop-i.invariant.placed in
    let apart : (j : ℕ) → j < p → get_or trail j 0 / 2 ≡ get_or trail p 0 / 2 → ⊥ = λ j h. t.kept.apart j p h hi in
    let stays : (v : ℕ) → 1 ≤ get_or seen v 0 → 1 ≤ get_or seen v 0 = λ v h. h in
    let more = λ (mid : List ℕ) (g : (v : ℕ) → 1 ≤ get_or seen v 0 → 1 ≤ get_or mid v 0).
    grows_then trail c.args.seen.now seen (set mid (get_or trail p 0 / 2) 0) base c.loop-i.invariant.grows (grows_on trail seen mid base p lo apart g) in
    let x = get_or seen (get_or trail p 0 / 2) 0 in
    elim c.match-from.branch [
      | in-Open w ↦
          (let s = open_step cells trail reason seen seen base p apart stays b n (not (eqb x 0)) (is_seen x) lo hi w.in-Open.ensures.0 old at in
          rw (w.seen-is, w.blame-is, w.at_open-blame.ensures) (record { after = s.0; placed = s.1; grows = more seen stays }))
      | in-Turned w ↦
          (let s = turned_step cells trail reason seen seen base p apart stays b n (not (eqb x 0)) (is_seen x) lo w.in-Turned.ensures
          (λ m d st op. c.requires.follows p lo hi w.in-Turned.ensures m d (λ j q s. st j q (c.loop-i.invariant.grows j q s)) op) old at in
          rw (w.seen-is, w.blame-is, w.at_turned-blame.ensures) (record { after = s.0; placed = s.1; grows = more seen stays }))
      | in-Forced w ↦
          (let r = c.requires.good.reasons p lo hi w.in-Forced.ensures.0 w.in-Forced.ensures.1 in
          let S : ℕ → Type 0 = λ y. Starts cells y r.number in
          let read = w.clause_at-in-Forced.ensures.value r.number (subst S (sym w.in-Forced.ensures.2) r.starts) in
          let mid = w.see-in-Forced.new.seen in
          let M : List ℕ → Type 0 = λ y. (k : ℕ) → k < length y → Seen mid (get_or y k 0) in
          let s = forced_step cells trail reason seen mid base p apart w.see-in-Forced.ensures.grows b n r.number w.in-Forced.ensures.0 r.forces
          (λ q. subst M read.clause w.see-in-Forced.ensures.marked) old at in
          rw (w.seen-is, w.blame-is) (record { after = s.0; placed = s.1; grows = more mid w.see-in-Forced.ensures.grows }))
      | in-Forced+else-is_seen w ↦
          (let r = c.requires.good.reasons p lo hi w.in-Forced.ensures.0 w.in-Forced.ensures.1 in
          let s = unseen_step cells trail reason seen seen base p apart stays b n r.number w.in-Forced.ensures.0 r.forces
          (λ q. omega (arith, q, w.if-is_seen.false)) old at in
          rw (w.seen-is, w.blame-is) (record { after = s.0; placed = s.1; grows = more seen stays }))
    ]
