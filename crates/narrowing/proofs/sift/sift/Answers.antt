use Rattle.std.proofs.Common.{◌≡◌, ◌+◌, ◌<◌, ◌++◌, length, get_or, refl, drop, sym, ap, ◌∙◌, arith}
use Rattle.std.proofs.lemmas.List.{take-append-drop, length-take, get_or_append_left, set-append_left, set-get_or}
use Rattle.narrowing.proofs.Sifts.{asked, asked_yes, asked_no, sifted_none, sifted_skip, sifted_stay, sifted_drop, sifted_asks, sifted_as, turned}
use Rattle.narrowing.proofs.sift.sift.Goals as goal
use Rattle.narrowing.proofs.sift.sift.Goals.{then-mark-eq1+then-ne+then-i-first, else-mark-eq1, else-mark-eq1-via-then-mark-eq1+then-ne+else-i-first, else-mark-eq1-via-then-mark-eq1+else-ne, else-mark-eq1-via-else-mark-eq1}

pub loop-i-init : goal.loop-i-init
loop-i-init c =
    sifted_as c.args.assumed.now c.args.first 0 0 c.args.marks.now c.args.again.now _ _ _ (take-append-drop _ _) c.iter-again.ensures.rest refl
    (sifted_none c.args.assumed.now c.args.first c.args.marks.now c.args.again.now)

pub loop-i-preserved : goal.loop-i-preserved
loop-i-preserved c =
    let ls = c.args.assumed.now in
    let f = c.args.first in
    let i = c.loop-i.i in
    let s = c.loop-i.invariant.0 in
    let left = c.loop-i.invariant.1 in
    let e = c.args.marks.now in
    let again = c.args.again.now in
    let n = asked ls e i in
    let items = c.loop-i.mark-items in
    let post = drop (length ls) e in
    let ms = items ++ post in
    let in-items : i < length items = omega (arith, c.loop-i.auto.mark-items, c.loop-i-test.true) in
    let inside : i < length ls = omega (arith, c.loop-i-test.true, length-take (length ls) e) in
    let here : get_or ms i 0 ≡ get_or items i 0 = get_or_append_left items post 0 i in-items in
    elim c.if-mark-eq1.branch [
      | then-mark-eq1+then-ne+then-i-first w ↦
          let m = here ∙ w.if-mark-eq1.true in
          let t = turned again _ _ n w.next.result _ left (λ q. ap (λ y. y.rest.now) q) w.next.ensures.steps in
          sifted_as ls f (i + 1) (n + 1) e again _ _ _ (ap (λ y. y ++ post) w.mark-items-is ∙ sym (set-append_left items post i 0 in-items)) (ap (λ y. y.rest.now) w.again-is ∙ t.0)
          (asked_yes ls f i e again ms inside c.requires s m) (sifted_drop ls f i e again ms inside c.requires s m w.if-i-first.true (t.1 _ refl (sym w.ne.ensures ∙ w.if-ne.true)))
      | else-mark-eq1 w ↦ elim w.else-mark-eq1.branch [
        | else-mark-eq1-via-then-mark-eq1+then-ne+else-i-first x ↦ (
            let m = here ∙ x.if-mark-eq1.true in
            let t = turned again _ _ n x.next.result _ left (λ q. ap (λ y. y.rest.now) q) x.next.ensures.steps in
            sifted_as ls f (i + 1) (n + 1) e again ms _ _ (ap (λ y. y ++ post) (w.mark-items-is ∙ x.mark-items-is ∙ set-get_or items i 0)) (ap (λ y. y.rest.now) (w.again-is ∙ x.again-is) ∙ t.0)
            (asked_yes ls f i e again ms inside c.requires s m) (sifted_stay ls f i e again ms inside c.requires s m))
        | else-mark-eq1-via-then-mark-eq1+else-ne x ↦ (
            let m = here ∙ x.if-mark-eq1.true in
            let t = turned again _ _ n x.next.result _ left (λ q. ap (λ y. y.rest.now) q) x.next.ensures.steps in
            sifted_as ls f (i + 1) (n + 1) e again ms _ _ (ap (λ y. y ++ post) (w.mark-items-is ∙ x.mark-items-is ∙ set-get_or items i 0)) (ap (λ y. y.rest.now) (w.again-is ∙ x.again-is) ∙ t.0)
            (asked_yes ls f i e again ms inside c.requires s m) (sifted_stay ls f i e again ms inside c.requires s m))
        | else-mark-eq1-via-else-mark-eq1 x ↦ (
            let m = λ (q : get_or ms i 0 ≡ 1). x.if-mark-eq1.false (sym here ∙ q) in
            sifted_as ls f (i + 1) n e again ms _ _ (ap (λ y. y ++ post) (w.mark-items-is ∙ x.mark-items-is ∙ set-get_or items i 0)) (ap (λ y. y.rest.now) (w.again-is ∙ x.again-is) ∙ left)
            (asked_no ls f i e again ms inside c.requires s m) (sifted_skip ls f i e again ms inside c.requires s m))
      ]
    ]

pub returns : goal.returns
returns c =
    let s = c.loop-i.invariant.0 in
    record {
      bound = s.bound;
      fewer = s.fewer;
      firsts = s.firsts;
      asks = sifted_asks c.args.assumed.now c.args.first c.loop-i.i c.args.marks.now c.args.again.now _ s c.requires (omega (arith, length-take (length c.args.assumed.now) c.args.marks.now, c.loop-i.auto.i-end, c.loop-i-test.false, c.requires));
      rest = s.rest;
    }
