-- A place of the trail is written: what its places mean.
use Rattle.std.proofs.lemmas.Grind.{common_steps}
use Rattle.std.proofs.Common.{◌≡◌, ℕ, ◌+◌, ◌-◌, ◌/◌, ◌%◌, ◌<◌, ◌≤◌, List, [], length, get_or, set, sym, ap, ◌∙◌, subst, inl, inr, arith}
use Rattle.std.proofs.lemmas.List.{get_or-set_same, get_or-set_other}
use Rattle.std.proofs.lemmas.Bool.{cases_eq, cases_lt}
use Rattle.splitting.specs.Cells.{Fails, Met}
use Rattle.cells.specs.Cells.{clauses}
use Rattle.splitting.specs.Trails.{Kept, True, Models, SeenTrue, OpenTrue, Follows, Denied, Clausal, Reasons, Front, MetBy, FrontBy, Fronts, negation}
use Rattle.splitting.specs.Searches.{GoodTrail, Writes, Spreads}
use Rattle.splitting.specs.Blames.{Blamed}
use Rattle.splitting.specs.declared.trail.Trail.{Trail}
use Rattle.splitting.specs.declared.blame.Blame.TheVariants.{Place}
use Rattle.splitting.proofs.Tables.{at_set, listed_at}

-- what the table makes false is denied by the trail
pub denied_of : (value trail : List ℕ) (n l : ℕ) → Kept value trail n → Fails value l → Denied trail n l
denied_of value trail n l k f =
    let i = listed_at value trail n (l / 2) k f.0 in
    let s = k.sound i.0 i.1.0 in
    record {
      place = i.0;
      below = i.1.0;
      variable = i.1.1;
      sign = λ e. f.1 (ap (λ v. get_or value v 0) (sym i.1.1) ∙ s ∙ ap (λ x. 1 + x) e);
    }

-- a place is written at the end of the trail or below it
module _ (cells trail reason : List ℕ) (base n l x : ℕ) (a : n < length trail) (b : n < length reason) (base-le : base ≤ n) where
  denied_write : (i y : ℕ) → i ≤ n → Denied trail i y → Denied (set trail n l) i y
  denied_write i y h d =
      let e : get_or (set trail n l) d.place 0 ≡ get_or trail d.place 0 = get_or-set_other trail n d.place l 0 (λ q. omega (arith, d.below)) in
      record { place = d.place; below = d.below; variable = ap (λ v. v / 2) e ∙ d.variable; sign = λ q. d.sign (ap (λ v. v % 2) (sym e) ∙ q) }

  clausal_write : (i y r : ℕ) → i ≤ n → Clausal cells trail i y r → Clausal cells (set trail n l) i y r
  clausal_write i y r h c = grind (arith, common_steps)

  pub reasons_write : Reasons cells trail reason base n → (x % 2 ≡ 0 → 1 ≤ x → Clausal cells trail n l x) → Reasons cells (set trail n l) (set reason n x) base (n + 1)
  reasons_write reasons here i w h z o =
      let P : ℕ → ℕ → ℕ → Type 0 = λ u y r. Clausal cells (set trail n l) u y r in
      elim (cases_eq i n) [
        | inl e ↦
            (let r-is : get_or (set reason n x) i 0 ≡ x = ap (λ y. get_or (set reason n x) y 0) e ∙ get_or-set_same reason n x 0 b in
            let t-is : get_or (set trail n l) i 0 ≡ l = ap (λ y. get_or (set trail n l) y 0) e ∙ get_or-set_same trail n l 0 a in
            let c = clausal_write n l x (omega arith) (here (ap (λ y. y % 2) (sym r-is) ∙ z) (omega (arith, r-is))) in
            subst (λ (r : ℕ). P i (get_or (set trail n l) i 0) r) (sym r-is) (subst (λ (y : ℕ). P i y x) (sym t-is) (subst (λ (u : ℕ). P u l x) (sym e) c)))
        | inr ne ↦
            (let below : i < n = omega (arith, ne) in
            let r-is = get_or-set_other reason n i x 0 ne in
            let t-is = get_or-set_other trail n i l 0 ne in
            let c = clausal_write i (get_or trail i 0) (get_or reason i 0) (omega arith) (reasons i w below (ap (λ y. y % 2) (sym r-is) ∙ z) (omega (arith, r-is))) in
            subst (λ (r : ℕ). P i (get_or (set trail n l) i 0) r) (sym r-is) (subst (λ (y : ℕ). P i y (get_or reason i 0)) (sym t-is) c))
      ]

  -- what is made true of the trail written is made true of the trail
  seen_before : (m : ℕ → ℕ) (seen : List ℕ) → SeenTrue m (set trail n l) seen base → SeenTrue m trail seen base
  seen_before m seen st j h s =
      let e = get_or-set_other trail n j l 0 (λ q. omega arith) in
      let P : ℕ → Type 0 = λ y. True m y in
      subst P e (st j h (omega (arith, s, ap (λ y. get_or seen (y / 2) 0) e)))

  open_before : (m : ℕ → ℕ) (i : ℕ) → i ≤ n → OpenTrue m (set trail n l) (set reason n x) base i → OpenTrue m trail reason base i
  open_before m i h op j lo hi odd =
      let e = get_or-set_other trail n j l 0 (λ q. omega arith) in
      let f = get_or-set_other reason n j x 0 (λ q. omega arith) in
      let P : ℕ → Type 0 = λ y. True m y in
      subst P e (op j lo hi (ap (λ y. y % 2) f ∙ odd))

  pub follows_write : (seen : List ℕ) → Follows cells trail reason seen base n
      → (x ≡ 0 → (m : ℕ → ℕ) → Models cells m → SeenTrue m trail seen base → OpenTrue m trail reason base n → True m l)
      → Follows cells (set trail n l) (set reason n x) seen base (n + 1)
  follows_write seen follows here i w h z m d st op =
      let P : ℕ → Type 0 = λ y. True m y in
      elim (cases_eq i n) [
        | inl e ↦
            (let r-is : get_or (set reason n x) i 0 ≡ x = ap (λ y. get_or (set reason n x) y 0) e ∙ get_or-set_same reason n x 0 b in
            let t-is : get_or (set trail n l) i 0 ≡ l = ap (λ y. get_or (set trail n l) y 0) e ∙ get_or-set_same trail n l 0 a in
            subst P (sym t-is) (here (sym r-is ∙ z) m d (seen_before m seen st) (open_before m n (omega arith) (λ j lo hi odd. op j lo (omega (arith, e)) odd))))
        | inr ne ↦
            (let r-is = get_or-set_other reason n i x 0 ne in
            let t-is = get_or-set_other trail n i l 0 ne in
            subst P (sym t-is) (follows i w (omega (arith, ne)) (sym r-is ∙ z) m d (seen_before m seen st) (open_before m i (omega arith) op)))
      ]

  met_by_write : (i : ℕ) (c : List ℕ) → i ≤ n → MetBy trail i c → MetBy (set trail n l) i c
  met_by_write i c h w = grind (arith, common_steps)

  pub front_by_write : (i p : ℕ) → i ≤ n → FrontBy cells trail i p → FrontBy cells (set trail n l) i p
  front_by_write i p h f = record { number = f.number; starts = f.starts; met = λ q w. met_by_write i (get_or (clauses cells) q []) h (f.met q w) }

  pub fronts_write : Fronts cells trail reason base n → (x % 2 ≡ 1 → FrontBy cells trail n (x / 2))
      → Fronts cells (set trail n l) (set reason n x) base (n + 1)
  fronts_write fronts here i w h o =
      elim (at_set reason n x i b) [
        | inl e ↦
            let f = front_by_write n (x / 2) (omega arith) (here (ap (λ y. y % 2) (sym e.1) ∙ o)) in
            (let P : ℕ → ℕ → Type 0 = λ u v. FrontBy cells (set trail n l) u (v / 2) in
            subst (λ (v : ℕ). P i v) (sym e.1) (subst (λ (u : ℕ). P u x) (sym e.0) f))
        | inr e ↦
            let below : i < n = omega (arith, e.0) in
            let f = front_by_write i (get_or reason i 0 / 2) (omega arith) (fronts i w below (ap (λ y. y % 2) (sym e.1) ∙ o)) in
            (let P : ℕ → Type 0 = λ v. FrontBy cells (set trail n l) i (v / 2) in subst P (sym e.1) f)
      ]

pub room_of : (t t' : Trail) (n l why : ℕ) → Writes t t' n l why → n < length t.literals.now
room_of t t' n l why w = grind (arith, common_steps)

-- a literal goes onto the trail at place n, below its end or there
pub good_write : (cells : List ℕ) (t t' : Trail) (n l why : ℕ) → Writes t t' n l why → GoodTrail cells t → t.base ≤ n → n ≤ t.count
    → (why % 2 ≡ 0 → 1 ≤ why → Clausal cells t.literals.now n l why)
    → (why % 2 ≡ 1 → FrontBy cells t.literals.now n (why / 2))
    → GoodTrail cells t'
good_write cells t t' n l why w g lo hi e f =
    let h = room_of t t' n l why w in
    rw (w.literals, w.reasons, w.count, w.base) (record {
      reasons = reasons_write cells t.literals.now t.reasons.now t.base n l why h (omega (arith, t.literal_room, t.reason_room)) lo (λ y p q. g.reasons y p (omega arith)) e;
      fronts = fronts_write cells t.literals.now t.reasons.now t.base n l why h (omega (arith, t.literal_room, t.reason_room)) lo (λ y p q. g.fronts y p (omega arith)) f;
    })

-- the same of what follows
pub follows_at : (cells seen : List ℕ) (t t' : Trail) (n l why : ℕ) → Writes t t' n l why → t.base ≤ n → n ≤ t.count
    → Follows cells t.literals.now t.reasons.now seen t.base t.count
    → (why ≡ 0 → (m : ℕ → ℕ) → Models cells m → SeenTrue m t.literals.now seen t.base → OpenTrue m t.literals.now t.reasons.now t.base n → True m l)
    → Follows cells t'.literals.now t'.reasons.now seen t'.base t'.count
follows_at cells seen t t' n l why w lo hi follows e =
    rw (w.literals, w.reasons, w.count, w.base)
    (follows_write cells t.literals.now t.reasons.now t.base n l why (room_of t t' n l why w) (omega (arith, t.literal_room, t.reason_room, room_of t t' n l why w)) lo seen (λ y p q. follows y p (omega arith)) e)

-- forced places alone are new
pub follows_same : (cells seen : List ℕ) (t t' : Trail) → Spreads t t'
    → Follows cells t.literals.now t.reasons.now seen t.base t.count → Follows cells t'.literals.now t'.reasons.now seen t'.base t'.count
follows_same cells seen t t' s follows i w h z m d st op =
    let P : ℕ → Type 0 = λ y. True m y in
    let same = s.same_literals in
    elim (cases_lt i t.count) [
      | inl q ↦ subst P (sym (same i q)) (follows i (omega (arith, s.base)) q (sym (s.same_reasons i q) ∙ z) m d
          (λ j p x. subst P (same j (omega (arith, t.based))) (st j (omega (arith, s.base)) (omega (arith, x, ap (λ y. get_or seen (y / 2) 0) (same j (omega (arith, t.based)))))))
          (λ j lo hi odd. subst P (same j (omega arith)) (op j (omega (arith, s.base)) hi (ap (λ y. y % 2) (s.same_reasons j (omega arith)) ∙ odd))))
      | inr q ↦ absurd (omega (arith, s.forced i q h))
    ]

-- a conflict that comes from an open decision turns that round
pub turned : (cells trail reason seen : List ℕ) (base i : ℕ) → Blamed (Place i) cells trail reason seen base base
    → (m : ℕ → ℕ) → Models cells m → SeenTrue m trail seen base → OpenTrue m trail reason base i → True m (negation (get_or trail i 0))
turned cells trail reason seen base i blamed m d st op =
    let l = negation (get_or trail i 0) in
    let v : l / 2 ≡ get_or trail i 0 / 2 = omega arith in
    let s : l % 2 ≡ 1 - get_or trail i 0 % 2 = omega arith in
    elim (cases_eq (m (get_or trail i 0 / 2)) (1 + get_or trail i 0 % 2)) [
      | inl t ↦ absurd (blamed m d st (λ j lo hi odd. elim (cases_eq j i) [
        | inl e ↦ (let P : ℕ → Type 0 = λ y. True m (get_or trail y 0) in subst P (sym e) t)
        | inr ne ↦ op j lo (omega (arith, ne)) odd
      ]))
      | inr f ↦ (let u = d.total (get_or trail i 0 / 2) in let e : m (l / 2) ≡ m (get_or trail i 0 / 2) = ap m v in omega (arith, e, u, s, f))
    ]

-- the clauses that the table meets are met by the trail
met_by : (value trail : List ℕ) (n : ℕ) (c : List ℕ) → Kept value trail n → Met value c → MetBy trail n c
met_by value trail n c k w =
    let l = get_or c w.0 0 in
    let i = listed_at value trail n (l / 2) k (omega (arith, w.1.1)) in
    let s = k.sound i.0 i.1.0 in
    let e : get_or value (get_or trail i.0 0 / 2) 0 ≡ get_or value (l / 2) 0 = ap (λ v. get_or value v 0) i.1.1 in
    (w.0, i.0, w.1.0, i.1.0, omega (arith, s, e, w.1.1, i.1.1))

pub front_by : (cells value trail : List ℕ) (n p : ℕ) → Kept value trail n → Front cells value p → FrontBy cells trail n p
front_by cells value trail n p k f =
    record { number = f.number; starts = f.starts; met = λ i h. met_by value trail n (get_or (clauses cells) i []) k (f.met i h) }

met_since : (value trail : List ℕ) (n i : ℕ) (c : List ℕ) → Kept value trail n → i ≤ n → MetBy trail i c → Met value c
met_since value trail n i c k h w = grind (arith, common_steps)

pub front_since : (cells value trail : List ℕ) (n i p : ℕ) → Kept value trail n → i ≤ n → FrontBy cells trail i p → Front cells value p
front_since cells value trail n i p k h f =
    record { number = f.number; starts = f.starts; met = λ q w. met_since value trail n i (get_or (clauses cells) q []) k h (f.met q w) }

-- the front of an open decision, which is turned round
pub front_turned : (cells : List ℕ) (t t' : Trail) (i l : ℕ) → Writes t t' i l 0 → GoodTrail cells t → t.base ≤ i → i < t.count
    → get_or t.reasons.now i 0 % 2 ≡ 1 → Front cells t'.value.now (get_or t.reasons.now i 0 / 2)
front_turned cells t t' i l w g lo hi odd =
    let p = get_or t.reasons.now i 0 / 2 in
    let h = room_of t t' i l 0 w in
    let by : FrontBy cells t'.literals.now i p
    = rw w.literals (front_by_write cells t.literals.now t.reasons.now t.base i l 0 h (omega (arith, t.literal_room, t.reason_room)) lo i p (omega arith) (g.fronts i lo hi odd)) in
    front_since cells t'.value.now t'.literals.now t'.count i p t'.kept (omega (arith, w.count)) by
