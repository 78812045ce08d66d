-- Down the trail from a conflict: what each place leaves of what counts.
use Rattle.std.proofs.lemmas.Grind.{common_steps}
use Rattle.std.proofs.Common.{◌≡◌, ℕ, ◌+◌, ◌/◌, ◌%◌, ◌<◌, ◌≤◌, Bool, true, false, not, eqb, List, [], length, get_or, set, sym, ap, subst, inl, inr, arith}
use Rattle.std.proofs.lemmas.List.{get_or-set_other}
use Rattle.std.proofs.lemmas.Bool.{cases_eq, cases_lt, false≢true, ne_eqb}
use Rattle.cells.specs.Cells.{clauses}
use Rattle.splitting.specs.Trails.{True, Models, Seen, SeenTrue, OpenTrue, Follows, Denied, Forces, Grows}
use Rattle.splitting.specs.Blames.{Counts, Blamed, Placed, at_open, at_turned}
use Rattle.splitting.specs.declared.blame.Blame.{Blame}
use Rattle.splitting.specs.declared.blame.Blame.TheVariants.{Marked, Every, Place}

-- a denied literal is false where the trail's is true
denied_false : (m : ℕ → ℕ) (trail : List ℕ) (i l : ℕ) (d : Denied trail i l) → True m (get_or trail d.place 0) → True m l → ⊥
denied_false m trail i l d t u = grind (arith, common_steps)

same_seen : (seen : List ℕ) (a b : ℕ) → a / 2 ≡ b / 2 → Seen seen b → Seen seen a
same_seen seen a b e h = let P : ℕ → Type 0 = λ v. 1 ≤ get_or seen v 0 in subst P (sym e) h

pub clash_blamed : (cells trail reason seen : List ℕ) (base n j : ℕ) → j < length (clauses cells)
    → ((k : ℕ) → k < length (get_or (clauses cells) j []) → Denied trail n (get_or (get_or (clauses cells) j []) k 0))
    → ((k : ℕ) → k < length (get_or (clauses cells) j []) → Seen seen (get_or (get_or (clauses cells) j []) k 0))
    → Blamed Marked cells trail reason seen base n
clash_blamed cells trail reason seen base n j h denied marked m d st counts =
    let w = d.meets j h in
    let l = get_or (get_or (clauses cells) j []) w.0 0 in
    let x = denied w.0 w.1.0 in
    denied_false m trail n l x (st x.place x.below (same_seen seen (get_or trail x.place 0) l x.variable (marked w.0 w.1.0))) w.1.1

-- one place: it is no more seen, and follows from what counts then
module _ (cells trail reason seen mid : List ℕ) (base p : ℕ) (apart : (j : ℕ) → j < p → get_or trail j 0 / 2 ≡ get_or trail p 0 / 2 → ⊥)
    (grows : (v : ℕ) → 1 ≤ get_or seen v 0 → 1 ≤ get_or mid v 0) where
  mid_seen : (j : ℕ) → j < p → Seen mid (get_or trail j 0) → Seen (set mid (get_or trail p 0 / 2) 0) (get_or trail j 0)
  mid_seen j h s = omega (arith, get_or-set_other mid (get_or trail p 0 / 2) (get_or trail j 0 / 2) 0 0 (apart j h))

  pub keep_seen : (j : ℕ) → j < p → Seen seen (get_or trail j 0) → Seen (set mid (get_or trail p 0 / 2) 0) (get_or trail j 0)
  keep_seen j h s = mid_seen j h (grows (get_or trail j 0 / 2) s)

  blamed_on : (b b' : Blame) → Blamed b cells trail reason seen base (p + 1)
      → ((m : ℕ → ℕ) → Counts b' m trail reason base p → Counts b m trail reason base (p + 1))
      → ((m : ℕ → ℕ) → Models cells m → SeenTrue m trail (set mid (get_or trail p 0 / 2) 0) p → Counts b' m trail reason base p → Seen seen (get_or trail p 0) → True m (get_or trail p 0))
      → Blamed b' cells trail reason (set mid (get_or trail p 0 / 2) 0) base p
  blamed_on b b' old counts here m d st c =
      old m d (λ j h s. elim (cases_lt j p) [
        | inl q ↦ st j q (keep_seen j q s)
        | inr q ↦
            (let e : j ≡ p = omega arith in
            let P : ℕ → Type 0 = λ x. True m (get_or trail x 0) in
            let S : ℕ → Type 0 = λ x. Seen seen (get_or trail x 0) in
            subst P (sym e) (here m d st c (subst S e s)))
      ]) (counts m c)

  -- an open decision
  pub open_step : (b : Blame) (n : ℕ) (is : Bool) → (Seen seen (get_or trail p 0) → is ≡ true) → base ≤ p → p < n → get_or reason p 0 % 2 ≡ 1
      → Blamed b cells trail reason seen base (p + 1) → Placed b reason base n (p + 1)
      → Blamed (at_open b p is) cells trail reason (set mid (get_or trail p 0 / 2) 0) base p × Placed (at_open b p is) reason base n p
  open_step Marked n true s lo hi odd old at =
      (blamed_on Marked (Place p) old (λ m c. tt) (λ m d st c q. c p lo (omega arith) odd), (lo, hi, odd, omega arith))
  open_step Marked n false s lo hi odd old at = (blamed_on Marked Marked old (λ m c. tt) (λ m d st c q. absurd (false≢true (s q))), tt)
  open_step Every n is s lo hi odd old at =
      (blamed_on Every (Place p) old (λ m c. c) (λ m d st c q. c p lo (omega arith) odd), (lo, hi, odd, omega arith))
  open_step (Place t) n is s lo hi odd old at =
      (blamed_on (Place t) (Place t) old (λ m c. c) (λ m d st c q. c p lo (omega (arith, at.3)) odd), (at.0, at.1, at.2, omega (arith, at.3)))

  -- what is open below p + 1 is open below p, where p is not
  open_down : (m : ℕ → ℕ) → get_or reason p 0 % 2 ≡ 0 → OpenTrue m trail reason base p → OpenTrue m trail reason base (p + 1)
  open_down m even c j lo hi odd = grind (arith, common_steps)

  -- a literal that was turned round
  pub turned_step : (b : Blame) (n : ℕ) (is : Bool) → (Seen seen (get_or trail p 0) → is ≡ true) → base ≤ p → get_or reason p 0 ≡ 0
      → ((m : ℕ → ℕ) → Models cells m → SeenTrue m trail seen base → OpenTrue m trail reason base p → True m (get_or trail p 0))
      → Blamed b cells trail reason seen base (p + 1) → Placed b reason base n (p + 1)
      → Blamed (at_turned b is) cells trail reason (set mid (get_or trail p 0 / 2) 0) base p × Placed (at_turned b is) reason base n p
  turned_step Marked n true s lo z f old at =
      (blamed_on Marked Every old (λ m c. tt) (λ m d st c q. f m d (λ j h w. st j (omega arith) (keep_seen j (omega arith) w)) c), tt)
  turned_step Marked n false s lo z f old at = (blamed_on Marked Marked old (λ m c. tt) (λ m d st c q. absurd (false≢true (s q))), tt)
  turned_step Every n is s lo z f old at =
      (blamed_on Every Every old (λ m c. open_down m (omega arith) c) (λ m d st c q. f m d (λ j h w. st j (omega arith) (keep_seen j (omega arith) w)) c), tt)
  turned_step (Place t) n is s lo z f old at = (
    blamed_on (Place t) (Place t) old (λ m c. c)
        (λ m d st c q. f m d (λ j h w. st j (omega arith) (keep_seen j (omega arith) w)) (λ j a b o. c j a (omega (arith, at.3)) o)),
    (at.0, at.1, at.2, omega (arith, at.3)),
  )

  -- a forced literal, whose clause's literals are seen
  forced_true : (j : ℕ) → Forces cells trail p j (get_or trail p 0)
      → (Seen seen (get_or trail p 0) → (k : ℕ) → k < length (get_or (clauses cells) j []) → Seen mid (get_or (get_or (clauses cells) j []) k 0))
      → (m : ℕ → ℕ) → Models cells m → SeenTrue m trail (set mid (get_or trail p 0 / 2) 0) p → Seen seen (get_or trail p 0) → True m (get_or trail p 0)
  forced_true j f marked m d st q =
      let w = d.meets j f.below in
      let l = get_or (get_or (clauses cells) j []) w.0 0 in
      elim (cases_eq l (get_or trail p 0)) [
        | inl e ↦ (let P : ℕ → Type 0 = λ x. True m x in subst P e w.1.1)
        | inr ne ↦
            (let x = f.others w.0 w.1.0 ne in
            let s : Seen mid (get_or trail x.place 0) = same_seen mid (get_or trail x.place 0) l x.variable (marked q w.0 w.1.0) in
            absurd (denied_false m trail p l x (st x.place x.below (mid_seen x.place x.below s)) w.1.1))
      ]

  pub forced_step : (b : Blame) (n j : ℕ) → get_or reason p 0 % 2 ≡ 0 → Forces cells trail p j (get_or trail p 0)
      → (Seen seen (get_or trail p 0) → (k : ℕ) → k < length (get_or (clauses cells) j []) → Seen mid (get_or (get_or (clauses cells) j []) k 0))
      → Blamed b cells trail reason seen base (p + 1) → Placed b reason base n (p + 1)
      → Blamed b cells trail reason (set mid (get_or trail p 0 / 2) 0) base p × Placed b reason base n p
  forced_step Marked n j even f marked old at = (blamed_on Marked Marked old (λ m c. tt) (λ m d st c q. forced_true j f marked m d st q), tt)
  forced_step Every n j even f marked old at = (blamed_on Every Every old (λ m c. open_down m even c) (λ m d st c q. forced_true j f marked m d st q), tt)
  forced_step (Place t) n j even f marked old at =
      (blamed_on (Place t) (Place t) old (λ m c. c) (λ m d st c q. forced_true j f marked m d st q), (at.0, at.1, at.2, omega (arith, at.3)))

  -- one that is not seen
  pub unseen_step : (b : Blame) (n j : ℕ) → get_or reason p 0 % 2 ≡ 0 → Forces cells trail p j (get_or trail p 0) → (Seen seen (get_or trail p 0) → ⊥)
      → Blamed b cells trail reason seen base (p + 1) → Placed b reason base n (p + 1)
      → Blamed b cells trail reason (set mid (get_or trail p 0 / 2) 0) base p × Placed b reason base n p
  unseen_step b n j even f none old at = forced_step b n j even f (λ s. absurd (none s)) old at

-- seen literals of the base stay seen
pub grows_on : (trail seen mid : List ℕ) (base p : ℕ) → base ≤ p → ((j : ℕ) → j < p → get_or trail j 0 / 2 ≡ get_or trail p 0 / 2 → ⊥)
    → ((v : ℕ) → 1 ≤ get_or seen v 0 → 1 ≤ get_or mid v 0) → Grows trail seen (set mid (get_or trail p 0 / 2) 0) base
grows_on trail seen mid base p lo apart grows j h s = grind (arith, common_steps)

pub grows_then : (trail a b c : List ℕ) (base : ℕ) → Grows trail a b base → Grows trail b c base → Grows trail a c base
grows_then trail a b c base f g j h s = g j h (f j h s)

pub follows_grown : (cells trail reason seen seen' : List ℕ) (base n : ℕ) → Grows trail seen seen' base → Follows cells trail reason seen base n → Follows cells trail reason seen' base n
follows_grown cells trail reason seen seen' base n g f i lo h z m d st op = f i lo h z m d (λ j q s. st j q (g j q s)) op

pub is_seen : (x : ℕ) → 1 ≤ x → not (eqb x 0) ≡ true
is_seen x h = ap not (ne_eqb x 0 (omega arith))
