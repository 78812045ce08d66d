-- Assumptions on the trail, one more of them.
use Rattle.std.proofs.Common.{◌≡◌, ℕ, ◌+◌, ◌/◌, ◌%◌, ◌<◌, ◌≤◌, List, length, get_or, set, sym, ap, ◌∙◌, subst, inl, inr, arith, below_more}
use Rattle.std.proofs.lemmas.List.{get_or-set_same, get_or-set_other, get_or-map, length-map}
use Rattle.literal.specs.declared.Literal.{Literal}
use Rattle.splitting.specs.Cells.{Holds, Fails, InTable}
use Rattle.cells.specs.Cells.{codes, literal}
use Rattle.splitting.specs.Trails.{Kept, Assumed, Contrary, Models, True, Seen, SeenTrue, Refutes}
use Rattle.splitting.proofs.Tables.{at_set, listed_at}

pub code_is : (ls : List Literal) (i r : ℕ) → i < length ls → r ≡ (get_or ls i (literal 0)).code → get_or (codes ls) i 0 ≡ r
code_is ls i r h e = get_or-map (λ (l : Literal). l.code) ls i (literal 0) 0 h ∙ sym e

pub code_at : (ls : List Literal) (i : ℕ) → i < length ls → get_or (codes ls) i 0 ≡ (get_or ls i (literal 0)).code
code_at ls i h = get_or-map (λ (l : Literal). l.code) ls i (literal 0) 0 h

pub length_codes : (ls : List Literal) → length (codes ls) ≡ length ls
length_codes ls = length-map ls (λ (l : Literal). l.code)

-- its variable is in the table
pub code_in : (ls : List Literal) (i r size : ℕ) → i < length ls → r ≡ (get_or ls i (literal 0)).code → InTable (codes ls) size → r / 2 < size
code_in ls i r size h e w = omega (arith, w i (omega (arith, length_codes ls)), ap (λ x. x / 2) (code_is ls i r h e))

-- it goes onto the trail
pub assumed_push : (assumed trail trail' : List ℕ) (n i l : ℕ) → trail' ≡ set trail n l → n < length trail → get_or assumed i 0 ≡ l
    → Assumed assumed trail n i → Assumed assumed trail' (n + 1) (i + 1)
assumed_push assumed trail trail' n i l e h s a =
    let P : List ℕ → Type 0 = λ t. Assumed assumed t (n + 1) (i + 1) in
    let Each : ℕ → Type 0 = λ k. (t : ℕ) × ((t < n + 1) × (get_or (set trail n l) t 0 ≡ get_or assumed k 0)) in
    subst P (sym e) (record {
      each = below_more Each i
          (λ k b. let w = a.each k b in (w.0, (omega (arith, w.1.0), get_or-set_other trail n w.0 l 0 (λ q. omega (arith, w.1.0)) ∙ w.1.1)))
          (n, (omega arith, get_or-set_same trail n l 0 h ∙ sym s));
      only = λ t b. elim (at_set trail n l t h) [
        | inl q ↦ (i, (omega arith, q.1 ∙ sym s))
        | inr q ↦ (let w = a.only t (omega (arith, q.0)) in (w.0, (omega (arith, w.1.0), q.1 ∙ w.1.1)))
      ];
    })

-- the place of a literal that has a value
placed : (value trail : List ℕ) (n l : ℕ) → Kept value trail n → 1 ≤ get_or value (l / 2) 0 → (t : ℕ) × ((t < n) × ((get_or trail t 0 / 2 ≡ l / 2) × (get_or value (l / 2) 0 ≡ 1 + get_or trail t 0 % 2)))
placed value trail n l k h =
    let w = listed_at value trail n (l / 2) k h in
    (w.0, (w.1.0, (w.1.1, ap (λ v. get_or value v 0) (sym w.1.1) ∙ k.sound w.0 w.1.0)))

-- it is on the trail already
pub assumed_again : (assumed value trail : List ℕ) (n i l : ℕ) → Kept value trail n → Holds value l → get_or assumed i 0 ≡ l
    → Assumed assumed trail n i → Assumed assumed trail n (i + 1)
assumed_again assumed value trail n i l k h s a =
    let w = placed value trail n l k (omega arith) in
    let Each : ℕ → Type 0 = λ j. (t : ℕ) × ((t < n) × (get_or trail t 0 ≡ get_or assumed j 0)) in
    record {
      each = below_more Each i a.each (w.0, (w.1.0, omega (arith, w.1.1.0, w.1.1.1)));
      only = λ t b. let u = a.only t b in (u.0, (omega (arith, u.1.0), u.1.1));
    }

-- it is false
pub contrary : (assumed value trail seen : List ℕ) (n i l : ℕ) → Kept value trail n → Fails value l
    → get_or assumed i 0 ≡ l → i < length assumed → l / 2 < length seen → Assumed assumed trail n i → Contrary assumed (set seen (l / 2) 1)
contrary assumed value trail seen n i l k f s h t a =
    let w = placed value trail n l k f.0 in
    let u = a.only w.0 w.1.0 in
    let v : get_or assumed u.0 0 / 2 ≡ l / 2 = ap (λ x. x / 2) (sym u.1.1) ∙ w.1.1.0 in
    record {
      one = u.0;
      other = i;
      one_below = omega (arith, u.1.0);
      other_below = h;
      variable = v ∙ ap (λ x. x / 2) (sym s);
      differ = λ q. f.1 (w.1.1.1 ∙ ap (λ x. 1 + x % 2) (u.1.1 ∙ q ∙ s));
      seen_one = omega (arith, ap (λ x. get_or (set seen (l / 2) 1) x 0) v, get_or-set_same seen (l / 2) 1 0 t);
    }

-- contrary assumptions have no model
pub contrary_refutes : (cells seen assumed : List ℕ) → Contrary assumed seen → Refutes cells seen assumed
contrary_refutes cells seen assumed w m d given =
    let a = get_or assumed w.one 0 in
    let b = get_or assumed w.other 0 in
    let x = given w.one w.one_below w.seen_one in
    let y = given w.other w.other_below (omega (arith, w.seen_one, ap (λ v. get_or seen v 0) w.variable)) in
    let e : m (a / 2) ≡ m (b / 2) = ap m w.variable in
    w.differ (omega (arith, x, y, e, w.variable))

-- the trail's first places for the assumptions
pub refutes_trail : (cells seen trail : List ℕ) (ls : List Literal) (n : ℕ) → Assumed (codes ls) trail n (length ls)
    → ((m : ℕ → ℕ) → Models cells m → SeenTrue m trail seen n → ⊥) → Refutes cells seen (codes ls)
refutes_trail cells seen trail ls n a none m d given =
    none m d (λ j h s.
    let w = a.only j h in
    let P : ℕ → Type 0 = λ l. True m l in
    let S : ℕ → Type 0 = λ l. Seen seen l in
    subst P (sym w.1.1) (given w.0 (omega (arith, w.1.0, length_codes ls)) (subst S w.1.1 s)))

pub holds_assumed : (trail value : List ℕ) (ls : List Literal) (n : ℕ) → Assumed (codes ls) trail n (length ls)
    → ((j : ℕ) → j < n → Holds value (get_or trail j 0)) → (k : ℕ) → k < length ls → Holds value (get_or (codes ls) k 0)
holds_assumed trail value ls n a h k b =
    let w = a.each k b in let P : ℕ → Type 0 = λ l. Holds value l in subst P w.1.1 (h w.0 w.1.0)
