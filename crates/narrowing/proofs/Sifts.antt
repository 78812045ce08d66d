-- Taking marks away, place by place.
use Rattle.std.proofs.Common.{not, Some, None, Option, Bor, MatchOption, ◌≡◌, ℕ, ◌+◌, ◌<◌, ◌≤◌, Bool, true, false, cond, eqb, ◌≢◌, List, [], ◌∷◌, ◌++◌, length, get_or, take, drop, set, sym, refl, ap, ◌∙◌, subst, inl, inr, arith}
use Rattle.std.proofs.lemmas.List.{take-set, length_push, length-set, get_or-set_other, get_or_past, drop-set-lt, append-nil, drop_more, drop_all, length-drop}
use Rattle.std.proofs.lemmas.Bool.{cases_eq, eq-eqb, ne_eqb, true≢false}
use Rattle.std.specs.Option.{option_eq}
use Rattle.literal.specs.declared.Literal.{Literal}
use Rattle.literal.specs.Truth.{Values}
use Rattle.sat.specs.Clauses.{all_true, marked}
use Rattle.sat.proofs.Laws.{all_append, all_parts}
use Rattle.sat.proofs.Loops.{marked_take, marked_end}
use Rattle.sat.proofs.Narrowing.{unmarked, unmarked_fewer}

-- the marks e, after the first j were looked at
pub record Sifted (assumed : List Literal) (first j : ℕ) (e again ms : List ℕ) : Type 0 where
  pub bound : (k : ℕ) → get_or ms k 0 ≤ get_or e k 0
  pub fewer : (k : ℕ) → get_or ms k 0 ≡ 1 → get_or e k 0 ≡ 1
  pub firsts : (k : ℕ) → k < first → get_or ms k 0 ≡ get_or e k 0
  pub later : (k : ℕ) → j ≤ k → get_or ms k 0 ≡ get_or e k 0
  pub asks : (v : Values) → all_true v (marked (take j assumed) (take j ms)) ≡ true → all_true v (marked (marked (take j assumed) (take j e)) again) ≡ true
  pub rest : drop (length assumed) ms ≡ drop (length assumed) e
  pub long : length ms ≡ length e

-- how many of the first j are marked
abbrev pub asked : List Literal → List ℕ → ℕ → ℕ
asked assumed e j = length (marked (take j assumed) (take j e))

pub sifted_none : (assumed : List Literal) (first : ℕ) (e again : List ℕ) → Sifted assumed first 0 e again e
sifted_none assumed first e again =
    record { bound = λ k. omega arith; fewer = λ k h. h; firsts = λ k h. refl; later = λ k h. refl; asks = λ v h. refl; rest = refl; long = refl }

-- the marked ones of one literal more
marked_next : (ls : List Literal) (x : Literal) (ms : List ℕ) → marked (ls ++ x ∷ []) ms ≡ marked ls ms ++ cond (eqb (get_or ms (length ls) 0) 1) (x ∷ []) []
marked_next [] x [] = refl
marked_next [] x (m ∷ ms) = refl
marked_next (l ∷ ls) x [] = refl
marked_next (l ∷ ls) x (m ∷ ms) =
    let r = marked_next ls x ms in
    let more = cond (eqb (get_or ms (length ls) 0) 1) (x ∷ []) [] in
    elim (eqb m 1) as (λ b. cond b (l ∷ marked (ls ++ x ∷ []) ms) (marked (ls ++ x ∷ []) ms) ≡ cond b (l ∷ marked ls ms) (marked ls ms) ++ more) [
      | true ↦ ap (λ y. l ∷ y) r
      | false ↦ r
    ]

module _ (assumed : List Literal) (first j : ℕ) (e again ms : List ℕ) (inside : j < length assumed) (room : length assumed ≤ length e)
    (s : Sifted assumed first j e again ms) where
  x : Literal
  x = get_or assumed j (record { code = 0 })

  here : get_or ms j 0 ≡ get_or e j 0
  here = s.later j (omega arith)

  -- the marked ones of the first j + 1
  front_yes : (ns : List ℕ) → j < length ns → get_or ns j 0 ≡ 1 → marked (take (j + 1) assumed) (take (j + 1) ns) ≡ marked (take j assumed) (take j ns) ++ x ∷ []
  unfolding x
  front_yes ns h m =
      marked_take assumed ns j (record { code = 0 }) inside h ∙ ap (λ y. marked (take j assumed) (take j ns) ++ cond y (get_or assumed j (record { code = 0 }) ∷ []) []) (eq-eqb (get_or ns j 0) 1 m)

  front_no : (ns : List ℕ) → j < length ns → (get_or ns j 0 ≡ 1 → ⊥) → marked (take (j + 1) assumed) (take (j + 1) ns) ≡ marked (take j assumed) (take j ns)
  front_no ns h n =
      marked_take assumed ns j (record { code = 0 }) inside h
      ∙ ap (λ y. marked (take j assumed) (take j ns) ++ cond y (get_or assumed j (record { code = 0 }) ∷ []) []) (ne_eqb (get_or ns j 0) 1 n) ∙ append-nil (marked (take j assumed) (take j ns))

  -- how many more are asked about
  pub asked_yes : get_or ms j 0 ≡ 1 → asked assumed e (j + 1) ≡ asked assumed e j + 1
  asked_yes m = ap length (front_yes e (omega arith) (sym here ∙ m)) ∙ length_push (marked (take j assumed) (take j e)) x

  pub asked_no : (get_or ms j 0 ≡ 1 → ⊥) → asked assumed e (j + 1) ≡ asked assumed e j
  asked_no n = ap length (front_no e (omega arith) (λ h. n (here ∙ h)))

  -- an assumption that is not marked
  pub sifted_skip : (get_or ms j 0 ≡ 1 → ⊥) → Sifted assumed first (j + 1) e again ms
  sifted_skip n = record {
    bound = s.bound;
    fewer = s.fewer;
    firsts = s.firsts;
    later = λ k h. s.later k (omega arith);
    asks = λ v h. subst (λ (y : List Literal). all_true v (marked y again) ≡ true) (sym (front_no e (omega arith) (λ h. n (here ∙ h))))
        (s.asks v (subst (λ (y : List Literal). all_true v y ≡ true) (front_no ms (omega (arith, s.long)) n) h));
    rest = s.rest;
    long = s.long;
  }

  -- what is asked of the marked ones with one more
  again_more : get_or ms j 0 ≡ 1 → marked (marked (take (j + 1) assumed) (take (j + 1) e)) again
      ≡ marked (marked (take j assumed) (take j e)) again ++ cond (eqb (get_or again (asked assumed e j) 0) 1) (x ∷ []) []
  again_more m = ap (λ y. marked y again) (front_yes e (omega arith) (sym here ∙ m)) ∙ marked_next (marked (take j assumed) (take j e)) x again

  -- a marked one that stays marked
  pub sifted_stay : get_or ms j 0 ≡ 1 → Sifted assumed first (j + 1) e again ms
  sifted_stay m = record {
    bound = s.bound;
    fewer = s.fewer;
    firsts = s.firsts;
    later = λ k h. s.later k (omega arith);
    asks = λ v h.
        let p = all_parts v (marked (take j assumed) (take j ms)) (x ∷ []) (subst (λ (y : List Literal). all_true v y ≡ true) (front_yes ms (omega (arith, s.long)) m) h) in
        let q = marked (marked (take j assumed) (take j e)) again in
        let u : (b : Bool) → all_true v (q ++ cond b (x ∷ []) []) ≡ true =
        λ b. all_append v q (cond b (x ∷ []) []) (s.asks v p.0) (elim b as (λ z. all_true v (cond z (x ∷ []) []) ≡ true) [ true ↦ p.1 | false ↦ refl ]) in
        subst (λ (y : List Literal). all_true v y ≡ true) (sym (again_more m)) (u (eqb (get_or again (asked assumed e j) 0) 1));
    rest = s.rest;
    long = s.long;
  }

  -- a marked one past the first that is not marked again loses its mark
  pub sifted_drop : get_or ms j 0 ≡ 1 → first ≤ j → (get_or again (asked assumed e j) 0 ≡ 1 → ⊥) → Sifted assumed first (j + 1) e again (set ms j 0)
  sifted_drop m f n =
      let q = marked (marked (take j assumed) (take j e)) again in
      let a : marked (take (j + 1) assumed) (take (j + 1) (set ms j 0)) ≡ marked (take j assumed) (take j ms) =
      front_no (set ms j 0) (omega (arith, s.long, length-set ms j 0)) (λ h. omega (arith, h, unmarked ms j)) ∙ ap (λ y. marked (take j assumed) y) (take-set ms j 0) in
      let w : marked (marked (take (j + 1) assumed) (take (j + 1) e)) again ≡ q =
      again_more m ∙ ap (λ y. q ++ cond y (x ∷ []) []) (ne_eqb (get_or again (asked assumed e j) 0) 1 n) ∙ append-nil q in
      record {
        bound = λ k. elim (cases_eq k j) [
          | inl i ↦ omega (arith, unmarked ms j, ap (λ y. get_or (set ms j 0) y 0) i)
          | inr o ↦ omega (arith, get_or-set_other ms j k 0 0 o, s.bound k)
        ];
        fewer = λ k h. s.fewer k (unmarked_fewer ms j k h);
        firsts = λ k h. (let o : k ≢ j = omega arith in get_or-set_other ms j k 0 0 o ∙ s.firsts k h);
        later = λ k h. (let o : k ≢ j = omega arith in get_or-set_other ms j k 0 0 o ∙ s.later k (omega arith));
        asks = λ v h. subst (λ (y : List Literal). all_true v y ≡ true) (sym w) (s.asks v (subst (λ (y : List Literal). all_true v y ≡ true) a h));
        rest = drop-set-lt (length assumed) ms j 0 inside ∙ s.rest;
        long = length-set ms j 0 ∙ s.long;
      }

-- at the end, of all assumptions
pub sifted_asks : (assumed : List Literal) (first j : ℕ) (e again ms : List ℕ) → Sifted assumed first j e again ms → length assumed ≤ length e → j ≡ length assumed
    → (v : Values) → all_true v (marked assumed ms) ≡ true → all_true v (marked (marked assumed e) again) ≡ true
sifted_asks assumed first j e again ms s h i v q =
    subst (λ (y : List Literal). all_true v (marked y again) ≡ true) (marked_end assumed e j (omega arith))
    (s.asks v (subst (λ (y : List Literal). all_true v y ≡ true) (sym (marked_end assumed ms j (omega (arith, s.long)))) q))

-- the same marks under another name, and what is left of those marked again
pub sifted_as : (assumed : List Literal) (first j n : ℕ) (e again ms ns left : List ℕ) → ns ≡ ms → left ≡ drop n again → asked assumed e j ≡ n → Sifted assumed first j e again ms
    → Sifted assumed first j e again ns × (left ≡ drop (asked assumed e j) again)
sifted_as assumed first j n e again ms ns left p l a s = (subst (λ (y : List ℕ). Sifted assumed first j e again y) (sym p) s, l ∙ ap (λ k. drop k again) (sym a))

-- the next of what is marked again, or nothing
pub turned : (again left left' : List ℕ) (n : ℕ) (r : Option (Bor ℕ)) (Same : Type 0) → left ≡ drop n again → (Same → left' ≡ left)
    → MatchOption r ((length left ≡ 0) × Same) (λ y. left ≡ y.now ∷ left')
    → (left' ≡ drop (n + 1) again) × ((one : Bor ℕ) → one.now ≡ 1 → not (option_eq (λ a b. eqb a.now b.now) r (Some one)) ≡ true → get_or again n 0 ≡ 1 → ⊥)
turned again left left' n None Same s k m =
    let h : length again ≤ n = omega (arith, m.0, ap length s, length-drop n again) in
    (k m.1 ∙ s ∙ drop_all n again h ∙ sym (drop_all (n + 1) again (omega arith)), λ one e b q. omega (arith, q, get_or_past again n 0 h))
turned again left left' n (Some y) Same s k m =
    let h : n < length again = omega (arith, ap length m, ap length s, length-drop n again) in
    let d : y.now ∷ left' ≡ get_or again n 0 ∷ drop (n + 1) again = sym m ∙ s ∙ drop_more again n 0 h in
    let v : y.now ≡ get_or again n 0 = cc in
    (cc, λ one e b q. true≢false (sym b ∙ ap not (eq-eqb y.now one.now (v ∙ q ∙ sym e))))
