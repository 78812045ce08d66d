-- Laws of clauses, assumptions and marks, for callers of a solver.
use Rattle.std.proofs.Common.{◌≡◌, ℕ, zero, suc, ◌+◌, ◌<◌, ◌≤◌, Bool, true, false, cond, not, ◌&&◌, ◌||◌, eqb, ltb, leb, List, [], ◌∷◌, ◌++◌, length, get_or, take, sym, refl, ap, ◌∙◌, subst, inl, inr, arith}
use Rattle.std.proofs.lemmas.Bool.{and_parts, and_from, cases_eq, eq-eqb, ne_eqb, ltb-true, leb-true, lt-ltb, le-leb}
use Rattle.std.proofs.lemmas.List.{take_all}
use Rattle.literal.specs.declared.Literal.{Literal}
use Rattle.literal.specs.Truth.{Values, truth, variable_of, negated}
use Rattle.sat.specs.Clauses.{Clause, any_true, all_true, satisfies, Satisfiable, Unsatisfiable, marked, cells_of}
use Rattle.sat.specs.Faults.{in_range, all_in_range}

-- ranges

pub range_parts : (V : ℕ) (l : Literal) (ls : List Literal) → in_range V (l ∷ ls) ≡ true → (0 < variable_of l) × (variable_of l ≤ V) × (in_range V ls ≡ true)
range_parts V l ls h =
    let p = and_parts (ltb 0 (variable_of l) && leb (variable_of l) V) (in_range V ls) h in
    let q = and_parts (ltb 0 (variable_of l)) (leb (variable_of l) V) p.0 in
    (ltb-true 0 (variable_of l) q.0, leb-true (variable_of l) V q.1, p.1)

pub range_from : (V : ℕ) (l : Literal) (ls : List Literal) → 0 < variable_of l → variable_of l ≤ V → in_range V ls ≡ true → in_range V (l ∷ ls) ≡ true
range_from V l ls a b c =
    and_from (ltb 0 (variable_of l) && leb (variable_of l) V) (in_range V ls)
    (and_from (ltb 0 (variable_of l)) (leb (variable_of l) V) (lt-ltb 0 (variable_of l) a) (le-leb (variable_of l) V b)) c

pub range_append : (V : ℕ) (xs ys : List Literal) → in_range V xs ≡ true → in_range V ys ≡ true → in_range V (xs ++ ys) ≡ true
range_append V [] ys h g = g
range_append V (x ∷ xs) ys h g =
    let p = range_parts V x xs h in range_from V x (xs ++ ys) p.0 p.1 (range_append V xs ys p.2 g)

pub range_marked : (V : ℕ) (ls : List Literal) (ms : List ℕ) → in_range V ls ≡ true → in_range V (marked ls ms) ≡ true
range_marked V [] ms h = refl
range_marked V (l ∷ ls) [] h = refl
range_marked V (l ∷ ls) (m ∷ ms) h =
    let p = range_parts V l ls h in
    let r = range_marked V ls ms p.2 in
    elim (eqb m 1) as (λ b. in_range V (cond b (l ∷ marked ls ms) (marked ls ms)) ≡ true) [
      | true ↦ range_from V l (marked ls ms) p.0 p.1 r
      | false ↦ r
    ]

-- values that agree on the variables in range make the same literals, clauses and lists of clauses true

module _ (V : ℕ) (v w : Values) (agree : (x : ℕ) → 0 < x → x ≤ V → v x ≡ w x) where
  truth_agrees : (l : Literal) → 0 < variable_of l → variable_of l ≤ V → truth v l ≡ truth w l
  truth_agrees l a b = ap (λ x. cond (negated l) (not x) x) (agree (variable_of l) a b)

  pub any_agrees : (c : Clause) → in_range V c ≡ true → any_true v c ≡ any_true w c
  any_agrees [] h = refl
  any_agrees (l ∷ c) h =
      let p = range_parts V l c h in
      ap (λ x. x || any_true v c) (truth_agrees l p.0 p.1) ∙ ap (λ x. truth w l || x) (any_agrees c p.2)

  pub all_agrees : (ls : List Literal) → in_range V ls ≡ true → all_true v ls ≡ all_true w ls
  all_agrees [] h = refl
  all_agrees (l ∷ ls) h =
      let p = range_parts V l ls h in
      ap (λ x. x && all_true v ls) (truth_agrees l p.0 p.1) ∙ ap (λ x. truth w l && x) (all_agrees ls p.2)

  pub satisfies_agrees : (cs : List Clause) → all_in_range V cs ≡ true → satisfies v cs ≡ satisfies w cs
  satisfies_agrees [] h = refl
  satisfies_agrees (c ∷ cs) h =
      let p = and_parts (in_range V c) (all_in_range V cs) h in
      ap (λ x. x && satisfies v cs) (any_agrees c p.0) ∙ ap (λ x. any_true w c && x) (satisfies_agrees cs p.1)

-- lists of clauses

pub satisfies_append : (v : Values) (xs ys : List Clause) → satisfies v xs ≡ true → satisfies v ys ≡ true → satisfies v (xs ++ ys) ≡ true
satisfies_append v [] ys h g = g
satisfies_append v (c ∷ xs) ys h g =
    let p = and_parts (any_true v c) (satisfies v xs) h in and_from (any_true v c) (satisfies v (xs ++ ys)) p.0 (satisfies_append v xs ys p.1 g)

pub satisfies_parts : (v : Values) (xs ys : List Clause) → satisfies v (xs ++ ys) ≡ true → (satisfies v xs ≡ true) × (satisfies v ys ≡ true)
satisfies_parts v [] ys h = (refl, h)
satisfies_parts v (c ∷ xs) ys h =
    let p = and_parts (any_true v c) (satisfies v (xs ++ ys)) h in
    let q = satisfies_parts v xs ys p.1 in
    (and_from (any_true v c) (satisfies v xs) p.0 q.0, q.1)

pub satisfies_take : (v : Values) (n : ℕ) (cs : List Clause) → satisfies v cs ≡ true → satisfies v (take n cs) ≡ true
satisfies_take v zero cs h = refl
satisfies_take v (suc n) [] h = refl
satisfies_take v (suc n) (c ∷ cs) h =
    let p = and_parts (any_true v c) (satisfies v cs) h in and_from (any_true v c) (satisfies v (take n cs)) p.0 (satisfies_take v n cs p.1)

pub satisfies_at : (v : Values) (cs : List Clause) (i : ℕ) → i < length cs → satisfies v cs ≡ true → any_true v (get_or cs i []) ≡ true
satisfies_at v [] i l h = absurd (omega arith)
satisfies_at v (c ∷ cs) zero l h = (and_parts (any_true v c) (satisfies v cs) h).0
satisfies_at v (c ∷ cs) (suc i) l h = satisfies_at v cs i (omega arith) (and_parts (any_true v c) (satisfies v cs) h).1

pub cells_of_append : (xs ys : List Clause) → cells_of (xs ++ ys) ≡ cells_of xs + cells_of ys
cells_of_append [] ys = omega arith
cells_of_append (c ∷ xs) ys = omega (arith, cells_of_append xs ys)

pub cells_of_push : (cs : List Clause) (c : Clause) → cells_of (cs ++ c ∷ []) ≡ cells_of cs + (length c + 1)
cells_of_push cs c = omega (arith, cells_of_append cs (c ∷ []))

-- a clause takes a cell at least
pub count_le_cells : (cs : List Clause) → length cs ≤ cells_of cs
count_le_cells [] = omega arith
count_le_cells (c ∷ cs) = omega (arith, count_le_cells cs)

pub cells_of_take : (n : ℕ) (cs : List Clause) → cells_of (take n cs) ≤ cells_of cs
cells_of_take zero cs = omega arith
cells_of_take (suc n) [] = omega arith
cells_of_take (suc n) (c ∷ cs) = omega (arith, cells_of_take n cs)

-- assumptions, place by place

pub all_at : (v : Values) (ls : List Literal) (i : ℕ) (d : Literal) → i < length ls → all_true v ls ≡ true → truth v (get_or ls i d) ≡ true
all_at v [] i d l h = absurd (omega arith)
all_at v (x ∷ ls) zero d l h = (and_parts (truth v x) (all_true v ls) h).0
all_at v (x ∷ ls) (suc i) d l h = all_at v ls i d (omega arith) (and_parts (truth v x) (all_true v ls) h).1

pub all_from : (v : Values) (ls : List Literal) (d : Literal) → ((i : ℕ) → i < length ls → truth v (get_or ls i d) ≡ true) → all_true v ls ≡ true
all_from v [] d h = refl
all_from v (x ∷ ls) d h = and_from (truth v x) (all_true v ls) (h 0 (omega arith)) (all_from v ls d (λ i l. h (suc i) (omega arith)))

pub all_append : (v : Values) (xs ys : List Literal) → all_true v xs ≡ true → all_true v ys ≡ true → all_true v (xs ++ ys) ≡ true
all_append v [] ys h g = g
all_append v (x ∷ xs) ys h g =
    let p = and_parts (truth v x) (all_true v xs) h in and_from (truth v x) (all_true v (xs ++ ys)) p.0 (all_append v xs ys p.1 g)

pub all_parts : (v : Values) (xs ys : List Literal) → all_true v (xs ++ ys) ≡ true → (all_true v xs ≡ true) × (all_true v ys ≡ true)
all_parts v [] ys h = (refl, h)
all_parts v (x ∷ xs) ys h =
    let p = and_parts (truth v x) (all_true v (xs ++ ys)) h in
    let q = all_parts v xs ys p.1 in
    (and_from (truth v x) (all_true v xs) p.0 q.0, q.1)

marked_here : (v : Values) (l : Literal) (xs : List Literal) (m : ℕ) → all_true v (cond (eqb m 1) (l ∷ xs) xs) ≡ true
    → (m ≡ 1 → truth v l ≡ true) × (all_true v xs ≡ true)
marked_here v l xs m h = elim (cases_eq m 1) [
  | inl e ↦ (let h' : all_true v (l ∷ xs) ≡ true = subst (λ (b : Bool). all_true v (cond b (l ∷ xs) xs) ≡ true) (eq-eqb m 1 e) h in
      let p = and_parts (truth v l) (all_true v xs) h' in (λ _. p.0, p.1))
  | inr n ↦ (let h' : all_true v xs ≡ true = subst (λ (b : Bool). all_true v (cond b (l ∷ xs) xs) ≡ true) (ne_eqb m 1 n) h in (λ e. absurd (n e), h'))
]

marked_there : (v : Values) (l : Literal) (xs : List Literal) (m : ℕ) → (m ≡ 1 → truth v l ≡ true) → all_true v xs ≡ true
    → all_true v (cond (eqb m 1) (l ∷ xs) xs) ≡ true
marked_there v l xs m t h = elim (cases_eq m 1) [
  | inl e ↦ subst (λ (b : Bool). all_true v (cond b (l ∷ xs) xs) ≡ true) (sym (eq-eqb m 1 e)) (and_from (truth v l) (all_true v xs) (t e) h)
  | inr n ↦ subst (λ (b : Bool). all_true v (cond b (l ∷ xs) xs) ≡ true) (sym (ne_eqb m 1 n)) h
]

-- the marked assumptions are true exactly where each assumption with mark 1 is
pub marked_at : (v : Values) (ls : List Literal) (ms : List ℕ) (k : ℕ) (d : Literal) → all_true v (marked ls ms) ≡ true
    → k < length ls → get_or ms k 0 ≡ 1 → truth v (get_or ls k d) ≡ true
marked_at v [] ms k d h l e = absurd (omega arith)
marked_at v (x ∷ ls) [] k d h l e = absurd (omega arith)
marked_at v (x ∷ ls) (m ∷ ms) zero d h l e = (marked_here v x (marked ls ms) m h).0 e
marked_at v (x ∷ ls) (m ∷ ms) (suc k) d h l e = marked_at v ls ms k d (marked_here v x (marked ls ms) m h).1 (omega arith) e

pub marked_from : (v : Values) (ls : List Literal) (ms : List ℕ) (d : Literal)
    → ((k : ℕ) → k < length ls → get_or ms k 0 ≡ 1 → truth v (get_or ls k d) ≡ true) → all_true v (marked ls ms) ≡ true
marked_from v [] ms d h = refl
marked_from v (x ∷ ls) [] d h = refl
marked_from v (x ∷ ls) (m ∷ ms) d h =
    marked_there v x (marked ls ms) m (λ e. h 0 (omega arith) e) (marked_from v ls ms d (λ k l e. h (suc k) (omega arith) e))

-- fewer marks ask less

pub marked_fewer : (v : Values) (ls : List Literal) (ms ns : List ℕ) → ((k : ℕ) → k < length ls → get_or ms k 0 ≡ 1 → get_or ns k 0 ≡ 1)
    → all_true v (marked ls ns) ≡ true → all_true v (marked ls ms) ≡ true
marked_fewer v ls ms ns w h = marked_from v ls ms (record { code = 0 }) (λ k l e. marked_at v ls ns k (record { code = 0 }) h l (w k l e))

pub marked_whole : (v : Values) (ls : List Literal) (ms : List ℕ) → all_true v ls ≡ true → all_true v (marked ls ms) ≡ true
marked_whole v ls ms h = marked_from v ls ms (record { code = 0 }) (λ k l e. all_at v ls k (record { code = 0 }) l h)

pub marked_every : (v : Values) (ls : List Literal) (ms : List ℕ) → ((k : ℕ) → k < length ls → get_or ms k 0 ≡ 1)
    → all_true v (marked ls ms) ≡ true → all_true v ls ≡ true
marked_every v ls ms a h = all_from v ls (record { code = 0 }) (λ k l. marked_at v ls ms k (record { code = 0 }) h l (a k l))

-- having no satisfying values lasts with more clauses and more assumptions

pub none_more_marks : (cs : List Clause) (ls : List Literal) (ms ns : List ℕ) → ((k : ℕ) → k < length ls → get_or ms k 0 ≡ 1 → get_or ns k 0 ≡ 1)
    → Unsatisfiable cs (marked ls ms) → Unsatisfiable cs (marked ls ns)
none_more_marks cs ls ms ns w u v s h = u v s (marked_fewer v ls ms ns w h)

pub some_fewer_marks : (cs : List Clause) (ls : List Literal) (ms ns : List ℕ) → ((k : ℕ) → k < length ls → get_or ms k 0 ≡ 1 → get_or ns k 0 ≡ 1)
    → Satisfiable cs (marked ls ns) → Satisfiable cs (marked ls ms)
some_fewer_marks cs ls ms ns w s = (s.0, s.1, marked_fewer s.0 ls ms ns w s.2)

pub none_whole : (cs : List Clause) (ls : List Literal) (ms : List ℕ) → Unsatisfiable cs (marked ls ms) → Unsatisfiable cs ls
none_whole cs ls ms u v s h = u v s (marked_whole v ls ms h)

pub none_marked : (cs : List Clause) (ls : List Literal) (ms : List ℕ) → ((k : ℕ) → k < length ls → get_or ms k 0 ≡ 1)
    → Unsatisfiable cs ls → Unsatisfiable cs (marked ls ms)
none_marked cs ls ms a u v s h = u v s (marked_every v ls ms a h)

pub none_more_clauses : (cs ds : List Clause) (ls : List Literal) → Unsatisfiable cs ls → Unsatisfiable (cs ++ ds) ls
none_more_clauses cs ds ls u v s h = u v (satisfies_parts v cs ds s).0 h

pub none_from_take : (cs : List Clause) (n : ℕ) (ls : List Literal) → Unsatisfiable (take n cs) ls → Unsatisfiable cs ls
none_from_take cs n ls u v s h = u v (satisfies_take v n cs s) h

-- an answer is the only one
pub yes_or_no : (cs : List Clause) (ls : List Literal) (ms : List ℕ) → Satisfiable cs ls → Unsatisfiable cs (marked ls ms) → ⊥
yes_or_no cs ls ms s u = none_whole cs ls ms u s.0 s.1 s.2

-- no more are marked than there are
pub marked_length : (ls : List Literal) (ms : List ℕ) → length (marked ls ms) ≤ length ls
marked_length [] ms = omega arith
marked_length (l ∷ ls) [] = omega arith
marked_length (l ∷ ls) (m ∷ ms) =
    let r = marked_length ls ms in
    elim (eqb m 1) as (λ b. length (cond b (l ∷ marked ls ms) (marked ls ms)) ≤ suc (length ls)) [ true ↦ omega arith | false ↦ omega arith ]

pub marked_picked : (ls : List Literal) (ms : List ℕ) → length ls ≤ 64 → take 64 (marked ls ms) ≡ marked ls ms
marked_picked ls ms h = take_all 64 (marked ls ms) (omega (arith, marked_length ls ms))
