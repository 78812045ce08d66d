-- Cells stay coded, and hold what was put there.
use Rattle.std.proofs.Common.{◌≡◌, ℕ, zero, suc, ◌+◌, ◌-◌, ◌<◌, ◌≤◌, min, List, [], ◌∷◌, ◌++◌, map, length, get_or, take, drop, set, sym, refl, ap, ◌∙◌, inl, inr, subst, arith}
use Rattle.std.proofs.lemmas.List.{take_at, length-append, length-map, append_assoc, append-nil, length-take, length-take-le, length_push, take-append-drop, take_more, drop_more, set_at, get_or_append_left, get_or-append_right, get_or_past, map_push, take-map, take-take}
use Rattle.std.proofs.lemmas.Bool.{cases_lt}
use borrow.Rule.Slice.PartMut.{put_mid, post_of}
use Rattle.literal.specs.declared.Literal.{Literal}
use Rattle.sat.specs.Clauses.{Clause, cells_of}
use Rattle.cells.specs.Cells.{codes, literals, flat, clauses, Coded, Small}
use Rattle.cells.specs.Held.{used_cells, held}
use Rattle.cells.specs.declared.store.Cells.{Cells}
use Rattle.cells.proofs.Codes.{clauses_flat, flat_append, length_flat, cells_flat, literals_codes}

-- the cells in use are those that the clauses take
pub used_is : (s : Cells) → cells_of (held s) ≡ s.used
used_is s = cells_flat (clauses (used_cells s)) ∙ ap length s.coded ∙ length-take-le s.used s.numbers.now s.within

-- there are no more clauses than cells in use
pub count_used : (s : Cells) → s.count ≤ s.used
count_used s = omega (arith, s.counted, length_flat (clauses (used_cells s)), ap length s.coded, length-take-le s.used s.numbers.now s.within)

-- a clause's cells are written one by one
pub written_none : (xs ns : List ℕ) (n : ℕ) → 0 < length xs → set xs 0 n ≡ (n ∷ take 0 ns) ++ drop (1 + 0) xs
written_none [] ns n h = absurd (omega arith)
written_none (x ∷ xs) ns n h = refl

pub written_more : (xs ns : List ℕ) (n i y : ℕ) → i < length ns → 1 + i < length xs → y ≡ get_or ns i 0
    → set ((n ∷ take i ns) ++ drop (1 + i) xs) (1 + i) y ≡ (n ∷ take (i + 1) ns) ++ drop (1 + (i + 1)) xs
written_more xs ns n i y h l e =
    let d : drop (1 + i) xs ≡ get_or xs (1 + i) 0 ∷ drop (1 + i + 1) xs = drop_more xs (1 + i) 0 l in
    let m : length (n ∷ take i ns) ≡ 1 + i = omega (arith, length-take-le i ns (omega arith)) in
    let t : take (i + 1) ns ≡ take i ns ++ (y ∷ []) = take_more ns i 0 h ∙ ap (λ x. take i ns ++ (x ∷ [])) (sym e) in
    let z : 1 + i + 1 ≡ 1 + (i + 1) = omega arith in
    ap (λ x. set ((n ∷ take i ns) ++ x) (1 + i) y) d
    ∙ set_at (n ∷ take i ns) (get_or xs (1 + i) 0) (drop (1 + i + 1) xs) y (1 + i) m
    ∙ ap (λ x. (n ∷ take i ns) ++ (y ∷ drop x xs)) z
    ∙ sym (append_assoc (n ∷ take i ns) (y ∷ []) (drop (1 + (i + 1)) xs))
    ∙ ap (λ x. (n ∷ x) ++ drop (1 + (i + 1)) xs) (sym t)

small_cons : (n : ℕ) (xs : List ℕ) → n < 65536 → Small xs → Small (n ∷ xs)
small_cons n xs h s zero = h
small_cons n xs h s (suc k) = s k

pub small_join : (a b : List ℕ) → Small a → Small b → Small (a ++ b)
small_join a b h g k = elim (cases_lt k (length a)) [
  | inl l ↦ omega (arith, h k, get_or_append_left a b 0 k l)
  | inr m ↦ omega (arith, g (k - length a), get_or-append_right a b (length a) k 0 refl m)
]

pub small_left : (a b : List ℕ) → Small (a ++ b) → Small a
small_left a b h k = elim (cases_lt k (length a)) [
  | inl l ↦ omega (arith, h k, get_or_append_left a b 0 k l)
  | inr g ↦ omega (arith, get_or_past a k 0 g)
]

-- what cells are that hold so many clauses and nothing else
pub record Fit (count : ℕ) (cells : List ℕ) : Type 0 where
  pub coded : Coded cells
  pub small : Small cells
  pub counted : count ≡ length (clauses cells)

-- a clause is put after others
pushed : (old new : List ℕ) (count : ℕ) (c : Clause) → Fit count old → new ≡ old ++ (length c ∷ codes c) → Small (codes c) → length c ≤ 64
    → Fit (count + 1) new × (map literals (clauses new) ≡ map literals (clauses old) ++ c ∷ [])
pushed old new count c f e s h =
    let n : length (codes c) ≡ length c = length-map c (λ (l : Literal). l.code) in
    let g : flat (clauses old ++ codes c ∷ []) ≡ new =
    flat_append (clauses old) (codes c ∷ []) ∙ ap (λ x. x ++ (length (codes c) ∷ (codes c ++ []))) f.coded
    ∙ ap (λ x. old ++ (length (codes c) ∷ x)) (append-nil (codes c)) ∙ ap (λ x. old ++ (x ∷ codes c)) n ∙ sym e in
    let p : clauses new ≡ clauses old ++ codes c ∷ [] = ap clauses (sym g) ∙ clauses_flat (clauses old ++ codes c ∷ []) in
    let P : List ℕ → Type 0 = λ x. Small x in (
      record {
        coded = ap flat p ∙ g;
        small = subst P (sym e) (small_join old (length c ∷ codes c) f.small (small_cons (length c) (codes c) (omega arith) s));
        counted = omega (arith, f.counted, ap length p, length_push (clauses old) (codes c));
      },
      ap (map literals) p ∙ map_push literals (clauses old) (codes c) ∙ ap (λ (x : Clause). map literals (clauses old) ++ x ∷ []) (literals_codes c),
    )

-- the same in a store, where the numbers past those in use are new
pub pushed_on : (s : Cells) (c : Clause) (new rest : List ℕ) (k : ℕ) → new ≡ (length c ∷ codes c) ++ rest → Small (codes c) → length c ≤ 64
    → Fit (s.count + 1) (take (s.used + (1 + length c)) (put_mid s.used k s.numbers.now new))
    × (map literals (clauses (take (s.used + (1 + length c)) (put_mid s.used k s.numbers.now new))) ≡ held s ++ c ∷ [])
pushed_on s c new rest k e w h =
    let front = used_cells s in
    let p = post_of s.used k s.numbers.now in
    let more = length c ∷ codes c in
    let l : length (front ++ more) ≡ s.used + (1 + length c) =
    omega (arith, length-append front more, length-take-le s.used s.numbers.now s.within, length-map c (λ (x : Literal). x.code)) in
    let a : put_mid s.used k s.numbers.now new ≡ (front ++ more) ++ (rest ++ p) =
    ap (λ x. front ++ (x ++ p)) e ∙ ap (λ x. front ++ x) (append_assoc more rest p) ∙ sym (append_assoc front more (rest ++ p)) in
    let t : take (s.used + (1 + length c)) (put_mid s.used k s.numbers.now new) ≡ front ++ more =
    ap (λ x. take (s.used + (1 + length c)) x) a ∙ take_at (front ++ more) (rest ++ p) (s.used + (1 + length c)) l in
    pushed front (take (s.used + (1 + length c)) (put_mid s.used k s.numbers.now new)) s.count c
    (record { coded = s.coded; small = s.small; counted = s.counted }) t w h

-- the cells of the first n clauses are not more than those in use
pub front_fits : (s : Cells) (n : ℕ) → length (flat (take n (clauses (used_cells s)))) ≤ s.used
front_fits s n =
    let cs = clauses (used_cells s) in
    let w : flat (take n cs) ++ flat (drop n cs) ≡ used_cells s = sym (flat_append (take n cs) (drop n cs)) ∙ ap flat (take-append-drop n cs) ∙ s.coded in
    omega (arith, ap length w, length-append (flat (take n cs)) (flat (drop n cs)), length-take-le s.used s.numbers.now s.within)

-- the first n clauses are left
pub kept_on : (s : Cells) (n used : ℕ) → used ≡ length (flat (take n (clauses (used_cells s))))
    → Fit (min s.count n) (take used s.numbers.now) × (map literals (clauses (take used s.numbers.now)) ≡ take n (held s))
kept_on s n used e =
    let old = used_cells s in
    let cs = clauses old in
    let w : old ≡ flat (take n cs) ++ flat (drop n cs) = sym s.coded ∙ ap flat (sym (take-append-drop n cs)) ∙ flat_append (take n cs) (drop n cs) in
    let t : take used s.numbers.now ≡ flat (take n cs) =
    sym (take-take used s.used s.numbers.now (omega (arith, front_fits s n))) ∙ ap (λ x. take used x) w ∙ take_at (flat (take n cs)) (flat (drop n cs)) used (sym e) in
    let p : clauses (take used s.numbers.now) ≡ take n cs = ap clauses t ∙ clauses_flat (take n cs) in
    let P : List ℕ → Type 0 = λ x. Small x in (
      record {
        coded = ap flat p ∙ sym t;
        small = subst P (sym t) (small_left (flat (take n cs)) (flat (drop n cs)) (subst P w s.small));
        counted = omega (arith, s.counted, ap length p, length-take n cs);
      },
      ap (map literals) p ∙ sym (take-map literals n cs),
    )

-- one clause more of the first n
pub taken_more : (cs ds : List (List ℕ)) (c : List ℕ) (n m used total : ℕ) → cs ≡ c ∷ ds → m + 1 ≡ n → used + length (flat (take n cs)) ≡ total
    → used + (1 + length c) + length (flat (take m ds)) ≡ total
taken_more cs ds c n m used total e k h =
    let j : n ≡ suc m = omega arith in
    let f : flat (take n cs) ≡ length c ∷ (c ++ flat (take m ds)) = ap (λ x. flat (take n x)) e ∙ ap (λ x. flat (take x (c ∷ ds))) j in
    omega (arith, h, ap length f, length-append c (flat (take m ds)))

pub taken_all : (cs : List (List ℕ)) (n used total : ℕ) → (0 < n → cs ≡ []) → used + length (flat (take n cs)) ≡ total → used ≡ total
taken_all cs zero used total h e = omega (arith, e)
taken_all cs (suc n) used total h e = omega (arith, e, ap (λ x. length (flat (take (suc n) x))) (h (omega arith)))
