-- The steps of loops over assumptions, marks and bytes.
use Rattle.std.proofs.Common.{Option, ◌≡◌, ℕ, zero, suc, ◌+◌, ◌<◌, ◌≤◌, min, true, false, cond, eqb, List, [], ◌∷◌, ◌++◌, length, get_or, take, sym, refl, ap, ◌∙◌, inl, inr, arith}
use Rattle.std.proofs.lemmas.List.{take_all, take-append-le, take-take, length-take, take_more, length-take-le, length_push, append-nil, map-id}
use Rattle.std.proofs.lemmas.Bool.{cases_lt, eq-eqb, ne_eqb}
use Rattle.std.proofs.lemmas.Iterator.{YieldsList, items_from_drains}
use Rattle.std.specs.Iterator.{Drains}
use Rattle.literal.specs.declared.Literal.{Literal}
use Rattle.sat.specs.Clauses.{marked}

-- the first so many of a list that is cut before more is put to it
pub take_push : {X : Type 0} (n : ℕ) (xs ys : List X) → take n (take n xs ++ ys) ≡ take n (xs ++ ys)
take_push n xs ys = elim (cases_lt (length xs) n) [
  | inl l ↦ ap (λ z. take n (z ++ ys)) (take_all n xs (omega arith))
  | inr g ↦ (take-append-le n (take n xs) ys (omega (arith, length-take n xs)) ∙ take-take n n xs (omega arith) ∙ sym (take-append-le n xs ys g))
]

pub marked_push : (ls : List Literal) (ms : List ℕ) (l : Literal) (m : ℕ) → length ls ≡ length ms
    → marked (ls ++ l ∷ []) (ms ++ m ∷ []) ≡ marked ls ms ++ cond (eqb m 1) (l ∷ []) []
marked_push [] [] l m e = refl
marked_push [] (n ∷ ms) l m e = absurd (omega arith)
marked_push (k ∷ ls) [] l m e = absurd (omega arith)
marked_push (k ∷ ls) (n ∷ ms) l m e =
    let r = marked_push ls ms l m (omega arith) in
    elim (eqb n 1) as (λ b. cond b (k ∷ marked (ls ++ l ∷ []) (ms ++ m ∷ [])) (marked (ls ++ l ∷ []) (ms ++ m ∷ []))
    ≡ cond b (k ∷ marked ls ms) (marked ls ms) ++ cond (eqb m 1) (l ∷ []) []) [
      | true ↦ ap (λ x. k ∷ x) r
      | false ↦ r
    ]

-- the marked ones of one assumption more
pub marked_take : (ls : List Literal) (ms : List ℕ) (i : ℕ) (d : Literal) → i < length ls → i < length ms
    → marked (take (i + 1) ls) (take (i + 1) ms) ≡ marked (take i ls) (take i ms) ++ cond (eqb (get_or ms i 0) 1) (get_or ls i d ∷ []) []
marked_take ls ms i d h g =
    ap (λ x. marked x (take (i + 1) ms)) (take_more ls i d h)
    ∙ ap (λ x. marked (take i ls ++ get_or ls i d ∷ []) x) (take_more ms i 0 g)
    ∙ marked_push (take i ls) (take i ms) (get_or ls i d) (get_or ms i 0) (length-take-le i ls (omega arith) ∙ sym (length-take-le i ms (omega arith)))

pub marked_end : (ls : List Literal) (ms : List ℕ) (n : ℕ) → n ≡ min (length ls) (length ms) → marked (take n ls) (take n ms) ≡ marked ls ms
marked_end [] ms n e = let z : n ≡ 0 = omega arith in ap (λ k. marked (take k []) (take k ms)) z
marked_end (l ∷ ls) [] n e = let z : n ≡ 0 = omega arith in ap (λ k. marked (take k (l ∷ ls)) (take k [])) z
marked_end (l ∷ ls) (m ∷ ms) zero e = absurd (omega arith)
marked_end (l ∷ ls) (m ∷ ms) (suc n) e =
    ap (λ x. cond (eqb m 1) (l ∷ x) x) (marked_end ls ms n (omega arith))

-- a literal is put at the end of at most 64
pub put_more : {X : Type 0} (xs : List X) {ys zs : List X} (x : X) → ys ≡ xs → zs ≡ ys ++ x ∷ [] → length ys < 64 → zs ≡ take 64 (xs ++ x ∷ [])
put_more xs {ys} x e f h = f ∙ ap (λ l. l ++ x ∷ []) e ∙ sym (take_all 64 (xs ++ x ∷ []) (let l = ap (λ l. length l) e in omega (arith, length_push xs x)))

pub put_none : {X : Type 0} (xs : List X) {ys : List X} (x : X) → ys ≡ xs → 64 ≤ length ys → length ys ≤ 64 → xs ≡ take 64 (xs ++ x ∷ [])
put_none xs {ys} x e h g =
    let l = ap (λ l. length l) e in
    sym (take-append-le 64 xs (x ∷ []) (omega arith) ∙ take_all 64 xs (omega arith))

-- one assumption more is looked at, and put to the picked ones where it is marked
module _ {Y : Type 0} (ls picked : List Literal) (ms : List ℕ) (ys : List Y) (y : Y) (l : Literal) (m : ℕ)
    (here : (length ys < length ls) × (length ys < length ms) × ((d : Literal) → l ≡ get_or ls (length ys) d) × ((d : ℕ) → m ≡ get_or ms (length ys) d))
    (so_far : picked ≡ take 64 (marked (take (length ys) ls) (take (length ys) ms))) where
  next : take 64 (marked (take (length ys) ls) (take (length ys) ms) ++ cond (eqb m 1) (l ∷ []) []) ≡ take 64 (marked (take (length (ys ++ y ∷ [])) ls) (take (length (ys ++ y ∷ [])) ms))
  next =
      let q = marked (take (length ys) ls) (take (length ys) ms) in
      ap (λ b. take 64 (q ++ cond (eqb b 1) (l ∷ []) [])) (here.3 0)
      ∙ ap (λ x. take 64 (q ++ cond (eqb (get_or ms (length ys) 0) 1) (x ∷ []) [])) (here.2 l)
      ∙ ap (λ x. take 64 x) (sym (marked_take ls ms (length ys) l here.0 here.1))
      ∙ ap (λ n. take 64 (marked (take n ls) (take n ms))) (sym (length_push ys y))

  pub pick_yes : (after : List Literal) → m ≡ 1 → after ≡ take 64 (picked ++ l ∷ []) → after ≡ take 64 (marked (take (length (ys ++ y ∷ [])) ls) (take (length (ys ++ y ∷ [])) ms))
  pick_yes after e a =
      let q = marked (take (length ys) ls) (take (length ys) ms) in
      a ∙ ap (λ z. take 64 (z ++ l ∷ [])) so_far ∙ take_push 64 q (l ∷ [])
      ∙ ap (λ b. take 64 (q ++ cond b (l ∷ []) [])) (sym (eq-eqb m 1 e)) ∙ next

  pub pick_no : (m ≡ 1 → ⊥) → picked ≡ take 64 (marked (take (length (ys ++ y ∷ [])) ls) (take (length (ys ++ y ∷ [])) ms))
  pick_no e =
      let q = marked (take (length ys) ls) (take (length ys) ms) in
      so_far ∙ ap (λ z. take 64 z) (sym (append-nil q)) ∙ ap (λ b. take 64 (q ++ cond b (l ∷ []) [])) (sym (ne_eqb m 1 e)) ∙ next

-- a table of literals after `extend`, of what an iterator over `all` gives
pub extended : {S : Type 0} {steps : S → Option Literal → S → Type 0} {s : S} {all : List Literal} (old new : List Literal)
    → (xs : List Literal) × Drains steps s xs × (new ≡ take 64 (old ++ xs)) → YieldsList steps (λ x. x) s all → new ≡ take 64 (old ++ all)
extended {steps} {s} old new e y =
    let d = e.1 in
    let i = items_from_drains e.0 (d.1.0, d.1.1, (λ _. (d.0, d.1.2))) y in
    e.2 ∙ ap (λ xs. take 64 (old ++ xs)) (sym (map-id e.0) ∙ i)

-- a table made of what such an iterator gives
pub collected : {S : Type 0} {steps : S → Option Literal → S → Type 0} {s : S} {all : List Literal} (new : List Literal)
    → (xs : List Literal) × Drains steps s xs × (new ≡ take 64 xs) → YieldsList steps (λ x. x) s all → new ≡ take 64 all
collected new e y = extended [] new e y
