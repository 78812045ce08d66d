-- Clauses in cells: what they hold is what was put there, clause by clause.
use Rattle.std.proofs.Common.{◌≡◌, ℕ, zero, suc, ◌+◌, ◌≤◌, ◌||◌, List, [], ◌∷◌, ◌++◌, map, length, take, drop, sym, refl, ap, ◌∙◌, inl, inr, subst, arith}
use Rattle.std.proofs.lemmas.List.{take_at, drop_at, length-append, length-map, append_assoc, take-append-drop, append_cancel_right, get_or-take, get_or-drop, get_or_past, length-take}
use Rattle.std.proofs.lemmas.Bool.{cases_lt}
use Rattle.literal.specs.declared.Literal.{Literal}
use Rattle.std.specs.List.{list_any}
use Rattle.literal.specs.Truth.{Values, truth}
use Rattle.sat.specs.Clauses.{any_true, cells_of}
use Rattle.cells.specs.Cells.{codes, literal, literals, flat, decode, clauses, Coded, Small, Starts}

pub literals_codes : (ls : List Literal) → literals (codes ls) ≡ ls
literals_codes [] = refl
literals_codes (l ∷ ls) = ap (λ (x : List Literal). l ∷ x) (literals_codes ls)

pub codes_literals : (ns : List ℕ) → codes (literals ns) ≡ ns
codes_literals [] = refl
codes_literals (n ∷ ns) = ap (λ x. n ∷ x) (codes_literals ns)

pub decode_flat : (f : ℕ) (cs : List (List ℕ)) → length (flat cs) ≤ f → decode f (flat cs) ≡ cs
decode_flat zero [] h = refl
decode_flat (suc f) [] h = refl
decode_flat zero (c ∷ cs) h = absurd (omega arith)
decode_flat (suc f) (c ∷ cs) h =
    let t : take (length c) (c ++ flat cs) ≡ c = take_at c (flat cs) (length c) refl in
    let d : drop (length c) (c ++ flat cs) ≡ flat cs = drop_at c (flat cs) (length c) refl in
    let le : length (flat cs) ≤ f = omega (arith, length-append c (flat cs)) in
    let r : decode f (flat cs) ≡ cs = decode_flat f cs le in
    cc

pub clauses_flat : (cs : List (List ℕ)) → clauses (flat cs) ≡ cs
unfolding clauses
clauses_flat cs = decode_flat (length (flat cs)) cs (omega arith)

pub clauses_none : clauses [] ≡ []
clauses_none = clauses_flat []

pub flat_append : (xs ys : List (List ℕ)) → flat (xs ++ ys) ≡ flat xs ++ flat ys
flat_append [] ys = refl
flat_append (c ∷ xs) ys =
    ap (λ x. length c ∷ x) (ap (λ x. c ++ x) (flat_append xs ys) ∙ sym (append_assoc c (flat xs) (flat ys)))

-- there are no more clauses than cells
pub length_flat : (cs : List (List ℕ)) → length cs ≤ length (flat cs)
length_flat [] = omega arith
length_flat (c ∷ cs) = omega (arith, length_flat cs, length-append c (flat cs))

-- the cells that clauses take
pub cells_flat : (cs : List (List ℕ)) → cells_of (map literals cs) ≡ length (flat cs)
cells_flat [] = refl
cells_flat (c ∷ cs) = omega (arith, length-map c literal, cells_flat cs, length-append c (flat cs))

small_tail : (n : ℕ) (ns : List ℕ) → Small (n ∷ ns) → Small ns
small_tail n ns h k = h (suc k)

small_take : (n : ℕ) (ns : List ℕ) → Small ns → Small (take n ns)
small_take n ns h k = elim (cases_lt k n) [
  | inl l ↦ omega (arith, h k, get_or-take n ns k 0 l)
  | inr g ↦ omega (arith, get_or_past (take n ns) k 0 (omega (arith, length-take n ns)))
]

small_drop : (n : ℕ) (ns : List ℕ) → Small ns → Small (drop n ns)
small_drop n ns h k = omega (arith, h (n + k), get_or-drop n ns k 0)

-- cells that begin with a clause of n literals
pub record Parted (cells : List ℕ) (n : ℕ) (rest : List ℕ) : Type 0 where
  pub fits : n ≤ length rest
  pub first : clauses cells ≡ take n rest ∷ clauses (drop n rest)
  pub coded : Coded (drop n rest)
  pub small_first : Small (take n rest)
  pub small_rest : Small (drop n rest)

parted_from : (cs : List (List ℕ)) (cells : List ℕ) (n : ℕ) (rest : List ℕ) → clauses cells ≡ cs → flat cs ≡ n ∷ rest → Small rest → Parted cells n rest
parted_from [] cells n rest e f s = let z : ◌≡◌ {A = ℕ} 0 1 = cc in absurd (omega arith)
parted_from (c ∷ cs) cells n rest e f s =
    let n-is : length c ≡ n = cc in
    let r : c ++ flat cs ≡ rest = cc in
    let t : take n rest ≡ c = ap (λ x. take n x) (sym r) ∙ take_at c (flat cs) n n-is in
    let d : drop n rest ≡ flat cs = ap (λ x. drop n x) (sym r) ∙ drop_at c (flat cs) n n-is in
    let q : clauses (drop n rest) ≡ cs = ap clauses d ∙ clauses_flat cs in
    record {
      fits = omega (arith, ap length r, length-append c (flat cs));
      first = cc;
      coded = ap flat q ∙ sym d;
      small_first = small_take n rest s;
      small_rest = small_drop n rest s;
    }

pub parted : (cells : List ℕ) (n : ℕ) (rest : List ℕ) → cells ≡ n ∷ rest → Coded cells → Small cells → Parted cells n rest
parted cells n rest e f s =
    let P : List ℕ → Type 0 = λ x. Small x in
    parted_from (clauses cells) cells n rest refl (f ∙ e) (small_tail n rest (subst P e s))

-- the cells before a clause are those of the clauses before it
pub front_of : (cells : List ℕ) (p j : ℕ) → flat (clauses cells) ≡ cells → Starts cells p j → take p cells ≡ flat (take j (clauses cells))
front_of cells p j e s =
    let a : take p cells ++ drop p cells ≡ cells = take-append-drop p cells in
    let b : flat (take j (clauses cells) ++ drop j (clauses cells)) ≡ cells = ap flat (take-append-drop j (clauses cells)) ∙ e in
    let d : flat (take j (clauses cells)) ++ flat (drop j (clauses cells)) ≡ cells = sym (flat_append (take j (clauses cells)) (drop j (clauses cells))) ∙ b in
    append_cancel_right (take p cells) (flat (take j (clauses cells))) (drop p cells) (a ∙ sym d ∙ ap (λ x. flat (take j (clauses cells)) ++ x) (sym s))

-- a clause's truth, code by code
pub any_literals : (v : Values) (ns : List ℕ) → any_true v (literals ns) ≡ list_any (λ n. truth v (literal n)) ns
any_literals v [] = refl
any_literals v (n ∷ ns) = ap (λ b. truth v (literal n) || b) (any_literals v ns)
