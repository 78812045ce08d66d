-- What holds of the clauses in cells, told of their codes.
use Rattle.std.proofs.Common.{◌≡◌, ℕ, zero, suc, ◌/◌, ◌<◌, ◌≤◌, true, ◌&&◌, List, [], ◌∷◌, ◌++◌, map, length, get_or, take, drop, sym, refl, ap, ◌∙◌, arith}
use Rattle.std.proofs.lemmas.List.{take-append-drop}
use Rattle.std.proofs.lemmas.List.Folds.{list_all-append}
use Rattle.std.proofs.lemmas.Bool.{and_parts, and_from, leb-true, ltb-true}
use Rattle.literal.specs.Truth.{variable_of}
use Rattle.sat.specs.Clauses.{Clause}
use Rattle.sat.specs.Faults.{in_range, all_in_range}
use Rattle.cells.specs.Cells.{codes, literal, literals, clauses}
use Rattle.cells.specs.Held.{used_cells, held}
use Rattle.cells.specs.declared.store.Cells.{Cells}
use Rattle.cells.proofs.Codes.{codes_literals}

back : (cs : List (List ℕ)) → map codes (map literals cs) ≡ cs
back [] = refl
back (c ∷ cs) = ap (λ x. x ∷ map codes (map literals cs)) (codes_literals c) ∙ ap (λ x. c ∷ x) (back cs)

-- the clauses' codes, from the clauses
pub clauses_held : (s : Cells) → map codes (held s) ≡ clauses (used_cells s)
clauses_held s = back (clauses (used_cells s))

pub range_push : (V : ℕ) (cs : List Clause) (c : Clause) → all_in_range V cs ≡ true → in_range V c ≡ true → all_in_range V (cs ++ c ∷ []) ≡ true
range_push V cs c h i = list_all-append (in_range V) cs (c ∷ []) ∙ and_from (all_in_range V cs) (in_range V c && true) h (and_from (in_range V c) true i refl)

pub range_take : (V n : ℕ) (cs : List Clause) → all_in_range V cs ≡ true → all_in_range V (take n cs) ≡ true
range_take V n cs h =
    (and_parts _ _ (sym (list_all-append (in_range V) (take n cs) (drop n cs)) ∙ ap (all_in_range V) (take-append-drop n cs) ∙ h)).0

-- each code's variable is one of 1 to V
pub range_code : (V : ℕ) (c : List ℕ) → in_range V (literals c) ≡ true → (k : ℕ) → k < length c → (1 ≤ get_or c k 0 / 2) × (get_or c k 0 / 2 ≤ V)
range_code V [] e k h = absurd (omega arith)
range_code V (n ∷ c) e zero h =
    let a = and_parts _ _ (and_parts _ _ e).0 in
    (ltb-true 0 (variable_of (literal n)) a.0, leb-true (variable_of (literal n)) V a.1)
range_code V (n ∷ c) e (suc k) h = range_code V c (and_parts _ _ e).1 k (omega arith)

pub range_codes : (V : ℕ) (cs : List (List ℕ)) → all_in_range V (map literals cs) ≡ true
    → (j : ℕ) → j < length cs → (k : ℕ) → k < length (get_or cs j []) → (1 ≤ get_or (get_or cs j []) k 0 / 2) × (get_or (get_or cs j []) k 0 / 2 ≤ V)
range_codes V [] e j h k b = absurd (omega arith)
range_codes V (c ∷ cs) e zero h k b = range_code V c (and_parts _ _ e).0 k b
range_codes V (c ∷ cs) e (suc j) h k b = range_codes V cs (and_parts _ _ e).1 j (omega arith) k b
