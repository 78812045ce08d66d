-- Clauses held one after another.
use Rattle.std.proofs.Common.{◌≡◌, ℕ, ◌+◌, ◌<◌, ◌≤◌, true, cond, List, [], ◌∷◌, ◌++◌, length, get_or, take, drop, is_ok, Some, None, Ok, Err, Option, Result, sym, refl, ap, ◌∙◌, subst, arith}
use Rattle.std.specs.Result.{result_err}
use Rattle.std.specs.List.{flat_map}
use Rattle.std.proofs.lemmas.List.{append_assoc, append-nil, take_more, take_all, take-append-drop}
use Rattle.std.proofs.lemmas.Grind.{flat_map-append}
use Rattle.std.proofs.lemmas.Bool.{and_parts}
use Rattle.sat.specs.declared.fault.SolverFault.{SolverFault}
use Rattle.sat.specs.Clauses.{Clause, Meaning, cells_of, free, with_clause, with_clauses}
use Rattle.sat.specs.Faults.{hold_fault, in_range, all_in_range}
use Rattle.sat.proofs.Checks.{hold_passes}
use Rattle.sat.proofs.Laws.{cells_of_push}
use Rattle.encoding.specs.Holding.{else_after, held_after, held_fault, Held}
use Rattle.encoding.specs.Laws.{ClausesFit}

-- clauses after others that are all held
pub append_go : (m : Meaning) (xs ys : List Clause) → held_fault m xs ≡ None
    → (held_after m (xs ++ ys) ≡ held_after (held_after m xs) ys) × (held_fault m (xs ++ ys) ≡ held_fault (held_after m xs) ys)
append_go m [] ys h = (refl, refl)
append_go m (c ∷ xs) ys h =
    let more = with_clause m c in
    elim (hold_fault m.variables (free m) c) as (λ o. else_after Some (held_fault more xs) o ≡ None
    → (else_after (λ f. m) (held_after more (xs ++ ys)) o ≡ held_after (else_after (λ f. m) (held_after more xs) o) ys)
    × (else_after Some (held_fault more (xs ++ ys)) o ≡ held_fault (else_after (λ f. m) (held_after more xs) o) ys)) [
      | None ↦ λ k. append_go more xs ys k
      | Some f ↦ λ k. cc
    ] h

-- clauses after others of which one is refused
pub append_stop : (m : Meaning) (xs ys : List Clause) (f : SolverFault) → held_fault m xs ≡ Some f
    → (held_after m (xs ++ ys) ≡ held_after m xs) × (held_fault m (xs ++ ys) ≡ Some f)
append_stop m [] ys f h = cc
append_stop m (c ∷ xs) ys f h =
    let more = with_clause m c in
    elim (hold_fault m.variables (free m) c) as (λ o. else_after Some (held_fault more xs) o ≡ Some f
    → (else_after (λ e. m) (held_after more (xs ++ ys)) o ≡ else_after (λ e. m) (held_after more xs) o)
    × (else_after Some (held_fault more (xs ++ ys)) o ≡ Some f)) [
      | None ↦ λ k. append_stop more xs ys f k
      | Some e ↦ λ k. (refl, k)
    ] h

-- one clause that is held, and one that is refused
pub one_held : {m m' : Meaning} (c : Clause) → None ≡ hold_fault m.variables (free m) c → m' ≡ with_clause m c → Held m (c ∷ []) m' None
one_held {m} c e a = record { refused = ap (else_after Some None) e; after = a ∙ ap (else_after (λ f. m) (with_clause m c)) e }

pub one_refused : {m m' : Meaning} (c : Clause) (f : SolverFault) → Some f ≡ hold_fault m.variables (free m) c → m' ≡ m → Held m (c ∷ []) m' (Some f)
one_refused {m} c f e a = record { refused = ap (else_after Some None) e; after = a ∙ ap (else_after (λ f. m) (with_clause m c)) e }

-- one clause, as a solver answers
pub held_one : {X : Type 0} {m m' : Meaning} (c : Clause) (r : Result X SolverFault)
    → result_err r ≡ hold_fault m.variables (free m) c → m' ≡ cond (is_ok r) (with_clause m c) m → Held m (c ∷ []) m' (result_err r)
held_one c (Ok x) e a = one_held c e a
held_one c (Err f) e a = one_refused c f e a

-- some clauses held, and then more
pub held_then : {m m₁ m₂ : Meaning} {xs ys : List Clause} {o : Option SolverFault} → Held m xs m₁ None → Held m₁ ys m₂ o → Held m (xs ++ ys) m₂ o
held_then {m} {xs} {ys} a b =
    let p = append_go m xs ys (sym a.refused) in
    record { refused = b.refused ∙ ap (λ n. held_fault n ys) a.after ∙ sym p.1; after = b.after ∙ ap (λ n. held_after n ys) a.after ∙ sym p.0 }

-- one of the first clauses is refused
pub held_stop : {m m' : Meaning} {xs : List Clause} {f : SolverFault} (ys : List Clause) → Held m xs m' (Some f) → Held m (xs ++ ys) m' (Some f)
held_stop {m} {xs} {f} ys a =
    let p = append_stop m xs ys f (sym a.refused) in
    record { refused = sym p.1; after = a.after ∙ sym p.0 }

-- the same, where the clauses are put together as an equation says
pub held_is : {m m' : Meaning} {xs all : List Clause} {o : Option SolverFault} → xs ≡ all → Held m xs m' o → Held m all m' o
held_is {m} {m'} {o} e a = subst (λ cs. Held m cs m' o) e a

pub then_is : {m m₁ m₂ : Meaning} {xs ys all : List Clause} {o : Option SolverFault}
    → xs ++ ys ≡ all → Held m xs m₁ None → Held m₁ ys m₂ o → Held m all m₂ o
then_is e a b = held_is e (held_then a b)

pub stop_is : {m m' : Meaning} {xs all : List Clause} {f : SolverFault} (ys : List Clause)
    → xs ++ ys ≡ all → Held m xs m' (Some f) → Held m all m' (Some f)
stop_is ys e a = held_is e (held_stop ys a)

-- clauses that fit are all held
pub held_whole : (m : Meaning) (need : ℕ) (cs : List Clause) → ClausesFit m.variables need cs → cells_of m.clauses + need ≤ m.cells
    → (held_fault m cs ≡ None) × (held_after m cs ≡ with_clauses m (m.clauses ++ cs))
held_whole m need [] fit room = (refl, ap (with_clauses m) (sym (append-nil m.clauses)))
held_whole m need (c ∷ cs) fit room =
    let ranged = and_parts (in_range m.variables c) (all_in_range m.variables cs) fit.ranged in
    let passes = hold_passes m.variables (free m) c
    (record { ranged = ranged.0; short = fit.short.0; fits = omega (arith, fit.few) }) in
    let rest = held_whole (with_clause m c) (cells_of cs) cs (record { ranged = ranged.1; short = fit.short.1; few = omega arith })
    (omega (arith, cells_of_push m.clauses c, fit.few)) in (
      ap (else_after Some (held_fault (with_clause m c) cs)) passes ∙ rest.0,
      ap (else_after (λ f. m) (held_after (with_clause m c) cs)) passes ∙ rest.1 ∙ ap (with_clauses m) (append_assoc m.clauses (c ∷ []) cs),
    )

-- a loop that holds the clauses of each element
module _ {X : Type 0} (f : X → List Clause) (xs : List X) where
  joined_take : (i : ℕ) (d : X) → i < length xs → flat_map f (take (i + 1) xs) ≡ flat_map f (take i xs) ++ f (get_or xs i d)
  joined_take i d h =
      ap (flat_map f) (take_more xs i d h) ∙ flat_map-append f (take i xs) (get_or xs i d ∷ [])
      ∙ ap (λ t. flat_map f (take i xs) ++ t) (append-nil (f (get_or xs i d)))

  joined_split : (i : ℕ) (d : X) → i < length xs
      → (flat_map f (take i xs) ++ f (get_or xs i d)) ++ flat_map f (drop (i + 1) xs) ≡ flat_map f xs
  joined_split i d h =
      ap (λ t. t ++ flat_map f (drop (i + 1) xs)) (sym (joined_take i d h)) ∙ sym (flat_map-append f (take (i + 1) xs) (drop (i + 1) xs))
      ∙ ap (flat_map f) (take-append-drop (i + 1) xs)

  -- nothing is held yet
  pub loop_none : {m : Meaning} → Held m (flat_map f (take 0 xs)) m None
  loop_none = record { refused = refl; after = refl }

  module _ (i : ℕ) (d : X) (h : i < length xs) {m m₁ m₂ : Meaning} (so_far : Held m (flat_map f (take i xs)) m₁ None) where
    pub loop_more : Held m₁ (f (get_or xs i d)) m₂ None → Held m (flat_map f (take (i + 1) xs)) m₂ None
    loop_more one = held_is (sym (joined_take i d h)) (held_then so_far one)

    pub loop_stop : {e : SolverFault} → Held m₁ (f (get_or xs i d)) m₂ (Some e) → Held m (flat_map f xs) m₂ (Some e)
    loop_stop one = held_is (joined_split i d h) (held_stop (flat_map f (drop (i + 1) xs)) (held_then so_far one))

  pub loop_all : (i : ℕ) → length xs ≤ i → {m m₁ : Meaning} → Held m (flat_map f (take i xs)) m₁ None → Held m (flat_map f xs) m₁ None
  loop_all i h {m} {m₁} so_far = subst (λ t. Held m (flat_map f t) m₁ None) (take_all i xs h) so_far

-- what held clauses say where they fit
pub whole_from : {X : Type 0} {m m' : Meaning} {added : List Clause} (r : Result X SolverFault) (need : ℕ)
    → Held m added m' (result_err r) → ClausesFit m.variables need added → cells_of m.clauses + need ≤ m.cells
    → (is_ok r ≡ true) × (m' ≡ with_clauses m (m.clauses ++ added))
whole_from {m} {added} r need held fit room =
    let p = held_whole m need added fit room in (ok_none r (held.refused ∙ p.0), held.after ∙ p.1)
  where
    ok_none : {X : Type 0} (r : Result X SolverFault) → result_err r ≡ None → is_ok r ≡ true
    ok_none (Ok x) e = refl
    ok_none (Err f) e = cc
