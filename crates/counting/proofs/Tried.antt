-- An assumption is left out, or stays.
use Rattle.std.proofs.Common.{◌≡◌, ℕ, ◌+◌, ◌<◌, ◌≤◌, Bool, true, false, ◌≢◌, List, length, get_or, set, is_some, Some, None, Option, sym, ◌∙◌, subst, arith, MatchOption}
use Rattle.std.proofs.lemmas.List.{get_or-set_other}
use Rattle.std.proofs.lemmas.Bool.{true≢false, false≢true}
use Rattle.literal.specs.declared.Literal.{Literal}
use Rattle.literal.specs.Truth.{values_of}
use Rattle.sat.specs.Clauses.{Clause, satisfies, all_true, Satisfiable, Unsatisfiable, marked}
use Rattle.sat.proofs.Narrowing.{NarrowedBelow, narrowed_kept, narrowed_dropped, refuted_unmarked, unmarked, unmarked_fewer, set_back}

some_values : (cs : List Clause) (ls : List Literal) (r : Option (List Bool))
    → MatchOption r (Unsatisfiable cs ls) (λ t. (satisfies (values_of t) cs ≡ true) × (all_true (values_of t) ls ≡ true)) → is_some r ≡ true → Satisfiable cs ls
some_values cs ls (Some t) h e = (values_of t, h.0, h.1)
some_values cs ls None h e = absurd (false≢true e)

no_values : (cs : List Clause) (ls : List Literal) (r : Option (List Bool))
    → MatchOption r (Unsatisfiable cs ls) (λ t. (satisfies (values_of t) cs ≡ true) × (all_true (values_of t) ls ≡ true)) → is_some r ≡ false → Unsatisfiable cs ls
no_values cs ls (Some t) h e = absurd (true≢false e)
no_values cs ls None h e = h

-- so far, and every later assumption is still marked
abbrev pub Tried : List Clause → List Literal → ℕ → ℕ → List ℕ → List ℕ → Type 0
Tried cs assumed first i before ms = NarrowedBelow cs assumed first i before ms × ((k : ℕ) → i ≤ k → k < length assumed → get_or ms k 0 ≡ 1)

module _ (cs : List Clause) (assumed : List Literal) (first i : ℕ) (before ms : List ℕ) (picked : List Literal) (r : Option (List Bool))
    (past : first ≤ i) (inside : i < length assumed) (sofar : Tried cs assumed first i before ms) (is : picked ≡ marked assumed (set ms i 0))
    (answer : MatchOption r (Unsatisfiable cs picked) (λ t. (satisfies (values_of t) cs ≡ true) × (all_true (values_of t) picked ≡ true))) where
  pub tried_stays : (ns : List ℕ) → ns ≡ set (set ms i 0) i 1 → is_some r ≡ true → Tried cs assumed first (i + 1) before ns
  tried_stays ns e t =
      let s = subst (λ (x : List Literal). Satisfiable cs x) is (some_values cs picked r answer t) in
      let back : ms ≡ ns = sym (e ∙ set_back ms i (sofar.1 i (omega arith) inside)) in
      subst (λ (x : List ℕ). Tried cs assumed first (i + 1) before x) back
      (narrowed_kept cs assumed first i before ms sofar.0 s, λ k a b. sofar.1 k (omega arith) b)

  pub tried_dropped : (ns : List ℕ) → ns ≡ set ms i 0 → is_some r ≡ false → Tried cs assumed first (i + 1) before ns
  tried_dropped ns e t =
      let u = subst (λ (x : List Literal). Unsatisfiable cs x) is (no_values cs picked r answer t) in
      subst (λ (x : List ℕ). Tried cs assumed first (i + 1) before x) (sym e) (
        narrowed_dropped cs assumed first i before ms sofar.0 (set ms i 0) inside
            (refuted_unmarked cs assumed before ms i inside sofar.0.refuted u)
            (λ k h. let d : k ≢ i = omega arith in get_or-set_other ms i k 0 0 d ∙ sofar.0.firsts k h)
            (λ k h q. unmarked_fewer ms i k q)
            (λ q. omega (arith, unmarked ms i, q)),
        λ k a b. (let d : k ≢ i = omega arith in get_or-set_other ms i k 0 0 d ∙ sofar.1 k (omega arith) b),
      )
