-- What is left when a run ends.
use Rattle.std.proofs.Common.{◌≡◌, ℕ, suc, ◌-◌, ◌<◌, ◌≤◌, true, false, cond, List, [], ◌∷◌, ◌++◌, length, set, replicate, is_ok, Some, None, Ok, Err, Option, Result, sym, refl, ap, ◌∙◌, arith}
use Rattle.std.proofs.lemmas.Bool.{both_ways}
use Rattle.std.proofs.lemmas.List.{append_assoc, length_push, set_at}
use Rattle.std.specs.Result.{result_err}
use Rattle.sat.specs.declared.fault.SolverFault.{SolverFault}
use Rattle.sat.specs.Clauses.{Meaning, with_first}
use Rattle.sat.specs.Faults.{keep_fault}
use Rattle.sat.proofs.Checks.{keep_passes}

pub some_none : {X : Type 0} {Y : Type 0} (x : X) → Some x ≡ None → Y
some_none x e = let z : ◌≡◌ {A = ℕ} 0 1 = cc in absurd (omega arith)

-- what a call that is not refused leaves
pub held_ok : {X Y : Type 0} (a b after : Y) (r : Result X SolverFault) → result_err r ≡ None → after ≡ cond (is_ok r) a b → after ≡ a
held_ok a b after (Ok x) e h = h
held_ok a b after (Err f) e h = some_none f e

pub ok_none : {X : Type 0} (r : Result X SolverFault) → is_ok r ≡ true → result_err r ≡ None
ok_none (Ok x) h = refl
ok_none (Err f) h = absurd (both_ways false refl h)

-- what keeping few enough clauses leaves
pub kept : {X : Type 0} (m m' : Meaning) (p : ℕ) (r : Result X SolverFault) → result_err r ≡ keep_fault (length m.clauses) p
    → m' ≡ cond (is_ok r) (with_first m p) m → p ≤ length m.clauses → m' ≡ with_first m p
kept m m' p r e h few = held_ok (with_first m p) m m' r (e ∙ keep_passes (length m.clauses) p few) h

-- an element more takes the first blank place
pub laid_more : {X : Type 0} (blank : X) (table items : List X) (R : ℕ) (x : X) → length items < R
    → table ≡ items ++ replicate (R - length items) blank
    → set table (length items) x ≡ (items ++ (x ∷ [])) ++ replicate (R - length (items ++ (x ∷ []))) blank
laid_more blank table items R x l e =
    let k = R - length items - 1 in
    let more : R - length items ≡ suc k = omega arith in
    let less : R - length (items ++ (x ∷ [])) ≡ k = omega (arith, length_push items x) in
    ap (λ t. set t (length items) x) (e ∙ ap (λ n. items ++ replicate n blank) more)
    ∙ set_at items blank (replicate k blank) x (length items) refl
    ∙ sym (append_assoc items (x ∷ []) (replicate k blank))
    ∙ ap (λ n. (items ++ (x ∷ [])) ++ replicate n blank) (sym less)

-- a refusal that the sizes rule out
pub never_refused : {X Y : Type 0} {o : Option X} (f : X) → Some f ≡ o → o ≡ None → Y
never_refused f e n = some_none f (e ∙ n)
