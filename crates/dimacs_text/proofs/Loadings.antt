-- Clauses taken from entries one after another.
use Rattle.std.proofs.Common.{◌≡◌, ℕ, ◌+◌, List, [], ◌∷◌, ◌++◌, length, sym, refl, ap, ◌∙◌, arith}
use Rattle.std.proofs.lemmas.List.{append_assoc, length-append, length_push}
use Rattle.literal.specs.declared.Literal.{Literal}
use Rattle.sat.specs.Clauses.{Clause, Meaning, with_clauses, with_clause}
use Rattle.dimacs_text.specs.Entries.{end, terminated}
use Rattle.dimacs_text.specs.Loads.{Loading}

terminated_push : (cs : List Clause) (c : Clause) → terminated (cs ++ c ∷ []) ≡ terminated cs ++ (c ++ end ∷ [])
terminated_push [] c = refl
terminated_push (d ∷ cs) c =
    ap (λ (x : List Literal). d ++ end ∷ x) (terminated_push cs c) ∙ sym (append_assoc d (end ∷ terminated cs) (c ++ end ∷ []))

pub loading_more : (entries rest next : List Literal) (n : ℕ) (before now now' : Meaning) (c : Clause) → Loading entries rest n before now
    → rest ≡ c ++ end ∷ next → now' ≡ with_clause now c → Loading entries next (n + 1) before now'
loading_more entries rest next n before now now' c w e a =
    let cs = w.clauses in
    record {
      clauses = cs ++ c ∷ [];
      whole = w.whole ∙ ap (λ (x : List Literal). terminated cs ++ x) (e ∙ sym (append_assoc c (end ∷ []) next)) ∙ sym (append_assoc (terminated cs) (c ++ end ∷ []) next)
          ∙ ap (λ (x : List Literal). x ++ next) (sym (terminated_push cs c));
      held = a ∙ ap (λ m. with_clause m c) w.held ∙ ap (with_clauses before) (append_assoc before.clauses cs (c ∷ []));
      counted = omega (arith, w.counted, length_push cs c);
      fewer = omega (arith, w.fewer, ap length e, length-append c (end ∷ next));
    }
