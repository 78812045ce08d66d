-- Values written as bytes, and what they then solve.
use Rattle.std.proofs.Common.{◌≡◌, ℕ, ◌+◌, ◌<◌, ◌≤◌, Bool, true, false, cond, eqb, List, get_or, drop, refl, ap, ◌∙◌, inl, inr, arith}
use Rattle.std.proofs.lemmas.Bool.{cases_lt}
use Rattle.literal.specs.declared.Literal.{Literal}
use Rattle.literal.specs.Truth.{values_of}
use Rattle.sat.specs.Clauses.{Clause, satisfies, all_true, byte_values}
use Rattle.sat.specs.Answers.{Solved}
use Rattle.sat.specs.Faults.{in_range, all_in_range}
use Rattle.sat.proofs.Laws.{all_agrees, satisfies_agrees}

bit : (b : Bool) → eqb (cond b 1 0) 1 ≡ b
bit true = refl
bit false = refl

bit_le : (b : Bool) → cond b 1 0 ≤ 1
bit_le true = omega arith
bit_le false = omega arith

-- bytes that hold a table's values solve what the table solves
pub written_solves : (V : ℕ) (cs : List Clause) (assumed : List Literal) (table : List Bool) (before after : List ℕ)
    → all_in_range V cs ≡ true → in_range V assumed ≡ true
    → satisfies (values_of table) cs ≡ true → all_true (values_of table) assumed ≡ true
    → get_or after 0 0 ≡ 0 → ((k : ℕ) → 0 < k → k ≤ V → get_or after k 0 ≡ cond (get_or table k false) 1 0)
    → drop (V + 1) after ≡ drop (V + 1) before → Solved V cs assumed before after
written_solves V cs assumed table before after r a s h z w e =
    let agree : (x : ℕ) → 0 < x → x ≤ V → byte_values after x ≡ values_of table x = λ x p l. ap (λ b. eqb b 1) (w x p l) ∙ bit (get_or table x false) in
    record {
      zero = z;
      bits = λ k l. elim (cases_lt 0 k) [
        | inl p ↦ omega (arith, w k p l, bit_le (get_or table k false))
        | inr n ↦ (let q : k ≡ 0 = omega arith in omega (arith, z, ap (λ i. get_or after i 0) q))
      ];
      clauses = satisfies_agrees V (byte_values after) (values_of table) agree cs r ∙ s;
      assumptions = all_agrees V (byte_values after) (values_of table) agree assumed a ∙ h;
      rest = e;
    }
