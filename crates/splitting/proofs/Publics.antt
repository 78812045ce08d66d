-- From tables and codes to values and literals.
use Rattle.std.proofs.Common.{◌≡◌, ℕ, zero, suc, ◌+◌, ◌/◌, ◌%◌, ◌<◌, ◌≤◌, Bool, true, false, cond, not, eqb, List, [], ◌∷◌, map, length, get_or, sym, ap, ◌∙◌, inl, inr, arith}
use Rattle.std.proofs.lemmas.List.{get_or_default, length-map}
use Rattle.std.proofs.lemmas.Bool.Decides.{nat_tests}
use Rattle.std.proofs.lemmas.Bool.{cases_eq, eq-eqb, ne_eqb, cond-true, cond-false, and_parts}
use Rattle.std.proofs.lemmas.List.Folds.{list_any_at, Any-from_list_any, list_all-map}
use Rattle.std.proofs.lemmas.List.Sums.{AllPass-from_list_all, list_all-from_AllPass}
use Rattle.std.proofs.lemmas.List.Elements.{All-from_get_or}
use Rattle.literal.specs.declared.Literal.{Literal}
use Rattle.literal.specs.Truth.{Values, truth}
use Rattle.sat.specs.Clauses.{any_true, all_true, satisfies, marked, byte_values}
use Rattle.sat.specs.Answers.{Solved, Refuted}
use Rattle.splitting.specs.Cells.{Holds}
use Rattle.cells.specs.Cells.{clauses, literal, codes}
use Rattle.splitting.specs.Trails.{True, Models, AllMet, Refutes}
use Rattle.cells.specs.Cells.{literals}
use Rattle.sat.specs.Faults.{in_range}
use Rattle.cells.specs.Held.{used_cells, held}
use Rattle.cells.proofs.Ranges.{range_codes}
use Rattle.cells.proofs.Codes.{any_literals}
use Rattle.splitting.proofs.Givens.{code_at}
use Rattle.splitting.proofs.Ranges.{range_within}
use Rattle.splitting.specs.declared.solver.Splitting.{Splitting}
use Rattle.splitting.specs.Written.{Valued, MarkedBy}

-- truth under values, literal by literal
pub any_from : (v : Values) (c : List ℕ) (k : ℕ) → k < length c → truth v (literal (get_or c k 0)) ≡ true → any_true v (literals c) ≡ true
any_from v c k h e = any_literals v c ∙ list_any_at (λ n. truth v (literal n)) c k 0 h e

pub any_to : (v : Values) (c : List ℕ) → any_true v (literals c) ≡ true → (k : ℕ) × ((k < length c) × (truth v (literal (get_or c k 0)) ≡ true))
any_to v c e =
    let w = Any-from_list_any (λ n. truth v (literal n)) c (sym (any_literals v c) ∙ e) in
    (w.0, (w.2, ap (λ n. truth v (literal n)) (get_or_default c w.0 0 w.1 w.2 ∙ w.3) ∙ w.4))

pub satisfies_from : (v : Values) (cs : List (List ℕ)) → ((j : ℕ) → j < length cs → any_true v (literals (get_or cs j [])) ≡ true) → satisfies v (map literals cs) ≡ true
satisfies_from v cs h =
    list_all-map (any_true v) literals cs ∙ list_all-from_AllPass (λ c. any_true v (literals c)) cs (All-from_get_or (λ c. any_true v (literals c) ≡ true) cs [] h)

pub satisfies_to : (v : Values) (cs : List (List ℕ)) → satisfies v (map literals cs) ≡ true → (j : ℕ) → j < length cs → any_true v (literals (get_or cs j [])) ≡ true
satisfies_to v cs e j h = AllPass-from_list_all (λ c. any_true v (literals c)) cs (sym (list_all-map (any_true v) literals cs) ∙ e) j [] h

all_from : (v : Values) (ls : List Literal) → ((k : ℕ) → k < length ls → truth v (literal (get_or (codes ls) k 0)) ≡ true) → all_true v ls ≡ true
all_from v ls h =
    list_all-from_AllPass (truth v) ls (All-from_get_or (λ l. truth v l ≡ true) ls (literal 0) (λ k b. ap (λ n. truth v (literal n)) (sym (code_at ls k b)) ∙ h k b))

-- a yes

holds_truth : (value before after : List ℕ) (V l : ℕ) → Valued value V before after → 1 ≤ l / 2 → l / 2 ≤ V → Holds value l → truth (byte_values after) (literal l) ≡ true
holds_truth value before after V l w p q h = let e = w.bytes (l / 2) p q in grind (arith, nat_tests)

byte_small : (value before after : List ℕ) (V : ℕ) → Valued value V before after → (k : ℕ) → k ≤ V → get_or after k 0 ≤ 1
byte_small value before after V w zero h = omega (arith, w.zero)
byte_small value before after V w (suc k) h = let e = w.bytes (suc k) (omega arith) h in grind (arith, nat_tests)

pub solved : (s : Splitting) (value before after : List ℕ) (ls : List Literal) → Valued value s.variables before after → AllMet (used_cells s.cells) value
    → in_range s.variables ls ≡ true → ((k : ℕ) → k < length ls → Holds value (get_or (codes ls) k 0)) → Solved s.variables (held s.cells) ls before after
solved s value before after ls w met inside granted =
    let V = s.variables in
    let cs = clauses (used_cells s.cells) in
    record {
      zero = w.zero;
      bits = byte_small value before after V w;
      clauses = satisfies_from (byte_values after) cs (λ j h.
          let k = met j h in
          let r = range_codes V cs s.ranged j h k.0 k.1.0 in
          any_from (byte_values after) (get_or cs j []) k.0 k.1.0 (holds_truth value before after V (get_or (get_or cs j []) k.0 0) w r.0 r.1 k.1.1));
      assumptions = all_from (byte_values after) ls (λ k h.
          let r = range_within V ls inside k (omega (arith, length-map ls (λ (l : Literal). l.code))) in
          holds_truth value before after V (get_or (codes ls) k 0) w r.0 r.1 (granted k h));
      rest = w.rest;
    }

-- a no

number : Bool → ℕ
number true = 1
number false = 2

number_small : (b : Bool) → (1 ≤ number b) × (number b ≤ 2)
unfolding number
number_small true = (omega arith, omega arith)
number_small false = (omega arith, omega arith)

true_by : (b : Bool) (n : ℕ) → cond (eqb (n % 2) 1) (not b) b ≡ true → number b ≡ 1 + n % 2
unfolding number
true_by true n e = grind (arith, nat_tests)
true_by false n e = grind (arith, nat_tests)

truth_true : (v : Values) (l : ℕ) → truth v (literal l) ≡ true → True (λ x. number (v x)) l
truth_true v l e = true_by (v (l / 2)) l e

models_of : (v : Values) (cells : List ℕ) → satisfies v (map literals (clauses cells)) ≡ true → Models cells (λ x. number (v x))
models_of v cells e = record {
  total = λ x. number_small (v x);
  meets = λ j h.
      let w = any_to v (get_or (clauses cells) j []) (satisfies_to v (clauses cells) e j h) in
      (w.0, (w.1.0, truth_true v (get_or (get_or (clauses cells) j []) w.0 0) w.1.1));
}

-- the assumptions that are marked are true where the marked ones are
marked_to : (v : Values) (ls : List Literal) (ms : List ℕ) → length ls ≤ length ms → all_true v (marked ls ms) ≡ true
    → (k : ℕ) → k < length ls → get_or ms k 0 ≡ 1 → truth v (literal (get_or (codes ls) k 0)) ≡ true
marked_to v [] ms h a k b e = absurd (omega arith)
marked_to v (l ∷ ls) [] h a k b e = absurd (omega arith)
marked_to v (l ∷ ls) (m ∷ ms) h a zero b e =
    (and_parts (truth v l) (all_true v (marked ls ms)) (ap (all_true v) (sym (cond-true _ (l ∷ marked ls ms) (marked ls ms) (eq-eqb m 1 e))) ∙ a)).0
marked_to v (l ∷ ls) (m ∷ ms) h a (suc k) b e =
    elim (cases_eq m 1) [
      | inl o ↦ marked_to v ls ms (omega arith) (and_parts (truth v l) (all_true v (marked ls ms)) (ap (all_true v) (sym (cond-true _ (l ∷ marked ls ms) (marked ls ms) (eq-eqb m 1 o))) ∙ a)).1 k (omega arith) e
      | inr z ↦ marked_to v ls ms (omega arith) (ap (all_true v) (sym (cond-false _ (l ∷ marked ls ms) (marked ls ms) (ne_eqb m 1 z))) ∙ a) k (omega arith) e
    ]

bit_small : (x y : ℕ) → y ≡ cond (eqb x 0) 0 1 → y ≤ 1
bit_small x y e = grind (arith, nat_tests)

pub refuted : (cells seen before after : List ℕ) (ls : List Literal) → Refutes cells seen (codes ls) → length ls ≤ length after → MarkedBy seen ls before after
    → Refuted (map literals (clauses cells)) ls before after
refuted cells seen before after ls none size w = record {
  bits = λ k h. bit_small (get_or seen (get_or (codes ls) k 0 / 2) 0) (get_or after k 0) (w.marks k h);
  none = λ v s a. none (λ x. number (v x)) (models_of v cells s) (λ k h q.
      let b : k < length ls = omega (arith, length-map ls (λ (l : Literal). l.code)) in
      truth_true v (get_or (codes ls) k 0)
      (marked_to v ls after size a k b (w.marks k b ∙ cond-false _ _ _ (ne_eqb (get_or seen (get_or (codes ls) k 0 / 2) 0) 0 (omega arith)))));
  rest = w.rest;
}
