-- Counting through the numbers meets all values.
use Rattle.std.proofs.Common.{◌&&◌, ltb, lt-ltb, [], map, Some, None, Option, MatchOption, ◌≡◌, ℕ, zero, suc, ◌+◌, ◌-◌, ◌*◌, ◌/◌, ◌%◌, ◌^◌, ◌<◌, ◌≤◌, Bool, true, false, cond, eqb, List, length, get_or, sym, refl, ap, ◌∙◌, arith}
use native.Mathlib.Nat.{pow-succ'}
use Rattle.std.specs.Int as word
use Rattle.std.specs.Prelude.{bit_and}
use Rattle.std.proofs.lemmas.Nat.Bits.{bit_at_lowest, bit_at-suc, shr_and_one}
use Rattle.std.proofs.lemmas.Bool.{and_parts, and_from, true≢false}
use Rattle.std.proofs.lemmas.List.FromFn.{get_or-map-range_with_len, length-map-range_with_len}
use Rattle.std.specs.List.{range_with_len, AllWithin, HoldsAt}
use Rattle.literal.specs.declared.Literal.{Literal}
use Rattle.literal.specs.Truth.{Values, values_of}
use Rattle.sat.specs.Clauses.{Clause, satisfies, all_true, Unsatisfiable}
use Rattle.sat.specs.Faults.{in_range, all_in_range}
use Rattle.sat.proofs.Laws.{all_agrees, satisfies_agrees}
use Rattle.counting.specs.Numbers.{bit_at, values_at, table_at}

shifted : (n k : ℕ) → eqb (word.bit_at n k) 1 ≡ bit_at n k
shifted n zero = ap (λ x. eqb x 1) (bit_at_lowest n)
shifted n (suc k) = ap (λ x. eqb x 1) (bit_at-suc n k) ∙ shifted (n / 2) k

-- a bit as the code reads it
pub bit_read : (n k : ℕ) → eqb (bit_and (n / 2 ^ k) 1) 1 ≡ bit_at n k
bit_read n k = ap (λ x. eqb x 1) (shr_and_one n k) ∙ shifted n k

-- the number whose bits are the values of variables 1 to V
encode : Values → ℕ → ℕ
encode w zero = 0
encode w (suc V) = cond (w 1) 1 0 + 2 * encode (λ v. w (suc v)) V

bit_le : (b : Bool) → cond b 1 0 ≤ 1
bit_le true = omega arith
bit_le false = omega arith

bit_back : (b : Bool) → eqb (cond b 1 0) 1 ≡ b
bit_back true = refl
bit_back false = refl

encode_below : (w : Values) (V : ℕ) → encode w V < 2 ^ V
unfolding encode
encode_below w zero = omega arith
encode_below w (suc V) = rw (pow-succ' 2 V) (omega (arith, encode_below (λ v. w (suc v)) V, bit_le (w 1)))

encode_bit : (w : Values) (V k : ℕ) → k < V → bit_at (encode w V) k ≡ w (suc k)
unfolding encode
encode_bit w zero k h = absurd (omega arith)
encode_bit w (suc V) zero h =
    let b : ℕ = cond (w 1) 1 0 in
    let e : (b + 2 * encode (λ v. w (suc v)) V) % 2 ≡ b = omega (arith, bit_le (w 1)) in
    ap (λ x. eqb x 1) e ∙ bit_back (w 1)
encode_bit w (suc V) (suc k) h =
    let b : ℕ = cond (w 1) 1 0 in
    let e : (b + 2 * encode (λ v. w (suc v)) V) / 2 ≡ encode (λ v. w (suc v)) V = omega (arith, bit_le (w 1)) in
    ap (λ x. bit_at x k) e ∙ encode_bit (λ v. w (suc v)) V k (omega arith)

encode_value : (w : Values) (V x : ℕ) → 0 < x → x ≤ V → values_at (encode w V) x ≡ w x
encode_value w V zero p h = absurd (omega arith)
encode_value w V (suc k) p h =
    let e : suc k - 1 ≡ k = omega arith in ap (bit_at (encode w V)) e ∙ encode_bit w V k (omega arith)

-- where no number's values do, none do
pub tried_all : (V n : ℕ) (cs : List Clause) (assumed : List Literal) → all_in_range V cs ≡ true → in_range V assumed ≡ true → n ≡ 2 ^ V
    → ((k : ℕ) → k < n → satisfies (values_at k) cs ≡ true → all_true (values_at k) assumed ≡ true → ⊥) → Unsatisfiable cs assumed
tried_all V n cs assumed r a e t w s h =
    let k = encode w V in
    t k (omega (arith, encode_below w V))
    (satisfies_agrees V (values_at k) w (encode_value w V) cs r ∙ s)
    (all_agrees V (values_at k) w (encode_value w V) assumed a ∙ h)

-- a table of a number's values agrees with them
table_agrees : (V n : ℕ) → V ≤ 20 → (x : ℕ) → 0 < x → x ≤ V → values_at n x ≡ values_of (table_at n) x
unfolding table_at
table_agrees V n h x p l =
    sym (get_or-map-range_with_len (λ v. ltb 0 v && values_at n v) 0 21 x x false (omega arith) (omega arith)
    ∙ ap (λ b. b && values_at n x) (lt-ltb 0 x p))

-- whether the values in a table satisfy the clauses and make the assumptions true
abbrev pub fits : List Clause → List Literal → List Bool → Bool
fits cs assumed t = satisfies (values_of t) cs && all_true (values_of t) assumed

abbrev pub tables : ℕ → List (List Bool)
tables n = map table_at (range_with_len 0 n)

-- the first of all numbers' values that do, or none
pub tried : (V n : ℕ) (cs : List Clause) (assumed : List Literal) (r : Option (List Bool)) → V ≤ 20 → all_in_range V cs ≡ true → in_range V assumed ≡ true → n ≡ 2 ^ V
    → MatchOption r (AllWithin (λ t. fits cs assumed t ≡ false) (tables n) 0 (length (tables n)))
    (λ t. (fits cs assumed t ≡ true) × (i : ℕ) × (i < length (tables n)) × HoldsAt (λ y. y ≡ t) (tables n) i × AllWithin (λ y. fits cs assumed y ≡ false) (tables n) 0 i)
    → MatchOption r (Unsatisfiable cs assumed) (λ t. (satisfies (values_of t) cs ≡ true) × (all_true (values_of t) assumed ≡ true))
tried V n cs assumed (Some t) h r a e m = and_parts (satisfies (values_of t) cs) (all_true (values_of t) assumed) m.0
tried V n cs assumed None h r a e m =
    tried_all V n cs assumed r a e (λ k l s u.
    let agree = table_agrees V k h in
    let at : get_or (tables n) k [] ≡ table_at k = get_or-map-range_with_len table_at 0 n k k [] l (omega arith) in
    let off = m k [] (omega arith) (omega (arith, length-map-range_with_len table_at 0 n)) in
    true≢false
    (sym (and_from _ _ (sym (satisfies_agrees V (values_at k) (values_of (table_at k)) agree cs r) ∙ s) (sym (all_agrees V (values_at k) (values_of (table_at k)) agree assumed a) ∙ u))
    ∙ sym (ap (fits cs assumed) at) ∙ off))
