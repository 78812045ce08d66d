-- What a decision's answer says, by the answer.
use Rattle.std.proofs.Common.{◌≡◌, ℕ, ◌+◌, ◌<◌, min, List, ◌++◌, length, drop, replicate, Ok, sym, refl, ap, ◌∙◌, arith}
use Rattle.literal.specs.declared.Literal.{Literal}
use Rattle.sat.specs.declared.answer.Answer.{Answer}
use Rattle.sat.specs.declared.answer.Answer.TheVariants.{Yes, No}
use Rattle.sat.specs.Clauses.{Clause}
use Rattle.sat.specs.Answers.{Solved, Refuted, Narrowed, Decided, DecidedNarrowly, zeroed}

yes_no : {Y : Type 0} → Yes ≡ No → Y
yes_no e = let z : ◌≡◌ {A = ℕ} 0 1 = cc in absurd (omega arith)

pub yes_is_not_no : {Y : Type 0} (a : Answer) → a ≡ Yes → a ≡ No → Y
yes_is_not_no a p q = yes_no (sym p ∙ q)

module _ (V : ℕ) (cs : List Clause) (assumed : List Literal) (vs ms vs' ms' : List ℕ) where
  pub decided_yes : (a : Answer) → Decided V cs assumed vs ms vs' ms' (Ok a) → a ≡ Yes → Solved V cs assumed vs vs' × (ms' ≡ ms)
  decided_yes Yes d e = d
  decided_yes No d e = yes_no (sym e)

  pub decided_no : (a : Answer) → Decided V cs assumed vs ms vs' ms' (Ok a) → a ≡ No → Refuted cs assumed ms ms' × (vs' ≡ vs)
  decided_no Yes d e = yes_no e
  decided_no No d e = d

  -- a yes is one to the narrowing question too
  pub narrowly_yes : (first : ℕ) (a : Answer) → Decided V cs assumed vs ms vs' ms' (Ok a) → (a ≡ No → ⊥) → DecidedNarrowly V cs assumed first vs ms vs' ms' (Ok a)
  narrowly_yes first Yes d n = d
  narrowly_yes first No d n = absurd (n refl)

-- values zeroed as far as the variables go
pub zeroed_all : (n V : ℕ) (vs ws : List ℕ) → n ≡ V + 1 → V < length vs → ws ≡ replicate (min n (length vs)) 0 ++ drop n vs → ws ≡ zeroed (V + 1) vs
zeroed_all n V vs ws e h w =
    let m : min n (length vs) ≡ V + 1 = omega arith in
    w ∙ ap (λ k. replicate k 0 ++ drop n vs) m ∙ ap (λ k. replicate (V + 1) 0 ++ drop k vs) e

-- values that differ from others only in the part that is zeroed
pub zeroed_same : (n : ℕ) (vs ws : List ℕ) → drop n ws ≡ drop n vs → zeroed n ws ≡ zeroed n vs
zeroed_same n vs ws e = ap (λ x. replicate n 0 ++ x) e

-- marks narrowed from other marks of the same no
pub narrowed_from : (cs : List Clause) (assumed : List Literal) (first : ℕ) (a b d : List ℕ)
    → drop (length assumed) b ≡ drop (length assumed) a → Narrowed cs assumed first b d → Narrowed cs assumed first a d
narrowed_from cs assumed first a b d e n = record {
  refuted = record { bits = n.refuted.bits; none = n.refuted.none; rest = n.refuted.rest ∙ e };
  firsts = n.firsts;
  narrow = n.narrow;
}

-- a narrow no
pub narrowly_no : (V : ℕ) (cs : List Clause) (assumed : List Literal) (first : ℕ) (vs ms ws ns : List ℕ) (a : Answer) → a ≡ No
    → Narrowed cs assumed first ms ns → ws ≡ zeroed (V + 1) vs → DecidedNarrowly V cs assumed first vs ms ws ns (Ok a)
narrowly_no V cs assumed first vs ms ws ns Yes e n z = yes_no e
narrowly_no V cs assumed first vs ms ws ns No e n z = (n, z)
