-- Dropping assumptions one after another leaves marks that are narrow.
use Rattle.std.proofs.Common.{◌≡◌, ℕ, ◌+◌, ◌-◌, ◌<◌, ◌≤◌, min, List, ◌++◌, length, get_or, drop, set, replicate, sym, ap, ◌∙◌, subst, inl, inr, arith}
use Rattle.std.proofs.lemmas.Bool.{cases_eq, cases_lt}
use Rattle.std.proofs.lemmas.List.{get_or-set_same, get_or-set_other, get_or_past, length-set, drop-set-lt, set-set, set-get_or, length-append, length-replicate, get_or_append_left, get_or-append_right, get_or-replicate, get_or-drop, drop_at, length-drop}
use Rattle.literal.specs.declared.Literal.{Literal}
use Rattle.sat.specs.Clauses.{Clause, Satisfiable, Unsatisfiable, marked}
use Rattle.sat.specs.Answers.{Refuted, Narrowed}
use Rattle.sat.proofs.Laws.{some_fewer_marks, none_marked}

-- the marks of a no that are narrow below a place
pub record NarrowedBelow (cs : List Clause) (assumed : List Literal) (first i : ℕ) (before ms : List ℕ) : Type 0 where
  pub refuted : Refuted cs assumed before ms
  pub firsts : (k : ℕ) → k < first → get_or ms k 0 ≡ 1
  pub narrow : (k : ℕ) → first ≤ k → k < i → get_or ms k 0 ≡ 1 → Satisfiable cs (marked assumed (set ms k 0))

-- a mark that is taken away
pub unmarked : (ms : List ℕ) (k : ℕ) → get_or (set ms k 0) k 0 ≡ 0
unmarked ms k = elim (cases_lt k (length ms)) [
  | inl l ↦ get_or-set_same ms k 0 0 l
  | inr g ↦ get_or_past (set ms k 0) k 0 (omega (arith, length-set ms k 0))
]

pub unmarked_fewer : (ms : List ℕ) (k j : ℕ) → get_or (set ms k 0) j 0 ≡ 1 → get_or ms j 0 ≡ 1
unmarked_fewer ms k j e = elim (cases_eq j k) [
  | inl q ↦ absurd (omega (arith, unmarked ms k, ap (λ x. get_or (set ms k 0) x 0) q, e))
  | inr n ↦ sym (get_or-set_other ms k j 0 0 n) ∙ e
]

-- taking a mark away from fewer marks leaves fewer
unmarked_both : (ms ns : List ℕ) (k n : ℕ) → ((j : ℕ) → j < n → get_or ms j 0 ≡ 1 → get_or ns j 0 ≡ 1)
    → (j : ℕ) → j < n → get_or (set ms k 0) j 0 ≡ 1 → get_or (set ns k 0) j 0 ≡ 1
unmarked_both ms ns k n w j l e = elim (cases_eq j k) [
  | inl q ↦ absurd (omega (arith, unmarked ms k, ap (λ x. get_or (set ms k 0) x 0) q, e))
  | inr d ↦ get_or-set_other ns k j 0 0 d ∙ w j l (sym (get_or-set_other ms k j 0 0 d) ∙ e)
]

module _ (cs : List Clause) (assumed : List Literal) (first i : ℕ) (before ms : List ℕ) (sofar : NarrowedBelow cs assumed first i before ms) where
  -- without the one at i the clauses have satisfying values, so it stays
  pub narrowed_kept : Satisfiable cs (marked assumed (set ms i 0)) → NarrowedBelow cs assumed first (i + 1) before ms
  narrowed_kept s = record {
    refuted = sofar.refuted;
    firsts = sofar.firsts;
    narrow = λ k f l e. elim (cases_eq k i) [
      | inl q ↦ subst (λ (x : ℕ). Satisfiable cs (marked assumed (set ms x 0))) (sym q) s
      | inr d ↦ sofar.narrow k f (omega arith) e
    ];
  }

  -- the one at i is not marked
  pub narrowed_skipped : (get_or ms i 0 ≡ 1 → ⊥) → NarrowedBelow cs assumed first (i + 1) before ms
  narrowed_skipped n = record {
    refuted = sofar.refuted;
    firsts = sofar.firsts;
    narrow = λ k f l e. elim (cases_eq k i) [
      | inl q ↦ absurd (n (ap (λ x. get_or ms x 0) (sym q) ∙ e))
      | inr d ↦ sofar.narrow k f (omega arith) e
    ];
  }

  -- fewer marks, without the one at i, are enough: those that could not be left out still cannot
  pub narrowed_dropped : (ns : List ℕ) → i < length assumed → Refuted cs assumed before ns → ((k : ℕ) → k < first → get_or ns k 0 ≡ 1)
      → ((k : ℕ) → k < length assumed → get_or ns k 0 ≡ 1 → get_or ms k 0 ≡ 1) → (get_or ns i 0 ≡ 1 → ⊥)
      → NarrowedBelow cs assumed first (i + 1) before ns
  narrowed_dropped ns h r f w n = record {
    refuted = r;
    firsts = f;
    narrow = λ k g l e. elim (cases_eq k i) [
      | inl q ↦ absurd (n (ap (λ x. get_or ns x 0) (sym q) ∙ e))
      | inr d ↦
          let b : k < i = omega arith in
          some_fewer_marks cs assumed (set ns k 0) (set ms k 0) (unmarked_both ns ms k (length assumed) w)
          (sofar.narrow k g b (w k (omega arith) e))
    ];
  }

pub narrowed_all : (cs : List Clause) (assumed : List Literal) (first i : ℕ) (before ms : List ℕ) → length assumed ≤ i
    → NarrowedBelow cs assumed first i before ms → Narrowed cs assumed first before ms
narrowed_all cs assumed first i before ms h s = record {
  refuted = s.refuted;
  firsts = s.firsts;
  narrow = λ k f l e. s.narrow k f (omega arith) e;
}

pub narrowed_none : (cs : List Clause) (assumed : List Literal) (first : ℕ) (before ms : List ℕ) → Refuted cs assumed before ms
    → ((k : ℕ) → k < first → get_or ms k 0 ≡ 1) → NarrowedBelow cs assumed first first before ms
narrowed_none cs assumed first before ms r f = record { refuted = r; firsts = f; narrow = λ k a b. absurd (omega arith) }

-- one mark is taken away
pub refuted_unmarked : (cs : List Clause) (assumed : List Literal) (before ms : List ℕ) (i : ℕ) → i < length assumed → Refuted cs assumed before ms
    → Unsatisfiable cs (marked assumed (set ms i 0)) → Refuted cs assumed before (set ms i 0)
refuted_unmarked cs assumed before ms i h r u = record {
  bits = λ k l. elim (cases_eq k i) [
    | inl q ↦ omega (arith, unmarked ms i, ap (λ x. get_or (set ms i 0) x 0) q)
    | inr d ↦ omega (arith, get_or-set_other ms i k 0 0 d, r.bits k l)
  ];
  none = u;
  rest = drop-set-lt (length assumed) ms i 0 h ∙ r.rest;
}

pub set_back : (ms : List ℕ) (i : ℕ) → get_or ms i 0 ≡ 1 → set (set ms i 0) i 1 ≡ ms
set_back ms i e = set-set ms i 0 1 ∙ ap (λ x. set ms i x) (sym e) ∙ set-get_or ms i 0

-- a byte is written into the first places

module _ (n x : ℕ) (bs cs : List ℕ) (within : n ≤ length bs) (is : cs ≡ replicate (min n (length bs)) x ++ drop n bs) where
  front_is : cs ≡ replicate n x ++ drop n bs
  front_is = let e : min n (length bs) ≡ n = omega arith in is ∙ ap (λ k. replicate k x ++ drop n bs) e

  pub front_at : (k : ℕ) → k < n → get_or cs k 0 ≡ x
  front_at k h =
      ap (λ b. get_or b k 0) front_is ∙ get_or_append_left (replicate n x) (drop n bs) 0 k (omega (arith, length-replicate n x)) ∙ get_or-replicate n k x 0 h

  pub front_past : (k : ℕ) → n ≤ k → get_or cs k 0 ≡ get_or bs k 0
  front_past k h =
      let e : n + (k - n) ≡ k = omega arith in
      ap (λ b. get_or b k 0) front_is ∙ get_or-append_right (replicate n x) (drop n bs) n k 0 (length-replicate n x) h
      ∙ get_or-drop n bs (k - n) 0 ∙ ap (λ j. get_or bs j 0) e

  pub front_rest : drop n cs ≡ drop n bs
  front_rest = ap (λ b. drop n b) front_is ∙ drop_at (replicate n x) (drop n bs) n (length-replicate n x)

  pub front_length : length cs ≡ length bs
  front_length = omega (arith, ap length front_is, length-append (replicate n x) (drop n bs), length-replicate n x, length-drop n bs)

-- every assumption is marked
pub refuted_all : (cs : List Clause) (assumed : List Literal) (before ms : List ℕ) → length assumed ≤ length before
    → ms ≡ replicate (min (length assumed) (length before)) 1 ++ drop (length assumed) before → Unsatisfiable cs assumed → Refuted cs assumed before ms
refuted_all cs assumed before ms h e u =
    let at = front_at (length assumed) 1 before ms h e in
    record {
      bits = λ k l. omega (arith, at k l);
      none = none_marked cs assumed ms at u;
      rest = front_rest (length assumed) 1 before ms h e;
    }
