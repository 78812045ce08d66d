-- Outside exact rows every event can be answered.
use Rattle.std.proofs.Common.{◌≡◌, ℕ, zero, suc, ◌+◌, ◌<◌, ◌≤◌, true, false, not, ◌&&◌, ◌⊎◌, List, inl, inr, arith}
use Rattle.std.proofs.lemmas.Bool.{both_ways, cases_Bool, cases_eq, and_cases, and_left, and_right, not_from_true}
use Rattle.game.specs.Game.{Arena, InRange, some, lasts, Safe, Lost}
use Rattle.game.specs.Rows.{covered, good, Answered}
use Rattle.game.specs.Runs.{Exact}
use Rattle.game.specs.declared.row.Row.{Row}
use Rattle.game.proofs.Covered.{not_good}
use Rattle.game.proofs.Lasting.{some_at, none_at, some_false, every_false, longer}

module _ (g : Arena) (s e : ℕ) where
  -- an answer that is bad, or after which the host does not last h steps
  abbrev Fails : ℕ → ℕ → Type 0
  Fails a h = (not (g.bad s e a) && lasts g h (g.next s e a)) ≡ false

  fails_longer : (a k h : ℕ) → k ≤ h → Fails a k → Fails a h
  fails_longer a k h l f =
      elim (and_cases (not (g.bad s e a)) (lasts g k (g.next s e a)) f)
      [ inl p ↦ and_left _ _ p | inr q ↦ and_right _ _ (longer g k h (g.next s e a) l q) ]

  abbrev Never : Type 0 → Type 0
  Never P = P → ⊥

  -- an answer that is bad or ends lost cannot but fail after some number of steps
  one_fails : (a : ℕ) → (g.bad s e a ≡ true) ⊎ Lost g (g.next s e a) → Never (Never ((h : ℕ) × Fails a h))
  one_fails a (inl b) nothing = nothing (0, and_left _ _ (not_from_true _ b))
  one_fails a (inr lost) nothing =
      lost (λ h. elim (cases_Bool (lasts g h (g.next s e a))) [ inl t ↦ t | inr f ↦ absurd (nothing (h, and_right _ _ f)) ])

  all_fail : (n : ℕ) → ((a : ℕ) → a < n → (g.bad s e a ≡ true) ⊎ Lost g (g.next s e a))
      → Never (Never ((h : ℕ) × ((a : ℕ) → a < n → Fails a h)))
  all_fail zero each nothing = nothing (0, λ a l. absurd (omega arith))
  all_fail (suc n) each nothing =
      all_fail n (λ a l. each a (omega arith)) (λ w. one_fails n (each n (omega arith)) (λ v. nothing (w.0 + v.0, join w v)))
    where
      join : (w : (h : ℕ) × ((a : ℕ) → a < n → Fails a h)) (v : (h : ℕ) × Fails n h) → (a : ℕ) → a < suc n → Fails a (w.0 + v.0)
      join w v a l =
          elim (cases_eq a n) [
            | inl q ↦ rw q (fails_longer n v.0 (w.0 + v.0) (omega arith) v.1)
            | inr d ↦ fails_longer a w.0 (w.0 + v.0) (omega arith) (w.1 a (omega (arith, d)))
          ]

  -- so a safe state has an answer that is neither
  pub not_all : e < g.events → Safe g s → ((a : ℕ) → a < g.answers → (g.bad s e a ≡ true) ⊎ Lost g (g.next s e a)) → ⊥
  not_all le safe each =
      all_fail g.answers each (λ w.
      both_ways (lasts g (suc w.0) s) (every_false g.events _ e le (some_false g.answers _ w.1)) (safe (suc w.0)))

pub exact_answered : (g : Arena) → InRange g → (rs : List Row) → Exact g rs → Answered g rs
exact_answered g in_range rs exact s e ls le c =
    elim (cases_Bool (some g.answers (λ a. good g rs s e a))) [
      | inl t ↦ some_at g.answers _ t
      | inr f ↦ absurd (not_all g s e le (exact.safe s ls c) (λ a la. each a la (not_good g rs s e a (none_at g.answers _ f a la))))
    ]
  where
    each : (a : ℕ) → a < g.answers → (g.bad s e a ≡ true) ⊎ (covered rs (g.next s e a) ≡ true)
        → (g.bad s e a ≡ true) ⊎ Lost g (g.next s e a)
    each a la (inl b) = inl b
    each a la (inr q) = inr (exact.lost (g.next s e a) (in_range s e a ls le la) q)
