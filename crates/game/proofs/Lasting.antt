-- Tests at all numbers below a limit, and how long the host lasts.
use Rattle.std.proofs.Common.{◌≡◌, ℕ, zero, suc, ◌+◌, ◌-◌, ◌<◌, ◌≤◌, Bool, true, false, refl, inl, inr, suc-add, zero-add, sub-add_cancel, arith}
use Rattle.std.proofs.lemmas.Bool.{both_ways, cases_Bool, and_parts, and_from, or_cases, or_from, or_left, or_right, cases_eq}
use Rattle.game.specs.Game.{Arena, some, every, lasts, Lost}

pub some_false : (n : ℕ) (p : ℕ → Bool) → ((k : ℕ) → k < n → p k ≡ false) → some n p ≡ false
some_false zero p h = refl
some_false (suc n) p h = or_from (p n) (some n p) (h n (omega arith)) (some_false n p (λ k l. h k (omega arith)))

pub some_true : (n : ℕ) (p : ℕ → Bool) (k : ℕ) → k < n → p k ≡ true → some n p ≡ true
some_true zero p k l e = absurd (omega arith)
some_true (suc n) p k l e =
    elim (cases_eq k n) [ inl q ↦ or_left (p n) (some n p) (rw q at e) | inr d ↦ or_right (p n) (some n p) (some_true n p k (omega (arith, d)) e) ]

pub some_at : (n : ℕ) (p : ℕ → Bool) → some n p ≡ true → (k : ℕ) × (k < n) × (p k ≡ true)
some_at zero p e = absurd (both_ways false refl e)
some_at (suc n) p e =
    elim (or_cases (p n) (some n p) e) [ inl q ↦ (n, omega arith, q) | inr r ↦ up (some_at n p r) ]
  where
    up : (k : ℕ) × (k < n) × (p k ≡ true) → (k : ℕ) × (k < suc n) × (p k ≡ true)
    up w = (w.0, omega (arith, w.1), w.2)

pub none_at : (n : ℕ) (p : ℕ → Bool) → some n p ≡ false → (k : ℕ) → k < n → p k ≡ false
none_at n p e k l = elim (cases_Bool (p k)) [ inl t ↦ absurd (both_ways (some n p) e (some_true n p k l t)) | inr f ↦ f ]

pub every_true : (n : ℕ) (p : ℕ → Bool) → ((k : ℕ) → k < n → p k ≡ true) → every n p ≡ true
every_true zero p h = refl
every_true (suc n) p h = and_from (p n) (every n p) (h n (omega arith)) (every_true n p (λ k l. h k (omega arith)))

pub every_at : (n : ℕ) (p : ℕ → Bool) → every n p ≡ true → (k : ℕ) → k < n → p k ≡ true
every_at zero p e k l = absurd (omega arith)
every_at (suc n) p e k l =
    elim (cases_eq k n) [ inl q ↦ rw q (and_parts (p n) (every n p) e).0 | inr d ↦ every_at n p (and_parts (p n) (every n p) e).1 k (omega (arith, d)) ]

pub every_false : (n : ℕ) (p : ℕ → Bool) (k : ℕ) → k < n → p k ≡ false → every n p ≡ false
every_false n p k l e = elim (cases_Bool (every n p)) [ inl t ↦ absurd (both_ways (p k) e (every_at n p t k l)) | inr f ↦ f ]

module _ (g : Arena) where
  one_fewer : (h s : ℕ) → lasts g (suc h) s ≡ true → lasts g h s ≡ true
  one_fewer zero s e = refl
  one_fewer (suc h) s e =
      every_true g.events _ (λ ev l.
      let w = some_at g.answers _ (every_at g.events _ e ev l) in
      some_true g.answers _ w.0 w.1
      (and_from _ _ (and_parts _ _ w.2).0 (one_fewer h (g.next s ev w.0) (and_parts _ _ w.2).1)))

  down : (n k s : ℕ) → lasts g (n + k) s ≡ true → lasts g k s ≡ true
  down zero k s e = rw (zero-add k) at e
  down (suc n) k s e = down n k s (one_fewer (n + k) s (rw (suc-add n k) at e))

  -- lasting falls with the number of steps
  pub fewer : (k h s : ℕ) → k ≤ h → lasts g h s ≡ true → lasts g k s ≡ true
  fewer k h s l e = down (h - k) k s (rw (sub-add_cancel l) e)

  pub longer : (k h s : ℕ) → k ≤ h → lasts g k s ≡ false → lasts g h s ≡ false
  longer k h s l e = elim (cases_Bool (lasts g h s)) [ inl t ↦ absurd (both_ways (lasts g k s) e (fewer k h s l t)) | inr f ↦ f ]

  pub fails_lost : (h s : ℕ) → lasts g h s ≡ false → Lost g s
  fails_lost h s e safe = both_ways (lasts g h s) e (safe h)
