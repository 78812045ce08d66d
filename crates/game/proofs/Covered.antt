-- Which rows of a list cover a state.
use Rattle.std.proofs.Common.{◌≡◌, ℕ, zero, suc, ◌<◌, Bool, true, false, not, ◌||◌, ◌⊎◌, List, [], ◌∷◌, ◌++◌, length, get_or, take, sym, refl, ◌∙◌, inl, inr, arith, take-suc}
use Rattle.std.proofs.lemmas.Bool.{both_ways, cases_Bool, and_cases, and_from, and_left, and_right, or_cases, or_left, or_right, not_from_true, not_from_false, not-true, not-false, and_parts}
use Rattle.roll.proofs.First.{any_append}
use Rattle.roll.specs.First.{FirstAt}
use Rattle.game.specs.Game.{Arena}
use Rattle.game.specs.Rows.{row_covers, covered, good, Justified}
use Rattle.game.specs.Runs.{first_event}
use Rattle.game.specs.declared.row.Row.{Row}

-- the test that a row passes at a state
abbrev pub at : ℕ → Row → Bool
at s r = row_covers r s

pub covered-++ : (xs ys : List Row) (s : ℕ) → covered (xs ++ ys) s ≡ (covered xs s || covered ys s)
covered-++ xs ys s = any_append (at s) xs ys

-- the rows up to a place: those before it, and the one there
pub covered_suc : (rs : List Row) (n : ℕ) (d : Row) (s : ℕ) → n < length rs → covered (take (suc n) rs) s ≡ true
    → (covered (take n rs) s ≡ true) ⊎ (row_covers (get_or rs n d) s ≡ true)
covered_suc rs n d s l e =
    elim (or_cases _ _ (sym (covered-++ (take n rs) (get_or rs n d ∷ []) s) ∙ (rw (take-suc rs n d l) at e))) [
      | inl p ↦ inl p
      | inr q ↦ inr (elim (or_cases (row_covers (get_or rs n d) s) false q) [ inl c ↦ c | inr z ↦ absurd (both_ways false refl z) ])
    ]

-- fewer rows cover less
pub covered_take : (rs : List Row) (n s : ℕ) → covered (take n rs) s ≡ true → covered rs s ≡ true
covered_take [] zero s e = e
covered_take [] (suc n) s e = e
covered_take (r ∷ rs) zero s e = absurd (both_ways false refl e)
covered_take (r ∷ rs) (suc n) s e =
    elim (cases_Bool (row_covers r s)) as (λ _. covered (r ∷ rs) s ≡ true) [
      | inl t ↦ rw t refl
      | inr f ↦ rw f (covered_take rs n s (elim (or_cases (row_covers r s) (covered (take n rs) s) e) [ inl t ↦ absurd (both_ways (row_covers r s) f t) | inr q ↦ q ]))
    ]

-- the first row that covers a state gives the event there
pub first_event_lem : (rs : List Row) (s i : ℕ) (d : Row) → FirstAt (at s) rs i → first_event rs s ≡ (get_or rs i d).event
first_event_lem [] s i d f = absurd (omega (arith, f.within))
first_event_lem (r ∷ rs) s zero d f = rw (f.passes d) refl
first_event_lem (r ∷ rs) s (suc i) d f =
    rw (f.before zero d (omega arith))
    (first_event_lem rs s i d (record { within = omega (arith, f.within); passes = f.passes; before = λ j c l. f.before (suc j) c (omega arith) }))

-- what is covered by some rows and by more
abbrev pub Within : List Row → List Row → Type 0
Within xs ys = (s : ℕ) → covered xs s ≡ true → covered ys s ≡ true

-- a step that is not good by some rows is not good by rows that cover more
pub good_fewer : (g : Arena) (xs ys : List Row) (s e a : ℕ) → Within xs ys → good g xs s e a ≡ false → good g ys s e a ≡ false
good_fewer g xs ys s e a more h =
    elim (and_cases (not (g.bad s e a)) (not (covered xs (g.next s e a))) h) [
      | inl p ↦ and_left _ _ p
      | inr q ↦ and_right (not (g.bad s e a)) (not (covered ys (g.next s e a)))
          (not_from_true _ (more (g.next s e a) (not-false (covered xs (g.next s e a)) q)))
    ]

pub justified_more : (g : Arena) (xs ys : List Row) (r : Row) → Within xs ys → Justified g xs r → Justified g ys r
justified_more g xs ys r more j s a ls la c = good_fewer g xs ys s r.event a more (j s a ls la c)

-- what a good step is, and what one is that is not good
pub good_parts : (g : Arena) (rs : List Row) (s e a : ℕ) → good g rs s e a ≡ true
    → (g.bad s e a ≡ false) × (covered rs (g.next s e a) ≡ false)
good_parts g rs s e a h =
    let w = and_parts (not (g.bad s e a)) (not (covered rs (g.next s e a))) h in (not-true _ w.0, not-true _ w.1)

pub good_from : (g : Arena) (rs : List Row) (s e a : ℕ) → g.bad s e a ≡ false → covered rs (g.next s e a) ≡ false
    → good g rs s e a ≡ true
good_from g rs s e a b c = and_from _ _ (not_from_false _ b) (not_from_false _ c)

pub not_good : (g : Arena) (rs : List Row) (s e a : ℕ) → good g rs s e a ≡ false
    → (g.bad s e a ≡ true) ⊎ (covered rs (g.next s e a) ≡ true)
not_good g rs s e a h =
    elim (and_cases (not (g.bad s e a)) (not (covered rs (g.next s e a))) h) [ inl p ↦ inl (not-false _ p) | inr q ↦ inr (not-false _ q) ]

pub justified_kept : (g : Arena) (before earlier after : List Row) (r : Row) → Justified g earlier r
    → Justified g (before ++ (earlier ++ after)) r
justified_kept g before earlier after r =
    justified_more g earlier (before ++ (earlier ++ after)) r
    (λ s c. covered-++ before (earlier ++ after) s
    ∙ or_right (covered before s) _ (covered-++ earlier after s ∙ or_left (covered earlier s) _ c))
