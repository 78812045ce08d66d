-- What the first element that passes a test says of the list: it is the only one, and there is one where some element passes.
use Rattle.std.proofs.Common.{◌≡◌, ℕ, zero, suc, ◌<◌, Bool, true, false, ◌||◌, List, [], ◌∷◌, ◌++◌, length, get_or, take, is_some, Some, None, Option, sym, refl, ap, ◌∙◌, inl, inr, arith}
use Rattle.std.proofs.lemmas.List.{get_or-take, length-take}
use Rattle.std.proofs.lemmas.Bool.{both_ways, cases_Bool, cases_order, or_cases, or_from, or_left, or_right}
use Rattle.roll.specs.First.{any_passes, FirstAt, NonePasses, First, OnlyFirst}

module _ {X : Type 0} (test : X → Bool) where
  -- some element of a list in which a place is used
  some_of : (xs : List X) (i : ℕ) → i < length xs → X
  some_of [] i l = absurd (omega arith)
  some_of (x ∷ xs) i l = x

  apart : (xs : List X) (i j : ℕ) → FirstAt test xs i → FirstAt test xs j → i < j → ⊥
  apart xs i j f g l =
      let d = some_of xs i f.within in both_ways (test (get_or xs i d)) (g.before i d l) (f.passes d)

  same_place : (xs : List X) (i j : ℕ) → FirstAt test xs i → FirstAt test xs j → i ≡ j
  same_place xs i j f g =
      elim (cases_order i j) [ inl e ↦ e | inr o ↦ elim o [ inl l ↦ absurd (apart xs i j f g l) | inr l ↦ absurd (apart xs j i g f l) ] ]

  not_both : (xs : List X) (i : ℕ) → FirstAt test xs i → NonePasses test xs → ⊥
  not_both xs i f h = let d = some_of xs i f.within in both_ways (test (get_or xs i d)) (h i d f.within) (f.passes d)

  pub only_first : (xs : List X) (r : Option ℕ) → First test xs r → OnlyFirst test xs r
  only_first xs None h = record { some = λ i f. absurd (not_both xs i f h); none = λ _. refl }
  only_first xs (Some j) h = record { some = λ i f. ap Some (same_place xs j i h f); none = λ n. absurd (not_both xs j h n) }

  pub any_at : (xs : List X) (i : ℕ) (d : X) → i < length xs → test (get_or xs i d) ≡ true → any_passes test xs ≡ true
  any_at [] i d l e = absurd (omega arith)
  any_at (x ∷ xs) zero d l e = or_left (test x) (any_passes test xs) e
  any_at (x ∷ xs) (suc i) d l e = or_right (test x) (any_passes test xs) (any_at xs i d (omega arith) e)

  pub none_any : (xs : List X) → NonePasses test xs → any_passes test xs ≡ false
  none_any [] h = refl
  none_any (x ∷ xs) h =
      or_from (test x) (any_passes test xs) (h 0 x (omega arith)) (none_any xs (λ i d l. h (suc i) d (omega arith)))

  pub any_first : (xs : List X) (r : Option ℕ) → First test xs r → is_some r ≡ any_passes test xs
  any_first xs None h = sym (none_any xs h)
  any_first xs (Some i) h =
      let d = some_of xs i h.within in sym (any_at xs i d h.within (h.passes d))

  -- where some element passes, one is the first
  pub first_of : (xs : List X) → any_passes test xs ≡ true → (i : ℕ) × FirstAt test xs i
  first_of [] e = absurd (both_ways false refl e)
  first_of (x ∷ xs) e =
      elim (cases_Bool (test x)) [ inl t ↦ (zero, here t) | inr f ↦ later f (elim (or_cases (test x) (any_passes test xs) e) [ inl t ↦ absurd (both_ways (test x) f t) | inr r ↦ first_of xs r ]) ]
    where
      here : test x ≡ true → FirstAt test (x ∷ xs) zero
      here t = record { within = omega arith; passes = λ d. t; before = λ i d l. absurd (omega arith) }

      before_later : (i : ℕ) → test x ≡ false → FirstAt test xs i → (j : ℕ) (d : X) → j < suc i → test (get_or (x ∷ xs) j d) ≡ false
      before_later i f w zero d l = f
      before_later i f w (suc j) d l = w.before j d (omega arith)

      later : test x ≡ false → (i : ℕ) × FirstAt test xs i → (i : ℕ) × FirstAt test (x ∷ xs) i
      later f w =
          (suc w.0, record { within = omega (arith, w.1.within); passes = w.1.passes; before = before_later w.0 f w.1 })

  pub any_append : (xs ys : List X) → any_passes test (xs ++ ys) ≡ (any_passes test xs || any_passes test ys)
  any_append [] ys = refl
  any_append (x ∷ xs) ys =
      elim (test x) as (λ b. (b || any_passes test (xs ++ ys)) ≡ ((b || any_passes test xs) || any_passes test ys)) [ true ↦ refl | false ↦ any_append xs ys ]

  -- the first that passes among the first n is the first of all
  pub first_take : (xs : List X) (n i : ℕ) → FirstAt test (take n xs) i → (i < n) × FirstAt test xs i
  first_take xs n i f =
      let l : i < n = omega (arith, f.within, length-take n xs) in (
        l,
        record {
          within = omega (arith, f.within, length-take n xs);
          passes = λ d. sym (ap test (get_or-take n xs i d l)) ∙ f.passes d;
          before = λ j d k. (let m : j < n = omega arith in sym (ap test (get_or-take n xs j d m)) ∙ f.before j d k);
        },
      )
