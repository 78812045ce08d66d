-- Justified rows cover only lost states, and a rest in which every event can be answered is safe.
use Rattle.std.proofs.Common.{◌≡◌, ℕ, zero, suc, ◌<◌, ◌≤◌, true, false, not, ◌&&◌, List, [], ◌∷◌, length, get_or, take, sym, refl, ap, ◌∙◌, inl, inr, arith}
use Rattle.std.proofs.lemmas.List.{take_all}
use Rattle.std.proofs.lemmas.Bool.{both_ways, cases_Bool, and_from, and_left, and_right, not_from_true, not_from_false}
use Rattle.game.specs.Game.{Arena, InRange, lasts, Safe, Lost}
use Rattle.game.specs.Rows.{row_covers, covered, good, JustifiedRows, Answered}
use Rattle.game.specs.Runs.{Exact}
use Rattle.game.specs.declared.row.Row.{Row}
use Rattle.game.proofs.Lasting.{some_false, some_true, every_true, every_false, longer, fails_lost}
use Rattle.game.proofs.Covered.{covered_suc, good_parts, not_good}

module _ (g : Arena) (in_range : InRange g) (rs : List Row) (justified : JustifiedRows g rs) where
  -- a row at place n: none of its answers lets the host last n steps more
  one : (n s : ℕ) (d : Row) → n < length rs → s < g.states
      → ((t : ℕ) → t < g.states → covered (take n rs) t ≡ true → lasts g n t ≡ false)
      → row_covers (get_or rs n d) s ≡ true → (a : ℕ) → a < g.answers
      → (not (g.bad s (get_or rs n d).event a) && lasts g n (g.next s (get_or rs n d).event a)) ≡ false
  one n s d l ls ih c a la =
      elim (not_good g (take n rs) s (get_or rs n d).event a ((justified n d l).1 s a ls la c)) [
        | inl p ↦ and_left _ _ (not_from_true _ p)
        | inr q ↦ and_right _ _ (ih _ (in_range s (get_or rs n d).event a ls (justified n d l).0 la) q)
      ]

  at_place : (n s : ℕ) (d : Row) → n < length rs → s < g.states
      → ((t : ℕ) → t < g.states → covered (take n rs) t ≡ true → lasts g n t ≡ false)
      → row_covers (get_or rs n d) s ≡ true → lasts g (suc n) s ≡ false
  at_place n s d l ls ih c =
      every_false g.events _ (get_or rs n d).event (justified n d l).0 (some_false g.answers _ (one n s d l ls ih c))

  some_row : (n : ℕ) → n < length rs → Row
  some_row n l = elim rs as (λ xs. n < length xs → Row) [ [] ↦ λ z. absurd (omega arith) | r ∷ xs ↦ λ _. r ] l

  -- states covered by the first n rows do not last n steps
  pub no_more : (n : ℕ) → n ≤ length rs → (s : ℕ) → s < g.states → covered (take n rs) s ≡ true → lasts g n s ≡ false
  no_more zero l s ls e = absurd (both_ways (covered (take zero rs) s) refl e)
  no_more (suc n) l s ls e =
      let d = some_row n (omega arith) in
      elim (covered_suc rs n d s (omega arith) e) [
        | inl p ↦ longer g n (suc n) s (omega arith) (no_more n (omega arith) s ls p)
        | inr q ↦ at_place n s d (omega arith) ls (no_more n (omega arith)) q
      ]

  -- a state covered by the row at place j does not last j + 1 steps
  pub place_fails : (j s : ℕ) (d : Row) → j < length rs → s < g.states → row_covers (get_or rs j d) s ≡ true → lasts g (suc j) s ≡ false
  place_fails j s d l ls c = at_place j s d l ls (no_more j (omega arith)) c

  pub covered_lost : (s : ℕ) → s < g.states → covered rs s ≡ true → Lost g s
  covered_lost s ls e =
      fails_lost g (length rs) s (no_more (length rs) (omega arith) s ls (rw (take_all (length rs) rs (omega arith)) e))

module _ (g : Arena) (in_range : InRange g) (rs : List Row) (answered : Answered g rs) where
  uncovered_lasts : (h s : ℕ) → s < g.states → covered rs s ≡ false → lasts g h s ≡ true
  uncovered_lasts zero s ls e = refl
  uncovered_lasts (suc h) s ls e =
      every_true g.events _ (λ ev l.
      let x = answered s ev ls l e in
      let p = good_parts g rs s ev x.0 x.2 in
      some_true g.answers _ x.0 x.1
      (and_from _ _ (not_from_false _ p.0) (uncovered_lasts h (g.next s ev x.0) (in_range s ev x.0 ls l x.1) p.1)))

  pub uncovered_safe : (s : ℕ) → s < g.states → covered rs s ≡ false → Safe g s
  uncovered_safe s ls e h = uncovered_lasts h s ls e

pub exact : (g : Arena) → InRange g → (rs : List Row) → JustifiedRows g rs → Answered g rs → covered rs 0 ≡ false → Exact g rs
exact g in_range rs justified answered z =
    record { safe = uncovered_safe g in_range rs answered; lost = covered_lost g in_range rs justified; reset = z }

-- exact rows tell lost states from safe ones, both ways
pub lost_covered : (g : Arena) (rs : List Row) → Exact g rs → (s : ℕ) → s < g.states → Lost g s → covered rs s ≡ true
lost_covered g rs ex s ls lost = elim (cases_Bool (covered rs s)) [ inl t ↦ t | inr f ↦ absurd (lost (ex.safe s ls f)) ]

pub safe_uncovered : (g : Arena) (rs : List Row) → Exact g rs → (s : ℕ) → s < g.states → Safe g s → covered rs s ≡ false
safe_uncovered g rs ex s ls safe = elim (cases_Bool (covered rs s)) [ inl t ↦ absurd (ex.lost s ls t safe) | inr f ↦ f ]

-- two exact lists cover the same states
pub same_covered : (g : Arena) (xs ys : List Row) → Exact g xs → Exact g ys → (s : ℕ) → s < g.states → covered xs s ≡ covered ys s
same_covered g xs ys ex ey s ls =
    elim (cases_Bool (covered xs s)) [
      | inl p ↦ p ∙ sym (elim (cases_Bool (covered ys s)) [ inl q ↦ q | inr q ↦ absurd (ex.lost s ls p (ey.safe s ls q)) ])
      | inr p ↦ p ∙ sym (elim (cases_Bool (covered ys s)) [ inl q ↦ absurd (ey.lost s ls q (ex.safe s ls p)) | inr q ↦ q ])
    ]

-- so the same answers are good by both
pub same_good : (g : Arena) → InRange g → (xs ys : List Row) → Exact g xs → Exact g ys
    → (s e a : ℕ) → s < g.states → e < g.events → a < g.answers → good g xs s e a ≡ good g ys s e a
same_good g in_range xs ys ex ey s e a ls le la =
    ap (λ t. not (g.bad s e a) && not t) (same_covered g xs ys ex ey (g.next s e a) (in_range s e a ls le la))
