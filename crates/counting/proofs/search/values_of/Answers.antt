use Rattle.std.proofs.Common.{◌≡◌, ℕ, zero, suc, ◌+◌, ◌<◌, ◌≤◌, Bool, false, ◌&&◌, ltb, List, get_or, sym, refl, ap, ◌∙◌, subst, inl, inr, arith, rules, tests}
use Rattle.std.proofs.lemmas.Bool.{cases_eq}
use Rattle.std.proofs.lemmas.List.FromFn.{fill_by_all}
use Rattle.std.specs.Array.{IsFromFnResultFrom}
use Rattle.std.specs.Fn.{Called}
use denote.Param.Members.{Mut}
use Rattle.counting.specs.Numbers.{table_at, values_at}
use Rattle.counting.proofs.search.values_of.Goals as goal

-- what calls of a closure gave that stays as it was
module _ {F : Type 0} (g : Mut F (ℕ × Unit {0}) Bool) (test : ℕ → Bool) (f : F) (gives : (x : ℕ) (r : Bool) (q : F) → Called g f (x, tt) r q → (q ≡ f) × (r ≡ test x)) where
  given : (p : F) (ys : List Bool) (i n : ℕ) → p ≡ f → IsFromFnResultFrom g p ys i n → (k : ℕ) → i ≤ k → k < i + n → get_or ys k false ≡ test k
  given p ys i zero e w k a b = absurd (omega arith)
  given p ys i (suc n) e w k a b =
      let c = gives i w.1 w.0 (subst (λ (x : F). Called g x (i, tt) w.1 w.0) e w.3) in
      elim (cases_eq k i) [
        | inl q ↦ (ap (λ j. get_or ys j false) q ∙ w.2.1 false ∙ c.1 ∙ ap test (sym q))
        | inr d ↦ given w.0 ys (i + 1) n c.0 w.4 k (omega arith) (omega arith)
      ]

pub returns : goal.returns
unfolding table_at
returns c =
    let n = c.args.number in
    let test : ℕ → Bool = λ v. ltb 0 v && values_at n v in
    fill_by_all test c.from_fn.result 21 false c.from_fn.ensures.items.long
    (λ k h. given _ test _ (λ x r q m. search (rules, tests)) _ _ 0 21 refl c.from_fn.ensures.items.each k (omega arith) h)
