-- A call is answered in one way.
use Rattle.std.proofs.Common.{◌≡◌, ℕ, ◌<◌, true, false, List, refl, ap, inl, inr, arith}
use Rattle.std.proofs.lemmas.Bool.{both_ways, cases_order}
use Rattle.region.specs.Subject.{Arena, Row, good}
use Rattle.session.specs.Sessions.{Stage, waiting, Call, Reply, settled, Allows, Gives, foreign, raised, far_event, back, used, replaced, far_wish}

-- the lowest number with a property is one number, where every number below it has the contrary
pub one_lowest : (P Q : ℕ → Type 0) → ((n : ℕ) → P n → Q n → ⊥) → (a b : ℕ) → P a → P b → ((n : ℕ) → n < a → Q n) → ((n : ℕ) → n < b → Q n) → a ≡ b
one_lowest P Q never a b pa pb qa qb =
    elim (cases_order a b) [
      | inl e ↦ e
      | inr (inl l) ↦ absurd (never a pa (qb a l))
      | inr (inr l) ↦ absurd (never b pb (qa b l))
    ]

module _ (g : Arena) (rs : List Row) where
  pub allowed : {t : Stage} {c : Call} {o : Reply} {after : Stage} → Gives g rs t c o after → Allows t c
  allowed (foreign t c a f) = a
  allowed (raised s e n l) = tt
  allowed (far_event s e n l) = tt
  allowed (back s n) = tt
  allowed (used s e w n l k) = tt
  allowed (replaced s e w a n l k m q below) = tt
  allowed (far_wish s e w n l) = tt

  pub one_way_lem : {t : Stage} {c : Call} {o p : Reply} {after after' : Stage}
      → Gives g rs t c o after → Gives g rs t c p after' → (o ≡ p) × (after ≡ after')
  one_way_lem (foreign t c a f) (foreign t₂ c₂ a' f') = (refl, refl)
  one_way_lem (foreign t c a f) (raised s e n l) = absurd (n f)
  one_way_lem (foreign t c a f) (far_event s e n l) = absurd (n f)
  one_way_lem (foreign t c a f) (back s n) = absurd (n f)
  one_way_lem (foreign t c a f) (used s e w n l k) = absurd (n f)
  one_way_lem (foreign t c a f) (replaced s e w b n l k m q below) = absurd (n f)
  one_way_lem (foreign t c a f) (far_wish s e w n l) = absurd (n f)
  one_way_lem (raised s e n l) (foreign t c a f) = absurd (n f)
  one_way_lem (raised s e n l) (raised s₂ e₂ n' l') = (refl, refl)
  one_way_lem (raised s e n l) (far_event s₂ e₂ n' l') = absurd (omega arith)
  one_way_lem (far_event s e n l) (foreign t c a f) = absurd (n f)
  one_way_lem (far_event s e n l) (raised s₂ e₂ n' l') = absurd (omega arith)
  one_way_lem (far_event s e n l) (far_event s₂ e₂ n' l') = (refl, refl)
  one_way_lem (back s n) (foreign t c a f) = absurd (n f)
  one_way_lem (back s n) (back s₂ n') = (refl, refl)
  one_way_lem (used s e w n l k) (foreign t c a f) = absurd (n f)
  one_way_lem (used s e w n l k) (used s₂ e₂ w₂ n' l' k') = (refl, refl)
  one_way_lem (used s e w n l k) (replaced s₂ e₂ w₂ b n' l' k' m q below) = absurd (both_ways (good g rs s e w) k' k)
  one_way_lem (used s e w n l k) (far_wish s₂ e₂ w₂ n' l') = absurd (omega arith)
  one_way_lem (replaced s e w a n l k m q below) (foreign t c b f) = absurd (n f)
  one_way_lem (replaced s e w a n l k m q below) (used s₂ e₂ w₂ n' l' k') = absurd (both_ways (good g rs s e w) k k')
  one_way_lem (replaced s e w a n l k m q below) (replaced s₂ e₂ w₂ b n' l' k' m' q' below') =
      let i = one_lowest (λ x. good g rs s e x ≡ true) (λ x. good g rs s e x ≡ false) (λ x t f. both_ways (good g rs s e x) f t) a b q q' below below' in (ap (λ x. settled x true) i, ap (λ x. waiting (g.next s e x)) i)
  one_way_lem (replaced s e w a n l k m q below) (far_wish s₂ e₂ w₂ n' l') = absurd (omega arith)
  one_way_lem (far_wish s e w n l) (foreign t c a f) = absurd (n f)
  one_way_lem (far_wish s e w n l) (used s₂ e₂ w₂ n' l' k') = absurd (omega arith)
  one_way_lem (far_wish s e w n l) (replaced s₂ e₂ w₂ b n' l' k' m q below) = absurd (omega arith)
  one_way_lem (far_wish s e w n l) (far_wish s₂ e₂ w₂ n' l') = (refl, refl)
