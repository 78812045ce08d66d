use Rattle.std.proofs.Common.{position, ◌≡◌, ℕ, ◌+◌, ◌-◌, ◌<◌, ◌≤◌, true, eqb, List, [], ◌∷◌, ◌++◌, length, take, drop, Some, None, Option, sym, refl, ap, ◌∙◌, arith}
use Rattle.std.specs.List.{position_or_len}
use Rattle.std.proofs.lemmas.Bool.{cond-true}
use Rattle.std.proofs.lemmas.Bool.Decides.{nat_tests}
use Rattle.text.specs.Cut.{Parts, cut_at, without, CutLaw}

-- the law of cutting
pub cut_text : (b : ℕ) (f r : List ℕ) → without b f ≡ true → cut_at b (f ++ b ∷ r) ≡ Some (record { front = f; back = r })
cut_text b [] r w = cond-true (eqb b b) _ _ (grind (arith, nat_tests))
cut_text b (x ∷ xs) r w = grind (arith, nat_tests, cut_text b xs r)

pub cut_none : (b : ℕ) (f : List ℕ) → without b f ≡ true → cut_at b f ≡ None
cut_none b [] w = refl
cut_none b (x ∷ xs) w = grind (arith, nat_tests, cut_none b xs)

pub cut_gives : (b : ℕ) (bs : List ℕ) (p : Parts) → cut_at b bs ≡ Some p → (bs ≡ p.front ++ b ∷ p.back) × (without b p.front ≡ true)
cut_gives b [] p e = grind arith
cut_gives b (x ∷ xs) p e = grind (arith, nat_tests, cut_gives b xs)

pub cut_law : (b : ℕ) (bs : List ℕ) (r : Option Parts) → r ≡ cut_at b bs → CutLaw b bs r
cut_law b bs r e =
    record {
      back = λ f g w d. e ∙ ap (cut_at b) d ∙ cut_text b f g w;
      only = λ p s. cut_gives b bs p (sym e ∙ s);
    }

pub none_gives : (b : ℕ) (bs : List ℕ) → cut_at b bs ≡ None → without b bs ≡ true
none_gives b [] e = refl
none_gives b (x ∷ xs) e = grind (arith, nat_tests, none_gives b xs)

-- where the mark first stands
placed : (b : ℕ) (s : List ℕ) (i : ℕ) → i ≡ position_or_len (λ x. eqb x b) s → (i < length s → cut_at b s ≡ Some (record { front = take i s; back = drop (i + 1) s })) × (length s ≤ i → cut_at b s ≡ None)
placed b [] i e = (λ h. absurd (omega arith), λ h. refl)
placed b (x ∷ xs) i e = grind (arith, nat_tests, placed b xs (i - 1))

pub cut_some : (b : ℕ) (s : List ℕ) (i : ℕ) → position (λ x. eqb x b) s ≡ Some i → Some (record { front = take i s; back = drop (i + 1) s }) ≡ cut_at b s
cut_some b s i e = grind (arith, nat_tests, placed b s (position_or_len (λ x. eqb x b) s) refl)

pub cut_absent : (b : ℕ) (s : List ℕ) → position (λ x. eqb x b) s ≡ None → None ≡ cut_at b s
cut_absent b s e = grind (arith, nat_tests, placed b s (position_or_len (λ x. eqb x b) s) refl)

-- by the place or the length
pub cut_at_place : (b : ℕ) (s : List ℕ) (i : ℕ) → i ≡ position_or_len (λ x. eqb x b) s → i < length s → Some (record { front = take i s; back = drop (i + 1) s }) ≡ cut_at b s
cut_at_place b s i e h = sym ((placed b s i e).0 h)

pub cut_nowhere : (b : ℕ) (s : List ℕ) (i : ℕ) → i ≡ position_or_len (λ x. eqb x b) s → length s ≤ i → None ≡ cut_at b s
cut_nowhere b s i e h = sym ((placed b s i e).1 h)
