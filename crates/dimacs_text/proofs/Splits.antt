-- A text taken apart into lines and words.
use Rattle.std.proofs.Common.{◌≡◌, ℕ, zero, suc, ◌+◌, ◌-◌, ◌<◌, ◌≤◌, Bool, true, false, cond, not, eqb, List, [], ◌∷◌, length, get_or, take, drop, Some, None, Option, sym, refl, ap, ◌∙◌, subst, inl, inr, arith}
use Rattle.std.proofs.lemmas.List.{length-drop, get_or-drop, drop_all}
use Rattle.std.proofs.lemmas.Bool.{cond-true, cond-false, cases_lt, false≢true}
use Rattle.text.specs.Cut.{Parts, cut_at, onto}
use Rattle.dimacs_text.specs.Words.{blank, extend, words, lines}

-- blanks before a word
pub words_skip : (bs : List ℕ) (n : ℕ) → n ≤ length bs → ((k : ℕ) → k < n → blank (get_or bs k 0) ≡ true) → words bs ≡ words (drop n bs)
words_skip bs zero h f = refl
words_skip [] (suc n) h f = absurd (omega arith)
words_skip (b ∷ bs) (suc n) h f = cond-true _ _ _ (f 0 (omega arith)) ∙ words_skip bs n (omega arith) (λ k p. f (suc k) (omega arith))

pub words_none : (bs : List ℕ) (n : ℕ) → n ≡ length bs → ((k : ℕ) → k < n → blank (get_or bs k 0) ≡ true) → words bs ≡ []
words_none bs n e f = words_skip bs n (omega arith) f ∙ ap words (drop_all n bs (omega arith))

-- a word, and the blank after it or the end
pub words_first : (bs : List ℕ) (n : ℕ) → 1 ≤ n → n ≤ length bs → ((k : ℕ) → k < n → blank (get_or bs k 0) ≡ false)
    → (n < length bs → blank (get_or bs n 0) ≡ true) → words bs ≡ take n bs ∷ words (drop n bs)
words_first bs zero p h f e = absurd (omega arith)
words_first [] (suc n) p h f e = absurd (omega arith)
words_first (b ∷ []) (suc zero) p h f e = cond-false _ _ _ (f 0 (omega arith))
words_first (b ∷ x ∷ bs) (suc zero) p h f e =
    cond-false _ _ _ (f 0 (omega arith)) ∙ cond-false _ _ _ (ap not (e (omega arith)))
words_first (b ∷ []) (suc (suc n)) p h f e = absurd (omega arith)
words_first (b ∷ x ∷ bs) (suc (suc n)) p h f e =
    cond-false _ _ _ (f 0 (omega arith)) ∙ cond-true _ _ _ (ap not (f 1 (omega arith)))
    ∙ ap (extend b) (words_first (x ∷ bs) (suc n) (omega arith) (omega arith) (λ k q. f (suc k) (omega arith)) (λ q. e (omega arith)))

clash : (rest : List ℕ) (n : ℕ) → n ≡ 0 → blank (get_or rest 0 0) ≡ false → blank (get_or rest n 0) ≡ true → ⊥
clash rest n e f t = false≢true (sym f ∙ ap (λ x. blank (get_or rest x 0)) (sym e) ∙ t)

-- blanks, then a word, and what stands after it
pub words_at : (bs rest front back : List ℕ) (m n : ℕ) → m ≤ length bs → ((k : ℕ) → k < m → blank (get_or bs k 0) ≡ true) → (m ≡ length bs → ⊥)
    → (m < length bs → blank (get_or bs m 0) ≡ false) → rest ≡ drop m bs → n ≤ length rest → ((k : ℕ) → k < n → blank (get_or rest k 0) ≡ false)
    → (n < length rest → blank (get_or rest n 0) ≡ true) → front ≡ take n rest → back ≡ drop n rest
    → (words bs ≡ front ∷ words back) × (length back < length bs)
words_at bs rest front back m n h f ne start e b g stop fe be =
    let size : length rest ≡ length bs - m = ap length e ∙ length-drop m bs in
    let first : blank (get_or rest 0 0) ≡ false
    = ap (λ (x : List ℕ). blank (get_or x 0 0)) e ∙ ap blank (get_or-drop m bs 0 0) ∙ ap (λ x. blank (get_or bs x 0)) (let q : m + 0 ≡ m = omega arith in q) ∙ start (omega arith) in
    let some : 1 ≤ n = elim (cases_lt 0 n) [ inl p ↦ p | inr p ↦ absurd (clash rest n (omega arith) first (stop (omega arith))) ] in
    let w : words bs ≡ take n rest ∷ words (drop n rest)
    = words_skip bs m h f ∙ ap words (sym e) ∙ words_first rest n some b g stop in (
      w ∙ ap (λ (x : List ℕ). x ∷ words (drop n rest)) (sym fe) ∙ ap (λ (x : List ℕ). front ∷ words x) (sym be),
      omega (arith, ap length be, length-drop n rest, size),
    )

-- a line, and the lines after it
abbrev pub Lined : List ℕ → Option Parts → Type 0
Lined bs None = lines bs ≡ bs ∷ []
Lined bs (Some p) = lines bs ≡ p.front ∷ lines p.back

lined_on : (b : ℕ) (bs : List ℕ) (t : Bool) (r : Option Parts) → eqb b 10 ≡ t → Lined bs r → Lined (b ∷ bs) (cond t (Some (record { front = []; back = bs })) (onto b r))
lined_on b bs true r e w = cond-true _ _ _ e
lined_on b bs false None e w = cond-false _ _ _ e ∙ ap (extend b) w
lined_on b bs false (Some p) e w = cond-false _ _ _ e ∙ ap (extend b) w

pub lined : (bs : List ℕ) → Lined bs (cut_at 10 bs)
lined [] = refl
lined (b ∷ bs) = lined_on b bs (eqb b 10) (cut_at 10 bs) refl (lined bs)

pub line_none : (bs : List ℕ) → None ≡ cut_at 10 bs → lines bs ≡ bs ∷ []
line_none bs e = subst (λ (x : Option Parts). Lined bs x) (sym e) (lined bs)

pub line_some : (bs front back : List ℕ) → Some (record { front = front; back = back }) ≡ cut_at 10 bs → lines bs ≡ front ∷ lines back
line_some bs front back e = subst (λ (x : Option Parts). Lined bs x) (sym e) (lined bs)
