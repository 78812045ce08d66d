-- A step is asked for exactly by two words of digits with a space between them.
use Rattle.std.proofs.Common.{◌≡◌, ℕ, Bool, true, false, cond, not, eqb, leb, List, [], ◌∷◌, ◌++◌, Some, None, Option, sym, refl, ap, ◌∙◌, arith}
use Rattle.std.proofs.lemmas.Bool.{and_parts, and_from, leb-true, ne_eqb, not_from_false, cond-true}
use Rattle.text.specs.Cut.{Parts, cut_at, without}
use Rattle.text.proofs.Cuts.{cut_text, cut_gives}
use Rattle.script.specs.declared.Asked.{Asked}
use Rattle.script.specs.Asked.{is_digit, all_digits, is_word, value_of, word_of, asked_by, asked_in, asked_of, AskedLaw}

no_space : (bs : List ℕ) → all_digits bs ≡ true → without 32 bs ≡ true
no_space [] h = refl
no_space (b ∷ bs) h =
    let p = and_parts (is_digit b) (all_digits bs) h in
    let q = and_parts (leb 48 b) (leb b 57) p.0 in
    let l = leb-true 48 b q.0 in
    and_from (not (eqb b 32)) (without 32 bs) (not_from_false (eqb b 32) (ne_eqb b 32 (omega arith))) (no_space bs p.1)

word_digits : (bs : List ℕ) → is_word bs ≡ true → all_digits bs ≡ true
word_digits [] h = refl
word_digits (b ∷ bs) h = h

asked_text : (f g : List ℕ) → is_word f ≡ true → is_word g ≡ true → asked_of (f ++ 32 ∷ g) ≡ Some (record { event = value_of f; answer = value_of g })
asked_text f g wf wg =
    ap asked_in (cut_text 32 f g (no_space f (word_digits f wf)))
    ∙ ap (λ t. asked_by t (word_of g)) (cond-true (is_word f) (Some (value_of f)) None wf)
    ∙ ap (asked_by (Some (value_of f))) (cond-true (is_word g) (Some (value_of g)) None wg)

none_is_not : {X Y : Type 0} (x : X) → ◌≡◌ {A = Option X} None (Some x) → Y
none_is_not x e = let z : ◌≡◌ {A = ℕ} 0 1 = cc in let none : ⊥ = omega arith in absurd none

some_same : {X : Type 0} (x y : X) → ◌≡◌ {A = Option X} (Some x) (Some y) → x ≡ y
some_same x y e = cc

word_of_lem : (b : Bool) (v n : ℕ) → cond b (Some v) None ≡ Some n → (b ≡ true) × (n ≡ v)
word_of_lem true v n e = (refl, sym (some_same v n e))
word_of_lem false v n e = none_is_not n e

abbrev Made : List ℕ → Asked → Type 0
Made bs x =
    (f : List ℕ) × (g : List ℕ) × (bs ≡ f ++ 32 ∷ g) × (is_word f ≡ true) × (is_word g ≡ true) × (x.event ≡ value_of f) × (x.answer ≡ value_of g)

asked_words : (bs : List ℕ) (p : Parts) (x : Asked) (u v : Option ℕ) → bs ≡ p.front ++ 32 ∷ p.back
    → word_of p.front ≡ u → word_of p.back ≡ v → asked_by u v ≡ Some x → Made bs x
asked_words bs p x None v cut eu ev e = none_is_not x e
asked_words bs p x (Some m) None cut eu ev e = none_is_not x e
asked_words bs p x (Some m) (Some n) cut eu ev e =
    let is = some_same (record { event = m; answer = n }) x e in
    let a = word_of_lem (is_word p.front) (value_of p.front) m eu in
    let b = word_of_lem (is_word p.back) (value_of p.back) n ev in
    (p.front, p.back, cut, a.0, b.0, ap (λ t. t.event) (sym is) ∙ a.1, ap (λ t. t.answer) (sym is) ∙ b.1)

asked_parts : (bs : List ℕ) (x : Asked) (q : Option Parts) → cut_at 32 bs ≡ q → asked_in q ≡ Some x → Made bs x
asked_parts bs x None c e = none_is_not x e
asked_parts bs x (Some p) c e = asked_words bs p x (word_of p.front) (word_of p.back) (cut_gives 32 bs p c).0 refl refl e

pub asked_law : (bs : List ℕ) (r : Option Asked) → r ≡ asked_of bs → AskedLaw bs r
asked_law bs r is = record {
  back = λ f g wf wg e. is ∙ ap asked_of e ∙ asked_text f g wf wg;
  only = λ x e. asked_parts bs x (cut_at 32 bs) refl (sym is ∙ e);
}
