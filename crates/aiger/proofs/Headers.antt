-- The header's text, both ways.
use Rattle.std.proofs.Common.{◌≡◌, ℕ, ◌≤◌, true, List, [], ◌∷◌, ◌++◌, length, drop, Some, None, codes, Option, sym, refl, ap, ◌∙◌, subst, arith}
use Rattle.std.proofs.lemmas.Bool.Decides.{nat_tests}
use Rattle.std.proofs.lemmas.Bool.{cond_both}
use Rattle.text.specs.Number.{number_of, decimal}
use Rattle.text.specs.Cut.{Taken, field_of, without}
use Rattle.text.proofs.Fields.{field_text, field_gives, digits_without}
use Rattle.text.proofs.Inverse.{number_decimal, decimal_number, decimal_digits}
use Rattle.aiger.specs.declared.line.Header.{Header}
use Rattle.aiger.specs.Line.{begins, after_word, then, last, five_of, header_in, header_of, header_text}
use Rattle.aiger.proofs.Texts.{without_append}

pub record Small (h : Header) : Type 0 where
  pub maximum : h.maximum ≤ 65535
  pub inputs : h.inputs ≤ 65535
  pub latches : h.latches ≤ 65535
  pub outputs : h.outputs ≤ 65535
  pub gates : h.gates ≤ 65535

abbrev numbers_text : Header → List ℕ
numbers_text h = decimal h.maximum ++ 32 ∷ (decimal h.inputs ++ 32 ∷ (decimal h.latches ++ 32 ∷ (decimal h.outputs ++ 32 ∷ decimal h.gates)))

five_text : (h : Header) → Small h → five_of (numbers_text h) ≡ Some h
unfolding five_of
five_text h s =
    let f = field_text h.maximum (decimal h.inputs ++ 32 ∷ (decimal h.latches ++ 32 ∷ (decimal h.outputs ++ 32 ∷ decimal h.gates))) s.maximum in
    let g = field_text h.inputs (decimal h.latches ++ 32 ∷ (decimal h.outputs ++ 32 ∷ decimal h.gates)) s.inputs in
    let i = field_text h.latches (decimal h.outputs ++ 32 ∷ decimal h.gates) s.latches in
    let j = field_text h.outputs (decimal h.gates) s.outputs in
    let k = number_decimal h.gates s.gates in
    simp (f, g, i, j, k)

after_text : (bs : List ℕ) → after_word (codes "aag " ++ bs) ≡ Some bs
unfolding after_word
after_text bs = refl

pub header_text_lem : (h : Header) → Small h → header_of (header_text h) ≡ Some h
header_text_lem h s = ap header_in (after_text (numbers_text h)) ∙ five_text h s

pub header_within : (h : Header) → Small h → without 10 (header_text h) ≡ true
header_within h s =
    let w : (n : ℕ) → n ≤ 65535 → without 10 (decimal n) ≡ true = λ n k. digits_without 10 (decimal n) (omega arith) (decimal_digits n k) in
    without_append 10 (decimal h.maximum) _ (w h.maximum s.maximum)
    (without_append 10 (decimal h.inputs) _ (w h.inputs s.inputs)
    (without_append 10 (decimal h.latches) _ (w h.latches s.latches)
    (without_append 10 (decimal h.outputs) _ (w h.outputs s.outputs) (w h.gates s.gates))))

-- back: what a header was written as
then_gives : {A : Type 0} (o : Option Taken) (f : ℕ → List ℕ → Option A) (x : A) → then o f ≡ Some x → (t : Taken) × (o ≡ Some t) × (f t.value t.rest ≡ Some x)
then_gives None f x e = absurd (let z : ◌≡◌ {A = ℕ} 0 1 = cc in omega arith)
then_gives (Some t) f x e = (t, refl, e)

last_gives : {A : Type 0} (o : Option ℕ) (f : ℕ → A) (x : A) → last o f ≡ Some x → (n : ℕ) × (o ≡ Some n) × (f n ≡ x)
last_gives None f x e = absurd (let z : ◌≡◌ {A = ℕ} 0 1 = cc in omega arith)
last_gives (Some n) f x e = (n, refl, cc)

five_gives : (bs : List ℕ) (h : Header) → five_of bs ≡ Some h → (bs ≡ numbers_text h) × Small h
unfolding five_of
five_gives bs h e =
    let a = then_gives (field_of bs) _ h e in
    let b = then_gives (field_of a.0.rest) _ h a.2 in
    let c = then_gives (field_of b.0.rest) _ h b.2 in
    let d = then_gives (field_of c.0.rest) _ h c.2 in
    let l = last_gives (number_of d.0.rest) _ h d.2 in
    let a' = field_gives bs a.0 a.1 in
    let b' = field_gives a.0.rest b.0 b.1 in
    let c' = field_gives b.0.rest c.0 c.1 in
    let d' = field_gives c.0.rest d.0 d.1 in
    let l' = decimal_number d.0.rest l.0 l.1 in
    let whole : Header = record { maximum = a.0.value; inputs = b.0.value; latches = c.0.value; outputs = d.0.value; gates = l.0 } in
    let is : whole ≡ h = l.2 in
    let text : bs ≡ numbers_text whole =
    a'.0 ∙ ap (λ r. decimal a.0.value ++ 32 ∷ r) (b'.0 ∙ ap (λ r. decimal b.0.value ++ 32 ∷ r) (c'.0 ∙ ap (λ r. decimal c.0.value ++ 32 ∷ r) (d'.0 ∙ ap (λ r. decimal d.0.value ++ 32 ∷ r) (sym l'.0)))) in
    let small : Small whole = record { maximum = a'.1; inputs = b'.1; latches = c'.1; outputs = d'.1; gates = l'.1 } in
    (text ∙ ap numbers_text is, subst Small is small)

begins_gives : (xs bs : List ℕ) → begins xs bs ≡ true → bs ≡ xs ++ drop (length xs) bs
begins_gives [] bs e = refl
begins_gives (x ∷ xs) [] e = absurd (let z : ◌≡◌ {A = ℕ} 0 1 = grind arith in omega arith)
begins_gives (x ∷ xs) (b ∷ bs) e = grind (arith, nat_tests, begins_gives xs bs)

after_gives : (bs t : List ℕ) → after_word bs ≡ Some t → bs ≡ codes "aag " ++ t
unfolding after_word
after_gives bs t =
    cond_both (begins (codes "aag ") bs) (Some (drop 4 bs)) None (λ o. o ≡ Some t → bs ≡ codes "aag " ++ t)
    (λ b e. let d : drop 4 bs ≡ t = cc in begins_gives (codes "aag ") bs b ∙ ap (λ r. codes "aag " ++ r) d)
    (λ b e. absurd (let z : ◌≡◌ {A = ℕ} 0 1 = cc in omega arith))

header_in_gives : (bs : List ℕ) (o : Option (List ℕ)) (h : Header) → after_word bs ≡ o → header_in o ≡ Some h → (bs ≡ header_text h) × Small h
header_in_gives bs None h a e = absurd (let z : ◌≡◌ {A = ℕ} 0 1 = cc in omega arith)
header_in_gives bs (Some t) h a e =
    let f = five_gives t h e in
    (after_gives bs t a ∙ ap (λ r. codes "aag " ++ r) f.0, f.1)

pub header_gives : (bs : List ℕ) (h : Header) → header_of bs ≡ Some h → (bs ≡ header_text h) × Small h
header_gives bs h e = header_in_gives bs (after_word bs) h refl e
