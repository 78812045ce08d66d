-- A line's content and its text, both ways.
use Rattle.std.proofs.Common.{◌≡◌, ℕ, ◌-◌, ◌<◌, ◌≤◌, true, ◌&&◌, eqb, List, [], ◌∷◌, ◌++◌, length, get_or, take, drop, Some, None, Option, sym, refl, ap, ◌∙◌, subst, arith}
use Rattle.std.specs.Str.{all_ascii_digits}
use Rattle.std.proofs.lemmas.Bool.Decides.{nat_tests}
use Rattle.std.proofs.lemmas.Bool.{cond-false, cond_both, eqb-true, and_parts}
use Rattle.std.proofs.lemmas.List.{nil_from_length, append-nil}
use Rattle.std.proofs.lemmas.Slice.{first_rest}
use Rattle.text.specs.Number.{number_of, decimal}
use Rattle.text.specs.Cut.{Taken, field_of}
use Rattle.text.proofs.Inverse.{number_decimal, decimal_number, decimal_digits, decimal_long}
use Rattle.text.proofs.Fields.{field_text, field_none, field_gives}
use Rattle.aiger.specs.declared.line.SymbolKind.{SymbolKind}
use Rattle.aiger.specs.declared.line.SymbolKind.TheVariants.{Input, Latch, Output}
use Rattle.aiger.specs.Line.{Content, one, two, three, symbol, comment, malformed, last_of, two_or_three, one_or_more, numbers_of, named, symbol_of, line_with, line_of, letter_of, text_of}

-- a line's content where its numbers and its name are as a file can have them
abbrev pub Proper : Content → Type 0
Proper (one a) = a ≤ 65535
Proper (two a b) = (a ≤ 65535) × (b ≤ 65535)
Proper (three a b c) = (a ≤ 65535) × (b ≤ 65535) × (c ≤ 65535)
Proper (symbol k p name) = (p ≤ 65535) × (0 < length name)
Proper comment = Unit {0}
Proper malformed = ⊥

-- the parts of a line as the code takes them
pub line_parts : (s : List ℕ) → 0 < length s → line_of s ≡ line_with (get_or s 0 0) (take (length s - 1) (drop 1 s))
unfolding line_of
line_parts s h = ap line_of (first_rest s 0 h)

pub line_whole : (s : List ℕ) → 0 < length s → get_or s 0 0 ∷ take (length s - 1) (drop 1 s) ≡ s
line_whole s h = sym (first_rest s 0 h)

pub line_empty : (s : List ℕ) → length s ≡ 0 → malformed ≡ line_of s
unfolding line_of
line_empty s h = sym (ap line_of (nil_from_length s h))

-- a line of numbers
numbers_one : (a : ℕ) → a ≤ 65535 → numbers_of (decimal a) ≡ one a
unfolding numbers_of
numbers_one a h = ap (one_or_more (decimal a)) (field_none a h) ∙ ap (last_of one) (number_decimal a h)

numbers_two : (a b : ℕ) → a ≤ 65535 → b ≤ 65535 → numbers_of (decimal a ++ 32 ∷ decimal b) ≡ two a b
unfolding numbers_of
numbers_two a b h k =
    ap (one_or_more (decimal a ++ 32 ∷ decimal b)) (field_text a (decimal b) h)
    ∙ ap (two_or_three a (decimal b)) (field_none b k) ∙ ap (last_of (two a)) (number_decimal b k)

numbers_three : (a b c : ℕ) → a ≤ 65535 → b ≤ 65535 → c ≤ 65535 → numbers_of (decimal a ++ 32 ∷ (decimal b ++ 32 ∷ decimal c)) ≡ three a b c
unfolding numbers_of
numbers_three a b c h k l =
    ap (one_or_more (decimal a ++ 32 ∷ (decimal b ++ 32 ∷ decimal c))) (field_text a (decimal b ++ 32 ∷ decimal c) h)
    ∙ ap (two_or_three a (decimal b ++ 32 ∷ decimal c)) (field_text b (decimal c) k) ∙ ap (last_of (three a b)) (number_decimal c l)

-- a line that begins with a digit is one of numbers
digit_line : (ds r : List ℕ) → 0 < length ds → all_ascii_digits ds ≡ true → line_of (ds ++ r) ≡ numbers_of (ds ++ r)
unfolding line_of
digit_line [] r h d = absurd (omega arith)
digit_line (x ∷ xs) r h d = grind (arith, nat_tests)

symbol_text : (k : SymbolKind) (p : ℕ) (name : List ℕ) → p ≤ 65535 → 0 < length name → symbol_of k (decimal p ++ 32 ∷ name) ≡ symbol k p name
unfolding symbol_of
symbol_text k p name h some = ap (named k) (field_text p name h) ∙ cond-false (eqb (length name) 0) _ _ (grind (arith, nat_tests))

pub line_text : (s : Content) → Proper s → line_of (text_of s) ≡ s
unfolding line_of
line_text (one a) h =
    ap line_of (sym (append-nil (decimal a))) ∙ digit_line (decimal a) [] (decimal_long a h) (decimal_digits a h)
    ∙ ap numbers_of (append-nil (decimal a)) ∙ numbers_one a h
line_text (two a b) h = digit_line (decimal a) (32 ∷ decimal b) (decimal_long a h.0) (decimal_digits a h.0) ∙ numbers_two a b h.0 h.1
line_text (three a b c) h = digit_line (decimal a) _ (decimal_long a h.0) (decimal_digits a h.0) ∙ numbers_three a b c h.0 h.1 h.2
line_text (symbol Input p name) h = symbol_text Input p name h.0 h.1
line_text (symbol Latch p name) h = symbol_text Latch p name h.0 h.1
line_text (symbol Output p name) h = symbol_text Output p name h.0 h.1
line_text comment h = refl
line_text malformed h = absurd h

-- what a line that is not malformed was written as
abbrev Good : List ℕ → Content → Type 0
Good bs s = (s ≡ malformed → ⊥) → (text_of s ≡ bs) × Proper s

bad_good : (bs : List ℕ) → Good bs malformed
bad_good bs ne = absurd (ne refl)

last_good : (f : ℕ → Content) (bs : List ℕ) (o : Option ℕ) → ((n : ℕ) → o ≡ Some n → Good bs (f n)) → Good bs (last_of f o)
last_good f bs None g = bad_good bs
last_good f bs (Some n) g = g n refl

two_or_three_good : (bs : List ℕ) (t : Taken) → (bs ≡ decimal t.value ++ 32 ∷ t.rest) × (t.value ≤ 65535) → (o : Option Taken) → field_of t.rest ≡ o → Good bs (two_or_three t.value t.rest o)
two_or_three_good bs t g None e =
    last_good (two t.value) bs (number_of t.rest)
    λ n h _. let d = decimal_number t.rest n h in (ap (λ r. decimal t.value ++ 32 ∷ r) d.0 ∙ sym g.0, (g.1, d.1))
two_or_three_good bs t g (Some u) e =
    let k = field_gives t.rest u e in
    last_good (three t.value u.value) bs (number_of u.rest)
    λ n h _. let d = decimal_number u.rest n h in (
      ap (λ r. decimal t.value ++ 32 ∷ (decimal u.value ++ 32 ∷ r)) d.0
          ∙ ap (λ r. decimal t.value ++ 32 ∷ r) (sym k.0) ∙ sym g.0,
      (g.1, k.1, d.1),
    )

one_or_more_good : (bs : List ℕ) (o : Option Taken) → field_of bs ≡ o → Good bs (one_or_more bs o)
one_or_more_good bs None e = last_good one bs (number_of bs) λ n h _. decimal_number bs n h
one_or_more_good bs (Some t) e = two_or_three_good bs t (field_gives bs t e) (field_of t.rest) refl

numbers_good : (bs : List ℕ) → Good bs (numbers_of bs)
unfolding numbers_of
numbers_good bs = one_or_more_good bs (field_of bs) refl

named_good : (k : SymbolKind) (bs : List ℕ) (o : Option Taken) → field_of bs ≡ o → Good (letter_of k ∷ bs) (named k o)
named_good k bs None e = bad_good (letter_of k ∷ bs)
named_good k bs (Some t) e =
    cond_both (eqb (length t.rest) 0) _ _ (Good (letter_of k ∷ bs)) (λ _. bad_good (letter_of k ∷ bs))
    λ z _. let g = field_gives bs t e in (ap (λ r. letter_of k ∷ r) (sym g.0), (g.1, grind (arith, nat_tests)))

symbol_good : (k : SymbolKind) (bs : List ℕ) → Good (letter_of k ∷ bs) (symbol_of k bs)
unfolding symbol_of
symbol_good k bs = named_good k bs (field_of bs) refl

line_good : (bs : List ℕ) → Good bs (line_of bs)
unfolding line_of
line_good [] = bad_good []
line_good (b ∷ bs) =
    cond_both (eqb b 105) _ _ (Good (b ∷ bs))
    (λ e. subst (λ x. Good (x ∷ bs) (symbol_of Input bs)) (sym (eqb-true b 105 e)) (symbol_good Input bs))
    λ _. cond_both (eqb b 108) _ _ (Good (b ∷ bs))
    (λ e. subst (λ x. Good (x ∷ bs) (symbol_of Latch bs)) (sym (eqb-true b 108 e)) (symbol_good Latch bs))
    λ _. cond_both (eqb b 111) _ _ (Good (b ∷ bs))
    (λ e. subst (λ x. Good (x ∷ bs) (symbol_of Output bs)) (sym (eqb-true b 111 e)) (symbol_good Output bs))
    λ _. cond_both (eqb b 99 && eqb (length bs) 0) _ _ (Good (b ∷ bs))
    (λ e _. let p = and_parts (eqb b 99) (eqb (length bs) 0) e in
    (ap (λ x. x ∷ []) (sym (eqb-true b 99 p.0)) ∙ ap (λ r. b ∷ r) (sym (nil_from_length bs (eqb-true (length bs) 0 p.1))), tt))
    (λ _. numbers_good (b ∷ bs))

pub text_line : (bs : List ℕ) (s : Content) → line_of bs ≡ s → (s ≡ malformed → ⊥) → (text_of s ≡ bs) × Proper s
text_line bs s e = subst (Good bs) e (line_good bs)
