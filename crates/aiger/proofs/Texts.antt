-- Lines and the text of a file, both ways.
use Rattle.std.proofs.Common.{◌≡◌, ℕ, ◌<◌, ◌≤◌, true, eqb, List, [], ◌∷◌, ◌++◌, length, Some, None, Option, sym, refl, ap, ◌∙◌, append_assoc, arith}
use Rattle.std.proofs.lemmas.Bool.Decides.{nat_tests}
use Rattle.std.proofs.lemmas.Bool.{cond_both}
use Rattle.text.specs.Number.{decimal}
use Rattle.text.specs.Cut.{Parts, cut_at, without}
use Rattle.text.proofs.Cuts.{cut_text, cut_gives}
use Rattle.text.proofs.Fields.{digits_without}
use Rattle.text.proofs.Inverse.{decimal_digits}
use Rattle.aiger.specs.declared.line.SymbolKind.{SymbolKind}
use Rattle.aiger.specs.declared.line.SymbolKind.TheVariants as kind
use Rattle.aiger.specs.Line.{Content, one, two, three, symbol, malformed, line_of, text_of, texts}
use Rattle.aiger.specs.Read.{lines_of}
use Rattle.aiger.proofs.Lines.{Proper, line_text, text_line}
use Rattle.aiger.proofs.Files.{lines_cut, lines_end}

-- a line as a file can have it: its numbers and its name are proper, and no line feed stands in it
pub record Sayable (c : Content) : Type 0 where
  pub proper : Proper c
  pub within : without 10 (text_of c) ≡ true

abbrev pub AllSayable : List Content → Type 0
AllSayable [] = Unit {0}
AllSayable (c ∷ cs) = Sayable c × AllSayable cs

-- a line at the front of a file, both ways
line_first : (c : Content) (rest : List ℕ) → Sayable c → lines_of (text_of c ++ 10 ∷ rest) ≡ c ∷ lines_of rest
line_first c rest s =
    lines_cut (text_of c ++ 10 ∷ rest) (text_of c) rest (sym (cut_text 10 (text_of c) rest s.within))
    ∙ ap (λ l. l ∷ lines_of rest) (line_text c s.proper)

pub record Front (bs : List ℕ) (c : Content) (cs : List Content) : Type 0 where
  pub rest : List ℕ
  pub is : bs ≡ text_of c ++ 10 ∷ rest
  pub others : lines_of rest ≡ cs
  pub sayable : Sayable c

first_line_at : (bs : List ℕ) (p : Option Parts) (c : Content) (cs : List Content) → cut_at 10 bs ≡ p → lines_of bs ≡ c ∷ cs → (c ≡ malformed → ⊥) → Front bs c cs
first_line_at bs None c cs p e ne = absurd (ne (
    cond_both (eqb (length bs) 0) [] (malformed ∷ []) (λ l. l ≡ c ∷ cs → c ≡ malformed) (λ _ d. grind arith) (λ _ d. grind arith)
    (sym (lines_end bs (sym p)) ∙ e)))
first_line_at bs (Some q) c cs p e ne =
    let d : line_of q.front ∷ lines_of q.back ≡ c ∷ cs = sym (lines_cut bs q.front q.back (sym p)) ∙ e in
    let h : line_of q.front ≡ c = cc in
    let t : lines_of q.back ≡ cs = cc in
    let g = cut_gives 10 bs q p in
    let w = text_line q.front c h ne in
    record {
      rest = q.back;
      is = g.0 ∙ ap (λ f. f ++ 10 ∷ q.back) (sym w.0);
      others = t;
      sayable = record { proper = w.1; within = ap (without 10) w.0 ∙ g.1 };
    }

pub first_line : (bs : List ℕ) (c : Content) (cs : List Content) → lines_of bs ≡ c ∷ cs → (c ≡ malformed → ⊥) → Front bs c cs
first_line bs c cs e ne = first_line_at bs (cut_at 10 bs) c cs refl e ne

-- some lines at the front of a file, both ways
pub texts_lines : (cs : List Content) (rest : List ℕ) → AllSayable cs → lines_of (texts cs ++ rest) ≡ cs ++ lines_of rest
texts_lines [] rest s = refl
texts_lines (c ∷ cs) rest s =
    ap lines_of (append_assoc (text_of c) (10 ∷ texts cs) rest)
    ∙ line_first c (texts cs ++ rest) s.0 ∙ ap (λ l. c ∷ l) (texts_lines cs rest s.1)

abbrev pub NoneMalformed : List Content → Type 0
NoneMalformed [] = Unit {0}
NoneMalformed (c ∷ cs) = (c ≡ malformed → ⊥) × NoneMalformed cs

pub record Fronts (bs : List ℕ) (cs ds : List Content) : Type 0 where
  pub rest : List ℕ
  pub is : bs ≡ texts cs ++ rest
  pub others : lines_of rest ≡ ds
  pub sayable : AllSayable cs

pub lines_texts : (bs : List ℕ) (cs ds : List Content) → lines_of bs ≡ cs ++ ds → NoneMalformed cs → Fronts bs cs ds
lines_texts bs [] ds e n = record { rest = bs; is = refl; others = e; sayable = tt }
lines_texts bs (c ∷ cs) ds e n =
    let f = first_line bs c (cs ++ ds) e n.0 in
    let g = lines_texts f.rest cs ds f.others n.1 in
    record {
      rest = g.rest;
      is = f.is ∙ ap (λ r. text_of c ++ 10 ∷ r) g.is ∙ sym (append_assoc (text_of c) (10 ∷ texts cs) g.rest);
      others = g.others;
      sayable = (f.sayable, g.sayable);
    }

-- lists of lines, joined
pub texts_append : (cs ds : List Content) → texts (cs ++ ds) ≡ texts cs ++ texts ds
texts_append [] ds = refl
texts_append (c ∷ cs) ds = ap (λ t. text_of c ++ 10 ∷ t) (texts_append cs ds) ∙ sym (append_assoc (text_of c) (10 ∷ texts cs) (texts ds))

pub sayable_append : (cs ds : List Content) → AllSayable cs → AllSayable ds → AllSayable (cs ++ ds)
sayable_append [] ds s t = t
sayable_append (c ∷ cs) ds s t = (s.0, sayable_append cs ds s.1 t)

pub sayable_back : (cs ds : List Content) → AllSayable (cs ++ ds) → AllSayable ds
sayable_back [] ds s = s
sayable_back (c ∷ cs) ds s = sayable_back cs ds s.1

pub malformed_append : (cs ds : List Content) → NoneMalformed cs → NoneMalformed ds → NoneMalformed (cs ++ ds)
malformed_append [] ds s t = t
malformed_append (c ∷ cs) ds s t = (s.0, malformed_append cs ds s.1 t)

-- no line feed stands in the lines of numbers and symbols
pub without_append : (b : ℕ) (xs ys : List ℕ) → without b xs ≡ true → without b ys ≡ true → without b (xs ++ ys) ≡ true
without_append b [] ys h k = k
without_append b (x ∷ xs) ys h k = grind (arith, nat_tests, without_append b xs ys)

decimal_within : (a : ℕ) → a ≤ 65535 → without 10 (decimal a) ≡ true
decimal_within a h = digits_without 10 (decimal a) (omega arith) (decimal_digits a h)

pub say_one : (a : ℕ) → a ≤ 65535 → Sayable (one a)
say_one a h = record { proper = h; within = decimal_within a h }

pub say_two : (a b : ℕ) → a ≤ 65535 → b ≤ 65535 → Sayable (two a b)
say_two a b h k =
    record { proper = (h, k); within = without_append 10 (decimal a) (32 ∷ decimal b) (decimal_within a h) (decimal_within b k) }

pub say_three : (a b c : ℕ) → a ≤ 65535 → b ≤ 65535 → c ≤ 65535 → Sayable (three a b c)
say_three a b c h k l =
    record {
      proper = (h, k, l);
      within = without_append 10 (decimal a) (32 ∷ (decimal b ++ 32 ∷ decimal c)) (decimal_within a h)
          (without_append 10 (decimal b) (32 ∷ decimal c) (decimal_within b k) (decimal_within c l));
    }

pub say_symbol : (k : SymbolKind) (p : ℕ) (name : List ℕ) → p ≤ 65535 → 0 < length name → without 10 name ≡ true → Sayable (symbol k p name)
say_symbol kind.Input p name h s w =
    record { proper = (h, s); within = without_append 10 (decimal p) (32 ∷ name) (decimal_within p h) w }
say_symbol kind.Latch p name h s w =
    record { proper = (h, s); within = without_append 10 (decimal p) (32 ∷ name) (decimal_within p h) w }
say_symbol kind.Output p name h s w =
    record { proper = (h, s); within = without_append 10 (decimal p) (32 ∷ name) (decimal_within p h) w }
