-- What a line of a file says, and how it is written.
use Rattle.std.specs.Prelude.{ℕ, Bool, true, false, cond, ◌&&◌, List, [], ◌∷◌, ◌++◌, length, drop, Some, None, codes, Option, ◌==◌}
use Rattle.text.specs.Number.{number_of, decimal}
use Rattle.text.specs.Cut.{Taken, field_of}
use Rattle.aiger.specs.declared.line.Header.{Header}
use Rattle.aiger.specs.declared.line.Line.{Line}
use Rattle.aiger.specs.declared.line.Line.TheVariants.{One, Two, Three, Symbol, Comment, Malformed}
use Rattle.aiger.specs.declared.line.SymbolKind.{SymbolKind}
use Rattle.aiger.specs.declared.line.SymbolKind.TheVariants.{Input, Latch, Output}

pub data Content : Type 0 where
  one : ℕ → Content
  two : ℕ → ℕ → Content
  three : ℕ → ℕ → ℕ → Content
  symbol : SymbolKind → ℕ → List ℕ → Content
  comment : Content
  malformed : Content

-- what a line of the code says
abbrev pub content_of : Line → Content
content_of (One a) = one a
content_of (Two a b) = two a b
content_of (Three a b c) = three a b c
content_of (Symbol k p name) = symbol k p name.now
content_of Comment = comment
content_of Malformed = malformed

abbrev pub last_of : (ℕ → Content) → Option ℕ → Content
last_of f None = malformed
last_of f (Some n) = f n

abbrev pub two_or_three : ℕ → List ℕ → Option Taken → Content
two_or_three a bs None = last_of (two a) (number_of bs)
two_or_three a bs (Some t) = last_of (three a t.value) (number_of t.rest)

abbrev pub one_or_more : List ℕ → Option Taken → Content
one_or_more bs None = last_of one (number_of bs)
one_or_more bs (Some t) = two_or_three t.value t.rest (field_of t.rest)

-- up to three numbers, parted by one space
unfoldable pub numbers_of : List ℕ → Content
numbers_of bs = one_or_more bs (field_of bs)

abbrev pub named : SymbolKind → Option Taken → Content
named k None = malformed
named k (Some t) = cond (length t.rest == 0) malformed (symbol k t.value t.rest)

-- a position, a space and a name of one byte or more
unfoldable pub symbol_of : SymbolKind → List ℕ → Content
symbol_of k bs = named k (field_of bs)

abbrev pub line_with : ℕ → List ℕ → Content
line_with b bs =
    cond (b == 105) (symbol_of Input bs)
    (cond (b == 108) (symbol_of Latch bs)
    (cond (b == 111) (symbol_of Output bs)
    (cond (b == 99 && length bs == 0) comment (numbers_of (b ∷ bs)))))

-- what the bytes of a line say, without its line feed
unfoldable pub line_of : List ℕ → Content
line_of [] = malformed
line_of (b ∷ bs) = line_with b bs

abbrev pub letter_of : SymbolKind → ℕ
letter_of Input = 105
letter_of Latch = 108
letter_of Output = 111

-- a line as it is written, without its line feed
abbrev pub text_of : Content → List ℕ
text_of (one a) = decimal a
text_of (two a b) = decimal a ++ 32 ∷ decimal b
text_of (three a b c) = decimal a ++ 32 ∷ (decimal b ++ 32 ∷ decimal c)
text_of (symbol k p name) = letter_of k ∷ (decimal p ++ 32 ∷ name)
text_of comment = 99 ∷ []
text_of malformed = []

-- lines one after the other, each with its line feed
abbrev pub texts : List Content → List ℕ
texts [] = []
texts (c ∷ cs) = text_of c ++ 10 ∷ texts cs

abbrev pub begins : List ℕ → List ℕ → Bool
begins [] ys = true
begins (x ∷ xs) [] = false
begins (x ∷ xs) (y ∷ ys) = y == x && begins xs ys

-- what stands after the word `aag` and its space
unfoldable pub after_word : List ℕ → Option (List ℕ)
after_word bs = cond (begins (codes "aag ") bs) (Some (drop 4 bs)) None

abbrev pub then : {A : Type 0} → Option Taken → (ℕ → List ℕ → Option A) → Option A
then None f = None
then (Some t) f = f t.value t.rest

abbrev pub last : {A : Type 0} → Option ℕ → (ℕ → A) → Option A
last None f = None
last (Some n) f = Some (f n)

unfoldable pub five_of : List ℕ → Option Header
five_of bs =
    then (field_of bs) λ m bs₁.
    then (field_of bs₁) λ i bs₂.
    then (field_of bs₂) λ l bs₃.
    then (field_of bs₃) λ o bs₄.
    last (number_of bs₄) λ a. record { maximum = m; inputs = i; latches = l; outputs = o; gates = a }

abbrev pub header_in : Option (List ℕ) → Option Header
header_in None = None
header_in (Some bs) = five_of bs

-- the header that a file's first line is, without its line feed
abbrev pub header_of : List ℕ → Option Header
header_of bs = header_in (after_word bs)

-- a header as it is written, without its line feed
abbrev pub header_text : Header → List ℕ
header_text h =
    codes "aag "
    ++ (decimal h.maximum ++ 32 ∷ (decimal h.inputs ++ 32 ∷ (decimal h.latches ++ 32 ∷ (decimal h.outputs ++ 32 ∷ decimal h.gates))))
