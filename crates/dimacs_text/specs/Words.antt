-- Lines and words of a text.
use Rattle.std.specs.Prelude.{ℕ, Bool, false, cond, not, List, [], ◌∷◌, ◌++◌, ◌==◌, nat_le}

-- a space, a tab, a line's end or another byte that is not printed
abbrev pub blank : ℕ → Bool
blank b = nat_le b 32

-- a byte more in front of the first of some strings
abbrev pub extend : ℕ → List (List ℕ) → List (List ℕ)
extend b [] = (b ∷ []) ∷ []
extend b (w ∷ ws) = (b ∷ w) ∷ ws

abbrev pub in_word : List ℕ → Bool
in_word [] = false
in_word (b ∷ bs) = not (blank b)

-- the words: the longest parts without a blank
abbrev pub words : List ℕ → List (List ℕ)
words [] = []
words (b ∷ bs) = cond (blank b) (words bs) (cond (in_word bs) (extend b (words bs)) ((b ∷ []) ∷ words bs))

-- the lines: what stands before, between and after the line feeds
abbrev pub lines : List ℕ → List (List ℕ)
lines [] = [] ∷ []
lines (b ∷ bs) = cond (b == 10) ([] ∷ lines bs) (extend b (lines bs))

-- a comment begins with c
abbrev pub comment : List ℕ → Bool
comment [] = false
comment (b ∷ bs) = b == 99

-- what a line says
abbrev pub line_content : List ℕ → List (List ℕ)
line_content l = cond (comment l) [] (words l)

-- the words of lines that are no comments
abbrev pub content : List (List ℕ) → List (List ℕ)
content [] = []
content (l ∷ ls) = line_content l ++ content ls
