-- The header: p cnf, the number of variables and the number of clauses.
use Rattle.std.specs.Prelude.{◌≡◌, ℕ, ◌≤◌, List, [], ◌∷◌, ◌++◌, ◌≢◌}
use Rattle.text.specs.Number.{decimal}
use Rattle.dimacs_text.specs.Words.{words, lines, content}
use Rattle.dimacs_text.specs.declared.head.Header.{Header}
use Rattle.dimacs_text.specs.declared.fault.DimacsFault.{DimacsFault}
use Rattle.dimacs_text.specs.declared.fault.DimacsFault.TheVariants.{HeaderMissing, HeaderMalformed, EntryMalformed, ClauseUnfinished, CountWrong, MemoryShort, Refused}

abbrev pub header_of : ℕ → ℕ → List (List ℕ)
header_of variables clauses = (112 ∷ []) ∷ (99 ∷ 110 ∷ 102 ∷ []) ∷ decimal variables ∷ decimal clauses ∷ []

abbrev pub header_words : Header → List (List ℕ)
header_words h = header_of h.variables h.clauses

-- words that are no header
abbrev pub NoHeader : List (List ℕ) → Type 0
NoHeader ws = (v c : ℕ) → v ≤ 65535 → c ≤ 65535 → ws ≢ header_of v c

-- a text begins with its header: its words are the header's and then those of what is left
abbrev pub Headed : List ℕ → Header → List ℕ → Type 0
Headed text h rest = content (lines text) ≡ header_words h ++ content (lines rest)

-- a text does not begin with a header: it has no words, or the first line with words is none
abbrev pub Headless : DimacsFault → List ℕ → Type 0
Headless HeaderMissing text = content (lines text) ≡ []
Headless HeaderMalformed text = (line : List ℕ) × ((ws : List (List ℕ)) × ((content (lines text) ≡ words line ++ ws) × (words line ≢ []) × NoHeader (words line)))
Headless EntryMalformed text = ⊥
Headless ClauseUnfinished text = ⊥
Headless CountWrong text = ⊥
Headless MemoryShort text = ⊥
Headless (Refused e) text = ⊥
