-- The entries of a DIMACS text: literals, and 0 after each clause.
use Rattle.std.specs.Prelude.{ℕ, ◌<◌, cond, ◌⊎◌, List, [], ◌∷◌, ◌++◌, ◌≢◌}
use Rattle.literal.specs.declared.Literal.{Literal}
use Rattle.literal.specs.Truth.{variable_of, negated}
use Rattle.text.specs.Number.{decimal}
use Rattle.sat.specs.Clauses.{Clause}
use Rattle.dimacs_text.specs.declared.fault.DimacsFault.{DimacsFault}
use Rattle.dimacs_text.specs.declared.fault.DimacsFault.TheVariants.{HeaderMissing, HeaderMalformed, EntryMalformed, ClauseUnfinished, CountWrong, MemoryShort, Refused}

-- 0 is no literal of a clause: it ends one
abbrev pub end : Literal
end = record { code = 0 }

-- how a literal is written
abbrev pub spelling : Literal → List ℕ
spelling l = cond (negated l) (45 ∷ decimal (variable_of l)) (decimal (variable_of l))

-- what may stand among the clauses: a literal whose code a number of 16 bits holds, or 0, but no -0
abbrev pub Writable : Literal → Type 0
Writable l = (l.code < 65536) × (l.code ≢ 1)

abbrev pub spellings : List Literal → List (List ℕ)
spellings [] = []
spellings (l ∷ ls) = spelling l ∷ spellings ls

-- clauses, each with its 0
abbrev pub terminated : List Clause → List Literal
terminated [] = []
terminated (c ∷ cs) = c ++ end ∷ terminated cs

-- a word that is no entry
abbrev pub Unspelled : List ℕ → Type 0
Unspelled w = (l : Literal) → Writable l → w ≢ spelling l

-- some word is no entry
abbrev pub SomeUnspelled : List (List ℕ) → Type 0
SomeUnspelled [] = ⊥
SomeUnspelled (w ∷ ws) = Unspelled w ⊎ SomeUnspelled ws

-- why entries were not read: a word is none, or memory ran out, of which nothing more is said
abbrev pub Unread : DimacsFault → List (List ℕ) → Type 0
Unread EntryMalformed ws = SomeUnspelled ws
Unread MemoryShort ws = Unit {0}
Unread HeaderMissing ws = ⊥
Unread HeaderMalformed ws = ⊥
Unread ClauseUnfinished ws = ⊥
Unread CountWrong ws = ⊥
Unread (Refused e) ws = ⊥
