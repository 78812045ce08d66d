-- Entries put one after another.
use Rattle.std.proofs.Common.{◌≡◌, ℕ, List, [], ◌∷◌, ◌++◌, sym, refl, ap, ◌∙◌, subst, inl, inr}
use Rattle.std.proofs.lemmas.List.{append_assoc}
use Rattle.literal.specs.declared.Literal.{Literal}
use Rattle.dimacs_text.specs.declared.fault.DimacsFault.{DimacsFault}
use Rattle.dimacs_text.specs.declared.fault.DimacsFault.TheVariants.{HeaderMissing, HeaderMalformed, EntryMalformed, ClauseUnfinished, CountWrong, MemoryShort, Refused}
use Rattle.dimacs_text.specs.Words.{line_content, content}
use Rattle.dimacs_text.specs.Entries.{spelling, spellings, SomeUnspelled, Unread}

spellings_push : (ls : List Literal) (l : Literal) → spellings (ls ++ l ∷ []) ≡ spellings ls ++ spelling l ∷ []
spellings_push [] l = refl
spellings_push (x ∷ ls) l = ap (λ (ws : List (List ℕ)). spelling x ∷ ws) (spellings_push ls l)

-- one more entry
pub read_on : (before after : List Literal) (l : Literal) (w : List ℕ) (ws next all : List (List ℕ)) → after ≡ before ++ l ∷ [] → w ≡ spelling l → ws ≡ w ∷ next
    → spellings before ++ ws ≡ all → spellings after ++ next ≡ all
read_on before after l w ws next all a s e h =
    ap (λ (x : List Literal). spellings x ++ next) a ∙ ap (λ (x : List (List ℕ)). x ++ next) (spellings_push before l)
    ∙ append_assoc (spellings before) (spelling l ∷ []) next
    ∙ ap (λ (x : List (List ℕ)). spellings before ++ x) (ap (λ (x : List ℕ). x ∷ next) (sym s) ∙ sym e) ∙ h

-- a word that is none, further on
pub further : (w : List ℕ) (ws next : List (List ℕ)) → ws ≡ w ∷ next → SomeUnspelled next → SomeUnspelled ws
further w ws next e u = subst SomeUnspelled (sym e) (inr u)

-- one more line
pub line_on : (before after : List Literal) (l : List ℕ) (ls next all : List (List ℕ)) → spellings after ≡ spellings before ++ line_content l → ls ≡ l ∷ next
    → spellings before ++ content ls ≡ all → spellings after ++ content next ≡ all
line_on before after l ls next all a e h =
    ap (λ (x : List (List ℕ)). x ++ content next) a ∙ append_assoc (spellings before) (line_content l) (content next)
    ∙ ap (λ (x : List (List ℕ)). spellings before ++ content x) (sym e) ∙ h

some_left : (xs ys : List (List ℕ)) → SomeUnspelled xs → SomeUnspelled (xs ++ ys)
some_left [] ys u = absurd u
some_left (x ∷ xs) ys (inl u) = inl u
some_left (x ∷ xs) ys (inr u) = inr (some_left xs ys u)

some_right : (xs ys : List (List ℕ)) → SomeUnspelled ys → SomeUnspelled (xs ++ ys)
some_right [] ys u = u
some_right (x ∷ xs) ys u = inr (some_right xs ys u)

pub line_further : (l : List ℕ) (ls next : List (List ℕ)) → ls ≡ l ∷ next → SomeUnspelled (content next) → SomeUnspelled (content ls)
line_further l ls next e u = subst (λ (x : List (List ℕ)). SomeUnspelled (content x)) (sym e) (some_right (line_content l) (content next) u)

-- where a line is not read, the text is not
pub line_unread : (e : DimacsFault) (l : List ℕ) (ls next all : List (List ℕ)) → ls ≡ l ∷ next → (SomeUnspelled (content ls) → SomeUnspelled all)
    → Unread e (line_content l) → Unread e all
line_unread EntryMalformed l ls next all e f u = f (subst (λ (x : List (List ℕ)). SomeUnspelled (content x)) (sym e) (some_left (line_content l) (content next) u))
line_unread MemoryShort l ls next all e f u = tt
line_unread HeaderMissing l ls next all e f u = absurd u
line_unread HeaderMalformed l ls next all e f u = absurd u
line_unread ClauseUnfinished l ls next all e f u = absurd u
line_unread CountWrong l ls next all e f u = absurd u
line_unread (Refused x) l ls next all e f u = absurd u
