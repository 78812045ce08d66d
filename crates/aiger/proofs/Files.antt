-- The lines of a file, one after the other.
use Rattle.std.proofs.Common.{◌≡◌, ℕ, ◌+◌, ◌<◌, cond, eqb, List, [], ◌∷◌, ◌++◌, length, Some, None, Ok, Err, Result, sym, refl, ap, ◌∙◌, append_assoc, append-nil, arith}
use Rattle.std.proofs.lemmas.Bool.{cond-true, cond-false}
use Rattle.std.proofs.lemmas.Bool.Decides.{nat_tests}
use Rattle.circuit.specs.declared.record.Gate.{Gate}
use Rattle.text.specs.Cut.{Parts, cut_at}
use Rattle.aiger.specs.declared.fault.ReadFault.{ReadFault}
use Rattle.aiger.specs.declared.reader.Reader.{Reader}
use Rattle.aiger.specs.Line.{Content, malformed, line_of}
use Rattle.aiger.specs.Advance.{State, state_of, both, advance, and_then}
use Rattle.aiger.specs.Read.{lines_from, lines_of, folded, ended}

-- one line off the front of a file
lines_cut_on : (acc bs : List ℕ) (p : Parts) → cut_at 10 bs ≡ Some p → lines_from acc bs ≡ line_of (acc ++ p.front) ∷ lines_from [] p.back
lines_cut_on acc [] p e = grind arith
lines_cut_on acc (b ∷ bs) p e =
    grind (arith, nat_tests, lines_cut_on (acc ++ b ∷ []) bs, append-nil acc, append_assoc acc (b ∷ []))

pub lines_cut : (bs f r : List ℕ) → Some (record { front = f; back = r }) ≡ cut_at 10 bs → lines_of bs ≡ line_of f ∷ lines_of r
unfolding lines_of
lines_cut bs f r e = lines_cut_on [] bs (record { front = f; back = r }) (sym e)

lines_end_on : (acc bs : List ℕ) → cut_at 10 bs ≡ None → lines_from acc bs ≡ cond (eqb (length (acc ++ bs)) 0) [] (malformed ∷ [])
lines_end_on acc [] e = ap (λ l. cond (eqb (length l) 0) [] (malformed ∷ [])) (sym (append-nil acc))
lines_end_on acc (b ∷ bs) e =
    grind (arith, nat_tests, lines_end_on (acc ++ b ∷ []) bs, append_assoc acc (b ∷ []) bs)

pub lines_end : (bs : List ℕ) → None ≡ cut_at 10 bs → lines_of bs ≡ cond (eqb (length bs) 0) [] (malformed ∷ [])
unfolding lines_of
lines_end bs e = lines_end_on [] bs (sym e)

shorter_on : (bs : List ℕ) (p : Parts) → cut_at 10 bs ≡ Some p → length p.back < length bs
shorter_on [] p e = grind arith
shorter_on (b ∷ bs) p e = grind (arith, nat_tests, shorter_on bs)

pub cut_shorter : (bs f r : List ℕ) → Some (record { front = f; back = r }) ≡ cut_at 10 bs → length r < length bs
cut_shorter bs f r e = shorter_on bs (record { front = f; back = r }) (sym e)

pub turn : (at : ℕ) (bs f a : List ℕ) (l : Content) (st t : State) (G : Result State ReadFault) → Some (record { front = f; back = a }) ≡ cut_at 10 bs → l ≡ line_of f → Ok t ≡ advance at l st → folded at (lines_of bs) st ≡ G → folded (at + 1) (lines_of a) t ≡ G
turn at bs f a l st t G cut e adv inv =
    ap (λ (x : Result State ReadFault). and_then x λ s. folded (at + 1) (lines_of a) s) (adv ∙ ap (λ k. advance at k st) e)
    ∙ sym (ap (λ ls. folded at ls st) (lines_cut bs f a cut)) ∙ inv

pub stop : (at : ℕ) (bs f a : List ℕ) (l : Content) (st : State) (d : ReadFault) (G : Result State ReadFault) → Some (record { front = f; back = a }) ≡ cut_at 10 bs → l ≡ line_of f → Err d ≡ advance at l st → folded at (lines_of bs) st ≡ G → Err d ≡ G
stop at bs f a l st d G cut e adv inv =
    ap (λ (x : Result State ReadFault). and_then x λ s. folded (at + 1) (lines_of a) s) (adv ∙ ap (λ k. advance at k st) e)
    ∙ sym (ap (λ ls. folded at ls st) (lines_cut bs f a cut)) ∙ inv

unfinished_line : (bs : List ℕ) → None ≡ cut_at 10 bs → 0 < length bs → lines_of bs ≡ malformed ∷ []
unfinished_line bs e h = lines_end bs e ∙ cond-false (eqb (length bs) 0) _ _ (grind (arith, nat_tests))

no_line : (bs : List ℕ) → None ≡ cut_at 10 bs → length bs ≡ 0 → lines_of bs ≡ []
no_line bs e h = lines_end bs e ∙ cond-true (eqb (length bs) 0) _ _ (grind (arith, nat_tests))

pub unfinished_turn : (at : ℕ) (bs : List ℕ) (l : Content) (st : State) (x : Result State ReadFault) (G : Result State ReadFault) → None ≡ cut_at 10 bs → 0 < length bs → l ≡ malformed → x ≡ advance at l st → folded at (lines_of bs) st ≡ G → and_then x (λ t. ended (at + 1) t) ≡ G
unfinished_turn at bs l st x G cut some e adv inv =
    ap (λ (x : Result State ReadFault). and_then x λ s. ended (at + 1) s) (adv ∙ ap (λ k. advance at k st) e)
    ∙ sym (ap (λ ls. folded at ls st) (unfinished_line bs cut some)) ∙ inv

pub plain_end : (at : ℕ) (bs : List ℕ) (st : State) (G : Result State ReadFault) → None ≡ cut_at 10 bs → length bs ≡ 0 → folded at (lines_of bs) st ≡ G → ended at st ≡ G
plain_end at bs st G cut none inv = sym (ap (λ ls. folded at ls st) (no_line bs cut none)) ∙ inv

-- a result at the end of the file
pub both_ended : (x : Result (Unit {0}) ReadFault) (r : Reader) (gs : List Gate) → both x r gs ≡ and_then x λ _. Ok (state_of r gs)
both_ended (Ok tt) r gs = refl
both_ended (Err f) r gs = refl
