-- The symbols of a file, from their lines to the reader's state and back.
use Rattle.std.proofs.Common.{◌≡◌, ℕ, suc, ◌+◌, Bool, true, false, not, ◌&&◌, ◌||◌, eqb, ltb, leb, ◌⊎◌, List, [], ◌∷◌, ◌++◌, map, length, get_or, Ok, Err, Result, sym, refl, ap, ◌∙◌, subst, inl, inr, ⊎_elim, add-zero, arith}
use Rattle.std.proofs.lemmas.Bool.Decides.{nat_tests}
use Rattle.std.proofs.lemmas.Bool.{cond-false, and_parts, and_from}
use Rattle.circuit.specs.declared.record.Input.{Input}
use Rattle.aiger.specs.declared.fault.ReadFault.{ReadFault}
use Rattle.aiger.specs.declared.fault.ReadFault.TheVariants as fault
use Rattle.aiger.specs.declared.line.SymbolKind.{SymbolKind}
use Rattle.aiger.specs.declared.line.SymbolKind.TheVariants as kind
use Rattle.aiger.specs.declared.reader.Names.{Names}
use Rattle.aiger.specs.declared.reader.Reader.{Reader}
use Rattle.aiger.specs.declared.reader.Section.TheVariants.{Symbols, Comment}
use Rattle.aiger.specs.Line.{Content, one, two, three, symbol, comment, malformed}
use Rattle.aiger.specs.Advance.{State, state_of, and_then, beside, symbol_on, name_input, name_latch, name_output, with_inputs, sided_inputs, commented, on_symbol, advance, advance_at, end_on, end_at, sides_on}
use Rattle.aiger.specs.Read.{folded, ended}
use Rattle.aiger.specs.Format.{Symbol, symbol_line, count_of}
use Rattle.aiger.proofs.Sections.{then_took}
use Rattle.aiger.proofs.Counted.{no_err, cond_took}

abbrev pub put_named : SymbolKind → ℕ → List ℕ → Reader → Reader
put_named kind.Input p name r = name_input p name r
put_named kind.Latch p name r = name_latch p r
put_named kind.Output p name r = name_output r

abbrev pub put_s : Symbol → Reader → Reader
put_s s r = put_named s.kind s.position s.name r

abbrev pub puts_s : List Symbol → Reader → Reader
puts_s [] r = r
puts_s (s ∷ ss) r = puts_s ss (put_s s r)

abbrev pub flag_of : Names → SymbolKind → ℕ → Bool
flag_of ns kind.Input p = get_or ns.inputs p false
flag_of ns kind.Latch p = get_or ns.latches p false
flag_of ns kind.Output p = ns.output

abbrev pub ok_s : Symbol → Reader → Bool
ok_s s r = ltb s.position (count_of r.model s.kind) && not (flag_of r.names s.kind s.position)

abbrev pub all_ok_s : List Symbol → Reader → Bool
all_ok_s [] r = true
all_ok_s (s ∷ ss) r = ok_s s r && all_ok_s ss (put_s s r)

named_forward : (at : ℕ) (k : SymbolKind) (p : ℕ) (name : List ℕ) (r : Reader) → ltb p (count_of r.model k) && not (flag_of r.names k p) ≡ true → symbol_on at k p name r ≡ Ok (put_named k p name r)
unfolding symbol_on
named_forward at kind.Input p name r h = cond-false (leb r.model.input_count p || get_or r.names.inputs p false) _ _ (grind (arith, nat_tests))
named_forward at kind.Latch p name r h = cond-false (leb r.model.latch_count p || get_or r.names.latches p false) _ _ (grind (arith, nat_tests))
named_forward at kind.Output p name r h = cond-false (not (eqb p 0) || r.names.output) _ _ (grind (arith, nat_tests))

named_backward : (at : ℕ) (k : SymbolKind) (p : ℕ) (name : List ℕ) (r q : Reader) → symbol_on at k p name r ≡ Ok q → (ltb p (count_of r.model k) && not (flag_of r.names k p) ≡ true) × (put_named k p name r ≡ q)
unfolding symbol_on
named_backward at kind.Input p name r q e =
    let c = cond_took (leb r.model.input_count p || get_or r.names.inputs p false) (fault.BadSymbol at) _ q e in
    (grind (arith, nat_tests, c.0), let d = c.1 in (cc))
named_backward at kind.Latch p name r q e =
    let c = cond_took (leb r.model.latch_count p || get_or r.names.latches p false) (fault.BadSymbol at) _ q e in
    (grind (arith, nat_tests, c.0), let d = c.1 in (cc))
named_backward at kind.Output p name r q e =
    let c = cond_took (not (eqb p 0) || r.names.output) (fault.BadSymbol at) _ q e in
    (grind (arith, nat_tests, c.0), let d = c.1 in (cc))

put_section : (k : SymbolKind) (p : ℕ) (name : List ℕ) (r : Reader) → (put_named k p name r).section ≡ r.section
put_section kind.Input p name r = refl
put_section kind.Latch p name r = refl
put_section kind.Output p name r = refl

symbol_advance : (at : ℕ) (s : Symbol) (st : State) → st.reader.section ≡ Symbols → ok_s s st.reader ≡ true → advance at (symbol_line s) st ≡ Ok (state_of (put_s s st.reader) st.gates)
unfolding advance
symbol_advance at s st e h =
    ap (λ q. advance_at q at (symbol_line s) st) e
    ∙ ap (beside st.gates) (named_forward at s.kind s.position s.name st.reader h)

pub symbols_forward : (ss : List Symbol) (at : ℕ) (st : State) (tail : List Content) → st.reader.section ≡ Symbols → all_ok_s ss st.reader ≡ true
    → folded at (map symbol_line ss ++ tail) st ≡ folded (at + length ss) tail (state_of (puts_s ss st.reader) st.gates)
symbols_forward [] at st tail e h = ap (λ n. folded n tail st) (sym (add-zero at))
symbols_forward (s ∷ ss) at st tail e h =
    let p = and_parts (ok_s s st.reader) (all_ok_s ss (put_s s st.reader)) h in
    let next = state_of (put_s s st.reader) st.gates in
    ap (λ x. and_then x λ t. folded (at + 1) (map symbol_line ss ++ tail) t) (symbol_advance at s st e p.0)
    ∙ symbols_forward ss (at + 1) next tail (put_section s.kind s.position s.name st.reader ∙ e) p.1
    ∙ ap (λ n. folded n tail (state_of (puts_s ss (put_s s st.reader)) st.gates)) (let a : at + 1 + length ss ≡ at + suc (length ss) = omega arith in a)

-- after the comment line nothing is looked at but the sides
comment_advance : (at : ℕ) (c : Content) (st : State) → st.reader.section ≡ Comment → advance at c st ≡ Ok st
unfolding advance
comment_advance at c st e = ap (λ q. advance_at q at c st) e

pub comment_fold : (cs : List Content) (at : ℕ) (st : State) → st.reader.section ≡ Comment → folded at cs st ≡ and_then (sides_on st.reader.model) λ _. Ok st
unfolding end_on
comment_fold [] at st e = ap (λ q. and_then (end_at q at st.reader.model) λ _. Ok st) e
comment_fold (c ∷ cs) at st e =
    ap (λ x. and_then x λ t. folded (at + 1) cs t) (comment_advance at c st e) ∙ comment_fold cs (at + 1) st e

pub end_forward : (at : ℕ) (st : State) → st.reader.section ≡ Symbols → ended at st ≡ and_then (sides_on st.reader.model) λ _. Ok st
unfolding end_on
end_forward at st e = ap (λ q. and_then (end_at q at st.reader.model) λ _. Ok st) e

pub comment_forward : (at : ℕ) (cs : List Content) (st : State) → st.reader.section ≡ Symbols
    → folded at (comment ∷ cs) st ≡ and_then (sides_on st.reader.model) λ _. Ok (state_of (commented st.reader) st.gates)
unfolding advance
comment_forward at cs st e =
    ap (λ q. and_then (advance_at q at comment st) λ t. folded (at + 1) cs t) e
    ∙ comment_fold cs (at + 1) (state_of (commented st.reader) st.gates) refl

-- what may stand after the symbols, as lines
abbrev pub TailLines : List Content → Type 0
TailLines cs = (cs ≡ []) ⊎ ((ds : List Content) × (cs ≡ comment ∷ ds))

pub record SymbolLines (st : State) (cs : List Content) (t : State) : Type 0 where
  pub symbols : List Symbol
  pub tail : List Content
  pub is : cs ≡ map symbol_line symbols ++ tail
  pub fine : all_ok_s symbols st.reader ≡ true
  pub ending : TailLines tail
  pub sides : sides_on (puts_s symbols st.reader).model ≡ Ok tt
  pub model : t.reader.model ≡ (puts_s symbols st.reader).model
  pub gates : t.gates ≡ st.gates

unit_same : (x : Result (Unit {0}) ReadFault) (a : Unit {0}) → x ≡ Ok a → x ≡ Ok tt
unit_same x tt e = e

-- one line after the gates: a symbol, the comment, or a refusal
symbol_took : (f : SymbolKind → ℕ → List ℕ → Result State ReadFault) (x : State) (d : ReadFault) (c : Content) (u : State) → on_symbol f (Ok x) (Err d) c ≡ Ok u
    → ((k : SymbolKind) × (p : ℕ) × (name : List ℕ) × (c ≡ symbol k p name) × (f k p name ≡ Ok u)) ⊎ ((c ≡ comment) × (x ≡ u))
symbol_took f x d (one a) u e = absurd (no_err d u e)
symbol_took f x d (two a b) u e = absurd (no_err d u e)
symbol_took f x d (three a b c) u e = absurd (no_err d u e)
symbol_took f x d (symbol k p name) u e = inl (k, p, name, refl, e)
symbol_took f x d comment u e = inr (refl, (cc))
symbol_took f x d malformed u e = absurd (no_err d u e)

line_took : (at : ℕ) (c : Content) (st u : State) → st.reader.section ≡ Symbols → advance at c st ≡ Ok u
    → ((s : Symbol) × (c ≡ symbol_line s) × (ok_s s st.reader ≡ true) × (u ≡ state_of (put_s s st.reader) st.gates))
    ⊎ ((c ≡ comment) × (u ≡ state_of (commented st.reader) st.gates))
unfolding advance
line_took at c st u e a =
    ⊎_elim
    (λ w.
    let b = then_took (symbol_on at w.0 w.1 w.2 st.reader) (λ r. Ok (state_of r st.gates)) u w.4 in
    let d = named_backward at w.0 w.1 w.2 st.reader b.0 b.1 in
    let g : state_of b.0 st.gates ≡ u = let h = b.2 in cc in
    inl (record { kind = w.0; position = w.1; name = w.2 }, w.3, d.0, sym (ap (λ r. state_of r st.gates) d.1 ∙ g)))
    (λ w. inr (w.0, sym w.1))
    (symbol_took _ _ (fault.BadSymbol at) c u (ap (λ q. advance_at q at c st) (sym e) ∙ a))

pub symbols_backward : (cs : List Content) (at : ℕ) (st t : State) → st.reader.section ≡ Symbols → folded at cs st ≡ Ok t → SymbolLines st cs t
symbols_backward [] at st t e f =
    let a = then_took (sides_on st.reader.model) (λ _. Ok st) t (sym (end_forward at st e) ∙ f) in
    let same : st ≡ t = let h = a.2 in cc in
    record {
      symbols = [];
      tail = [];
      is = refl;
      fine = refl;
      ending = inl refl;
      sides = unit_same _ a.0 a.1;
      model = ap (λ s. s.reader.model) (sym same);
      gates = ap (λ s. s.gates) (sym same);
    }
symbols_backward (c ∷ cs) at st t e f =
    let a = then_took (advance at c st) (λ u. folded (at + 1) cs u) t f in
    ⊎_elim
    (λ w.
    let next = state_of (put_s w.0 st.reader) st.gates in
    let on : folded (at + 1) cs next ≡ Ok t = subst (λ u. folded (at + 1) cs u ≡ Ok t) w.3 a.2 in
    let l = symbols_backward cs (at + 1) next t (put_section w.0.kind w.0.position w.0.name st.reader ∙ e) on in
    record {
      symbols = w.0 ∷ l.symbols;
      tail = l.tail;
      is = ap (λ d. d ∷ cs) w.1 ∙ ap (λ r. symbol_line w.0 ∷ r) l.is;
      fine = and_from (ok_s w.0 st.reader) _ w.2 l.fine;
      ending = l.ending;
      sides = l.sides;
      model = l.model;
      gates = l.gates;
    })
    (λ w.
    let next = state_of (commented st.reader) st.gates in
    let on : folded (at + 1) cs next ≡ Ok t = subst (λ u. folded (at + 1) cs u ≡ Ok t) w.1 a.2 in
    let b = then_took (sides_on st.reader.model) (λ _. Ok next) t (sym (comment_fold cs (at + 1) next refl) ∙ on) in
    let same : next ≡ t = let h = b.2 in cc in
    record {
      symbols = [];
      tail = c ∷ cs;
      is = refl;
      fine = refl;
      ending = inr (cs, ap (λ d. d ∷ cs) w.0);
      sides = unit_same _ b.0 b.1;
      model = ap (λ s. s.reader.model) (sym same);
      gates = ap (λ s. s.gates) (sym same);
    })
    (line_took at c st a.0 e a.1)

-- the record after some symbols
abbrev pub sided_by : SymbolKind → ℕ → List ℕ → List Input → List Input
sided_by kind.Input p name is = sided_inputs p name is
sided_by kind.Latch p name is = is
sided_by kind.Output p name is = is

abbrev pub sided_all : List Symbol → List Input → List Input
sided_all [] is = is
sided_all (s ∷ ss) is = sided_all ss (sided_by s.kind s.position s.name is)

put_model : (k : SymbolKind) (p : ℕ) (name : List ℕ) (r : Reader) → (put_named k p name r).model ≡ with_inputs (sided_by k p name r.model.inputs) r.model
put_model kind.Input p name r = refl
put_model kind.Latch p name r = refl
put_model kind.Output p name r = refl

pub puts_model : (ss : List Symbol) (r : Reader) → (puts_s ss r).model ≡ with_inputs (sided_all ss r.model.inputs) r.model
puts_model [] r = refl
puts_model (s ∷ ss) r =
    puts_model ss (put_s s r)
    ∙ ap (λ m. with_inputs (sided_all ss m.inputs) m) (put_model s.kind s.position s.name r)

pub puts_section : (ss : List Symbol) (r : Reader) → (puts_s ss r).section ≡ r.section
puts_section [] r = refl
puts_section (s ∷ ss) r = puts_section ss (put_s s r) ∙ put_section s.kind s.position s.name r
