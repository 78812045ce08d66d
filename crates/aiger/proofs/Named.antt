-- What the reader's flags and sides say of the symbols.
use Rattle.std.proofs.Common.{◌≡◌, ℕ, ◌<◌, ◌≤◌, Bool, true, false, cond, not, ◌&&◌, ◌||◌, eqb, ltb, List, [], ◌∷◌, ◌++◌, map, length, get_or, set, sym, refl, ap, ◌∙◌, subst, ⊎_elim, arith}
use Rattle.std.proofs.lemmas.Bool.Decides.{nat_tests}
use Rattle.std.proofs.lemmas.List.{length-set, get_or-set_same, get_or-set_other, get_or_default}
use Rattle.std.proofs.lemmas.Bool.{cond-true, cond-false, cond_both, and_parts, and_from, cases_eq, cases_Bool, eq-eqb, ne_eqb, ltb-true}
use Rattle.circuit.specs.declared.record.Input.{Input}
use Rattle.circuit.specs.declared.record.Record.{Record}
use Rattle.circuit.specs.Parts.{blank_input}
use Rattle.text.specs.Number.{decimal}
use Rattle.text.specs.Cut.{without}
use Rattle.aiger.specs.declared.line.SymbolKind.{SymbolKind}
use Rattle.aiger.specs.declared.line.SymbolKind.TheVariants as kind
use Rattle.aiger.specs.declared.reader.Reader.{Reader}
use Rattle.aiger.specs.Line.{symbol}
use Rattle.aiger.specs.Advance.{with_inputs, sided_inputs, answer_input, controllable}
use Rattle.aiger.specs.Format.{Symbol, symbol_line, same_kind, count_of, named_by, well_named, names_answer}
use Rattle.aiger.proofs.Naming.{put_named, put_s, flag_of, ok_s, all_ok_s, sided_by, sided_all}
use Rattle.aiger.proofs.Texts.{Sayable, AllSayable, say_symbol}

flag_set : (ns : List Bool) (p q : ℕ) → p < length ns → get_or (set ns p true) q false ≡ (eqb p q || get_or ns q false)
flag_set ns p q h =
    ⊎_elim
    (λ e. subst (λ x. get_or (set ns p true) x false ≡ (eqb p x || get_or ns x false)) e
    (get_or-set_same ns p true false h ∙ ap (λ b. b || get_or ns p false) (sym (eq-eqb p p refl))))
    (λ ne. get_or-set_other ns p q true false (λ e. ne (sym e)) ∙ ap (λ b. b || get_or ns q false) (sym (ne_eqb p q ne)))
    (cases_eq p q)

-- the tables of flags are long enough, and say what some earlier symbols name
pub record Flagged (r : Reader) (m : Record) (earlier : List Symbol) : Type 0 where
  pub counts : (k : SymbolKind) → count_of r.model k ≡ count_of m k
  pub inputs : m.input_count ≤ length r.names.inputs
  pub latches : m.latch_count ≤ length r.names.latches
  pub flags : (k : SymbolKind) (q : ℕ) → q < count_of m k → flag_of r.names k q ≡ named_by earlier k q

count_same : (is : List Input) (m : Record) (k : SymbolKind) → count_of (with_inputs is m) k ≡ count_of m k
count_same is m kind.Input = refl
count_same is m kind.Latch = refl
count_same is m kind.Output = refl

flagged_more : (k : SymbolKind) (p : ℕ) (name : List ℕ) (r : Reader) (m : Record) (es : List Symbol) → p < count_of m k → Flagged r m es
    → Flagged (put_named k p name r) m (record { kind = k; position = p; name = name } ∷ es)
flagged_more kind.Input p name r m es h f =
    record {
      counts = λ k. count_same (sided_inputs p name r.model.inputs) r.model k ∙ f.counts k;
      inputs = rw length-set f.inputs;
      latches = f.latches;
      flags = λ k q l. elim k as (λ k. q < count_of m k → flag_of (put_named kind.Input p name r).names k q ≡ ((same_kind kind.Input k && eqb p q) || named_by es k q)) [
        | kind.Input ↦ λ l. flag_set r.names.inputs p q (omega (arith, f.inputs)) ∙ ap (λ b. eqb p q || b) (f.flags kind.Input q l)
        | kind.Latch ↦ λ l. f.flags kind.Latch q l
        | kind.Output ↦ λ l. f.flags kind.Output q l
      ] l;
    }
flagged_more kind.Latch p name r m es h f =
    record {
      counts = f.counts;
      inputs = f.inputs;
      latches = rw length-set f.latches;
      flags = λ k q l. elim k as (λ k. q < count_of m k → flag_of (put_named kind.Latch p name r).names k q ≡ ((same_kind kind.Latch k && eqb p q) || named_by es k q)) [
        | kind.Input ↦ λ l. f.flags kind.Input q l
        | kind.Latch ↦ λ l. flag_set r.names.latches p q (omega (arith, f.latches)) ∙ ap (λ b. eqb p q || b) (f.flags kind.Latch q l)
        | kind.Output ↦ λ l. f.flags kind.Output q l
      ] l;
    }
flagged_more kind.Output p name r m es h f =
    record {
      counts = f.counts;
      inputs = f.inputs;
      latches = f.latches;
      flags = λ k q l. elim k as (λ k. q < count_of m k → flag_of (put_named kind.Output p name r).names k q ≡ ((same_kind kind.Output k && eqb p q) || named_by es k q)) [
        | kind.Input ↦ λ l. f.flags kind.Input q l
        | kind.Latch ↦ λ l. f.flags kind.Latch q l
        | kind.Output ↦ λ l. let e : p ≡ q = omega arith in sym (ap (λ b. b || named_by es kind.Output q) (eq-eqb p q e))
      ] l;
    }

pub well_forward : (ss es : List Symbol) (r : Reader) (m : Record) → Flagged r m es → well_named m es ss ≡ true → all_ok_s ss r ≡ true
well_forward [] es r m f h = refl
well_forward (s ∷ ss) es r m f h =
    let a = and_parts (ltb s.position (count_of m s.kind)) _ h in
    let b = and_parts (not (named_by es s.kind s.position)) _ a.1 in
    let c = and_parts (ltb 0 (length s.name)) _ b.1 in
    let d = and_parts (without 10 s.name) _ c.1 in
    let low = ltb-true s.position (count_of m s.kind) a.0 in
    and_from (ok_s s r) (all_ok_s ss (put_s s r))
    (and_from (ltb s.position (count_of r.model s.kind)) _ (ap (ltb s.position) (f.counts s.kind) ∙ a.0)
    (ap not (f.flags s.kind s.position low) ∙ b.0))
    (well_forward ss (s ∷ es) (put_s s r) m (flagged_more s.kind s.position s.name r m es low f) d.1)

without_later : (b : ℕ) (xs ys : List ℕ) → without b (xs ++ ys) ≡ true → without b ys ≡ true
without_later b [] ys h = h
without_later b (x ∷ xs) ys h = without_later b xs ys (and_parts (not (eqb x b)) (without b (xs ++ ys)) h).1

name_within : (k : SymbolKind) (p : ℕ) (name : List ℕ) → Sayable (symbol k p name) → (0 < length name) × (without 10 name ≡ true)
name_within kind.Input p name s = (s.proper.1, without_later 10 (decimal p) (32 ∷ name) s.within)
name_within kind.Latch p name s = (s.proper.1, without_later 10 (decimal p) (32 ∷ name) s.within)
name_within kind.Output p name s = (s.proper.1, without_later 10 (decimal p) (32 ∷ name) s.within)

pub well_backward : (ss es : List Symbol) (r : Reader) (m : Record) → Flagged r m es → all_ok_s ss r ≡ true → AllSayable (map symbol_line ss) → well_named m es ss ≡ true
well_backward [] es r m f h y = refl
well_backward (s ∷ ss) es r m f h y =
    let a = and_parts (ok_s s r) (all_ok_s ss (put_s s r)) h in
    let b = and_parts (ltb s.position (count_of r.model s.kind)) (not (flag_of r.names s.kind s.position)) a.0 in
    let c : ltb s.position (count_of m s.kind) ≡ true = sym (ap (ltb s.position) (f.counts s.kind)) ∙ b.0 in
    let low = ltb-true s.position (count_of m s.kind) c in
    let n = name_within s.kind s.position s.name y.0 in
    and_from (ltb s.position (count_of m s.kind)) _ c
    (and_from (not (named_by es s.kind s.position)) _ (sym (ap not (f.flags s.kind s.position low)) ∙ b.1)
    (and_from (ltb 0 (length s.name)) _ (let k = n.0 in grind (arith, nat_tests))
    (and_from (without 10 s.name) _ n.1
    (well_backward ss (s ∷ es) (put_s s r) m (flagged_more s.kind s.position s.name r m es low f) a.1 y.1))))

pub well_sayable : (ss es : List Symbol) (m : Record) → ((k : SymbolKind) → count_of m k ≤ 65535) → well_named m es ss ≡ true → AllSayable (map symbol_line ss)
well_sayable [] es m c h = tt
well_sayable (s ∷ ss) es m c h =
    let a = and_parts (ltb s.position (count_of m s.kind)) _ h in
    let b = and_parts (not (named_by es s.kind s.position)) _ a.1 in
    let n = and_parts (ltb 0 (length s.name)) _ b.1 in
    let d = and_parts (without 10 s.name) _ n.1 in
    let low = ltb-true s.position (count_of m s.kind) a.0 in
    let long = ltb-true 0 (length s.name) n.0 in
    let few = c s.kind in
    (say_symbol s.kind s.position s.name (omega arith) long d.0, well_sayable ss (s ∷ es) m c d.1)

-- the sides after some symbols
abbrev pub side_of : Bool → Input → Input
side_of b i = cond b (answer_input i) i

abbrev here : SymbolKind → ℕ → List ℕ → ℕ → Bool
here k p name j = same_kind k kind.Input && (eqb p j && controllable name)

sided_one : (k : SymbolKind) (p : ℕ) (name : List ℕ) (is : List Input) (j : ℕ) (d : Input) → j < length is → get_or (sided_by k p name is) j d ≡ side_of (here k p name j) (get_or is j d)
sided_one kind.Latch p name is j d h = refl
sided_one kind.Output p name is j d h = refl
sided_one kind.Input p name is j d h =
    ⊎_elim
    (λ c.
    ⊎_elim
    (λ e. subst (λ p. get_or (sided_inputs p name is) j d ≡ side_of (eqb p j && controllable name) (get_or is j d)) (sym e)
    (ap (λ x. get_or x j d) (cond-true (controllable name) _ _ c) ∙ get_or-set_same is j _ d h
    ∙ ap answer_input (get_or_default is j blank_input d h)
    ∙ sym (cond-true (eqb j j && controllable name) _ _ (and_from (eqb j j) (controllable name) (eq-eqb j j refl) c))))
    (λ ne. ap (λ x. get_or x j d) (cond-true (controllable name) _ _ c) ∙ get_or-set_other is p j _ d (λ e. ne (sym e))
    ∙ sym (cond-false (eqb p j && controllable name) _ _ (ap (λ b. b && controllable name) (ne_eqb p j ne))))
    (cases_eq p j))
    (λ c. ap (λ x. get_or x j d) (cond-false (controllable name) _ _ c)
    ∙ sym (cond-false (eqb p j && controllable name) _ _ (grind (arith, nat_tests))))
    (cases_Bool (controllable name))

side_twice : (a b : Bool) (i : Input) → side_of b (side_of a i) ≡ side_of (a || b) i
side_twice true true i = refl
side_twice true false i = refl
side_twice false true i = refl
side_twice false false i = refl

sided_length : (k : SymbolKind) (p : ℕ) (name : List ℕ) (is : List Input) → length (sided_by k p name is) ≡ length is
sided_length kind.Latch p name is = refl
sided_length kind.Output p name is = refl
sided_length kind.Input p name is =
    cond_both (controllable name) _ _ (λ x. length x ≡ length is) (λ _. length-set is p _) (λ _. refl)

pub sided_at : (ss : List Symbol) (is : List Input) (j : ℕ) (d : Input) → j < length is → get_or (sided_all ss is) j d ≡ side_of (names_answer ss j) (get_or is j d)
sided_at [] is j d h = refl
sided_at (s ∷ ss) is j d h =
    sided_at ss (sided_by s.kind s.position s.name is) j d (rw (sided_length s.kind s.position s.name is) h)
    ∙ ap (side_of (names_answer ss j)) (sided_one s.kind s.position s.name is j d h)
    ∙ side_twice (here s.kind s.position s.name j) (names_answer ss j) (get_or is j d)

pub sided_all_length : (ss : List Symbol) (is : List Input) → length (sided_all ss is) ≡ length is
sided_all_length [] is = refl
sided_all_length (s ∷ ss) is = sided_all_length ss (sided_by s.kind s.position s.name is) ∙ sided_length s.kind s.position s.name is

-- no symbol names an input past the count
pub names_none : (ss es : List Symbol) (m : Record) (j : ℕ) → m.input_count ≤ j → well_named m es ss ≡ true → names_answer ss j ≡ false
names_none [] es m j h w = refl
names_none (s ∷ ss) es m j h w =
    let a = and_parts (ltb s.position (count_of m s.kind)) _ w in
    let b = and_parts (not (named_by es s.kind s.position)) _ a.1 in
    let n = and_parts (ltb 0 (length s.name)) _ b.1 in
    let d = and_parts (without 10 s.name) _ n.1 in
    let low = ltb-true s.position (count_of m s.kind) a.0 in
    ap (λ x. x || names_answer ss j) (not_here s.kind s.position s.name low) ∙ names_none ss (s ∷ es) m j h d.1
  where
    not_here : (k : SymbolKind) (p : ℕ) (name : List ℕ) → p < count_of m k → here k p name j ≡ false
    not_here kind.Latch p name l = refl
    not_here kind.Output p name l = refl
    not_here kind.Input p name l = ap (λ b. b && controllable name) (ne_eqb p j (omega arith))
