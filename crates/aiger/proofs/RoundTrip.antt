-- What is written of a model is a file of that model.
use Rattle.std.proofs.Common.{◌≡◌, ℕ, zero, suc, ◌+◌, ◌-◌, ◌<◌, ◌≤◌, true, false, not, ◌&&◌, ◌||◌, ltb, List, [], ◌∷◌, ◌++◌, map, length, get_or, replicate, Ok, codes, sym, refl, ap, ◌∙◌, subst, inl, ⊎_elim, arith}
use Rattle.std.proofs.lemmas.Bool.Decides.{nat_tests}
use Rattle.std.proofs.lemmas.List.{append-nil, get_or-take, length-append, length-take-le, length-replicate, take_at, drop_at}
use Rattle.std.proofs.lemmas.Bool.{and_from, cases_Bool, cond-true, cond-false, ne_eqb, eq-eqb}
use Rattle.circuit.specs.declared.record.Gate.{Gate}
use Rattle.circuit.specs.declared.record.Input.{Input}
use Rattle.circuit.specs.declared.record.Record.{Record}
use Rattle.circuit.specs.Parts.{blank_gate, blank_input, inputs_of, latches_of, gates_of, answers?}
use Rattle.circuit.specs.Sound.{sound}
use Rattle.circuit.proofs.Soundness.{Sizes, Soundness, soundness}
use Rattle.text.specs.Number.{decimal}
use Rattle.text.specs.Cut.{without}
use Rattle.text.proofs.Fields.{digits_without}
use Rattle.text.proofs.Inverse.{decimal_digits}
use Rattle.aiger.specs.declared.line.SymbolKind.TheVariants as kind
use Rattle.aiger.specs.Advance.{controllable}
use Rattle.aiger.specs.Read.{answered, read_of}
use Rattle.aiger.specs.Line.{one, texts, header_text}
use Rattle.aiger.specs.Format.{Symbol, header_for, input_line, latch_line, gate_line, input_literals, body, symbol_texts, named_by, well_named, names_answer, FileOf, answer_symbols, written, resized, RoundTrip}
use Rattle.aiger.proofs.Acceptance.{Ordered, body_for, ordered_of, sound_from}
use Rattle.aiger.proofs.Laws.{read_only}
use Rattle.aiger.proofs.Records.{Blanks, blanks_of}
use Rattle.aiger.proofs.Writing.{written_short}

-- the symbols of the answer inputs
abbrev answer_name : ℕ → List ℕ
answer_name at = codes "controllable_" ++ decimal at

abbrev answer_symbol : ℕ → Symbol
answer_symbol at = record { kind = kind.Input; position = at; name = answer_name at }

-- earlier symbols name inputs before a position only
abbrev Before : ℕ → List Symbol → Type 0
Before at es = (p : ℕ) → at ≤ p → named_by es kind.Input p ≡ false

before_more : (at : ℕ) (es : List Symbol) → Before at es → Before (at + 1) (answer_symbol at ∷ es)
before_more at es b p h = ap (λ x. x || named_by es kind.Input p) (ne_eqb at p (omega arith)) ∙ b p (omega arith)

before_skip : (at : ℕ) (es : List Symbol) → Before at es → Before (at + 1) es
before_skip at es b p h = b p (omega arith)

well_written : (is : List Input) (at : ℕ) (es : List Symbol) (r : Record) → r.input_count ≤ 24 → at + length is ≤ r.input_count → Before at es → well_named r es (answer_symbols at is) ≡ true
well_written [] at es r s h b = refl
well_written (i ∷ is) at es r s h b =
    ⊎_elim
    (λ a. ap (well_named r es) (cond-true (answers? i.side) _ _ a)
    ∙ and_from (ltb at r.input_count) _ (grind (arith, nat_tests))
    (and_from (not (named_by es kind.Input at)) _ (ap not (b at (omega arith)))
    (and_from (ltb 0 (length (answer_name at))) _ (grind (arith, nat_tests))
    (and_from (without 10 (answer_name at)) _ (digits_without 10 (decimal at) (omega arith) (decimal_digits at (omega arith)))
    (well_written is (at + 1) (answer_symbol at ∷ es) r s (omega arith) (before_more at es b))))))
    (λ a. ap (well_named r es) (cond-false (answers? i.side) _ _ a) ∙ well_written is (at + 1) es r s (omega arith) (before_skip at es b))
    (cases_Bool (answers? i.side))

-- before a position no symbol of the later ones names an input, and from it on each names as the sides are
names_early : (is : List Input) (at j : ℕ) → j < at → names_answer (answer_symbols at is) j ≡ false
names_early [] at j h = refl
names_early (i ∷ is) at j h =
    ⊎_elim
    (λ a. ap (λ ss. names_answer ss j) (cond-true (answers? i.side) _ _ a)
    ∙ ap (λ x. (x && controllable (answer_name at)) || names_answer (answer_symbols (at + 1) is) j) (ne_eqb at j (omega arith)) ∙ names_early is (at + 1) j (omega arith))
    (λ a. ap (λ ss. names_answer ss j) (cond-false (answers? i.side) _ _ a) ∙ names_early is (at + 1) j (omega arith))
    (cases_Bool (answers? i.side))

names_sides : (is : List Input) (at k : ℕ) → k < length is → names_answer (answer_symbols at is) (at + k) ≡ answers? (get_or is k blank_input).side
names_sides [] at k h = absurd (omega arith)
names_sides (i ∷ is) at zero h =
    let z : at + zero ≡ at = omega arith in
    ap (names_answer (answer_symbols at (i ∷ is))) z
    ∙ ⊎_elim
    (λ a. ap (λ ss. names_answer ss at) (cond-true (answers? i.side) _ _ a)
    ∙ ap (λ x. (x && controllable (answer_name at)) || names_answer (answer_symbols (at + 1) is) at) (eq-eqb at at refl) ∙ sym a)
    (λ a. ap (λ ss. names_answer ss at) (cond-false (answers? i.side) _ _ a) ∙ names_early is (at + 1) at (omega arith) ∙ sym a)
    (cases_Bool (answers? i.side))
names_sides (i ∷ is) at (suc k) h =
    let z : at + suc k ≡ at + 1 + k = omega arith in
    let later = names_sides is (at + 1) k (omega arith) in
    ap (names_answer (answer_symbols at (i ∷ is))) z
    ∙ ⊎_elim
    (λ a. ap (λ ss. names_answer ss (at + 1 + k)) (cond-true (answers? i.side) _ _ a)
    ∙ ap (λ x. (x && controllable (answer_name at)) || names_answer (answer_symbols (at + 1) is) (at + 1 + k)) (ne_eqb at (at + 1 + k) (omega arith)) ∙ later)
    (λ a. ap (λ ss. names_answer ss (at + 1 + k)) (cond-false (answers? i.side) _ _ a) ∙ later)
    (cases_Bool (answers? i.side))

none_before : Before 0 []
none_before p h = refl

written_file : (r : Record) (gs : List Gate) → Sizes r (length gs) → FileOf (written r gs) r gs
unfolding written
written_file r gs z =
    let n : length (inputs_of r) ≡ r.input_count = length-take-le r.input_count r.inputs (let a = z.inputs in let b = z.input_places in omega arith) in
    record {
      symbols = answer_symbols 0 (inputs_of r);
      tail = [];
      is = ap (λ t. body r gs ++ t) (sym (append-nil (symbol_texts (answer_symbols 0 (inputs_of r)))));
      named = well_written (inputs_of r) 0 [] r z.inputs (omega arith) none_before;
      sides = λ j h.
          sym (ap (λ i. answers? i.side) (get_or-take r.input_count r.inputs j blank_input h))
          ∙ sym (names_sides (inputs_of r) 0 j (omega arith)) ∙ ap (names_answer (answer_symbols 0 (inputs_of r))) (let e : 0 + j ≡ j = omega arith in e);
      ending = inl refl;
    }

-- the same model over a gate table of another size
module _ (n : ℕ) (r : Record) (gs : List Gate) (s : Soundness r gs) (room : r.gate_count ≤ n) where
  same_gates : gates_of r (resized n r gs) ≡ gates_of r gs
  same_gates = take_at (gates_of r gs) (replicate (n - r.gate_count) blank_gate) r.gate_count (length-take-le r.gate_count gs s.sizes.table)

  resized_length : length (resized n r gs) ≡ n
  resized_length =
      length-append (gates_of r gs) (replicate (n - r.gate_count) blank_gate)
      ∙ ap (λ k. k + length (replicate (n - r.gate_count) blank_gate)) (length-take-le r.gate_count gs s.sizes.table)
      ∙ ap (λ k. r.gate_count + k) (length-replicate (n - r.gate_count) blank_gate) ∙ (let e : r.gate_count + (n - r.gate_count) ≡ n = omega arith in e)

  resized_sizes : Sizes r (length (resized n r gs))
  resized_sizes =
      let z = s.sizes in
      record {
        maximum = z.maximum;
        inputs = z.inputs;
        latches = z.latches;
        gates = z.gates;
        all = z.all;
        table = rw resized_length room;
        input_places = z.input_places;
        latch_places = z.latch_places;
      }

  same_body : body_for r (resized n r gs) ≡ body_for r gs
  same_body = ap (λ (x : List Gate). record { inputs = (body_for r gs).inputs; latches = (body_for r gs).latches; output = r.output; gates = x }) same_gates

  resized_blanks : Blanks r (resized n r gs)
  resized_blanks =
      let b = blanks_of r gs s.blank in
      record {
        inputs = b.inputs;
        latches = b.latches;
        gates = drop_at (gates_of r gs) (replicate (n - r.gate_count) blank_gate) r.gate_count (length-take-le r.gate_count gs s.sizes.table)
            ∙ ap (λ k. replicate (k - r.gate_count) blank_gate) (sym resized_length);
      }

  resized_sound : sound r (resized n r gs) ≡ true
  resized_sound = sound_from r (resized n r gs) resized_sizes s.events s.answers (subst (Ordered r.maximum) (sym same_body) (ordered_of r gs s)) resized_blanks

  same_written : written r (resized n r gs) ≡ written r gs
  unfolding written
  same_written =
      ap (λ (x : List Gate). header_text (header_for r) ++ 10 ∷ texts (map input_line (input_literals r) ++ (map latch_line (latches_of r) ++ (one r.output.code ∷ map gate_line x))) ++ symbol_texts (answer_symbols 0 (inputs_of r))) same_gates

-- what is written is read again as the same model, in every table that is long enough
pub read_written : (n : ℕ) (r : Record) (gs : List Gate) → sound r gs ≡ true → length (written r gs) ≤ 65536 → r.gate_count ≤ n
    → read_of (written r gs) n ≡ answered (Ok tt) r (resized n r gs)
read_written n r gs s short room =
    let p = soundness r gs s in
    let same = same_written n r gs p room in
    read_only (written r gs) n r (resized n r gs)
    (record {
      short = short;
      file = subst (λ t. FileOf t r (resized n r gs)) same (written_file r (resized n r gs) (resized_sizes n r gs p room));
      model = resized_sound n r gs p room;
    })
    (resized_length n r gs p room)

pub round_trip : (r : Record) (gs : List Gate) → sound r gs ≡ true → RoundTrip r gs
round_trip r gs s n room = read_written n r gs s (written_short r gs s) room
