-- A file is accepted with a model exactly when it is a file of that model.
use Rattle.std.proofs.Common.{◌≡◌, ℕ, zero, suc, ◌+◌, ◌-◌, ◌*◌, ◌<◌, ◌≤◌, true, false, not, ◌&&◌, ◌||◌, eqb, ltb, leb, List, [], ◌∷◌, ◌++◌, map, length, get_or, take, drop, replicate, Some, None, Ok, Option, sym, refl, ap, ◌∙◌, subst, inl, inr, ⊎_elim, append_assoc, arith}
use Rattle.std.proofs.lemmas.Bool.Decides.{nat_tests}
use Rattle.std.proofs.lemmas.List.{length-map, length-take-le, nil_from_length}
use Rattle.std.proofs.lemmas.Bool.{cond-false, cond_both, and_parts, and_from, cases_Bool, or_cases, eqb-true, leb-true}
use Rattle.literal.specs.declared.Literal.{Literal}
use Rattle.literal.specs.Truth.{variable_of}
use Rattle.circuit.specs.declared.record.Gate.{Gate}
use Rattle.circuit.specs.declared.record.Latch.{Latch}
use Rattle.circuit.specs.declared.record.Record.{Record}
use Rattle.circuit.specs.Parts.{blank_gate, blank_input, blank_latch, inputs_of, latches_of, gates_of, answers?}
use Rattle.circuit.specs.Sound.{member, every, fresh, known, defined, all_fresh, gates_ordered, sources, source_variables, variables, sized, sides_fit, event_count, answer_count, sound}
use Rattle.circuit.proofs.Soundness.{Sizes, Soundness, soundness}
use Rattle.circuit.proofs.Freshness.{fresh_append, defined_append}
use Rattle.text.specs.Cut.{Parts, cut_at}
use Rattle.text.proofs.Cuts.{cut_text, cut_gives}
use Rattle.aiger.specs.declared.fault.ReadFault.TheVariants as fault
use Rattle.aiger.specs.declared.line.Header.{Header}
use Rattle.aiger.specs.declared.line.SymbolKind.{SymbolKind}
use Rattle.aiger.specs.declared.line.SymbolKind.TheVariants as kind
use Rattle.aiger.specs.Line.{Content, comment, malformed, texts, header_of, header_text}
use Rattle.aiger.specs.Advance.{State, state_of, and_then, close_on, with_inputs, with_latches, sides_on, start_of, raw_start, commented}
use Rattle.aiger.specs.Read.{lines_of, folded, sized_of, Filled, filling, body_of, sized_then, headed, fill_of}
use Rattle.aiger.specs.Format.{header_for, input_line, latch_line, gate_line, input_literals, body_lines, body, Symbol, symbol_line, symbol_texts, count_of, well_named, names_answer, Tail, Accepts}
use Rattle.aiger.proofs.Sections.{then_took}
use Rattle.aiger.proofs.Counted.{no_err, unit_ok, cond_took}
use Rattle.aiger.proofs.Bodies.{Body, lines_of_body, state₀, state₁, full₁, state₃, full₃, state₄, record_of, model₁, model₂, model₃, table₃, names₃, Fine, body_forward, body_backward}
use Rattle.aiger.proofs.Defining.{Knows, knowing_start, known_low, inputs_fresh, inputs_known, latches_forward, latches_backward, latches_known, gates_fresh, gates_known, close_forward, close_backward, nexts_known, nexts_low, nexts_low_lem, literals, outputs}
use Rattle.aiger.proofs.Files.{lines_cut, lines_end}
use Rattle.aiger.specs.declared.reader.Section.TheVariants.{Symbols}
use Rattle.aiger.proofs.Headers.{Small, header_text_lem, header_within, header_gives}
use Rattle.aiger.proofs.Named.{Flagged, well_forward, well_backward, well_sayable}
use Rattle.aiger.proofs.Naming.{puts_s, flag_of, sided_all, symbols_forward, symbols_backward, TailLines, end_forward, comment_forward, puts_model, puts_section}
use Rattle.aiger.proofs.Records.{Blanks, blanks_of, blanks_past, sided_table, table_length, table_side, table_drop, table_literals, inputs_same, lists_same, filled_take, filled_drop, filled_length}
use Rattle.aiger.proofs.Tables.{set_all}
use Rattle.aiger.proofs.Texts.{AllSayable, texts_lines, lines_texts, first_line, NoneMalformed, texts_append, sayable_append, sayable_back, malformed_append, say_one, say_two, say_three}

-- the sizes that a header may have over a table of n places
pub record Sized (h : Header) (n : ℕ) : Type 0 where
  pub maximum : h.maximum ≤ 4096
  pub inputs : h.inputs ≤ 24
  pub latches : h.latches ≤ 32
  pub outputs : h.outputs ≡ 1
  pub gates : h.gates ≤ 2048
  pub all : h.inputs + h.latches + h.gates ≤ h.maximum
  pub table : h.gates ≤ n

sizes_forward : (h : Header) (n : ℕ) → Sized h n → sized_of h n ≡ Ok tt
unfolding sized_of
sizes_forward h n s = let a = s.maximum in let b = s.inputs in let c = s.latches in let d = s.outputs in let e = s.gates in let f = s.all in let g = s.table in grind (arith, nat_tests)

sizes_backward : (h : Header) (n : ℕ) → sized_of h n ≡ Ok tt → Sized h n
unfolding sized_of
sizes_backward h n e =
    let a = cond_took (ltb 4096 h.maximum || (ltb 24 h.inputs || (ltb 32 h.latches || (not (eqb h.outputs 1) || ltb 2048 h.gates)))) fault.BadSizes _ tt e in
    let b = cond_took (ltb h.maximum (h.inputs + h.latches + h.gates)) fault.BadSizes _ tt a.1 in
    let c = cond_took (ltb n h.gates) fault.ShortTable _ tt b.1 in
    let p = a.0 in
    record {
      maximum = grind (arith, nat_tests);
      inputs = grind (arith, nat_tests);
      latches = grind (arith, nat_tests);
      outputs = grind (arith, nat_tests);
      gates = grind (arith, nat_tests);
      all = let q = b.0 in grind (arith, nat_tests);
      table = let q = c.0 in grind (arith, nat_tests);
    }

-- the variables that a body defines, section by section
abbrev pub vars₁ : Body → List ℕ
vars₁ b = defined (0 ∷ []) b.inputs

abbrev pub vars₂ : Body → List ℕ
vars₂ b = defined (vars₁ b) (literals b.latches)

abbrev pub vars₃ : Body → List ℕ
vars₃ b = defined (vars₂ b) (outputs b.gates)

-- a body by the rules of a model
pub record Ordered (m : ℕ) (b : Body) : Type 0 where
  pub inputs : all_fresh m (0 ∷ []) b.inputs ≡ true
  pub latches : all_fresh m (vars₁ b) (literals b.latches) ≡ true
  pub gates : gates_ordered m (vars₂ b) b.gates ≡ true
  pub nexts : nexts_known (vars₃ b) b.latches ≡ true
  pub output : known (vars₃ b) b.output ≡ true

module _ (h : Header) (n : ℕ) (b : Body) where
  max₁ : (state₁ h n b).reader.model.maximum ≡ h.maximum
  max₁ = ap (λ m. m.maximum) (model₁ h n b)

  max₂ : (full₁ h n b).reader.model.maximum ≡ h.maximum
  max₂ = ap (λ m. m.maximum) (model₂ h n b)

  max₃ : (full₃ h n b).reader.model.maximum ≡ h.maximum
  max₃ = ap (λ m. m.maximum) (model₃ h n b)

  knows₀ : h.maximum ≤ 4096 → Knows (state₀ h n).reader (0 ∷ [])
  knows₀ s = knowing_start h.maximum s

  knows₁ : h.maximum ≤ 4096 → all_fresh h.maximum (0 ∷ []) b.inputs ≡ true → Knows (state₁ h n b).reader (vars₁ b)
  knows₁ s f = inputs_known b.inputs (state₀ h n) (0 ∷ []) (knows₀ s) f

  knows₂ : h.maximum ≤ 4096 → all_fresh h.maximum (0 ∷ []) b.inputs ≡ true → all_fresh h.maximum (vars₁ b) (literals b.latches) ≡ true → Knows (state₃ h n b).reader (vars₂ b)
  knows₂ s f g = latches_known b.latches (state₁ h n b) (vars₁ b) (knows₁ s f) (ap (λ m. all_fresh m (vars₁ b) (literals b.latches)) max₁ ∙ g)

  knows₃ : h.maximum ≤ 4096 → all_fresh h.maximum (0 ∷ []) b.inputs ≡ true → all_fresh h.maximum (vars₁ b) (literals b.latches) ≡ true → gates_ordered h.maximum (vars₂ b) b.gates ≡ true → Knows (full₃ h n b).reader (vars₃ b)
  knows₃ s f g k = gates_known b.gates (state₃ h n b) (vars₂ b) (knows₂ s f g) (ap (λ m. gates_ordered m (vars₂ b) b.gates) max₂ ∙ k)

-- the latches of the record that is read
read_latches : (h : Header) (b : Body) → length b.latches ≡ h.latches → h.latches ≤ 32 → latches_of (record_of h b) ≡ b.latches
read_latches h b e s =
    ap (λ k. take k (set_all (replicate 32 blank_latch) 0 b.latches)) (sym e) ∙ filled_take b.latches 32 blank_latch (omega arith)

fine_forward : (h : Header) (n : ℕ) (b : Body) → Sized h n → length b.inputs ≡ h.inputs → length b.latches ≡ h.latches → length b.gates ≡ h.gates → Ordered h.maximum b → Fine h n b
unfolding close_on
fine_forward h n b s i l g o =
    let k₃ = knows₃ h n b s.maximum o.inputs o.latches o.gates in
    let lows : nexts_low h.maximum b.latches ≡ true =
    ap (λ m. nexts_low m b.latches) (sym (max₃ h n b)) ∙ nexts_low_lem (full₃ h n b).reader.model.maximum (full₃ h n b).reader.defined (vars₃ b) b.latches k₃ o.nexts in
    let out : b.output.code ≤ 2 * (full₃ h n b).reader.model.maximum + 1 = known_low (full₃ h n b).reader.model.maximum (full₃ h n b).reader.defined (vars₃ b) b.output k₃ o.output in
    record {
      input_count = i;
      latch_count = l;
      gate_count = g;
      inputs = inputs_fresh b.inputs (state₀ h n) (0 ∷ []) (knows₀ h n b s.maximum) ∙ o.inputs;
      latches = latches_forward b.latches (state₁ h n b) (vars₁ b) (knows₁ h n b s.maximum o.inputs)
          (ap (λ m. all_fresh m (vars₁ b) (literals b.latches)) (max₁ h n b) ∙ o.latches)
          (ap (λ m. nexts_low m b.latches) (max₁ h n b) ∙ lows);
      output = let a = max₂ h n b in let c = max₃ h n b in grind (arith, nat_tests);
      gates = gates_fresh b.gates (state₃ h n b) (vars₂ b) (knows₂ h n b s.maximum o.inputs o.latches)
          ∙ ap (λ m. gates_ordered m (vars₂ b) b.gates) (max₂ h n b) ∙ o.gates;
      closed = close_forward (full₃ h n b).reader (vars₃ b) ((full₃ h n b).reader.model.input_count + 2) (latches_of (full₃ h n b).reader.model) k₃
          (ap (λ m. nexts_known (vars₃ b) (latches_of m)) (model₃ h n b) ∙ ap (nexts_known (vars₃ b)) (read_latches h b l s.latches) ∙ o.nexts)
          (ap (λ m. known (vars₃ b) m.output) (model₃ h n b) ∙ o.output);
    }

fine_backward : (h : Header) (n : ℕ) (b : Body) → Sized h n → Fine h n b → Ordered h.maximum b
unfolding close_on
fine_backward h n b s f =
    let i : all_fresh h.maximum (0 ∷ []) b.inputs ≡ true = sym (inputs_fresh b.inputs (state₀ h n) (0 ∷ []) (knows₀ h n b s.maximum)) ∙ f.inputs in
    let l : all_fresh h.maximum (vars₁ b) (literals b.latches) ≡ true =
    sym (ap (λ m. all_fresh m (vars₁ b) (literals b.latches)) (max₁ h n b)) ∙ latches_backward b.latches (state₁ h n b) (vars₁ b) (knows₁ h n b s.maximum i) f.latches in
    let g : gates_ordered h.maximum (vars₂ b) b.gates ≡ true =
    sym (gates_fresh b.gates (state₃ h n b) (vars₂ b) (knows₂ h n b s.maximum i l) ∙ ap (λ m. gates_ordered m (vars₂ b) b.gates) (max₂ h n b)) ∙ f.gates in
    let c = close_backward (full₃ h n b).reader (vars₃ b) ((full₃ h n b).reader.model.input_count + 2) (latches_of (full₃ h n b).reader.model) (knows₃ h n b s.maximum i l g) f.closed in
    record {
      inputs = i;
      latches = l;
      gates = g;
      nexts = sym (ap (λ m. nexts_known (vars₃ b) (latches_of m)) (model₃ h n b) ∙ ap (nexts_known (vars₃ b)) (read_latches h b f.latch_count s.latches)) ∙ c.0;
      output = sym (ap (λ m. known (vars₃ b) m.output) (model₃ h n b)) ∙ c.1;
    }

-- no symbol is named before the first
no_flag : (n q : ℕ) → get_or (replicate n false) q false ≡ false
no_flag zero q = refl
no_flag (suc n) zero = refl
no_flag (suc n) (suc q) = no_flag n q

none_named : (h : Header) (k : SymbolKind) (q : ℕ) → flag_of (raw_start h).names k q ≡ false
none_named h kind.Input q = no_flag 24 q
none_named h kind.Latch q = no_flag 32 q
none_named h kind.Output q = refl

counts_same : (r m : Record) → r.input_count ≡ m.input_count → r.latch_count ≡ m.latch_count → (k : SymbolKind) → count_of r k ≡ count_of m k
counts_same r m i l kind.Input = i
counts_same r m i l kind.Latch = l
counts_same r m i l kind.Output = refl

flagged₄ : (h : Header) (n : ℕ) (b : Body) (m : Record) → Sized h n → m.input_count ≡ h.inputs → m.latch_count ≡ h.latches → Flagged (state₄ h n b).reader m []
flagged₄ h n b m s i l =
    let names = names₃ h n b in
    record {
      counts = counts_same (full₃ h n b).reader.model m (ap (λ r. r.input_count) (model₃ h n b) ∙ sym i) (ap (λ r. r.latch_count) (model₃ h n b) ∙ sym l);
      inputs = let e : length (full₃ h n b).reader.names.inputs ≡ 24 = ap (λ ns. length ns.inputs) names in omega (arith, s.inputs);
      latches = let e : length (full₃ h n b).reader.names.latches ≡ 32 = ap (λ ns. length ns.latches) names in omega (arith, s.latches);
      flags = λ k q _. ap (λ ns. flag_of ns k q) names ∙ none_named h k q;
    }

-- the record after the symbols
abbrev read : Header → Body → List Symbol → Record
read h b ss = with_inputs (sided_table b.inputs ss) (record_of h b)

abbrev table : ℕ → Body → List Gate
table n b = set_all (replicate n blank_gate) 0 b.gates

read_model : (h : Header) (n : ℕ) (b : Body) (ss : List Symbol) → (puts_s ss (state₄ h n b).reader).model ≡ read h b ss
read_model h n b ss =
    puts_model ss (state₄ h n b).reader ∙ ap (λ m. with_inputs (sided_all ss m.inputs) m) (model₃ h n b)

-- what the record that is read has in it
pub record Holds (h : Header) (n : ℕ) (b : Body) (ss : List Symbol) : Type 0 where
  pub inputs : input_literals (read h b ss) ≡ b.inputs
  pub sides : (j : ℕ) → j < h.inputs → answers? (get_or (read h b ss).inputs j blank_input).side ≡ names_answer ss j
  pub latches : latches_of (read h b ss) ≡ b.latches
  pub gates : gates_of (read h b ss) (table n b) ≡ b.gates
  pub input_places : length (read h b ss).inputs ≡ 24
  pub latch_places : length (read h b ss).latches ≡ 32
  pub gate_places : length (table n b) ≡ n
  pub blanks : Blanks (read h b ss) (table n b)

holds : (h : Header) (n : ℕ) (b : Body) (ss : List Symbol) (m : Record) → Sized h n → length b.inputs ≡ h.inputs → length b.latches ≡ h.latches → length b.gates ≡ h.gates
    → m.input_count ≡ h.inputs → well_named m [] ss ≡ true → Holds h n b ss
holds h n b ss m s i l g c w =
    let few : length b.inputs ≤ 24 = omega (arith, s.inputs) in
    let lew : length b.latches ≤ 32 = omega (arith, s.latches) in
    let gew : length b.gates ≤ n = omega (arith, s.table) in
    let il = table_length b.inputs few ss in
    let ll = filled_length b.latches 32 blank_latch lew in
    let gl = filled_length b.gates n blank_gate gew in
    record {
      inputs = ap (λ k. map (λ x. x.literal) (take k (sided_table b.inputs ss))) (sym i) ∙ table_literals b.inputs few ss;
      sides = λ j k. table_side b.inputs few ss j (omega arith);
      latches = ap (λ k. take k (set_all (replicate 32 blank_latch) 0 b.latches)) (sym l) ∙ filled_take b.latches 32 blank_latch lew;
      gates = ap (λ k. take k (table n b)) (sym g) ∙ filled_take b.gates n blank_gate gew;
      input_places = il;
      latch_places = ll;
      gate_places = gl;
      blanks = record {
        inputs = ap (λ k. drop k (sided_table b.inputs ss)) (sym i) ∙ table_drop b.inputs few ss [] m (c ∙ sym i) w ∙ ap (λ k. replicate k blank_input) (let e : 24 - length b.inputs ≡ length (sided_table b.inputs ss) - h.inputs = omega arith in e);
        latches = ap (λ k. drop k (set_all (replicate 32 blank_latch) 0 b.latches)) (sym l) ∙ filled_drop b.latches 32 blank_latch lew ∙ ap (λ k. replicate k blank_latch) (let e : 32 - length b.latches ≡ length (set_all (replicate 32 blank_latch) 0 b.latches) - h.latches = omega arith in e);
        gates = ap (λ k. drop k (table n b)) (sym g) ∙ filled_drop b.gates n blank_gate gew ∙ ap (λ k. replicate k blank_gate) (let e : n - length b.gates ≡ length (table n b) - h.gates = omega arith in e);
      };
    }

-- the lines of a sound body can be said
abbrev Low : List Literal → Type 0
Low [] = Unit {0}
Low (l ∷ ls) = (l.code ≤ 65535) × Low ls

fresh_low : (m : ℕ) (vs : List ℕ) (ls : List Literal) → m ≤ 4096 → all_fresh m vs ls ≡ true → Low ls
fresh_low m vs [] s f = tt
fresh_low m vs (l ∷ ls) s f =
    let p = and_parts (fresh m vs l) (all_fresh m (variable_of l ∷ vs) ls) f in
    let q = and_parts (leb l.code (2 * m + 1)) _ p.0 in
    (let e = q.0 in grind (arith, nat_tests), fresh_low m (variable_of l ∷ vs) ls s p.1)

say_inputs : (ls : List Literal) → Low ls → AllSayable (map input_line ls)
say_inputs [] h = tt
say_inputs (l ∷ ls) h = (say_one l.code h.0, say_inputs ls h.1)

say_latches : (m : ℕ) (ls : List Latch) → m ≤ 4096 → Low (literals ls) → nexts_low m ls ≡ true → AllSayable (map latch_line ls)
say_latches m [] s h k = tt
say_latches m (l ∷ ls) s h k =
    let p = and_parts (leb l.next.code (2 * m + 1)) (nexts_low m ls) k in
    (say_two l.literal.code l.next.code h.0 (let e = p.0 in grind (arith, nat_tests)), say_latches m ls s h.1 p.1)

-- operands are among the variables that a body defines, which are at most the largest
member_low : (m : ℕ) (vs : List ℕ) (l : Literal) → m ≤ 4096 → ((u : ℕ) → member u vs ≡ true → u ≤ m) → known vs l ≡ true → l.code ≤ 65535
member_low m vs l s low k = let e = low (variable_of l) k in omega arith

more_low : (m : ℕ) (vs : List ℕ) (l : Literal) → fresh m vs l ≡ true → ((u : ℕ) → member u vs ≡ true → u ≤ m) → (u : ℕ) → member u (variable_of l ∷ vs) ≡ true → u ≤ m
more_low m vs l f low u e =
    let p = and_parts (leb l.code (2 * m + 1)) _ f in
    let q = p.0 in
    ⊎_elim (λ z. grind (arith, nat_tests)) (λ z. low u z) (or_cases (eqb u (variable_of l)) (member u vs) e)

say_gates : (m : ℕ) (vs : List ℕ) (gs : List Gate) → m ≤ 4096 → ((u : ℕ) → member u vs ≡ true → u ≤ m) → gates_ordered m vs gs ≡ true → AllSayable (map gate_line gs)
say_gates m vs [] s low o = tt
say_gates m vs (g ∷ gs) s low o =
    let p = and_parts (fresh m vs g.output) _ o in
    let q = and_parts (known vs g.left) _ p.1 in
    let t = and_parts (known vs g.right) _ q.1 in
    let f = and_parts (leb g.output.code (2 * m + 1)) _ p.0 in (
      say_three g.output.code g.left.code g.right.code (let e = f.0 in grind (arith, nat_tests)) (member_low m vs g.left s low q.0) (member_low m vs g.right s low t.0),
      say_gates m (variable_of g.output ∷ vs) gs s (more_low m vs g.output p.0 low) t.1,
    )

say_body : (h : Header) (n : ℕ) (b : Body) → Sized h n → Ordered h.maximum b → AllSayable (lines_of_body b)
say_body h n b s o =
    let m = h.maximum in
    let k₂ = knows₂ h n b s.maximum o.inputs o.latches in
    let k₃ = knows₃ h n b s.maximum o.inputs o.latches o.gates in
    let lows : nexts_low m b.latches ≡ true =
    ap (λ m. nexts_low m b.latches) (sym (max₃ h n b)) ∙ nexts_low_lem (full₃ h n b).reader.model.maximum (full₃ h n b).reader.defined (vars₃ b) b.latches k₃ o.nexts in
    let out : b.output.code ≤ 2 * (full₃ h n b).reader.model.maximum + 1 = known_low (full₃ h n b).reader.model.maximum (full₃ h n b).reader.defined (vars₃ b) b.output k₃ o.output in
    let low₂ : (u : ℕ) → member u (vars₂ b) ≡ true → u ≤ m = λ u e. let a = k₂.low u e in let c = max₂ h n b in omega arith in
    sayable_append (map input_line b.inputs) _ (say_inputs b.inputs (fresh_low m (0 ∷ []) b.inputs s.maximum o.inputs))
    (sayable_append (map latch_line b.latches) _ (say_latches m b.latches s.maximum (fresh_low m (vars₁ b) (literals b.latches) s.maximum o.latches) lows)
    (say_one b.output.code (let c = max₃ h n b in let d = s.maximum in omega arith), say_gates m (vars₂ b) b.gates s.maximum low₂ o.gates))

none_malformed : (b : Body) (ss : List Symbol) → NoneMalformed (lines_of_body b ++ map symbol_line ss)
none_malformed b ss =
    malformed_append (lines_of_body b) _
    (malformed_append (map input_line b.inputs) _ (ones b.inputs)
    (malformed_append (map latch_line b.latches) _ (twos b.latches) ((λ e. let z : ◌≡◌ {A = ℕ} 0 1 = cc in omega arith), threes b.gates)))
    (symbols ss)
  where
    ones : (ls : List Literal) → NoneMalformed (map input_line ls)
    ones [] = tt
    ones (l ∷ ls) = ((λ e. let z : ◌≡◌ {A = ℕ} 0 1 = cc in omega arith), ones ls)

    twos : (ls : List Latch) → NoneMalformed (map latch_line ls)
    twos [] = tt
    twos (l ∷ ls) = ((λ e. let z : ◌≡◌ {A = ℕ} 0 1 = cc in omega arith), twos ls)

    threes : (gs : List Gate) → NoneMalformed (map gate_line gs)
    threes [] = tt
    threes (g ∷ gs) = ((λ e. let z : ◌≡◌ {A = ℕ} 0 1 = cc in omega arith), threes gs)

    symbols : (ss : List Symbol) → NoneMalformed (map symbol_line ss)
    symbols [] = tt
    symbols (s ∷ ss) = ((λ e. let z : ◌≡◌ {A = ℕ} 0 1 = cc in omega arith), symbols ss)

-- a model's body, and soundness by it
abbrev pub body_for : Record → List Gate → Body
body_for r gs = record { inputs = input_literals r; latches = latches_of r; output = r.output; gates = gates_of r gs }

source_vars : (r : Record) (gs : List Gate) → source_variables r ≡ vars₂ (body_for r gs)
source_vars r gs = defined_append (0 ∷ []) (input_literals r) (literals (latches_of r))

all_vars : (r : Record) (gs : List Gate) → variables r gs ≡ vars₃ (body_for r gs)
all_vars r gs = ap (λ vs. defined vs (outputs (gates_of r gs))) (source_vars r gs)

pub ordered_of : (r : Record) (gs : List Gate) → Soundness r gs → Ordered r.maximum (body_for r gs)
ordered_of r gs s =
    let m = r.maximum in
    let p = and_parts (all_fresh m (0 ∷ []) (input_literals r)) _ (sym (fresh_append m (0 ∷ []) (input_literals r) (literals (latches_of r))) ∙ s.fresh) in
    record {
      inputs = p.0;
      latches = p.1;
      gates = sym (ap (λ vs. gates_ordered m vs (gates_of r gs)) (source_vars r gs)) ∙ s.ordered;
      nexts = sym (ap (λ vs. nexts_known vs (latches_of r)) (all_vars r gs)) ∙ s.next_known;
      output = sym (ap (λ vs. known vs r.output) (all_vars r gs)) ∙ s.output_known;
    }

pub sound_from : (r : Record) (gs : List Gate) → Sizes r (length gs) → event_count (inputs_of r) ≤ 12 → answer_count (inputs_of r) ≤ 12 → Ordered r.maximum (body_for r gs) → Blanks r gs → sound r gs ≡ true
unfolding sound
sound_from r gs z e a o b =
    let m = r.maximum in
    and_from (sized r (length gs)) _ (let z₀ = z.maximum in let z₁ = z.inputs in let z₂ = z.latches in let z₃ = z.gates in let z₄ = z.all in let z₅ = z.table in let z₆ = z.input_places in let z₇ = z.latch_places in grind (arith, nat_tests))
    (and_from (sides_fit r) _ (grind (arith, nat_tests))
    (and_from (all_fresh m (0 ∷ []) (sources r)) _
    (fresh_append m (0 ∷ []) (input_literals r) (literals (latches_of r)) ∙ and_from (all_fresh m (0 ∷ []) (input_literals r)) _ o.inputs o.latches)
    (and_from (gates_ordered m (source_variables r) (gates_of r gs)) _ (ap (λ vs. gates_ordered m vs (gates_of r gs)) (source_vars r gs) ∙ o.gates)
    (and_from (every (λ l. known (variables r gs) l.next) (latches_of r)) _ (ap (λ vs. nexts_known vs (latches_of r)) (all_vars r gs) ∙ o.nexts)
    (and_from (known (variables r gs) r.output) _ (ap (λ vs. known vs r.output) (all_vars r gs) ∙ o.output)
    (blanks_past r gs b))))))

-- what stands after the symbols, both ways
empty_lines : lines_of [] ≡ []
unfolding lines_of
empty_lines = refl

comment_lines : (rest : List ℕ) → lines_of (99 ∷ 10 ∷ rest) ≡ comment ∷ lines_of rest
comment_lines rest = texts_lines (comment ∷ []) rest (record { proper = tt; within = refl }, tt)

pub record Ended (at : ℕ) (tail : List ℕ) (st : State) : Type 0 where
  pub state : State
  pub is : folded at (lines_of tail) st ≡ Ok state
  pub model : state.reader.model ≡ st.reader.model
  pub gates : state.gates ≡ st.gates

tail_forward : (at : ℕ) (tail : List ℕ) (st : State) → st.reader.section ≡ Symbols → Tail tail → sides_on st.reader.model ≡ Ok tt → Ended at tail st
tail_forward at tail st e t s =
    ⊎_elim
    (λ z. record {
      state = st;
      is = ap (λ x. folded at (lines_of x) st) z ∙ ap (λ x. folded at x st) empty_lines ∙ end_forward at st e ∙ ap (λ x. and_then x λ _. Ok st) s;
      model = refl;
      gates = refl;
    })
    (λ z.
    let u = state_of (commented st.reader) st.gates in
    record {
      state = u;
      is = ap (λ x. folded at (lines_of x) st) z.1 ∙ ap (λ x. folded at x st) (comment_lines z.0) ∙ comment_forward at (lines_of z.0) st e ∙ ap (λ x. and_then x λ _. Ok u) s;
      model = refl;
      gates = refl;
    })
    t

some_lines : (bs : List ℕ) (o : Option Parts) → cut_at 10 bs ≡ o → lines_of bs ≡ [] → bs ≡ []
some_lines bs None c e =
    nil_from_length bs (
    cond_both (eqb (length bs) 0) [] (malformed ∷ []) (λ l. l ≡ [] → length bs ≡ 0) (λ z _. eqb-true (length bs) 0 z) (λ _ d. grind arith)
    (sym (lines_end bs (sym c)) ∙ e))
some_lines bs (Some p) c e = absurd (
    let d = sym (lines_cut bs p.front p.back (sym c)) ∙ e in
    let z : ◌≡◌ {A = ℕ} 0 1 = cc in omega arith)

tail_backward : (bs : List ℕ) (cs : List Content) → lines_of bs ≡ cs → TailLines cs → Tail bs
tail_backward bs cs e t =
    ⊎_elim
    (λ z. inl (some_lines bs (cut_at 10 bs) refl (e ∙ z)))
    (λ z.
    let f = first_line bs comment z.0 (e ∙ z.1) (λ d. let y : ◌≡◌ {A = ℕ} 0 1 = cc in omega arith) in
    inr (f.rest, f.is))
    t

sides_forward : (r : Record) → event_count (inputs_of r) ≤ 12 → answer_count (inputs_of r) ≤ 12 → sides_on r ≡ Ok tt
sides_forward r e a = grind (arith, nat_tests)

sides_backward : (r : Record) → sides_on r ≡ Ok tt → (event_count (inputs_of r) ≤ 12) × (answer_count (inputs_of r) ≤ 12)
sides_backward r h =
    ⊎_elim
    (λ t. let p = and_parts (leb (event_count (inputs_of r)) 12) (leb (answer_count (inputs_of r)) 12) t in (leb-true _ _ p.0, leb-true _ _ p.1))
    (λ f. absurd (no_err fault.SideTooLarge tt (sym (cond-false (leb (event_count (inputs_of r)) 12 && leb (answer_count (inputs_of r)) 12) _ _ f) ∙ h)))
    (cases_Bool (leb (event_count (inputs_of r)) 12 && leb (answer_count (inputs_of r)) 12))

-- the record that is read is the model's
same_record : (r : Record) (gs : List Gate) (ss : List Symbol) → Soundness r gs → Holds (header_for r) (length gs) (body_for r gs) ss
    → ((j : ℕ) → j < r.input_count → answers? (get_or r.inputs j blank_input).side ≡ names_answer ss j)
    → read (header_for r) (body_for r gs) ss ≡ r
same_record r gs ss s k sides =
    let b = body_for r gs in
    let h = header_for r in
    let m = read h b ss in
    let z = s.sizes in
    let bl = blanks_of r gs s.blank in
    let kb = k.blanks in
    let li : length m.inputs ≡ length r.inputs = k.input_places ∙ sym z.input_places in
    let ll : length m.latches ≡ length r.latches = k.latch_places ∙ sym z.latch_places in
    let inputs : m.inputs ≡ r.inputs =
    inputs_same r.input_count m.inputs r.inputs (let a = k.input_places in let c = z.inputs in omega arith) li k.inputs
    (λ j l. k.sides j l ∙ sym (sides j l))
    (kb.inputs ∙ ap (λ x. replicate (x - r.input_count) blank_input) li ∙ sym bl.inputs) in
    let latches : m.latches ≡ r.latches =
    lists_same r.latch_count m.latches r.latches k.latches
    (kb.latches ∙ ap (λ x. replicate (x - r.latch_count) blank_latch) ll ∙ sym bl.latches) in
    ap (λ x. with_inputs x (with_latches m.latches r)) inputs ∙ ap (λ y. with_inputs r.inputs (with_latches y r)) latches

same_table : (r : Record) (gs : List Gate) (ss : List Symbol) → Soundness r gs → Holds (header_for r) (length gs) (body_for r gs) ss → table (length gs) (body_for r gs) ≡ gs
same_table r gs ss s k =
    lists_same r.gate_count (table (length gs) (body_for r gs)) gs k.gates
    (k.blanks.gates ∙ ap (λ x. replicate (x - r.gate_count) blank_gate) k.gate_places ∙ sym (blanks_of r gs s.blank).gates)

-- a file of a model is read as that model
module _ (bs : List ℕ) (r : Record) (gs : List Gate) (a : Accepts bs r gs) where
  sound_parts : Soundness r gs
  sound_parts = soundness r gs a.model

  given_sizes : Sized (header_for r) (length gs)
  given_sizes =
      let z = sound_parts.sizes in
      record { maximum = z.maximum; inputs = z.inputs; latches = z.latches; outputs = refl; gates = z.gates; all = z.all; table = z.table }

  given_inputs : length (input_literals r) ≡ r.input_count
  given_inputs =
      length-map (inputs_of r) (λ i. i.literal)
      ∙ length-take-le r.input_count r.inputs (let z = sound_parts.sizes.inputs in let y = sound_parts.sizes.input_places in omega arith)

  given_latches : length (latches_of r) ≡ r.latch_count
  given_latches = length-take-le r.latch_count r.latches (let z = sound_parts.sizes.latches in let y = sound_parts.sizes.latch_places in omega arith)

  given_gates : length (gates_of r gs) ≡ r.gate_count
  given_gates = length-take-le r.gate_count gs sound_parts.sizes.table

  given_ordered : Ordered r.maximum (body_for r gs)
  given_ordered = ordered_of r gs sound_parts

  given_holds : Holds (header_for r) (length gs) (body_for r gs) a.file.symbols
  given_holds = holds (header_for r) (length gs) (body_for r gs) a.file.symbols r given_sizes given_inputs given_latches given_gates refl a.file.named

  given_small : Small (header_for r)
  given_small =
      let z = sound_parts.sizes in
      record {
        maximum = omega (arith, z.maximum);
        inputs = omega (arith, z.inputs);
        latches = omega (arith, z.latches);
        outputs = omega arith;
        gates = omega (arith, z.gates);
      }

  given_counts : (k : SymbolKind) → count_of r k ≤ 65535
  given_counts kind.Input = omega (arith, sound_parts.sizes.inputs)
  given_counts kind.Latch = omega (arith, sound_parts.sizes.latches)
  given_counts kind.Output = omega arith

  after_header : List ℕ
  after_header = texts (body_lines r gs) ++ (symbol_texts a.file.symbols ++ a.file.tail)

  given_cut : cut_at 10 bs ≡ Some (record { front = header_text (header_for r); back = after_header })
  unfolding after_header
  given_cut =
      ap (cut_at 10) (a.file.is ∙ append_assoc (header_text (header_for r)) (10 ∷ texts (body_lines r gs)) (symbol_texts a.file.symbols ++ a.file.tail))
      ∙ cut_text 10 (header_text (header_for r)) (texts (body_lines r gs) ++ (symbol_texts a.file.symbols ++ a.file.tail)) (header_within (header_for r) given_small)

  given_lines : lines_of after_header ≡ lines_of_body (body_for r gs) ++ (map symbol_line a.file.symbols ++ lines_of a.file.tail)
  unfolding after_header
  given_lines =
      texts_lines (body_lines r gs) (symbol_texts a.file.symbols ++ a.file.tail) (say_body (header_for r) (length gs) (body_for r gs) given_sizes given_ordered)
      ∙ ap (λ l. body_lines r gs ++ l) (texts_lines (map symbol_line a.file.symbols) a.file.tail (well_sayable a.file.symbols [] r given_counts a.file.named))

  given_end : (t : State) × (folded 2 (lines_of after_header) (state_of (start_of (header_for r)) (replicate (length gs) blank_gate)) ≡ Ok t) × (t.reader.model ≡ r) × (t.gates ≡ gs)
  given_end =
      let h = header_for r in
      let n = length gs in
      let b = body_for r gs in
      let ss = a.file.symbols in
      let fine = fine_forward h n b given_sizes given_inputs given_latches given_gates given_ordered in
      let f = body_forward h n b (map symbol_line ss ++ lines_of a.file.tail) fine in
      let ok = well_forward ss [] (state₄ h n b).reader r (flagged₄ h n b r given_sizes refl refl) a.file.named in
      let s = symbols_forward ss f.0 (state₄ h n b) (lines_of a.file.tail) refl ok in
      let st = state_of (puts_s ss (state₄ h n b).reader) (state₄ h n b).gates in
      let model : st.reader.model ≡ r = read_model h n b ss ∙ same_record r gs ss sound_parts given_holds a.file.sides in
      let gates : st.gates ≡ gs = table₃ h n b ∙ same_table r gs ss sound_parts given_holds in
      let e = tail_forward (f.0 + length ss) a.file.tail st (puts_section ss (state₄ h n b).reader) a.file.ending (ap sides_on model ∙ sides_forward r sound_parts.events sound_parts.answers) in (
        e.state,
        ap (λ l. folded 2 l (state_of (start_of h) (replicate n blank_gate))) given_lines ∙ f.1 ∙ s ∙ e.is,
        e.model ∙ model,
        e.gates ∙ gates,
      )

  pub accept_forward : fill_of bs (length gs) ≡ Ok (filling r gs)
  unfolding fill_of body_of
  accept_forward =
      let h = header_for r in
      let n = length gs in
      let e = given_end in
      cond-false (ltb 65536 (length bs)) _ _ (let s = a.short in grind (arith, nat_tests))
      ∙ ap (headed n) given_cut
      ∙ ap (sized_then n after_header) (header_text_lem h given_small)
      ∙ ap (λ x. and_then x λ _. body_of h n after_header) (sizes_forward h n given_sizes)
      ∙ ap (λ x. and_then x λ st. Ok (filling st.reader.model st.gates)) e.1
      ∙ ap (λ m. Ok (filling m e.0.gates)) e.2 ∙ ap (λ g. Ok (filling r g)) e.3

-- what is read is a file of the model that it is read as
pub record Reads (h : Header) (n : ℕ) (bs : List ℕ) (m : Record) (gs : List Gate) : Type 0 where
  pub body : Body
  pub fine : Fine h n body
  pub symbols : List Symbol
  pub tail : List ℕ
  pub text : bs ≡ texts (lines_of_body body) ++ (symbol_texts symbols ++ tail)
  pub named : well_named (read h body symbols) [] symbols ≡ true
  pub ending : Tail tail
  pub sides : sides_on (read h body symbols) ≡ Ok tt
  pub model : m ≡ read h body symbols
  pub gates : gs ≡ table n body

reads : (h : Header) (n : ℕ) (bs : List ℕ) (t : State) → Sized h n → folded 2 (lines_of bs) (state_of (start_of h) (replicate n blank_gate)) ≡ Ok t → Reads h n bs t.reader.model t.gates
reads h n bs t s e =
    let b = body_backward h n (lines_of bs) t e in
    let l = symbols_backward b.rest b.at (state₄ h n b.body) t refl b.others in
    let ss = l.symbols in
    let lines : lines_of bs ≡ (lines_of_body b.body ++ map symbol_line ss) ++ l.tail =
    b.is ∙ ap (λ r. lines_of_body b.body ++ r) l.is ∙ sym (append_assoc (lines_of_body b.body) (map symbol_line ss) l.tail) in
    let f = lines_texts bs (lines_of_body b.body ++ map symbol_line ss) l.tail lines (none_malformed b.body ss) in
    let model = read_model h n b.body ss in
    record {
      body = b.body;
      fine = b.fine;
      symbols = ss;
      tail = f.rest;
      text = f.is ∙ ap (λ x. x ++ f.rest) (texts_append (lines_of_body b.body) (map symbol_line ss)) ∙ append_assoc (texts (lines_of_body b.body)) (symbol_texts ss) f.rest;
      named = well_backward ss [] (state₄ h n b.body).reader (read h b.body ss) (flagged₄ h n b.body (read h b.body ss) s refl refl) l.fine (sayable_back (lines_of_body b.body) (map symbol_line ss) f.sayable);
      ending = tail_backward f.rest l.tail f.others l.ending;
      sides = sym (ap sides_on model) ∙ l.sides;
      model = l.model ∙ model;
      gates = l.gates ∙ table₃ h n b.body;
    }

reads_accepts : (h : Header) (n : ℕ) (bs rest : List ℕ) (m : Record) (gs : List Gate) → length bs ≤ 65536 → Small h → Sized h n → bs ≡ header_text h ++ 10 ∷ rest → Reads h n rest m gs → Accepts bs m gs × (length gs ≡ n)
reads_accepts h n bs rest m gs short small s is k =
    let b = k.body in
    let ss = k.symbols in
    let r = read h b ss in
    let T = table n b in
    let f = k.fine in
    let c = holds h n b ss r s f.input_count f.latch_count f.gate_count refl k.named in
    let o = fine_backward h n b s f in
    let hd : header_for r ≡ h = ap (λ (x : ℕ). record { maximum = h.maximum; inputs = h.inputs; latches = h.latches; outputs = x; gates = h.gates }) (sym s.outputs) in
    let sameBody : body_for r T ≡ b =
    ap (λ (x : List Literal). record { inputs = x; latches = latches_of r; output = b.output; gates = gates_of r T }) c.inputs
    ∙ ap (λ (x : List Latch). record { inputs = b.inputs; latches = x; output = b.output; gates = gates_of r T }) c.latches
    ∙ ap (λ (x : List Gate). record { inputs = b.inputs; latches = b.latches; output = b.output; gates = x }) c.gates in
    let sd = sides_backward r k.sides in
    let sz : Sizes r (length T) =
    record {
      maximum = s.maximum;
      inputs = s.inputs;
      latches = s.latches;
      gates = s.gates;
      all = s.all;
      table = let e = c.gate_places in omega (arith, s.table);
      input_places = c.input_places;
      latch_places = c.latch_places;
    } in
    let snd = sound_from r T sz sd.0 sd.1 (subst (Ordered h.maximum) (sym sameBody) o) c.blanks in
    let text : bs ≡ body r T ++ (symbol_texts ss ++ k.tail) =
    is ∙ ap (λ x. header_text h ++ 10 ∷ x) k.text
    ∙ ap (λ x. header_text x ++ 10 ∷ (texts (lines_of_body b) ++ (symbol_texts ss ++ k.tail))) (sym hd)
    ∙ ap (λ x. header_text (header_for r) ++ 10 ∷ (texts (lines_of_body x) ++ (symbol_texts ss ++ k.tail))) (sym sameBody)
    ∙ sym (append_assoc (header_text (header_for r)) (10 ∷ texts (body_lines r T)) (symbol_texts ss ++ k.tail)) in
    let acc : Accepts bs r T =
    record {
      short = short;
      file = record { symbols = ss; tail = k.tail; is = text; named = k.named; sides = c.sides; ending = k.ending };
      model = snd;
    } in
    (subst (λ g. Accepts bs m g) (sym k.gates) (subst (λ x. Accepts bs x T) (sym k.model) acc), ap length k.gates ∙ c.gate_places)

headed_took : (n : ℕ) (o : Option Parts) (d : Filled) → headed n o ≡ Ok d → (p : Parts) × (o ≡ Some p) × (sized_then n p.back (header_of p.front) ≡ Ok d)
headed_took n None d e = absurd (no_err fault.BadHeader d e)
headed_took n (Some p) d e = (p, refl, e)

sized_took : (n : ℕ) (bs : List ℕ) (o : Option Header) (d : Filled) → sized_then n bs o ≡ Ok d → (h : Header) × (o ≡ Some h) × (sized_of h n ≡ Ok tt) × (body_of h n bs ≡ Ok d)
sized_took n bs None d e = absurd (no_err fault.BadHeader d e)
sized_took n bs (Some h) d e =
    let a = then_took (sized_of h n) (λ _. body_of h n bs) d e in
    (h, refl, unit_ok _ a.0 a.1, a.2)

body_took : (h : Header) (n : ℕ) (bs : List ℕ) (d : Filled) → body_of h n bs ≡ Ok d → (t : State) × (folded 2 (lines_of bs) (state_of (start_of h) (replicate n blank_gate)) ≡ Ok t) × (filling t.reader.model t.gates ≡ d)
unfolding body_of
body_took h n bs d e =
    let a = then_took (folded 2 (lines_of bs) (state_of (start_of h) (replicate n blank_gate))) (λ st. Ok (filling st.reader.model st.gates)) d e in
    (a.0, a.1, let k = a.2 in (cc))

pub accept_backward : (bs : List ℕ) (n : ℕ) (d : Filled) → fill_of bs n ≡ Ok d → Accepts bs d.model d.gates × (length d.gates ≡ n)
unfolding fill_of
accept_backward bs n d e =
    let a = cond_took (ltb 65536 (length bs)) fault.FileTooLong (headed n (cut_at 10 bs)) d e in
    let p = headed_took n (cut_at 10 bs) d a.1 in
    let q = sized_took n p.0.back (header_of p.0.front) d p.2 in
    let t = body_took q.0 n p.0.back d q.3 in
    let s = sizes_backward q.0 n q.2 in
    let g = header_gives p.0.front q.0 q.1 in
    let c = cut_gives 10 bs p.0 p.1 in
    let k = reads q.0 n p.0.back t.0 s t.1 in
    subst (λ x. Accepts bs x.model x.gates × (length x.gates ≡ n)) t.2
    (reads_accepts q.0 n bs p.0.back t.0.reader.model t.0.gates (let f = a.0 in grind (arith, nat_tests)) g.1 s (c.0 ∙ ap (λ x. x ++ 10 ∷ p.0.back) g.0) k)
