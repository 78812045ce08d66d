-- A file's body, section after section, from its things to its lines and back.
use Rattle.std.proofs.Common.{◌≡◌, ℕ, ◌+◌, true, false, eqb, List, [], ◌∷◌, ◌++◌, map, length, replicate, Ok, sym, refl, ap, ◌∙◌, append_assoc, arith}
use Rattle.std.proofs.lemmas.Bool.{cond-true, cond-false, eq-eqb}
use Rattle.literal.specs.declared.Literal.{Literal}
use Rattle.circuit.specs.declared.record.Gate.{Gate}
use Rattle.circuit.specs.declared.record.Latch.{Latch}
use Rattle.circuit.specs.declared.record.Record.{Record}
use Rattle.circuit.specs.Parts.{blank_gate, blank_input, blank_latch}
use Rattle.aiger.specs.declared.fault.ReadFault.TheVariants as fault
use Rattle.aiger.specs.declared.line.Header.{Header}
use Rattle.aiger.specs.declared.reader.Section.TheVariants.{Latches, Output, Symbols}
use Rattle.aiger.specs.Line.{Content, one}
use Rattle.aiger.specs.Advance.{State, state_of, and_then, beside, over, lit, goto, leave_inputs, leave_latches, leave_gates, close_on, output_on, put_output, with_inputs, with_latches, with_output, event_input, advance, end_on, start_of, raw_start, model_of}
use Rattle.aiger.specs.Read.{folded, ended}
use Rattle.aiger.specs.Format.{input_line, latch_line, gate_line}
use Rattle.aiger.proofs.Sections.{Lines, puts, all_ok, then_took, section_forward, section_backward}
use Rattle.aiger.proofs.Counted.{no_err, unit_ok, one_took, cond_took, put_i, ok_i, inputs_section, put_l, ok_l, latches_section, put_g, ok_g, gates_section}
use Rattle.aiger.proofs.Tables.{set_all, after_inputs, after_latches, after_gates}

-- what a body's lines define
pub record Body : Type 0 where
  pub inputs : List Literal
  pub latches : List Latch
  pub output : Literal
  pub gates : List Gate

abbrev pub lines_of_body : Body → List Content
lines_of_body b = map input_line b.inputs ++ (map latch_line b.latches ++ (one b.output.code ∷ map gate_line b.gates))

-- the states at the beginning and the end of each section
abbrev pub state₀ : Header → ℕ → State
state₀ h n = state_of (raw_start h) (replicate n blank_gate)

abbrev pub full₀ : Header → ℕ → Body → State
full₀ h n b = puts put_i b.inputs (state₀ h n)

abbrev pub goes : State → State
goes st = state_of (goto Latches st.reader) st.gates

abbrev pub state₁ : Header → ℕ → Body → State
state₁ h n b = goes (full₀ h n b)

abbrev pub full₁ : Header → ℕ → Body → State
full₁ h n b = puts put_l b.latches (state₁ h n b)

abbrev pub outgoing : State → State
outgoing st = state_of (goto Output st.reader) st.gates

abbrev pub state₂ : Header → ℕ → Body → State
state₂ h n b = outgoing (full₁ h n b)

abbrev pub state₃ : Header → ℕ → Body → State
state₃ h n b = state_of (put_output b.output (state₂ h n b).reader) (state₂ h n b).gates

abbrev pub full₃ : Header → ℕ → Body → State
full₃ h n b = puts put_g b.gates (state₃ h n b)

abbrev pub state₄ : Header → ℕ → Body → State
state₄ h n b = state_of (goto Symbols (full₃ h n b).reader) (full₃ h n b).gates

-- the record that a body gives
abbrev pub record_of : Header → Body → Record
record_of h b =
    with_output b.output
    (with_latches (set_all (replicate 32 blank_latch) 0 b.latches)
    (with_inputs (set_all (replicate 24 blank_input) 0 (map event_input b.inputs)) (model_of h)))

pub model₁ : (h : Header) (n : ℕ) (b : Body) → (full₀ h n b).reader.model ≡ with_inputs (set_all (replicate 24 blank_input) 0 (map event_input b.inputs)) (model_of h)
model₁ h n b = (after_inputs b.inputs (state₀ h n)).model

pub model₂ : (h : Header) (n : ℕ) (b : Body) → (full₁ h n b).reader.model ≡ with_latches (set_all (replicate 32 blank_latch) 0 b.latches) (with_inputs (set_all (replicate 24 blank_input) 0 (map event_input b.inputs)) (model_of h))
model₂ h n b =
    (after_latches b.latches (state₁ h n b)).model
    ∙ ap (λ m. with_latches (set_all m.latches 0 b.latches) m) (model₁ h n b)

pub model₃ : (h : Header) (n : ℕ) (b : Body) → (full₃ h n b).reader.model ≡ record_of h b
model₃ h n b = (after_gates b.gates (state₃ h n b)).model ∙ ap (with_output b.output) (model₂ h n b)

pub table₃ : (h : Header) (n : ℕ) (b : Body) → (full₃ h n b).gates ≡ set_all (replicate n blank_gate) 0 b.gates
table₃ h n b =
    (after_gates b.gates (state₃ h n b)).gates
    ∙ ap (λ g. set_all g 0 b.gates) ((after_latches b.latches (state₁ h n b)).gates ∙ (after_inputs b.inputs (state₀ h n)).gates)

pub names₃ : (h : Header) (n : ℕ) (b : Body) → (full₃ h n b).reader.names ≡ (raw_start h).names
names₃ h n b =
    (after_gates b.gates (state₃ h n b)).names
    ∙ (after_latches b.latches (state₁ h n b)).names ∙ (after_inputs b.inputs (state₀ h n)).names

-- a body that may come after its header
pub record Fine (h : Header) (n : ℕ) (b : Body) : Type 0 where
  pub input_count : length b.inputs ≡ h.inputs
  pub latch_count : length b.latches ≡ h.latches
  pub gate_count : length b.gates ≡ h.gates
  pub inputs : all_ok put_i ok_i b.inputs (state₀ h n) ≡ true
  pub latches : all_ok put_l ok_l b.latches (state₁ h n b) ≡ true
  pub output : over (state₂ h n b).reader b.output ≡ false
  pub gates : all_ok put_g ok_g b.gates (state₃ h n b) ≡ true
  pub closed : close_on (full₃ h n b).reader ≡ Ok tt

-- a section that is full is left
inputs_leave : (st : State) → st.reader.place ≡ st.reader.model.input_count → inputs_section.leave st ≡ latches_section.leave (goes st)
unfolding inputs_section latches_section leave_inputs
inputs_leave st e =
    ap (λ r. Ok (state_of r st.gates)) (cond-true (eqb st.reader.place st.reader.model.input_count) _ _ (eq-eqb _ _ e))

latches_leave : (st : State) → st.reader.place ≡ st.reader.model.latch_count → latches_section.leave st ≡ Ok (outgoing st)
unfolding latches_section leave_latches
latches_leave st e =
    ap (λ r. Ok (state_of r st.gates)) (cond-true (eqb st.reader.place st.reader.model.latch_count) _ _ (eq-eqb _ _ e))

gates_leave : (st : State) → st.reader.place ≡ st.reader.model.gate_count → gates_section.leave st ≡ beside st.gates (and_then (close_on st.reader) λ _. Ok (goto Symbols st.reader))
unfolding gates_section leave_gates
gates_leave st e =
    ap (beside st.gates) (cond-true (eqb st.reader.place st.reader.model.gate_count) _ _ (eq-eqb _ _ e))

output_forward : (at : ℕ) (st : State) (l : Literal) → over (outgoing st).reader l ≡ false
    → advance at (one l.code) (outgoing st) ≡ gates_section.leave (state_of (put_output l (outgoing st).reader) st.gates)
unfolding advance output_on gates_section
output_forward at st l e = ap (beside st.gates) (cond-false (over (outgoing st).reader l) _ _ e)

output_backward : (at : ℕ) (c : Content) (st u : State) → advance at c (outgoing st) ≡ Ok u
    → (l : Literal) × (c ≡ one l.code) × (over (outgoing st).reader l ≡ false) × (gates_section.leave (state_of (put_output l (outgoing st).reader) st.gates) ≡ Ok u)
unfolding advance output_on gates_section
output_backward at c st u e =
    let r = (outgoing st).reader in
    let a = one_took (λ a. beside st.gates (output_on at (lit a) r)) (fault.Malformed at) c u e in
    let b = then_took (output_on at (lit a.0) r) (λ r. Ok (state_of r st.gates)) u a.2 in
    let d = cond_took (over r (lit a.0)) (fault.BadLiteral at) _ b.0 b.1 in
    (lit a.0, a.1, d.0, ap (beside st.gates) d.1 ∙ b.2)

output_open : (at : ℕ) (st t : State) → ended at (outgoing st) ≡ Ok t → ⊥
unfolding end_on
output_open at st t e = no_err (fault.Malformed at) t e

place₀ : (h : Header) (n : ℕ) (b : Body) → length b.inputs ≡ h.inputs → (full₀ h n b).reader.place ≡ (full₀ h n b).reader.model.input_count
place₀ h n b e =
    (after_inputs b.inputs (state₀ h n)).place ∙ (let z : 0 + length b.inputs ≡ h.inputs = omega arith in z)
    ∙ sym (ap (λ m. m.input_count) (model₁ h n b))

place₁ : (h : Header) (n : ℕ) (b : Body) → length b.latches ≡ h.latches → (full₁ h n b).reader.place ≡ (full₁ h n b).reader.model.latch_count
place₁ h n b e =
    (after_latches b.latches (state₁ h n b)).place ∙ (let z : 0 + length b.latches ≡ h.latches = omega arith in z)
    ∙ sym (ap (λ m. m.latch_count) (model₂ h n b))

place₃ : (h : Header) (n : ℕ) (b : Body) → length b.gates ≡ h.gates → (full₃ h n b).reader.place ≡ (full₃ h n b).reader.model.gate_count
place₃ h n b e =
    (after_gates b.gates (state₃ h n b)).place ∙ (let z : 0 + length b.gates ≡ h.gates = omega arith in z)
    ∙ sym (ap (λ m. m.gate_count) (model₃ h n b))

lines_assoc : (b : Body) (ds : List Content) → lines_of_body b ++ ds ≡ map input_line b.inputs ++ (map latch_line b.latches ++ (one b.output.code ∷ (map gate_line b.gates ++ ds)))
lines_assoc b ds =
    append_assoc (map input_line b.inputs) _ ds
    ∙ ap (λ r. map input_line b.inputs ++ r) (append_assoc (map latch_line b.latches) (one b.output.code ∷ map gate_line b.gates) ds)

in₀ : (h : Header) (n : ℕ) → inputs_section.In (state₀ h n)
unfolding inputs_section
in₀ h n = (refl, omega arith)

left₀ : (h : Header) (n : ℕ) → inputs_section.left (state₀ h n) ≡ h.inputs
unfolding inputs_section
left₀ h n = omega arith

in₁ : (h : Header) (n : ℕ) (b : Body) → latches_section.In (state₁ h n b)
unfolding latches_section
in₁ h n b = (refl, omega arith)

left₁ : (h : Header) (n : ℕ) (b : Body) → latches_section.left (state₁ h n b) ≡ h.latches
unfolding latches_section
left₁ h n b = let e = ap (λ m. m.latch_count) (model₁ h n b) in omega arith

in₃ : (h : Header) (n : ℕ) (b : Body) → gates_section.In (state₃ h n b)
unfolding gates_section
in₃ h n b = (refl, omega arith)

left₃ : (h : Header) (n : ℕ) (b : Body) → gates_section.left (state₃ h n b) ≡ h.gates
unfolding gates_section
left₃ h n b = let e = ap (λ m. m.gate_count) (model₂ h n b) in omega arith

start_folded : (h : Header) (n : ℕ) (cs : List Content) → folded 2 cs (state_of (start_of h) (replicate n blank_gate)) ≡ and_then (inputs_section.leave (state₀ h n)) λ u. folded 2 cs u
unfolding start_of inputs_section
start_folded h n cs = refl

pub body_forward : (h : Header) (n : ℕ) (b : Body) (ds : List Content) → Fine h n b
    → (at : ℕ) × (folded 2 (lines_of_body b ++ ds) (state_of (start_of h) (replicate n blank_gate)) ≡ folded at ds (state₄ h n b))
body_forward h n b ds f =
    let gates = map gate_line b.gates ++ ds in
    let tail = map latch_line b.latches ++ (one b.output.code ∷ gates) in
    let at₁ = 2 + length b.inputs in
    let at₂ = at₁ + length b.latches in
    let at₃ = at₂ + 1 + length b.gates in (
      at₃,
      ap (λ cs. folded 2 cs (state_of (start_of h) (replicate n blank_gate))) (lines_assoc b ds)
          ∙ start_folded h n (map input_line b.inputs ++ tail)
          ∙ section_forward inputs_section b.inputs 2 (state₀ h n) tail (in₀ h n) (left₀ h n ∙ sym f.input_count) f.inputs
          ∙ ap (λ x. and_then x λ u. folded at₁ tail u) (inputs_leave (full₀ h n b) (place₀ h n b f.input_count))
          ∙ section_forward latches_section b.latches at₁ (state₁ h n b) (one b.output.code ∷ gates) (in₁ h n b) (left₁ h n b ∙ sym f.latch_count) f.latches
          ∙ ap (λ x. and_then x λ u. folded at₂ (one b.output.code ∷ gates) u) (latches_leave (full₁ h n b) (place₁ h n b f.latch_count))
          ∙ ap (λ x. and_then x λ u. folded (at₂ + 1) gates u) (output_forward at₂ (full₁ h n b) b.output f.output)
          ∙ section_forward gates_section b.gates (at₂ + 1) (state₃ h n b) ds (in₃ h n b) (left₃ h n b ∙ sym f.gate_count) f.gates
          ∙ ap (λ x. and_then x λ u. folded at₃ ds u) (gates_leave (full₃ h n b) (place₃ h n b f.gate_count)
          ∙ ap (λ x. beside (full₃ h n b).gates (and_then x λ _. Ok (goto Symbols (full₃ h n b).reader))) f.closed),
    )

pub record BodyLines (h : Header) (n : ℕ) (cs : List Content) (t : State) : Type 0 where
  pub body : Body
  pub fine : Fine h n body
  pub rest : List Content
  pub is : cs ≡ lines_of_body body ++ rest
  pub at : ℕ
  pub others : folded at rest (state₄ h n body) ≡ Ok t

-- the gates and what follows, after the other sections
gates_backward : (h : Header) (n at : ℕ) (ls : List Literal) (lats : List Latch) (o : Literal) (cs : List Content) (t : State)
    → (let b : Body = record { inputs = ls; latches = lats; output = o; gates = [] } in
    and_then (gates_section.leave (state₃ h n b)) (λ u. folded at cs u) ≡ Ok t
    → Lines gates_section h.gates at (state₃ h n b) cs t)
gates_backward h n at ls lats o cs t e =
    let b : Body = record { inputs = ls; latches = lats; output = o; gates = [] } in
    section_backward gates_section h.gates at (state₃ h n b) cs t (in₃ h n b) (left₃ h n b) e

-- the output's line
pub record OutputLine (at : ℕ) (st : State) (cs : List Content) (t : State) : Type 0 where
  pub literal : Literal
  pub rest : List Content
  pub is : cs ≡ one literal.code ∷ rest
  pub low : over (outgoing st).reader literal ≡ false
  pub others : and_then (gates_section.leave (state_of (put_output literal (outgoing st).reader) st.gates)) (λ u. folded (at + 1) rest u) ≡ Ok t

output_line : (at : ℕ) (st : State) (cs : List Content) (t : State) → folded at cs (outgoing st) ≡ Ok t → OutputLine at st cs t
output_line at st [] t e = absurd (output_open at st t e)
output_line at st (c ∷ cs) t e =
    let a = then_took (advance at c (outgoing st)) (λ u. folded (at + 1) cs u) t e in
    let b = output_backward at c st a.0 a.1 in
    record {
      literal = b.0;
      rest = cs;
      is = ap (λ d. d ∷ cs) b.1;
      low = b.2;
      others = ap (λ x. and_then x λ u. folded (at + 1) cs u) b.3 ∙ a.2;
    }

-- the gates are closed by the next literals and the output
close_took : (st : State) (at : ℕ) (cs : List Content) (t : State) → st.reader.place ≡ st.reader.model.gate_count
    → and_then (gates_section.leave st) (λ u. folded at cs u) ≡ Ok t → (close_on st.reader ≡ Ok tt) × (folded at cs (state_of (goto Symbols st.reader) st.gates) ≡ Ok t)
close_took st at cs t p e =
    let d = ap (λ x. and_then x λ u. folded at cs u) (sym (gates_leave st p)) ∙ e in
    let a = then_took (beside st.gates (and_then (close_on st.reader) λ _. Ok (goto Symbols st.reader))) (λ u. folded at cs u) t d in
    let b = then_took (and_then (close_on st.reader) λ _. Ok (goto Symbols st.reader)) (λ r. Ok (state_of r st.gates)) a.0 a.1 in
    let c = then_took (close_on st.reader) (λ _. Ok (goto Symbols st.reader)) b.0 b.1 in
    let r : goto Symbols st.reader ≡ b.0 = let k = c.2 in cc in
    let s : state_of b.0 st.gates ≡ a.0 = let k = b.2 in cc in
    (unit_ok _ c.0 c.1, ap (folded at cs) (ap (λ x. state_of x st.gates) r ∙ s) ∙ a.2)

pub body_backward : (h : Header) (n : ℕ) (cs : List Content) (t : State) → folded 2 cs (state_of (start_of h) (replicate n blank_gate)) ≡ Ok t → BodyLines h n cs t
body_backward h n cs t e =
    let i = section_backward inputs_section h.inputs 2 (state₀ h n) cs t (in₀ h n) (left₀ h n) (sym (start_folded h n cs) ∙ e) in
    let b₀ : Body = record { inputs = i.things; latches = []; output = lit 0; gates = [] } in
    let e₁ = ap (λ x. and_then x λ u. folded (2 + h.inputs) i.rest u) (sym (inputs_leave (full₀ h n b₀) (place₀ h n b₀ i.many))) ∙ i.others in
    let l = section_backward latches_section h.latches (2 + h.inputs) (state₁ h n b₀) i.rest t (in₁ h n b₀) (left₁ h n b₀) e₁ in
    let b₁ : Body = record { inputs = i.things; latches = l.things; output = lit 0; gates = [] } in
    let e₂ = ap (λ x. and_then x λ u. folded (2 + h.inputs + h.latches) l.rest u) (sym (latches_leave (full₁ h n b₁) (place₁ h n b₁ l.many))) ∙ l.others in
    let o = output_line (2 + h.inputs + h.latches) (full₁ h n b₁) l.rest t e₂ in
    let g = gates_backward h n (2 + h.inputs + h.latches + 1) i.things l.things o.literal o.rest t o.others in
    let b : Body = record { inputs = i.things; latches = l.things; output = o.literal; gates = g.things } in
    let c = close_took (full₃ h n b) (2 + h.inputs + h.latches + 1 + h.gates) g.rest t (place₃ h n b g.many) g.others in
    record {
      body = b;
      fine = record {
        input_count = i.many;
        latch_count = l.many;
        gate_count = g.many;
        inputs = i.fine;
        latches = l.fine;
        output = o.low;
        gates = g.fine;
        closed = c.0;
      };
      rest = g.rest;
      is = i.is ∙ ap (λ r. map input_line i.things ++ r) (l.is ∙ ap (λ r. map latch_line l.things ++ r) (o.is ∙ ap (λ r. one o.literal.code ∷ r) g.is))
          ∙ sym (lines_assoc b g.rest);
      at = 2 + h.inputs + h.latches + 1 + h.gates;
      others = c.1;
    }
