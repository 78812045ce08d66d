-- What the reader's state becomes by a line, or which fault the line brings.
use Rattle.std.specs.Prelude.{ℕ, ◌+◌, ◌*◌, ◌%◌, ◌<◌, ◌≤◌, Bool, true, false, cond, not, ◌&&◌, ◌||◌, List, [], ◌∷◌, replicate, Ok, Err, codes, Result, ◌==◌, nat_le, nat_lt, slice_index_or, slice_set}
use Rattle.literal.specs.declared.Literal.{Literal}
use Rattle.literal.specs.Truth.{variable_of}
use Rattle.circuit.specs.declared.record.Gate.{Gate}
use Rattle.circuit.specs.declared.record.Input.{Input}
use Rattle.circuit.specs.declared.record.Latch.{Latch}
use Rattle.circuit.specs.declared.record.Record.{Record}
use Rattle.circuit.specs.declared.record.Side.TheVariants.{Event, Answer}
use Rattle.circuit.specs.Parts.{inputs_of, latches_of, blank_input, blank_record}
use Rattle.circuit.specs.Sound.{answer_count, event_count}
use Rattle.aiger.specs.Line.{Content, one, two, three, symbol, comment, malformed, begins}
use Rattle.aiger.specs.declared.fault.ReadFault.{ReadFault}
use Rattle.aiger.specs.declared.fault.ReadFault.TheVariants as fault
use Rattle.aiger.specs.declared.line.Header.{Header}
use Rattle.aiger.specs.declared.line.SymbolKind.{SymbolKind}
use Rattle.aiger.specs.declared.line.SymbolKind.TheVariants as kind
use Rattle.aiger.specs.declared.reader.Names.{Names}
use Rattle.aiger.specs.declared.reader.Reader.{Reader}
use Rattle.aiger.specs.declared.reader.Section.{Section}
use Rattle.aiger.specs.declared.reader.Section.TheVariants.{Inputs, Latches, Output, Gates, Symbols, Comment}

abbrev pub and_then : {A B : Type 0} → Result A ReadFault → (A → Result B ReadFault) → Result B ReadFault
and_then (Ok x) f = f x
and_then (Err e) f = Err e

-- a result, with the reader as it is left in place of what an `Ok` has
abbrev pub after : {T : Type 0} → Result T ReadFault → Reader → Result Reader ReadFault
after (Ok x) r = Ok r
after (Err f) r = Err f

-- the literal of a number in a file
abbrev pub lit : ℕ → Literal
lit n = record { code = n }

abbrev pub over : Reader → Literal → Bool
over r l = nat_lt (2 * r.model.maximum + 1) l.code

abbrev pub known_to : Reader → Literal → Bool
known_to r l = slice_index_or r.defined (variable_of l) false

-- whether line `at` may define a literal
unfoldable pub fresh_on : ℕ → Literal → Reader → Result (Unit {0}) ReadFault
fresh_on at l r =
    cond (over r l || (l.code % 2 == 1 || l.code == 0)) (Err (fault.BadLiteral at))
    (cond (known_to r l) (Err (fault.DefinedTwice at)) (Ok tt))

abbrev pub goto : Section → Reader → Reader
goto s r = record { section = s; place = 0; model = r.model; defined = r.defined; names = r.names }

-- a section is left as soon as its last line is read, and one with no lines at once
unfoldable pub leave_latches : Reader → Reader
leave_latches r = cond (r.place == r.model.latch_count) (goto Output r) r

unfoldable pub leave_inputs : Reader → Reader
leave_inputs r = cond (r.place == r.model.input_count) (leave_latches (goto Latches r)) r

-- the first of the latches, from line `at` on, whose next literal is not defined; else the output
abbrev pub close_from : Reader → ℕ → List Latch → Result (Unit {0}) ReadFault
close_from r at [] = cond (known_to r r.model.output) (Ok tt) (Err (fault.Undefined at))
close_from r at (l ∷ ls) = cond (known_to r l.next) (close_from r (at + 1) ls) (Err (fault.Undefined at))

unfoldable pub close_on : Reader → Result (Unit {0}) ReadFault
close_on r = close_from r (r.model.input_count + 2) (latches_of r.model)

unfoldable pub leave_gates : Reader → Result Reader ReadFault
leave_gates r =
    cond (r.place == r.model.gate_count) (and_then (close_on r) λ _. Ok (goto Symbols r)) (Ok r)

abbrev pub define : Literal → List Bool → List Bool
define l ds = slice_set ds (variable_of l) true

abbrev pub with_inputs : List Input → Record → Record
with_inputs is m = record {
  maximum = m.maximum;
  inputs = is;
  input_count = m.input_count;
  latches = m.latches;
  latch_count = m.latch_count;
  output = m.output;
  gate_count = m.gate_count;
}

abbrev pub with_latches : List Latch → Record → Record
with_latches ls m = record {
  maximum = m.maximum;
  inputs = m.inputs;
  input_count = m.input_count;
  latches = ls;
  latch_count = m.latch_count;
  output = m.output;
  gate_count = m.gate_count;
}

abbrev pub with_output : Literal → Record → Record
with_output l m = record {
  maximum = m.maximum;
  inputs = m.inputs;
  input_count = m.input_count;
  latches = m.latches;
  latch_count = m.latch_count;
  output = l;
  gate_count = m.gate_count;
}

-- until a symbol names it, an input is set by the event
abbrev pub event_input : Literal → Input
event_input l = record { literal = l; side = Event }

abbrev pub put_input : Literal → Reader → Reader
put_input l r = record {
  section = r.section;
  place = r.place + 1;
  model = with_inputs (slice_set r.model.inputs r.place (event_input l)) r.model;
  defined = define l r.defined;
  names = r.names;
}

abbrev pub put_latch : Latch → Reader → Reader
put_latch l r = record {
  section = r.section;
  place = r.place + 1;
  model = with_latches (slice_set r.model.latches r.place l) r.model;
  defined = define l.literal r.defined;
  names = r.names;
}

abbrev pub put_output : Literal → Reader → Reader
put_output l r = record {
  section = Gates;
  place = 0;
  model = with_output l r.model;
  defined = r.defined;
  names = r.names;
}

unfoldable pub input_on : ℕ → Literal → Reader → Result Reader ReadFault
input_on at l r = and_then (fresh_on at l r) λ _. Ok (leave_inputs (put_input l r))

unfoldable pub latch_on : ℕ → Latch → Reader → Result Reader ReadFault
latch_on at l r =
    cond (over r l.next) (Err (fault.BadLiteral at))
    (and_then (fresh_on at l.literal r) λ _. Ok (leave_latches (put_latch l r)))

unfoldable pub output_on : ℕ → Literal → Reader → Result Reader ReadFault
output_on at l r = cond (over r l) (Err (fault.BadLiteral at)) (leave_gates (put_output l r))

-- the reader, and the gate table beside it
pub record State : Type 0 where
  pub reader : Reader
  pub gates : List Gate

abbrev pub state_of : Reader → List Gate → State
state_of r gs = record { reader = r; gates = gs }

abbrev pub both : {T : Type 0} → Result T ReadFault → Reader → List Gate → Result State ReadFault
both (Ok x) r gs = Ok (state_of r gs)
both (Err f) r gs = Err f

abbrev pub beside : List Gate → Result Reader ReadFault → Result State ReadFault
beside gs r = and_then r λ r. Ok (state_of r gs)

abbrev pub put_gate : Gate → Reader → Reader
put_gate g r = record {
  section = r.section;
  place = r.place + 1;
  model = r.model;
  defined = define g.output r.defined;
  names = r.names;
}

unfoldable pub gate_on : ℕ → Gate → State → Result State ReadFault
gate_on at g st =
    cond (over st.reader g.left || over st.reader g.right) (Err (fault.BadLiteral at))
    (and_then (fresh_on at g.output st.reader) λ _.
    (cond (not (known_to st.reader g.left) || not (known_to st.reader g.right)) (Err (fault.Undefined at))
    (beside (slice_set st.gates st.reader.place g) (leave_gates (put_gate g st.reader)))))

abbrev pub with_names : Record → Names → Reader → Reader
with_names m ns r = record { section = r.section; place = r.place; model = m; defined = r.defined; names = ns }

abbrev pub controllable : List ℕ → Bool
controllable name = begins (codes "controllable_") name

abbrev pub answer_input : Input → Input
answer_input i = record { literal = i.literal; side = Answer }

-- the inputs after one of them is named
abbrev pub sided_inputs : ℕ → List ℕ → List Input → List Input
sided_inputs p name is = cond (controllable name) (slice_set is p (answer_input (slice_index_or is p blank_input))) is

abbrev pub name_input : ℕ → List ℕ → Reader → Reader
name_input p name r =
    with_names (with_inputs (sided_inputs p name r.model.inputs) r.model)
    (record { inputs = slice_set r.names.inputs p true; latches = r.names.latches; output = r.names.output }) r

abbrev pub name_latch : ℕ → Reader → Reader
name_latch p r =
    with_names r.model
    (record { inputs = r.names.inputs; latches = slice_set r.names.latches p true; output = r.names.output }) r

abbrev pub name_output : Reader → Reader
name_output r =
    with_names r.model (record { inputs = r.names.inputs; latches = r.names.latches; output = true }) r

unfoldable pub symbol_on : ℕ → SymbolKind → ℕ → List ℕ → Reader → Result Reader ReadFault
symbol_on at kind.Input p name r =
    cond (nat_le r.model.input_count p || slice_index_or r.names.inputs p false) (Err (fault.BadSymbol at)) (Ok (name_input p name r))
symbol_on at kind.Latch p name r =
    cond (nat_le r.model.latch_count p || slice_index_or r.names.latches p false) (Err (fault.BadSymbol at)) (Ok (name_latch p r))
symbol_on at kind.Output p name r =
    cond (not (p == 0) || r.names.output) (Err (fault.BadSymbol at)) (Ok (name_output r))

-- a line that has to be one number, two or three
abbrev pub on_one : {A : Type 0} → (ℕ → A) → A → Content → A
on_one f d (one a) = f a
on_one f d (two a b) = d
on_one f d (three a b c) = d
on_one f d (symbol k p name) = d
on_one f d comment = d
on_one f d malformed = d

abbrev pub on_two : {A : Type 0} → (ℕ → ℕ → A) → A → Content → A
on_two f d (one a) = d
on_two f d (two a b) = f a b
on_two f d (three a b c) = d
on_two f d (symbol k p name) = d
on_two f d comment = d
on_two f d malformed = d

abbrev pub on_three : {A : Type 0} → (ℕ → ℕ → ℕ → A) → A → Content → A
on_three f d (one a) = d
on_three f d (two a b) = d
on_three f d (three a b c) = f a b c
on_three f d (symbol k p name) = d
on_three f d comment = d
on_three f d malformed = d

-- a line after the gates: a symbol, or the comment's
abbrev pub on_symbol : {A : Type 0} → (SymbolKind → ℕ → List ℕ → A) → A → A → Content → A
on_symbol f c d (one a) = d
on_symbol f c d (two a b) = d
on_symbol f c d (three a b e) = d
on_symbol f c d (symbol k p name) = f k p name
on_symbol f c d comment = c
on_symbol f c d malformed = d

abbrev pub commented : Reader → Reader
commented r = record { section = Comment; place = r.place; model = r.model; defined = r.defined; names = r.names }

abbrev pub advance_at : Section → ℕ → Content → State → Result State ReadFault
advance_at Inputs at c st = on_one (λ a. beside st.gates (input_on at (lit a) st.reader)) (Err (fault.Malformed at)) c
advance_at Latches at c st =
    on_two (λ a b. beside st.gates (latch_on at (record { literal = lit a; next = lit b }) st.reader)) (Err (fault.Malformed at)) c
advance_at Output at c st = on_one (λ a. beside st.gates (output_on at (lit a) st.reader)) (Err (fault.Malformed at)) c
advance_at Gates at c st =
    on_three (λ a b d. gate_on at (record { output = lit a; left = lit b; right = lit d }) st) (Err (fault.Malformed at)) c
advance_at Symbols at c st =
    on_symbol (λ k p name. beside st.gates (symbol_on at k p name st.reader))
    (Ok (state_of (commented st.reader) st.gates)) (Err (fault.BadSymbol at)) c
advance_at Comment at c st = Ok st

unfoldable pub advance : ℕ → Content → State → Result State ReadFault
advance at c st = advance_at st.reader.section at c st

-- the end of the file, where line `at` would stand
abbrev pub sides_on : Record → Result (Unit {0}) ReadFault
sides_on m = cond (nat_le (event_count (inputs_of m)) 12 && nat_le (answer_count (inputs_of m)) 12) (Ok tt) (Err fault.SideTooLarge)

abbrev pub end_at : Section → ℕ → Record → Result (Unit {0}) ReadFault
end_at Inputs at m = Err (fault.Malformed at)
end_at Latches at m = Err (fault.Malformed at)
end_at Output at m = Err (fault.Malformed at)
end_at Gates at m = Err (fault.Malformed at)
end_at Symbols at m = sides_on m
end_at Comment at m = sides_on m

unfoldable pub end_on : ℕ → Reader → Result (Unit {0}) ReadFault
end_on at r = end_at r.section at r.model

-- a record with a header's numbers, and the rest of another record
abbrev pub headed_by : Header → Record → Record
headed_by h b = record {
  maximum = h.maximum;
  inputs = b.inputs;
  input_count = h.inputs;
  latches = b.latches;
  latch_count = h.latches;
  output = b.output;
  gate_count = h.gates;
}

abbrev pub model_of : Header → Record
model_of h = headed_by h blank_record

-- a reader after the header, before it leaves a section with no lines
abbrev pub start_from : Record → Header → Reader
start_from b h = record {
  section = Inputs;
  place = 0;
  model = headed_by h b;
  defined = slice_set (replicate 4097 false) 0 true;
  names = record { inputs = replicate 24 false; latches = replicate 32 false; output = false };
}

abbrev pub raw_start : Header → Reader
raw_start h = start_from blank_record h

unfoldable pub start_of : Header → Reader
start_of h = leave_inputs (raw_start h)

-- how many lines a section has; one with no table has any number
abbrev pub room_of : Section → Record → ℕ
room_of Inputs m = m.input_count
room_of Latches m = m.latch_count
room_of Output m = 65536
room_of Gates m = m.gate_count
room_of Symbols m = 65536
room_of Comment m = 65536

pub record Bounds (m : Record) (n : ℕ) : Type 0 where
  pub maximum : m.maximum ≤ 4096
  pub inputs : m.input_count ≤ 24
  pub latches : m.latch_count ≤ 32
  pub gates : m.gate_count ≤ n
  pub few : m.gate_count ≤ 2048

pub record Fits (r : Reader) (n : ℕ) : Type 0 where
  pub bounds : Bounds r.model n
  pub room : r.place < room_of r.section r.model
