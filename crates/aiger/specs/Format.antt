-- Which bytes are a file of a model.
use Rattle.std.specs.Prelude.{◌≡◌, ℕ, ◌+◌, ◌-◌, ◌<◌, ◌≤◌, Bool, true, false, cond, not, ◌&&◌, ◌||◌, ◌⊎◌, List, [], ◌∷◌, ◌++◌, map, length, replicate, Ok, codes, ◌==◌, nat_lt, slice_index_or}
use Rattle.literal.specs.declared.Literal.{Literal}
use Rattle.circuit.specs.declared.record.Gate.{Gate}
use Rattle.circuit.specs.declared.record.Input.{Input}
use Rattle.circuit.specs.declared.record.Latch.{Latch}
use Rattle.circuit.specs.declared.record.Record.{Record}
use Rattle.circuit.specs.Parts.{inputs_of, latches_of, gates_of, answers?, blank_input, blank_gate}
use Rattle.circuit.specs.Sound.{sound}
use Rattle.text.specs.Number.{decimal}
use Rattle.text.specs.Cut.{without}
use Rattle.aiger.specs.Advance.{controllable}
use Rattle.aiger.specs.Read.{Answered, answered, read_of}
use Rattle.aiger.specs.Line.{Content, one, two, three, symbol, texts, header_text}
use Rattle.aiger.specs.declared.line.Header.{Header}
use Rattle.aiger.specs.declared.line.SymbolKind.{SymbolKind}
use Rattle.aiger.specs.declared.line.SymbolKind.TheVariants as kind

-- the header and the lines that a model's body is
abbrev pub header_for : Record → Header
header_for r = record {
  maximum = r.maximum;
  inputs = r.input_count;
  latches = r.latch_count;
  outputs = 1;
  gates = r.gate_count;
}

abbrev pub input_line : Literal → Content
input_line l = one l.code

abbrev pub latch_line : Latch → Content
latch_line l = two l.literal.code l.next.code

abbrev pub gate_line : Gate → Content
gate_line g = three g.output.code g.left.code g.right.code

abbrev pub input_literals : Record → List Literal
input_literals r = map (λ i. i.literal) (inputs_of r)

abbrev pub body_lines : Record → List Gate → List Content
body_lines r gs =
    map input_line (input_literals r)
    ++ (map latch_line (latches_of r) ++ (one r.output.code ∷ map gate_line (gates_of r gs)))

abbrev pub body : Record → List Gate → List ℕ
body r gs = header_text (header_for r) ++ 10 ∷ texts (body_lines r gs)

-- a symbol: what it names, and the name
pub record Symbol : Type 0 where
  pub kind : SymbolKind
  pub position : ℕ
  pub name : List ℕ

abbrev pub symbol_line : Symbol → Content
symbol_line s = symbol s.kind s.position s.name

abbrev pub symbol_texts : List Symbol → List ℕ
symbol_texts ss = texts (map symbol_line ss)

abbrev pub same_kind : SymbolKind → SymbolKind → Bool
same_kind kind.Input kind.Input = true
same_kind kind.Input kind.Latch = false
same_kind kind.Input kind.Output = false
same_kind kind.Latch kind.Input = false
same_kind kind.Latch kind.Latch = true
same_kind kind.Latch kind.Output = false
same_kind kind.Output kind.Input = false
same_kind kind.Output kind.Latch = false
same_kind kind.Output kind.Output = true

-- how many things of a kind a model has
abbrev pub count_of : Record → SymbolKind → ℕ
count_of r kind.Input = r.input_count
count_of r kind.Latch = r.latch_count
count_of r kind.Output = 1

-- whether a symbol names what one of some others names
abbrev pub named_by : List Symbol → SymbolKind → ℕ → Bool
named_by [] k p = false
named_by (s ∷ ss) k p = (same_kind s.kind k && s.position == p) || named_by ss k p

-- symbols in range, each with a name of one byte or more, and none of what an earlier one names
abbrev pub well_named : Record → List Symbol → List Symbol → Bool
well_named r earlier [] = true
well_named r earlier (s ∷ ss) =
    nat_lt s.position (count_of r s.kind)
    && (not (named_by earlier s.kind s.position)
    && (nat_lt 0 (length s.name)
    && (without 10 s.name
    && well_named r (s ∷ earlier) ss)))

-- whether a symbol names an input as one that the host sets
abbrev pub names_answer : List Symbol → ℕ → Bool
names_answer [] p = false
names_answer (s ∷ ss) p = (same_kind s.kind kind.Input && (s.position == p && controllable s.name)) || names_answer ss p

-- what may stand after the symbols: nothing, or a line `c` and anything
abbrev pub Tail : List ℕ → Type 0
Tail bs = (bs ≡ []) ⊎ ((rest : List ℕ) × (bs ≡ 99 ∷ 10 ∷ rest))

-- the bytes are the model's body, symbols, and what may stand after them; the sides of the inputs are what the names say
pub record FileOf (bs : List ℕ) (r : Record) (gs : List Gate) : Type 0 where
  pub symbols : List Symbol
  pub tail : List ℕ
  pub is : bs ≡ body r gs ++ (symbol_texts symbols ++ tail)
  pub named : well_named r [] symbols ≡ true
  pub sides : (j : ℕ) → j < r.input_count → answers? (slice_index_or r.inputs j blank_input).side ≡ names_answer symbols j
  pub ending : Tail tail

-- the files that are accepted with a model
pub record Accepts (bs : List ℕ) (r : Record) (gs : List Gate) : Type 0 where
  pub short : length bs ≤ 65536
  pub file : FileOf bs r gs
  pub model : sound r gs ≡ true

-- a read accepts a file with a model exactly when it is a file of that model
pub record ReadLaw (bs : List ℕ) (n : ℕ) (a : Answered) : Type 0 where
  pub accepted : a.result ≡ Ok tt → Accepts bs a.model a.gates
  pub only : (r : Record) (gs : List Gate) → Accepts bs r gs → length gs ≡ n → a ≡ answered (Ok tt) r gs

-- the written form: the body, and a symbol for each answer input, from position `at` on
abbrev pub answer_symbols : ℕ → List Input → List Symbol
answer_symbols at [] = []
answer_symbols at (i ∷ is) =
    cond (answers? i.side)
    (record { kind = kind.Input; position = at; name = codes "controllable_" ++ decimal at } ∷ answer_symbols (at + 1) is)
    (answer_symbols (at + 1) is)

unfoldable pub written : Record → List Gate → List ℕ
written r gs = body r gs ++ symbol_texts (answer_symbols 0 (inputs_of r))

-- a gate table in a table of n places
abbrev pub resized : ℕ → Record → List Gate → List Gate
resized n r gs = gates_of r gs ++ replicate (n - r.gate_count) blank_gate

-- what is written of a model is read again as the same record and gates, in every table that is long enough
abbrev pub RoundTrip : Record → List Gate → Type 0
RoundTrip r gs = (n : ℕ) → r.gate_count ≤ n → read_of (written r gs) n ≡ answered (Ok tt) r (resized n r gs)
