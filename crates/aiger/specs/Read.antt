-- What reading a file answers and leaves: a fold over the file's lines.
use Rattle.std.specs.Prelude.{ℕ, ◌+◌, cond, not, ◌||◌, List, [], ◌∷◌, ◌++◌, length, replicate, Some, None, Ok, Err, Option, Result, ◌==◌, nat_lt}
use Rattle.circuit.specs.declared.record.Gate.{Gate}
use Rattle.circuit.specs.declared.record.Record.{Record}
use Rattle.circuit.specs.Parts.{blank_gate, blank_record}
use Rattle.text.specs.Cut.{Parts, cut_at}
use Rattle.aiger.specs.Line.{Content, malformed, line_of, header_of}
use Rattle.aiger.specs.Advance.{State, state_of, and_then, advance, end_on, start_of}
use Rattle.aiger.specs.declared.fault.ReadFault.{ReadFault}
use Rattle.aiger.specs.declared.fault.ReadFault.TheVariants as fault
use Rattle.aiger.specs.declared.line.Header.{Header}

-- the lines of a file: each ends with a line feed, and what stands after the last is malformed
abbrev pub lines_from : List ℕ → List ℕ → List Content
lines_from acc [] = cond (length acc == 0) [] (malformed ∷ [])
lines_from acc (b ∷ bs) = cond (b == 10) (line_of acc ∷ lines_from [] bs) (lines_from (acc ++ b ∷ []) bs)

unfoldable pub lines_of : List ℕ → List Content
lines_of bs = lines_from [] bs

abbrev pub ended : ℕ → State → Result State ReadFault
ended at st = and_then (end_on at st.reader) λ _. Ok st

-- line after line, the first of which is line `at`, and then the end
abbrev pub folded : ℕ → List Content → State → Result State ReadFault
folded at [] st = ended at st
folded at (c ∷ cs) st = and_then (advance at c st) λ s. folded (at + 1) cs s

unfoldable pub sized_of : Header → ℕ → Result (Unit {0}) ReadFault
sized_of h n =
    cond (nat_lt 4096 h.maximum || (nat_lt 24 h.inputs || (nat_lt 32 h.latches || (not (h.outputs == 1) || nat_lt 2048 h.gates))))
    (Err fault.BadSizes)
    (cond (nat_lt h.maximum (h.inputs + h.latches + h.gates)) (Err fault.BadSizes)
    (cond (nat_lt n h.gates) (Err fault.ShortTable) (Ok tt)))

-- a record, and the gate table beside it
pub record Filled : Type 0 where
  pub model : Record
  pub gates : List Gate

abbrev pub filling : Record → List Gate → Filled
filling m gs = record { model = m; gates = gs }

abbrev pub filled : {T : Type 0} → Result T ReadFault → Record → List Gate → Result Filled ReadFault
filled (Ok x) m gs = Ok (filling m gs)
filled (Err f) m gs = Err f

unfoldable pub body_of : Header → ℕ → List ℕ → Result Filled ReadFault
body_of h n bs =
    and_then (folded 2 (lines_of bs) (state_of (start_of h) (replicate n blank_gate))) λ st. Ok (filling st.reader.model st.gates)

abbrev pub sized_then : ℕ → List ℕ → Option Header → Result Filled ReadFault
sized_then n bs None = Err fault.BadHeader
sized_then n bs (Some h) = and_then (sized_of h n) λ _. body_of h n bs

abbrev pub headed : ℕ → Option Parts → Result Filled ReadFault
headed n None = Err fault.BadHeader
headed n (Some p) = sized_then n p.back (header_of p.front)

-- what a file gives over a gate table of n places, or the fault that is found first
unfoldable pub fill_of : List ℕ → ℕ → Result Filled ReadFault
fill_of bs n = cond (nat_lt 65536 (length bs)) (Err fault.FileTooLong) (headed n (cut_at 10 bs))

-- what a read answers, and what it leaves in the record and the gate table
pub record Answered : Type 0 where
  pub result : Result (Unit {0}) ReadFault
  pub model : Record
  pub gates : List Gate

abbrev pub answered : Result (Unit {0}) ReadFault → Record → List Gate → Answered
answered r m gs = record { result = r; model = m; gates = gs }

abbrev pub cleared : ℕ → Result Filled ReadFault → Answered
cleared n (Ok d) = answered (Ok tt) d.model d.gates
cleared n (Err f) = answered (Err f) blank_record (replicate n blank_gate)

unfoldable pub read_of : List ℕ → ℕ → Answered
read_of bs n = cleared n (fill_of bs n)
