-- What writing a text answers and leaves.
use Rattle.std.specs.Prelude.{ℕ, ◌+◌, ◌-◌, ◌^◌, min, cond, List, [], ◌∷◌, ◌++◌, length, drop, Ok, Err, codes, Result, nat_le, slice_set}
use denote.Ref.{at_last}
use Rattle.aiger.specs.declared.fault.WriteFault.{WriteFault}
use Rattle.aiger.specs.declared.fault.WriteFault.TheVariants.{BufferShort}
use Rattle.aiger.specs.declared.line.SymbolKind.TheVariants.{Input}
use Rattle.aiger.specs.declared.writer.Writer.{Writer}
use Rattle.aiger.specs.Line.{Content, symbol}
use Rattle.text.specs.Number.{decimal}

-- a writer after one more byte: past its buffer's end it only counts, and the count stops at the largest number
unfoldable pub put_byte : ℕ → Writer → Writer
put_byte b w = record { buffer = at_last w.buffer (slice_set w.buffer.now w.at b); at = min (w.at + 1) (2 ^ 64 - 1) }

unfoldable pub put : List ℕ → Writer → Writer
put [] w = w
put (b ∷ bs) w = put bs (put_byte b w)

-- the line that names the input at a position as one that the host sets
abbrev pub answer_line : ℕ → Content
answer_line p = symbol Input p (codes "controllable_" ++ decimal p)

-- what a write answers, and what it leaves in the buffer
pub record Wrote : Type 0 where
  pub result : Result ℕ WriteFault
  pub buffer : List ℕ

abbrev pub wrote : Result ℕ WriteFault → List ℕ → Wrote
wrote r bs = record { result = r; buffer = bs }

-- a text is put at the front of a buffer that has room for it; a shorter buffer stays as it is
abbrev pub write_of : List ℕ → List ℕ → Wrote
write_of text bs =
    cond (nat_le (length text) (length bs)) (wrote (Ok (length text)) (text ++ drop (length text) bs)) (wrote (Err BufferShort) bs)
