-- The number of each refusal of a file, and the line that it returns; the number of each refusal to write.
use Rattle.std.specs.Prelude.{ℕ, List, codes}
use Rattle.aiger.specs.declared.fault.ReadFault.{ReadFault}
use Rattle.aiger.specs.declared.fault.ReadFault.TheVariants.{FileTooLong, BadHeader, BadSizes, ShortTable, Malformed, BadLiteral, DefinedTwice, Undefined, BadSymbol, SideTooLarge}
use Rattle.aiger.specs.declared.fault.WriteFault.{WriteFault}
use Rattle.aiger.specs.declared.fault.WriteFault.TheVariants.{BufferShort}

pub record Refusal : Type 0 where
  pub number : ℕ
  pub line : ℕ

abbrev pub refusal : ℕ → ℕ → Refusal
refusal n l = record { number = n; line = l }

abbrev pub refusal_of : ReadFault → Refusal
refusal_of FileTooLong = refusal 1 0
refusal_of BadHeader = refusal 2 1
refusal_of BadSizes = refusal 3 1
refusal_of ShortTable = refusal 4 1
refusal_of (Malformed l) = refusal 5 l
refusal_of (BadLiteral l) = refusal 6 l
refusal_of (DefinedTwice l) = refusal 7 l
refusal_of (Undefined l) = refusal 8 l
refusal_of (BadSymbol l) = refusal 9 l
refusal_of SideTooLarge = refusal 10 1

abbrev pub write_number : WriteFault → ℕ
write_number BufferShort = 11

abbrev pub read_reason : ReadFault → List ℕ
read_reason FileTooLong = codes "the file has more than 65,536 bytes"
read_reason BadHeader = codes "the header is not 'aag M I L O A' with five numbers"
read_reason BadSizes = codes "a number of the header is over its limit, or there are too few variables"
read_reason ShortTable = codes "the gate table has fewer places than the file has gates"
read_reason (Malformed l) = codes "the line is malformed or absent"
read_reason (BadLiteral l) = codes "a literal is too large, or the one defined is odd or 0"
read_reason (DefinedTwice l) = codes "the literal is defined twice"
read_reason (Undefined l) = codes "an operand is not defined"
read_reason (BadSymbol l) = codes "the symbol is malformed, out of range or named twice"
read_reason SideTooLarge = codes "more than 12 inputs are on one side"

abbrev pub write_reason : WriteFault → List ℕ
write_reason BufferShort = codes "the buffer is shorter than the model's text"
