use Rattle.std.proofs.Common.{◌≡◌, drop}
use Rattle.aiger.specs.Format.{symbol_texts, answer_symbols}
use Rattle.aiger.specs.Writing.{put}
use Rattle.aiger.proofs.writer.Writer.symbols.Given as goal

-- the symbols of the inputs that are left give all of them
abbrev pub invariant-loop-position : goal.invariant-loop-position
invariant-loop-position l =
    put (symbol_texts (answer_symbols l.position (drop l.position l.inputs))) l.self
    ≡ put (symbol_texts (answer_symbols 0 l.inputs)) l.initial.self
