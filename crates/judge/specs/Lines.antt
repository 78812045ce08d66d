-- The lines that a verdict is printed in.
use Rattle.std.specs.Prelude.{ℕ, List, ◌++◌, codes, decimal}
use Rattle.synthesis.specs.Faults.{verdict_text}
use Rattle.judge.specs.declared.lines.RowLine.{RowLine}
use Rattle.judge.specs.declared.lines.VerdictLine.{VerdictLine}

abbrev pub verdict_line : VerdictLine → List ℕ
verdict_line l = verdict_text l.verdict ++ (codes " " ++ decimal l.rows)

abbrev pub row_line : RowLine → List ℕ
row_line l =
    codes "row " ++ (decimal l.place ++ (codes " care " ++ (decimal l.row.care ++ (codes " value " ++ (decimal l.row.value
    ++ (codes " event " ++ decimal l.row.event))))))
