-- What a decision writes.
use Rattle.std.specs.Prelude.{◌≡◌, ℕ, ◌+◌, ◌/◌, ◌<◌, ◌≤◌, cond, List, length, drop, ◌==◌, slice_index, slice_index_or}
use Rattle.literal.specs.declared.Literal.{Literal}
use Rattle.cells.specs.Cells.{codes}

-- the bytes of variables 1 to V are those of a table, and byte 0 is 0
pub record Valued (value : List ℕ) (V : ℕ) (before after : List ℕ) : Type 0 where
  pub zero : slice_index_or after 0 0 ≡ 0
  pub bytes : (v : ℕ) → 1 ≤ v → v ≤ V → slice_index after v ≡ cond (slice_index value v == 1) 1 0
  pub rest : drop (V + 1) after ≡ drop (V + 1) before

-- an assumption's mark is 1 where its variable is seen, and else 0
pub record MarkedBy (seen : List ℕ) (assumed : List Literal) (before after : List ℕ) : Type 0 where
  pub marks : (k : ℕ) → k < length assumed → slice_index after k ≡ cond (slice_index seen (slice_index (codes assumed) k / 2) == 0) 0 1
  pub rest : drop (length assumed) after ≡ drop (length assumed) before
