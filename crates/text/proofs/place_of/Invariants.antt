use Rattle.std.proofs.Common.{◌≡◌, ◌==◌, ◌+◌, drop}
use Rattle.std.specs.List.{position_or_len}
use Rattle.text.proofs.place_of.Given as goal

-- no byte so far is the mark
abbrev pub invariant-loop-place : goal.invariant-loop-place
invariant-loop-place l = position_or_len (λ x. x == l.mark) l.bytes ≡ l.place + position_or_len (λ x. x == l.mark) (drop l.place l.bytes)
