-- Counting the inputs of each side.
use Rattle.std.proofs.Common.{◌≡◌, ◌+◌, cond, count_by, List, [], ◌∷◌, length, refl, arith}
use Rattle.std.proofs.lemmas.List.Recursion.{is_count_by}
use Rattle.circuit.specs.declared.record.Input.{Input}
use Rattle.circuit.specs.declared.record.Side.{Side}
use Rattle.circuit.specs.declared.record.Side.TheVariants.{Event, Answer}
use Rattle.circuit.specs.Parts.{answers?}
use Rattle.circuit.specs.Settled.{same_side}
use Rattle.circuit.specs.Sound.{event_count, answer_count, side_count}

pub counted : (t : Side) (is : List Input) → side_count t is ≡ count_by (λ i. same_side i.side t) is
counted Event =
    is_count_by event_count (λ i. same_side i.side Event) refl
    (λ x xs. elim x.side as (λ u. cond (answers? u) 0 1 + event_count xs ≡ cond (same_side u Event) (1 + event_count xs) (event_count xs)) [ Event ↦ omega arith | Answer ↦ omega arith ])
counted Answer =
    is_count_by answer_count (λ i. same_side i.side Answer) refl
    (λ x xs. elim x.side as (λ u. cond (answers? u) 1 0 + answer_count xs ≡ cond (same_side u Answer) (1 + answer_count xs) (answer_count xs)) [ Event ↦ omega arith | Answer ↦ omega arith ])

-- an input is on one side
pub both_sides : (is : List Input) → answer_count is + event_count is ≡ length is
both_sides [] = refl
both_sides (i ∷ is) =
    let h = both_sides is in
    elim i.side as (λ t. (cond (answers? t) 1 0 + answer_count is) + (cond (answers? t) 0 1 + event_count is) ≡ length (i ∷ is))
    [ Event ↦ omega arith | Answer ↦ omega arith ]
