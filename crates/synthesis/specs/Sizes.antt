-- The sizes that a run needs, and what it refuses where they are too small.
use Rattle.std.specs.Prelude.{ℕ, ◌+◌, ◌*◌, max, Bool, cond, ◌&&◌, Some, None, Option, nat_le, nat_lt}
use Rattle.circuit.specs.declared.record.Record.{Record}
use Rattle.circuit.specs.Parts.{inputs_of}
use Rattle.circuit.specs.Sound.{event_count}
use Rattle.synthesis.specs.declared.sizes.Room.{Room}
use Rattle.synthesis.specs.declared.sizes.Sizes.{Sizes}
use Rattle.synthesis.specs.declared.fault.RunFault.{RunFault}
use Rattle.synthesis.specs.declared.fault.RunFault.TheVariants.{TooManyPlaces, CandidateSmall, AnswerSmall, WorkShort}

-- what the candidate solver needs, by the places for rows and for exceptions
abbrev pub variables_of_candidate : Record → ℕ → ℕ
variables_of_candidate r R = r.maximum + 2 * R + 2

abbrev pub cells_of_candidate : Record → ℕ → ℕ → ℕ
cells_of_candidate r R E =
    10 * r.gate_count + (4 * r.latch_count + 5) * R + (r.latch_count + event_count (inputs_of r) + 1) * E + 8

-- what the answer solver needs
abbrev pub variables_of_answer : Record → ℕ
variables_of_answer r = r.maximum + 2

abbrev pub cells_of_answer : Record → ℕ → ℕ
cells_of_answer r R = 10 * r.gate_count + (r.latch_count + 1) * R + 8

abbrev pub room : ℕ → ℕ → Room
room V cells = record { variables = V; cells = cells }

abbrev pub candidate_need : Record → Sizes → Room
candidate_need r s = room (variables_of_candidate r s.rows) (cells_of_candidate r s.rows s.exceptions)

abbrev pub answer_need : Record → Sizes → Room
answer_need r s = room (variables_of_answer r) (cells_of_answer r s.rows)

-- whether what is needed is there
abbrev pub room_fits : Room → Room → Bool
room_fits need r = nat_le need.variables r.variables && nat_le need.cells r.cells

abbrev pub places_fit : Sizes → Bool
places_fit s = nat_le s.rows 1024 && nat_le s.exceptions 4096

abbrev pub candidate_fits : Record → Sizes → Bool
candidate_fits r s = room_fits (candidate_need r s) s.candidate

abbrev pub answer_fits : Record → Sizes → Bool
answer_fits r s = room_fits (answer_need r s) s.answer

-- the value bytes of either solver
abbrev pub work_fits : Sizes → Bool
work_fits s = nat_lt (max s.candidate.variables s.answer.variables) s.work

unfoldable pub size_fault : Record → Sizes → Option RunFault
size_fault r s =
    cond (places_fit s)
    (cond (candidate_fits r s)
    (cond (answer_fits r s)
    (cond (work_fits s) None (Some WorkShort))
    (Some AnswerSmall))
    (Some CandidateSmall))
    (Some TooManyPlaces)
