-- A host with one latch, worked through.
use Rattle.std.specs.Prelude.{◌≡◌, ℕ, true, false, List, [], ◌∷◌, set}
use Rattle.literal.specs.declared.Literal.{Literal}
use Rattle.circuit.specs.Parts.{blank_record}
use Rattle.circuit.specs.declared.record.Gate.{Gate}
use Rattle.circuit.specs.declared.record.Record.{Record}
use Rattle.circuit.specs.declared.record.Side.TheVariants.{Event, Answer}
use Rattle.game.specs.Game.{Arena, lasts}
use Rattle.game.specs.Models.{arena_of}
use Rattle.game.specs.Rows.{row_covers}
use Rattle.game.specs.Runs.{Kept, GivenUp}
use Rattle.game.specs.declared.row.Row.{Row}

abbrev literal : ℕ → Literal
literal n = record { code = n }

-- one event input (literal 2), one answer input (4) and one latch (6), which takes over a given literal; a step is bad (8) where the
-- latch is set and the event is raised
abbrev pub one_latch : ℕ → Record
one_latch next = record {
  maximum = 4;
  inputs =
      set (set blank_record.inputs 0 (record { literal = literal 2; side = Event })) 1 (record { literal = literal 4; side = Answer });
  input_count = 2;
  latches = set blank_record.latches 0 (record { literal = literal 6; next = literal next });
  latch_count = 1;
  output = literal 8;
  gate_count = 1;
}

abbrev pub one_gate : List Gate
one_gate = record { output = literal 8; left = literal 6; right = literal 2 } ∷ []

-- the answer clears the latch, or nothing does
abbrev pub clearing : Arena
clearing = arena_of (one_latch 5) one_gate

abbrev pub setting : Arena
setting = arena_of (one_latch 1) one_gate

-- the row of the states in which the latch is set, and the row of every state
abbrev pub latch_set : Row
latch_set = record { care = 1; value = 1; event = 1 }

abbrev pub any_state : Row
any_state = record { care = 0; value = 0; event = 0 }

pub record WorkedCases : Type 0 where
  -- a step answers whether it is bad, and the next state
  pub not_answered : (clearing.bad 0 0 0 ≡ false) × (clearing.next 0 0 0 ≡ 1)
  pub answered : (clearing.bad 0 0 1 ≡ false) × (clearing.next 0 0 1 ≡ 0)
  pub raised : clearing.bad 1 1 0 ≡ true
  -- from state 1 the host lasts 0 steps and not 1
  pub lasts_none : (lasts clearing 0 1 ≡ true) × (lasts clearing 1 1 ≡ false)
  pub covers : (row_covers latch_set 1 ≡ true) × (row_covers latch_set 0 ≡ false)
  -- that row and one exception are what a run may end with: the host is kept
  pub kept : Kept clearing 1 1 (latch_set ∷ [])
  -- where nothing clears the latch the host lasts 1 step from reset and not 2, and is lost by two rows
  pub lasts_one : (lasts setting 1 0 ≡ true) × (lasts setting 2 0 ≡ false)
  pub given_up : GivenUp setting 2 (latch_set ∷ any_state ∷ [])
