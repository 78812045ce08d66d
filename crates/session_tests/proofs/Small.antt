-- The small hosts are models, and their rows are exact.
use Rattle.std.proofs.Common.{◌≡◌, ℕ, zero, suc, ◌<◌, true, false, List, [], ◌∷◌, refl}
use Rattle.std.proofs.lemmas.Bool.{both_ways, and_from, not_from_false}
use Rattle.circuit.specs.declared.record.Gate.{Gate}
use Rattle.circuit.specs.declared.record.Record.{Record}
use Rattle.circuit.specs.Parts.{blank_record}
use Rattle.circuit.specs.Sound.{sound}
use Rattle.circuit.specs.Step.{values_at}
use Rattle.game.specs.Examples.{one_latch, one_gate, latch_set}
use Rattle.game.specs.Game.{Arena, lasts}
use Rattle.game.specs.Models.{arena_of}
use Rattle.game.specs.Runs.{Exact}
use Rattle.game.specs.declared.row.Row.{Row}
use Rattle.game.proofs.Examples.{worked_cases}
use Rattle.game.proofs.Lasting.{every_true, some_true}
use Rattle.game.proofs.Models.{playable}
use Rattle.session_tests.specs.Models.{free_latch}

one_latch_computes : sound (one_latch 5) one_gate ≡ true
unfolding sound
one_latch_computes = refl

free_computes : sound free_latch [] ≡ true
unfolding sound
free_computes = refl

nothing_computes : sound blank_record [] ≡ true
unfolding sound
nothing_computes = refl

-- where no step is bad the host lasts, and no rows are exact
module _ (g : Arena) (never : (s e a : ℕ) → g.bad s e a ≡ false) (some : 0 < g.answers) where
  forever : (h s : ℕ) → lasts g h s ≡ true
  forever zero s = refl
  forever (suc h) s =
      every_true g.events _ (λ e l. some_true g.answers _ 0 some (and_from _ _ (not_from_false _ (never s e 0)) (forever h (g.next s e 0))))

  never_bad : Exact g []
  never_bad = record { safe = λ s l c h. forever h s; lost = λ s l c. absurd (both_ways false refl c); reset = refl }

free_never : (s e a : ℕ) → (arena_of free_latch []).bad s e a ≡ false
unfolding values_at
free_never s e a = refl

nothing_never : (s e a : ℕ) → (arena_of blank_record []).bad s e a ≡ false
unfolding values_at
nothing_never s e a = refl

-- what a host's invariant asks of each
pub record Sound (r : Record) (gs : List Gate) (rs : List Row) : Type 0 where
  pub sound : sound r gs ≡ true
  pub exact : Exact (arena_of r gs) rs

pub one_latch_sound : (r : Record) → r ≡ one_latch 5 → Sound r one_gate (latch_set ∷ [])
one_latch_sound r p = rw p record { sound = one_latch_computes; exact = worked_cases.kept.exact }

pub free_sound : (r : Record) → r ≡ free_latch → Sound r [] []
free_sound r p = rw p record { sound = free_computes; exact = never_bad (arena_of free_latch []) free_never (playable free_latch []).some_answer }

pub nothing_sound : (r : Record) → r ≡ blank_record → Sound r [] []
nothing_sound r p = rw p record { sound = nothing_computes; exact = never_bad (arena_of blank_record []) nothing_never (playable blank_record []).some_answer }
