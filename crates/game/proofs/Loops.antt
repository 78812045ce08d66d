-- A harmless loop: one state, to which every step leads back, and no step is bad.
use Rattle.std.proofs.Common.{◌≡◌, ℕ, zero, suc, true, false, refl, arith}
use Rattle.std.proofs.lemmas.Bool.{both_ways}
use Rattle.game.specs.Game.{Arena, lasts}
use Rattle.game.specs.Laws.{HarmlessLoop}
use Rattle.game.specs.declared.row.Row.{Row}

abbrev loop : Arena
loop = record { states = 1; events = 1; answers = 1; bad = λ s e a. false; next = λ s e a. 0 }

abbrev everywhere : Row
everywhere = record { care = 0; value = 0; event = 0 }

loop_lasts : (h : ℕ) → lasts loop h 0 ≡ true
loop_lasts zero = refl
loop_lasts (suc h) = rw (loop_lasts h) refl

pub harmless_loop : HarmlessLoop
harmless_loop =
    record {
      arena = loop;
      in_range = λ s e a ls le la. omega arith;
      never_bad = λ s e a. refl;
      row = everywhere;
      by_itself = λ s a ls la c. refl;
      by_none = λ j. both_ways true (j 0 0 (omega arith) (omega arith) refl) refl;
      state = 0;
      inside = omega arith;
      covers = refl;
      safe = loop_lasts;
    }
