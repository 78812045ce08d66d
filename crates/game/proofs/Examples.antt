-- The host with one latch, worked through.
use Rattle.std.proofs.Common.{◌≡◌, ℕ, zero, suc, ◌%◌, ◌^◌, true, false, eqb, [], ◌∷◌, refl, ap, ◌∙◌, arith}
use native.Mathlib.Nat.{zero-div}
use Rattle.std.proofs.lemmas.Bool.{both_ways}
use Rattle.circuit.specs.Step.{bit, values_at}
use Rattle.game.specs.Examples.{one_latch, one_gate, clearing, setting, latch_set, any_state, WorkedCases}
use Rattle.game.specs.Rows.{blank_exception, Justified, Tight, GoodRow, Serves, GoodException, AllGood}
use Rattle.game.specs.Runs.{Kept, GivenUp}
use Rattle.game.proofs.Bits.{bit_half}
use Rattle.game.proofs.Models.{playable}
use Rattle.game.proofs.Runs.{rows_none, rows_push, exceptions_none, exceptions_push, kept_run, lost_run}

-- 0 has no bit, and 1 has the lowest alone
zero_bit : (j : ℕ) → bit 0 j ≡ true → ⊥
zero_bit j e = both_ways (bit 0 j) (ap (λ t. eqb (t % 2) 1) (zero-div (2 ^ j))) e

high_bit : (j : ℕ) → bit 1 (suc j) ≡ true → ⊥
high_bit j e = zero_bit j (bit_half 1 j ∙ e)

-- the row of the set latch is good in either host
clearing_row : GoodRow clearing [] latch_set
unfolding values_at
clearing_row =
    record {
      care_in_range = omega arith;
      value_in_care = refl;
      event_in_range = omega arith;
      justified = justified;
      tight = tight;
      new = (1, omega arith, refl, refl);
    }
  where
    justified : Justified clearing [] latch_set
    justified zero a ls la c = absurd (both_ways false refl c)
    justified (suc zero) zero ls la c = refl
    justified (suc zero) (suc zero) ls la c = refl
    justified (suc zero) (suc (suc a)) ls la c = absurd (omega arith)
    justified (suc (suc s)) a ls la c = absurd (omega arith)

    tight : Tight clearing [] latch_set
    tight zero b j = both_ways true (j 0 1 (omega arith) (omega arith) refl) refl
    tight (suc k) b j = high_bit k b

setting_row : GoodRow setting [] latch_set
unfolding values_at
setting_row =
    record {
      care_in_range = omega arith;
      value_in_care = refl;
      event_in_range = omega arith;
      justified = justified;
      tight = tight;
      new = (1, omega arith, refl, refl);
    }
  where
    justified : Justified setting [] latch_set
    justified zero a ls la c = absurd (both_ways false refl c)
    justified (suc zero) zero ls la c = refl
    justified (suc zero) (suc zero) ls la c = refl
    justified (suc zero) (suc (suc a)) ls la c = absurd (omega arith)
    justified (suc (suc s)) a ls la c = absurd (omega arith)

    tight : Tight setting [] latch_set
    tight zero b j = both_ways true (j 0 1 (omega arith) (omega arith) refl) refl
    tight (suc k) b j = high_bit k b

-- where nothing clears the latch, every step leads to a covered state
every_row : GoodRow setting (latch_set ∷ []) any_state
unfolding values_at
every_row =
    record {
      care_in_range = omega arith;
      value_in_care = refl;
      event_in_range = omega arith;
      justified = justified;
      tight = λ j b _. zero_bit j b;
      new = (0, omega arith, refl, refl);
    }
  where
    justified : Justified setting (latch_set ∷ []) any_state
    justified zero zero ls la c = refl
    justified zero (suc zero) ls la c = refl
    justified zero (suc (suc a)) ls la c = absurd (omega arith)
    justified (suc zero) zero ls la c = refl
    justified (suc zero) (suc zero) ls la c = refl
    justified (suc zero) (suc (suc a)) ls la c = absurd (omega arith)
    justified (suc (suc s)) a ls la c = absurd (omega arith)

-- where the answer clears the latch, it serves every pair
clearing_exception : GoodException clearing (latch_set ∷ []) [] blank_exception
unfolding values_at
clearing_exception =
    record {
      state_care_in_range = omega arith;
      state_value_in_care = refl;
      event_care_in_range = omega arith;
      event_value_in_care = refl;
      harmless = λ s e ls le k c. (1, omega arith, serves s e ls le k c refl);
      answer = 1;
      answer_in_range = omega arith;
      serves = serves;
      tight_state = λ j b _. zero_bit j b;
      tight_event = λ j b _. zero_bit j b;
      new = (0, 0, omega arith, omega arith, refl, refl, refl);
    }
  where
    serves : Serves clearing (latch_set ∷ []) [] blank_exception 1
    serves zero zero ls le k c o = refl
    serves zero (suc zero) ls le k c o = refl
    serves zero (suc (suc e)) ls le k c o = absurd (omega arith)
    serves (suc zero) e ls le k c o = absurd (both_ways true c refl)
    serves (suc (suc s)) e ls le k c o = absurd (omega arith)

all_good : AllGood clearing (latch_set ∷ []) (blank_exception ∷ [])
all_good zero zero a ls le la c o = absurd (both_ways true o refl)
all_good zero (suc zero) a ls le la c o = absurd (both_ways true o refl)
all_good zero (suc (suc e)) a ls le la c o = absurd (omega arith)
all_good (suc zero) e a ls le la c o = absurd (both_ways true c refl)
all_good (suc (suc s)) e a ls le la c o = absurd (omega arith)

clearing_kept : Kept clearing 1 1 (latch_set ∷ [])
clearing_kept =
    let g = playable (one_latch 5) one_gate in
    kept_run clearing g.in_range g.some_state g.some_answer (latch_set ∷ []) (blank_exception ∷ []) 1 1
    (rows_push clearing [] latch_set (rows_none clearing) clearing_row) (omega arith)
    (exceptions_push clearing (latch_set ∷ []) [] blank_exception (exceptions_none clearing (latch_set ∷ [])) clearing_exception) (omega arith)
    all_good refl

setting_lost : GivenUp setting 2 (latch_set ∷ any_state ∷ [])
setting_lost =
    let g = playable (one_latch 1) one_gate in
    lost_run setting g.in_range g.some_state (latch_set ∷ []) any_state 2
    (rows_push setting (latch_set ∷ []) any_state (rows_push setting [] latch_set (rows_none setting) setting_row) every_row)
    (omega arith) refl refl

pub worked_cases : WorkedCases
unfolding values_at
worked_cases =
    record {
      not_answered = (refl, refl);
      answered = (refl, refl);
      raised = refl;
      lasts_none = (refl, refl);
      covers = (refl, refl);
      kept = clearing_kept;
      lasts_one = (refl, refl);
      given_up = setting_lost;
    }
