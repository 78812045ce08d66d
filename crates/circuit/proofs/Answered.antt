-- A step's answer is settled by the values that agree.
use Rattle.std.proofs.Common.{◌≡◌, ℕ, ◌^◌, ◌<◌, Bool, true, false, cond, ltb, List, is_ok, IfOk, Ok, Err, Decides, Result, sym, refl, ap, ◌∙◌, subst}
use Rattle.std.proofs.lemmas.Bool.{and_parts, and_from, ltb-true, lt-ltb, cond_both}
use Rattle.std.proofs.lemmas.Bool.Decides.{Decides-at}
use Rattle.literal.specs.Truth.{Values}
use Rattle.circuit.specs.declared.record.Gate.{Gate}
use Rattle.circuit.specs.declared.record.Record.{Record}
use Rattle.circuit.specs.declared.fault.StepFault.{StepFault}
use Rattle.circuit.specs.declared.fault.StepFault.TheVariants.{OutOfRange}
use Rattle.circuit.specs.Parts.{latches_of}
use Rattle.circuit.specs.Settled.{Agrees, Tells, Settled}
use Rattle.circuit.specs.Sound.{sound}
use Rattle.circuit.specs.Step.{bit, in_range, state_count, event_numbers, answer_numbers, next_of, values_at, bad_at, next_at, step_of}
use Rattle.circuit.proofs.Agreement.{values_agree}
use Rattle.circuit.proofs.Bits.{next_bit}
use Rattle.circuit.proofs.Numbers.{next_below}
use Rattle.circuit.proofs.Soundness.{as_many_latches}
use Rattle.circuit.proofs.Unique.{agree_same, bad_by, next_by}

answered : {X Y : Type 0} (b : Bool) (x : X) (y : Y) → is_ok {T = X} {E = Y} (cond b (Ok x) (Err y)) ≡ b
answered true x y = refl
answered false x y = refl

range_decides : (r : Record) (s e a : ℕ) → Decides (in_range r s e a) ((s < state_count r) × (e < event_numbers r) × (a < answer_numbers r))
range_decides r s e a = (
  (λ t.
      let p = and_parts (ltb s (state_count r)) _ t in
      let q = and_parts (ltb e (event_numbers r)) _ p.1 in
      (ltb-true s (state_count r) p.0, ltb-true e (event_numbers r) q.0, ltb-true a (answer_numbers r) q.1)),
  (λ p.
      and_from (ltb s (state_count r)) _ (lt-ltb s (state_count r) p.0)
      (and_from (ltb e (event_numbers r)) _ (lt-ltb e (event_numbers r) p.1) (lt-ltb a (answer_numbers r) p.2))),
)

module _ (r : Record) (gs : List Gate) (s e a : ℕ) (h : sound r gs ≡ true) where
  next_in_range : (w : Values) → next_of w (latches_of r) < state_count r
  next_in_range w = subst (λ n. next_of w (latches_of r) < 2 ^ n) (sym (as_many_latches r gs h)) (next_below w (latches_of r))

  tells : (w : Values) → Agrees r gs s e a w → Tells r w (step_of r gs s e a)
  tells w q =
      cond_both (in_range r s e a) (Ok (bad_at r gs s e a, next_at r gs s e a)) (Err OutOfRange) (Tells r w)
      (λ _. (
        bad_by r gs s e a h w q,
        next_in_range (values_at r gs s e a),
        λ j d l. ap (λ n. bit n j) (next_by r gs s e a h w q) ∙ next_bit w (latches_of r) j d l,
      ))
      (λ _. tt)

  -- the next state of a model is one of its states
  pub next_bound : (answer : Result (Bool × ℕ) StepFault) → answer ≡ step_of r gs s e a → IfOk answer (λ p. p.1 < state_count r)
  next_bound answer is =
      subst (λ (t : Result (Bool × ℕ) StepFault). IfOk t (λ p. p.1 < state_count r)) (sym is)
      (cond_both (in_range r s e a) (Ok (bad_at r gs s e a, next_at r gs s e a)) (Err OutOfRange) (λ t. IfOk t (λ p. p.1 < state_count r))
      (λ _. next_in_range (values_at r gs s e a)) (λ _. tt))

  pub settled : (answer : Result (Bool × ℕ) StepFault) → answer ≡ step_of r gs s e a → Settled r gs s e a answer
  settled answer is =
      subst (Settled r gs s e a) (sym is)
      record {
        range = Decides-at (is_ok (step_of r gs s e a)) (in_range r s e a) (answered (in_range r s e a) _ _) (range_decides r s e a);
        some = values_agree r gs s e a h;
        only = agree_same r gs s e a h;
        tells = tells;
      }
