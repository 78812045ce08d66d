-- The three sections with a fixed number of lines: inputs, latches and gates.
use Rattle.std.proofs.Common.{◌≡◌, ℕ, ◌-◌, ◌%◌, ◌≤◌, Bool, true, false, cond, not, ◌&&◌, ◌||◌, eqb, set, Ok, Err, Result, sym, refl, ap, ◌∙◌, arith}
use Rattle.std.proofs.lemmas.Bool.Decides.{nat_tests}
use Rattle.std.proofs.lemmas.Bool.{cond-false, and_parts, and_from}
use Rattle.literal.specs.declared.Literal.{Literal}
use Rattle.circuit.specs.declared.record.Gate.{Gate}
use Rattle.circuit.specs.declared.record.Latch.{Latch}
use Rattle.aiger.specs.declared.fault.ReadFault.{ReadFault}
use Rattle.aiger.specs.declared.fault.ReadFault.TheVariants as fault
use Rattle.aiger.specs.declared.reader.Reader.{Reader}
use Rattle.aiger.specs.declared.reader.Section.TheVariants.{Inputs, Latches, Gates}
use Rattle.aiger.specs.Line.{Content, one, two, three, symbol, comment, malformed}
use Rattle.aiger.specs.Advance.{State, state_of, and_then, beside, over, known_to, fresh_on, lit, leave_inputs, leave_latches, leave_gates, input_on, latch_on, gate_on, put_input, put_latch, put_gate, on_one, on_two, on_three, advance, advance_at, end_on, end_at}
use Rattle.aiger.specs.Format.{input_line, latch_line, gate_line}
use Rattle.aiger.proofs.Sections.{Section, then_took}

pub no_err : {A : Type 0} (f : ReadFault) (x : A) → Err f ≡ Ok x → ⊥
no_err f x e = let z : ◌≡◌ {A = ℕ} 0 1 = cc in omega arith

-- whether a literal may be defined
abbrev pub ok_fresh : Reader → Literal → Bool
ok_fresh r l = not (over r l) && (eqb (l.code % 2) 0 && (not (eqb l.code 0) && not (known_to r l)))

pub fresh_forward : (at : ℕ) (l : Literal) (r : Reader) → ok_fresh r l ≡ true → fresh_on at l r ≡ Ok tt
unfolding fresh_on
fresh_forward at l r h = grind (arith, nat_tests)

pub fresh_backward : (at : ℕ) (l : Literal) (r : Reader) → fresh_on at l r ≡ Ok tt → ok_fresh r l ≡ true
unfolding fresh_on
fresh_backward at l r h = grind (arith, nat_tests)

-- what a line was, where it was taken
pub one_took : (f : ℕ → Result State ReadFault) (d : ReadFault) (c : Content) (u : State) → on_one f (Err d) c ≡ Ok u → (a : ℕ) × (c ≡ one a) × (f a ≡ Ok u)
one_took f d (one a) u e = (a, refl, e)
one_took f d (two a b) u e = absurd (no_err d u e)
one_took f d (three a b c) u e = absurd (no_err d u e)
one_took f d (symbol k p name) u e = absurd (no_err d u e)
one_took f d comment u e = absurd (no_err d u e)
one_took f d malformed u e = absurd (no_err d u e)

pub two_took : (f : ℕ → ℕ → Result State ReadFault) (d : ReadFault) (c : Content) (u : State) → on_two f (Err d) c ≡ Ok u → (a : ℕ) × (b : ℕ) × (c ≡ two a b) × (f a b ≡ Ok u)
two_took f d (one a) u e = absurd (no_err d u e)
two_took f d (two a b) u e = (a, b, refl, e)
two_took f d (three a b c) u e = absurd (no_err d u e)
two_took f d (symbol k p name) u e = absurd (no_err d u e)
two_took f d comment u e = absurd (no_err d u e)
two_took f d malformed u e = absurd (no_err d u e)

pub three_took : (f : ℕ → ℕ → ℕ → Result State ReadFault) (d : ReadFault) (c : Content) (u : State) → on_three f (Err d) c ≡ Ok u → (a : ℕ) × (b : ℕ) × (g : ℕ) × (c ≡ three a b g) × (f a b g ≡ Ok u)
three_took f d (one a) u e = absurd (no_err d u e)
three_took f d (two a b) u e = absurd (no_err d u e)
three_took f d (three a b c) u e = (a, b, c, refl, e)
three_took f d (symbol k p name) u e = absurd (no_err d u e)
three_took f d comment u e = absurd (no_err d u e)
three_took f d malformed u e = absurd (no_err d u e)

pub unit_ok : (x : Result (Unit {0}) ReadFault) (a : Unit {0}) → x ≡ Ok a → x ≡ Ok tt
unit_ok x tt e = e

-- a condition that an `Ok` passed
pub cond_took : {A : Type 0} (b : Bool) (f : ReadFault) (x : Result A ReadFault) (u : A) → cond b (Err f) x ≡ Ok u → (b ≡ false) × (x ≡ Ok u)
cond_took true f x u e = absurd (no_err f u e)
cond_took false f x u e = (refl, e)

-- inputs
abbrev pub put_i : Literal → State → State
put_i l st = state_of (put_input l st.reader) st.gates

abbrev pub ok_i : Literal → State → Bool
ok_i l st = ok_fresh st.reader l

unfoldable pub inputs_section : Section input_line put_i ok_i
unfolding advance input_on leave_inputs end_on
inputs_section =
    record {
      leave = λ st. Ok (state_of (leave_inputs st.reader) st.gates);
      left = λ st. st.reader.model.input_count - st.reader.place;
      In = λ st. (st.reader.section ≡ Inputs) × (st.reader.place ≤ st.reader.model.input_count);
      stays = λ st i some. ap (λ r. Ok (state_of r st.gates)) (cond-false (eqb st.reader.place st.reader.model.input_count) _ _ (grind (arith, nat_tests)));
      forward = λ at l st i some f.
          ap (λ q. advance_at q at (one l.code) st) i.0
          ∙ ap (λ x. beside st.gates (and_then x λ _. Ok (leave_inputs (put_input l st.reader)))) (fresh_forward at l st.reader f);
      backward = λ at c st u i some e.
          let a = one_took (λ a. beside st.gates (input_on at (lit a) st.reader)) (fault.Malformed at) c u (ap (λ q. advance_at q at c st) (sym i.0) ∙ e) in
          let b = then_took (input_on at (lit a.0) st.reader) (λ r. Ok (state_of r st.gates)) u a.2 in
          let d = then_took (fresh_on at (lit a.0) st.reader) (λ _. Ok (leave_inputs (put_input (lit a.0) st.reader))) b.0 b.1 in (
            lit a.0,
            a.1,
            fresh_backward at (lit a.0) st.reader (unit_ok _ d.0 d.1),
            (let r : leave_inputs (put_input (lit a.0) st.reader) ≡ b.0 = cc in ap (λ r. Ok (state_of r st.gates)) r ∙ b.2),
          );
      open_ended = λ at st t i some e.
          no_err (fault.Malformed at) t (ap (λ q. and_then (end_at q at st.reader.model) λ _. Ok st) (sym i.0) ∙ e);
      keeps = λ l st i some. (i.0, omega arith);
      counts = λ l st i some. omega arith;
    }

-- latches
abbrev pub put_l : Latch → State → State
put_l l st = state_of (put_latch l st.reader) st.gates

abbrev pub ok_l : Latch → State → Bool
ok_l l st = not (over st.reader l.next) && ok_fresh st.reader l.literal

pub latch_forward : (at : ℕ) (l : Latch) (r : Reader) → not (over r l.next) && ok_fresh r l.literal ≡ true → latch_on at l r ≡ Ok (leave_latches (put_latch l r))
unfolding latch_on
latch_forward at l r h =
    let p = and_parts (not (over r l.next)) (ok_fresh r l.literal) h in
    cond-false (over r l.next) _ _ (grind (arith, nat_tests))
    ∙ ap (λ x. and_then x λ _. Ok (leave_latches (put_latch l r))) (fresh_forward at l.literal r p.1)

pub latch_backward : (at : ℕ) (l : Latch) (r q : Reader) → latch_on at l r ≡ Ok q → (not (over r l.next) && ok_fresh r l.literal ≡ true) × (leave_latches (put_latch l r) ≡ q)
unfolding latch_on
latch_backward at l r q e =
    let o = cond_took (over r l.next) (fault.BadLiteral at) _ q e in
    let d = then_took (fresh_on at l.literal r) (λ _. Ok (leave_latches (put_latch l r))) q o.1 in
    (and_from (not (over r l.next)) (ok_fresh r l.literal) (ap not o.0) (fresh_backward at l.literal r (unit_ok _ d.0 d.1)), (cc))

unfoldable pub latches_section : Section latch_line put_l ok_l
unfolding advance leave_latches end_on
latches_section =
    record {
      leave = λ st. Ok (state_of (leave_latches st.reader) st.gates);
      left = λ st. st.reader.model.latch_count - st.reader.place;
      In = λ st. (st.reader.section ≡ Latches) × (st.reader.place ≤ st.reader.model.latch_count);
      stays = λ st i some. ap (λ r. Ok (state_of r st.gates)) (cond-false (eqb st.reader.place st.reader.model.latch_count) _ _ (grind (arith, nat_tests)));
      forward = λ at l st i some f.
          ap (λ q. advance_at q at (latch_line l) st) i.0 ∙ ap (beside st.gates) (latch_forward at l st.reader f);
      backward = λ at c st u i some e.
          let a = two_took (λ a b. beside st.gates (latch_on at (record { literal = lit a; next = lit b }) st.reader)) (fault.Malformed at) c u (ap (λ q. advance_at q at c st) (sym i.0) ∙ e) in
          let l : Latch = record { literal = lit a.0; next = lit a.1 } in
          let b = then_took (latch_on at l st.reader) (λ r. Ok (state_of r st.gates)) u a.3 in
          let d = latch_backward at l st.reader b.0 b.1 in
          (l, a.2, d.0, ap (λ r. Ok (state_of r st.gates)) d.1 ∙ b.2);
      open_ended = λ at st t i some e.
          no_err (fault.Malformed at) t (ap (λ q. and_then (end_at q at st.reader.model) λ _. Ok st) (sym i.0) ∙ e);
      keeps = λ l st i some. (i.0, omega arith);
      counts = λ l st i some. omega arith;
    }

-- gates
abbrev pub put_g : Gate → State → State
put_g g st = state_of (put_gate g st.reader) (set st.gates st.reader.place g)

abbrev pub ok_g : Gate → State → Bool
ok_g g st =
    not (over st.reader g.left || over st.reader g.right)
    && (ok_fresh st.reader g.output && (known_to st.reader g.left && known_to st.reader g.right))

abbrev pub leave_g : State → Result State ReadFault
leave_g st = beside st.gates (leave_gates st.reader)

pub gate_forward : (at : ℕ) (g : Gate) (st : State) → ok_g g st ≡ true → gate_on at g st ≡ leave_g (put_g g st)
unfolding gate_on
gate_forward at g st h =
    let r = st.reader in
    let p = and_parts (not (over r g.left || over r g.right)) _ h in
    let q = and_parts (ok_fresh r g.output) _ p.1 in
    let k = and_parts (known_to r g.left) (known_to r g.right) q.1 in
    cond-false (over r g.left || over r g.right) _ _ (grind (arith, nat_tests))
    ∙ ap (λ x. and_then x λ _. cond (not (known_to r g.left) || not (known_to r g.right)) (Err (fault.Undefined at)) (leave_g (put_g g st))) (fresh_forward at g.output r q.0)
    ∙ cond-false (not (known_to r g.left) || not (known_to r g.right)) _ _ (ap (λ x. not x || not (known_to r g.right)) k.0 ∙ ap not k.1)

pub gate_backward : (at : ℕ) (g : Gate) (st u : State) → gate_on at g st ≡ Ok u → (ok_g g st ≡ true) × (leave_g (put_g g st) ≡ Ok u)
unfolding gate_on
gate_backward at g st u e =
    let r = st.reader in
    let o = cond_took (over r g.left || over r g.right) (fault.BadLiteral at) _ u e in
    let d = then_took (fresh_on at g.output r) _ u o.1 in
    let k = cond_took (not (known_to r g.left) || not (known_to r g.right)) (fault.Undefined at) _ u d.2 in
    let f = fresh_backward at g.output r (unit_ok _ d.0 d.1) in
    (and_from (not (over r g.left || over r g.right)) _ (ap not o.0) (and_from (ok_fresh r g.output) _ f (grind (arith, nat_tests, k.0))), k.1)

unfoldable pub gates_section : Section gate_line put_g ok_g
unfolding advance leave_gates end_on
gates_section =
    record {
      leave = leave_g;
      left = λ st. st.reader.model.gate_count - st.reader.place;
      In = λ st. (st.reader.section ≡ Gates) × (st.reader.place ≤ st.reader.model.gate_count);
      stays = λ st i some. ap (beside st.gates) (cond-false (eqb st.reader.place st.reader.model.gate_count) _ _ (grind (arith, nat_tests)));
      forward = λ at g st i some f. ap (λ q. advance_at q at (gate_line g) st) i.0 ∙ gate_forward at g st f;
      backward = λ at c st u i some e.
          let a = three_took (λ a b d. gate_on at (record { output = lit a; left = lit b; right = lit d }) st) (fault.Malformed at) c u (ap (λ q. advance_at q at c st) (sym i.0) ∙ e) in
          let g : Gate = record { output = lit a.0; left = lit a.1; right = lit a.2 } in
          let d = gate_backward at g st u a.4 in
          (g, a.3, d.0, d.1);
      open_ended = λ at st t i some e.
          no_err (fault.Malformed at) t (ap (λ q. and_then (end_at q at st.reader.model) λ _. Ok st) (sym i.0) ∙ e);
      keeps = λ l st i some. (i.0, omega arith);
      counts = λ l st i some. omega arith;
    }
