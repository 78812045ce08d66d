-- The reader's place stays within its tables.
use Rattle.std.proofs.Common.{◌≡◌, ℕ, ◌<◌, ◌≤◌, Bool, true, false, cond, not, ◌||◌, eqb, leb, List, length, get_or, set, IfOk, Ok, Err, Result, sym, refl, subst, arith}
use Rattle.std.proofs.lemmas.Bool.{cond_both}
use Rattle.std.proofs.lemmas.List.{length-set}
use Rattle.std.proofs.lemmas.Bool.Decides.{nat_tests}
use Rattle.literal.specs.declared.Literal.{Literal}
use Rattle.circuit.specs.declared.record.Gate.{Gate}
use Rattle.circuit.specs.declared.record.Latch.{Latch}
use Rattle.aiger.specs.declared.fault.ReadFault.{ReadFault}
use Rattle.aiger.specs.declared.fault.ReadFault.TheVariants as fault
use Rattle.aiger.specs.declared.line.Header.{Header}
use Rattle.aiger.specs.declared.line.SymbolKind.{SymbolKind}
use Rattle.aiger.specs.declared.line.SymbolKind.TheVariants as kind
use Rattle.aiger.specs.declared.reader.Reader.{Reader}
use Rattle.aiger.specs.declared.reader.Section.{Section}
use Rattle.aiger.specs.declared.reader.Section.TheVariants.{Inputs, Latches, Output, Gates, Symbols, Comment}
use Rattle.aiger.specs.Line.{Content, one, two, three, symbol, comment, malformed}
use Rattle.aiger.specs.Advance.{State, state_of, Bounds, room_of, Fits, goto, leave_inputs, leave_latches, leave_gates, over, known_to, input_on, latch_on, output_on, gate_on, symbol_on, fresh_on, close_on, advance, advance_at, put_input, put_latch, put_output, put_gate, and_then, beside, start_of, raw_start, model_of, name_input, on_one, on_two, on_three, on_symbol}

pub then_made : {A B : Type 0} (P : B → Type 0) (x : Result A ReadFault) (f : A → Result B ReadFault) → ((a : A) → IfOk (f a) P) → IfOk (and_then x f) P
then_made P (Ok a) f h = h a
then_made P (Err d) f h = tt

both_made : {B : Type 0} (P : B → Type 0) (b : Bool) (x y : Result B ReadFault) → (b ≡ true → IfOk x P) → (b ≡ false → IfOk y P) → IfOk (cond b x y) P
both_made P b x y h k = cond_both b x y (λ z. IfOk z P) h k

map_made : {A B : Type 0} (P : A → Type 0) (Q : B → Type 0) (x : Result A ReadFault) (f : A → B) → IfOk x P → ((a : A) → P a → Q (f a)) → IfOk (and_then x λ a. Ok (f a)) Q
map_made P Q (Ok a) f m h = h a m
map_made P Q (Err d) f m h = tt

abbrev In : ℕ → Reader → Type 0
In n r = Fits r n

leave_latches_fits : (n : ℕ) (r : Reader) → Bounds r.model n → r.section ≡ Latches → r.place ≤ r.model.latch_count → Fits (leave_latches r) n
unfolding leave_latches
leave_latches_fits n r b s h =
    cond_both (eqb r.place r.model.latch_count) _ _ (In n)
    (λ e. record { bounds = b; room = omega arith })
    (λ e. record { bounds = b; room = subst (λ x. r.place < room_of x r.model) (sym s) (grind (arith, nat_tests)) })

leave_inputs_fits : (n : ℕ) (r : Reader) → Bounds r.model n → r.section ≡ Inputs → r.place ≤ r.model.input_count → Fits (leave_inputs r) n
unfolding leave_inputs
leave_inputs_fits n r b s h =
    cond_both (eqb r.place r.model.input_count) _ _ (In n)
    (λ e. leave_latches_fits n (goto Latches r) b refl (omega arith))
    (λ e. record { bounds = b; room = subst (λ x. r.place < room_of x r.model) (sym s) (grind (arith, nat_tests)) })

leave_gates_fits : (n : ℕ) (r : Reader) → Bounds r.model n → r.section ≡ Gates → r.place ≤ r.model.gate_count → IfOk (leave_gates r) (In n)
unfolding leave_gates
leave_gates_fits n r b s h =
    both_made (In n) (eqb r.place r.model.gate_count) _ _
    (λ e. then_made (In n) (close_on r) _ λ _. record { bounds = b; room = omega arith })
    (λ e. record { bounds = b; room = subst (λ x. r.place < room_of x r.model) (sym s) (grind (arith, nat_tests)) })

input_fits : (at : ℕ) (l : Literal) (n : ℕ) (r : Reader) → Fits r n → r.section ≡ Inputs → IfOk (input_on at l r) (In n)
unfolding input_on
input_fits at l n r f s =
    let lt : r.place < r.model.input_count = subst (λ x. r.place < room_of x r.model) s f.room in
    let b = f.bounds in
    then_made (In n) (fresh_on at l r) _
    λ _. leave_inputs_fits n (put_input l r) (record { maximum = b.maximum; inputs = b.inputs; latches = b.latches; gates = b.gates; few = b.few }) s (omega arith)

latch_fits : (at : ℕ) (l : Latch) (n : ℕ) (r : Reader) → Fits r n → r.section ≡ Latches → IfOk (latch_on at l r) (In n)
unfolding latch_on
latch_fits at l n r f s =
    let lt : r.place < r.model.latch_count = subst (λ x. r.place < room_of x r.model) s f.room in
    let b = f.bounds in
    both_made (In n) (over r l.next) _ _ (λ _. tt)
    λ _. then_made (In n) (fresh_on at l.literal r) _
    λ _. leave_latches_fits n (put_latch l r) (record { maximum = b.maximum; inputs = b.inputs; latches = b.latches; gates = b.gates; few = b.few }) s (omega arith)

output_fits : (at : ℕ) (l : Literal) (n : ℕ) (r : Reader) → Fits r n → IfOk (output_on at l r) (In n)
unfolding output_on
output_fits at l n r f =
    let b = f.bounds in
    both_made (In n) (over r l) _ _ (λ _. tt)
    λ _. leave_gates_fits n (put_output l r) (record { maximum = b.maximum; inputs = b.inputs; latches = b.latches; gates = b.gates; few = b.few }) refl (omega arith)

abbrev InState : State → Type 0
InState t = Fits t.reader (length t.gates)

gate_fits : (at : ℕ) (g : Gate) (st : State) → InState st → st.reader.section ≡ Gates → IfOk (gate_on at g st) InState
unfolding gate_on
gate_fits at g st f s =
    let r = st.reader in
    let n = length st.gates in
    let lt : r.place < r.model.gate_count = subst (λ x. r.place < room_of x r.model) s f.room in
    both_made InState (over r g.left || over r g.right) _ _ (λ _. tt)
    λ _. then_made InState (fresh_on at g.output r) _
    λ _. both_made InState (not (known_to r g.left) || not (known_to r g.right)) _ _ (λ _. tt)
    λ _. map_made (In n) InState _ (λ r. state_of r (set st.gates st.reader.place g))
    (leave_gates_fits n (put_gate g r) f.bounds s (omega arith))
    (λ t h. rw length-set h)

symbol_fits : (at : ℕ) (k : SymbolKind) (p : ℕ) (name : List ℕ) (n : ℕ) (r : Reader) → Fits r n → r.section ≡ Symbols → IfOk (symbol_on at k p name r) (In n)
unfolding symbol_on
symbol_fits at kind.Input p name n r f s =
    let b = f.bounds in
    let lt : r.place < 65536 = subst (λ x. r.place < room_of x r.model) s f.room in
    both_made (In n) (leb r.model.input_count p || get_or r.names.inputs p false) _ _ (λ _. tt)
    (λ _. record {
      bounds = record { maximum = b.maximum; inputs = b.inputs; latches = b.latches; gates = b.gates; few = b.few };
      room = subst (λ x. r.place < room_of x (name_input p name r).model) (sym s) lt;
    })
symbol_fits at kind.Latch p name n r f s =
    both_made (In n) (leb r.model.latch_count p || get_or r.names.latches p false) _ _ (λ _. tt)
    (λ _. record { bounds = f.bounds; room = f.room })
symbol_fits at kind.Output p name n r f s =
    both_made (In n) (not (eqb p 0) || r.names.output) _ _ (λ _. tt) (λ _. record { bounds = f.bounds; room = f.room })

beside_fits : (gs : List Gate) (x : Result Reader ReadFault) → IfOk x (In (length gs)) → IfOk (beside gs x) InState
beside_fits gs x m = map_made (In (length gs)) InState x (λ r. state_of r gs) m (λ _ h. h)

module _ (P : State → Type 0) (d : Result State ReadFault) (dark : IfOk d P) where
  one_made : (f : ℕ → Result State ReadFault) (c : Content) → ((a : ℕ) → IfOk (f a) P) → IfOk (on_one f d c) P
  one_made f (one a) h = h a
  one_made f (two a b) h = dark
  one_made f (three a b c) h = dark
  one_made f (symbol k p name) h = dark
  one_made f comment h = dark
  one_made f malformed h = dark

  two_made : (f : ℕ → ℕ → Result State ReadFault) (c : Content) → ((a b : ℕ) → IfOk (f a b) P) → IfOk (on_two f d c) P
  two_made f (one a) h = dark
  two_made f (two a b) h = h a b
  two_made f (three a b c) h = dark
  two_made f (symbol k p name) h = dark
  two_made f comment h = dark
  two_made f malformed h = dark

  three_made : (f : ℕ → ℕ → ℕ → Result State ReadFault) (c : Content) → ((a b e : ℕ) → IfOk (f a b e) P) → IfOk (on_three f d c) P
  three_made f (one a) h = dark
  three_made f (two a b) h = dark
  three_made f (three a b c) h = h a b c
  three_made f (symbol k p name) h = dark
  three_made f comment h = dark
  three_made f malformed h = dark

  symbol_made : (f : SymbolKind → ℕ → List ℕ → Result State ReadFault) (x : Result State ReadFault) (c : Content) → ((k : SymbolKind) (p : ℕ) (name : List ℕ) → IfOk (f k p name) P) → IfOk x P → IfOk (on_symbol f x d c) P
  symbol_made f x (one a) h g = dark
  symbol_made f x (two a b) h g = dark
  symbol_made f x (three a b c) h g = dark
  symbol_made f x (symbol k p name) h g = h k p name
  symbol_made f x comment h g = g
  symbol_made f x malformed h g = dark

advance_fits_at : (s : Section) (at : ℕ) (c : Content) (st : State) → st.reader.section ≡ s → InState st → IfOk (advance_at s at c st) InState
advance_fits_at Inputs at c st e f =
    one_made InState (Err (fault.Malformed at)) tt _ c λ a. beside_fits st.gates _ (input_fits at _ _ st.reader f e)
advance_fits_at Latches at c st e f =
    two_made InState (Err (fault.Malformed at)) tt _ c λ a b. beside_fits st.gates _ (latch_fits at _ _ st.reader f e)
advance_fits_at Output at c st e f =
    one_made InState (Err (fault.Malformed at)) tt _ c λ a. beside_fits st.gates _ (output_fits at _ _ st.reader f)
advance_fits_at Gates at c st e f =
    three_made InState (Err (fault.Malformed at)) tt _ c λ a b d. gate_fits at _ st f e
advance_fits_at Symbols at c st e f =
    let lt : st.reader.place < 65536 = subst (λ x. st.reader.place < room_of x st.reader.model) e f.room in
    symbol_made InState (Err (fault.BadSymbol at)) tt _ _ c
    (λ k p name. beside_fits st.gates _ (symbol_fits at k p name _ st.reader f e))
    (record { bounds = f.bounds; room = lt })
advance_fits_at Comment at c st e f = f

pub advance_fits : (at : ℕ) (c : Content) (st : State) → InState st → IfOk (advance at c st) InState
unfolding advance
advance_fits at c st f = advance_fits_at st.reader.section at c st refl f

pub keep : (at : ℕ) (c : Content) (st t : State) → Ok t ≡ advance at c st → InState st → InState t
keep at c st t e f = subst (λ x. IfOk x InState) (sym e) (advance_fits at c st f)

pub start_fits : (h : Header) (r : Reader) (n m : ℕ) → Bounds (model_of h) n → r ≡ start_of h → m ≡ n → Fits r m
unfolding start_of
start_fits h r n m b s e = subst (λ q. Fits q m) (sym s) (subst (λ k. Fits (leave_inputs (raw_start h)) k) (sym e) (leave_inputs_fits n (raw_start h) b refl (omega arith)))
