-- The reader's table of defined variables, against a list of them.
use Rattle.std.proofs.Common.{◌≡◌, ℕ, ◌+◌, ◌*◌, ◌%◌, ◌<◌, ◌≤◌, Bool, true, false, not, ◌&&◌, ◌||◌, eqb, leb, List, [], ◌∷◌, map, length, get_or, set, replicate, Ok, sym, refl, ap, ◌∙◌, subst, ⊎_elim, arith}
use Rattle.std.proofs.lemmas.Bool.Decides.{nat_tests}
use Rattle.std.proofs.lemmas.List.{length-set, length-replicate, get_or-set_same, get_or-set_other, get_or-replicate, get_or_past}
use Rattle.std.proofs.lemmas.Bool.{cond-true, cond-false, and_parts, and_from, and_left, cases_eq, cases_lt, cases_Bool, eq-eqb, ne_eqb, eqb-true, or_cases}
use Rattle.literal.specs.declared.Literal.{Literal}
use Rattle.literal.specs.Truth.{variable_of}
use Rattle.circuit.specs.declared.record.Gate.{Gate}
use Rattle.circuit.specs.declared.record.Latch.{Latch}
use Rattle.circuit.specs.Sound.{member, every, fresh, known, defined, all_fresh, gates_ordered}
use Rattle.circuit.proofs.Freshness.{fresh_parts}
use Rattle.aiger.specs.declared.fault.ReadFault.TheVariants as fault
use Rattle.aiger.specs.declared.reader.Reader.{Reader}
use Rattle.aiger.specs.Advance.{State, over, known_to, define, close_from}
use Rattle.aiger.proofs.Sections.{puts, all_ok}
use Rattle.aiger.proofs.Counted.{no_err, ok_fresh, put_i, ok_i, put_l, ok_l, put_g, ok_g}

abbrev pub Marks : List Bool → List ℕ → Type 0
Marks ds vs = (u : ℕ) → get_or ds u false ≡ member u vs

marks_more : (ds : List Bool) (vs : List ℕ) (v : ℕ) → v < length ds → Marks ds vs → Marks (set ds v true) (v ∷ vs)
marks_more ds vs v h m u =
    ⊎_elim
    (λ e. subst (λ x. get_or (set ds v true) x false ≡ (eqb x v || member x vs)) (sym e)
    (get_or-set_same ds v true false h ∙ ap (λ b. b || member v vs) (sym (eq-eqb v v refl))))
    (λ ne. get_or-set_other ds v u true false ne ∙ m u ∙ ap (λ b. b || member u vs) (sym (ne_eqb u v ne)))
    (cases_eq u v)

-- the table marks just the variables listed, which are at most the largest
pub record Knowing (m : ℕ) (ds : List Bool) (vs : List ℕ) : Type 0 where
  pub marks : Marks ds vs
  pub places : length ds ≡ 4097
  pub low : (u : ℕ) → member u vs ≡ true → u ≤ m
  pub small : m ≤ 4096

abbrev pub Knows : Reader → List ℕ → Type 0
Knows r vs = Knowing r.model.maximum r.defined vs

pub knowing_start : (m : ℕ) → m ≤ 4096 → Knowing m (set (replicate 4097 false) 0 true) (0 ∷ [])
knowing_start m h =
    let n : length (replicate 4097 false) ≡ 4097 = length-replicate 4097 false in
    let none : Marks (replicate 4097 false) [] = λ u.
    ⊎_elim (λ l. get_or-replicate 4097 u false false l) (λ l. get_or_past (replicate 4097 false) u false (rw n l)) (cases_lt u 4097) in
    record {
      marks = marks_more (replicate 4097 false) [] 0 (rw n (omega arith)) none;
      places = length-set (replicate 4097 false) 0 true ∙ n;
      low = λ u e. ⊎_elim (λ z. omega (arith, eqb-true u 0 z)) (λ z. absurd (let y : ◌≡◌ {A = ℕ} 0 1 = cc in omega arith)) (or_cases (eqb u 0) false e);
      small = h;
    }

knowing_more : (m : ℕ) (ds : List Bool) (vs : List ℕ) (l : Literal) → Knowing m ds vs → fresh m vs l ≡ true → Knowing m (define l ds) (variable_of l ∷ vs)
knowing_more m ds vs l k f =
    let p = fresh_parts m vs l f in
    let inside : variable_of l < length ds = rw k.places (omega (arith, p.inside, k.small)) in
    record {
      marks = marks_more ds vs (variable_of l) inside k.marks;
      places = length-set ds (variable_of l) true ∙ k.places;
      low = λ u e. ⊎_elim (λ z. let q = eqb-true u (variable_of l) z in let i = p.inside in omega arith) (λ z. k.low u z) (or_cases (eqb u (variable_of l)) (member u vs) e);
      small = k.small;
    }

known_same : (r : Reader) (vs : List ℕ) (l : Literal) → Knows r vs → known_to r l ≡ known vs l
known_same r vs l k = k.marks (variable_of l)

known_under : (r : Reader) (vs : List ℕ) (l : Literal) → Knows r vs → known vs l ≡ true → over r l ≡ false
known_under r vs l k e = let low = k.low (variable_of l) e in grind (arith, nat_tests)

pub known_low : (m : ℕ) (ds : List Bool) (vs : List ℕ) (l : Literal) → Knowing m ds vs → known vs l ≡ true → l.code ≤ 2 * m + 1
known_low m ds vs l k e = let low = k.low (variable_of l) e in omega arith

fresh_same : (r : Reader) (vs : List ℕ) (l : Literal) → Knows r vs → ok_fresh r l ≡ fresh r.model.maximum vs l
fresh_same r vs l k =
    ap (λ b. not (over r l) && (eqb (l.code % 2) 0 && (not (eqb l.code 0) && not b))) (known_same r vs l k)
    ∙ ap (λ b. b && (eqb (l.code % 2) 0 && (not (eqb l.code 0) && not (known vs l)))) (let e : not (over r l) ≡ leb l.code (2 * r.model.maximum + 1) = grind (arith, nat_tests) in e)

-- inputs
pub inputs_fresh : (ls : List Literal) (st : State) (vs : List ℕ) → Knows st.reader vs → all_ok put_i ok_i ls st ≡ all_fresh st.reader.model.maximum vs ls
inputs_fresh [] st vs k = refl
inputs_fresh (l ∷ ls) st vs k =
    let m = st.reader.model.maximum in
    let s = fresh_same st.reader vs l k in
    ap (λ b. b && all_ok put_i ok_i ls (put_i l st)) s
    ∙ ⊎_elim
    (λ t. ap (λ b. fresh m vs l && b) (inputs_fresh ls (put_i l st) (variable_of l ∷ vs) (knowing_more m st.reader.defined vs l k t)))
    (λ f. and_left (fresh m vs l) _ f ∙ sym (and_left (fresh m vs l) _ f))
    (cases_Bool (fresh m vs l))

pub inputs_known : (ls : List Literal) (st : State) (vs : List ℕ) → Knows st.reader vs → all_fresh st.reader.model.maximum vs ls ≡ true → Knows (puts put_i ls st).reader (defined vs ls)
inputs_known [] st vs k f = k
inputs_known (l ∷ ls) st vs k f =
    let m = st.reader.model.maximum in
    let p = and_parts (fresh m vs l) (all_fresh m (variable_of l ∷ vs) ls) f in
    inputs_known ls (put_i l st) (variable_of l ∷ vs) (knowing_more m st.reader.defined vs l k p.0) p.1

-- latches
abbrev pub literals : List Latch → List Literal
literals ls = map (λ l. l.literal) ls

abbrev pub nexts_low : ℕ → List Latch → Bool
nexts_low m ls = every (λ l. leb l.next.code (2 * m + 1)) ls

pub latches_forward : (ls : List Latch) (st : State) (vs : List ℕ) → Knows st.reader vs → all_fresh st.reader.model.maximum vs (literals ls) ≡ true
    → nexts_low st.reader.model.maximum ls ≡ true → all_ok put_l ok_l ls st ≡ true
latches_forward [] st vs k f n = refl
latches_forward (l ∷ ls) st vs k f n =
    let m = st.reader.model.maximum in
    let p = and_parts (fresh m vs l.literal) (all_fresh m (variable_of l.literal ∷ vs) (literals ls)) f in
    let q = and_parts (leb l.next.code (2 * m + 1)) (nexts_low m ls) n in
    and_from (ok_l l st) (all_ok put_l ok_l ls (put_l l st))
    (and_from (not (over st.reader l.next)) (ok_fresh st.reader l.literal) (let e = q.0 in grind (arith, nat_tests)) (fresh_same st.reader vs l.literal k ∙ p.0))
    (latches_forward ls (put_l l st) (variable_of l.literal ∷ vs) (knowing_more m st.reader.defined vs l.literal k p.0) p.1 q.1)

pub latches_backward : (ls : List Latch) (st : State) (vs : List ℕ) → Knows st.reader vs → all_ok put_l ok_l ls st ≡ true → all_fresh st.reader.model.maximum vs (literals ls) ≡ true
latches_backward [] st vs k f = refl
latches_backward (l ∷ ls) st vs k f =
    let m = st.reader.model.maximum in
    let p = and_parts (ok_l l st) (all_ok put_l ok_l ls (put_l l st)) f in
    let q = and_parts (not (over st.reader l.next)) (ok_fresh st.reader l.literal) p.0 in
    let t : fresh m vs l.literal ≡ true = sym (fresh_same st.reader vs l.literal k) ∙ q.1 in
    and_from (fresh m vs l.literal) _ t
    (latches_backward ls (put_l l st) (variable_of l.literal ∷ vs) (knowing_more m st.reader.defined vs l.literal k t) p.1)

pub latches_known : (ls : List Latch) (st : State) (vs : List ℕ) → Knows st.reader vs → all_fresh st.reader.model.maximum vs (literals ls) ≡ true → Knows (puts put_l ls st).reader (defined vs (literals ls))
latches_known [] st vs k f = k
latches_known (l ∷ ls) st vs k f =
    let m = st.reader.model.maximum in
    let p = and_parts (fresh m vs l.literal) (all_fresh m (variable_of l.literal ∷ vs) (literals ls)) f in
    latches_known ls (put_l l st) (variable_of l.literal ∷ vs) (knowing_more m st.reader.defined vs l.literal k p.0) p.1

-- gates
abbrev pub outputs : List Gate → List Literal
outputs gs = map (λ g. g.output) gs

gate_tests : (a b c d e f : Bool) → (c ≡ true → a ≡ false) → (d ≡ true → b ≡ false) → e ≡ f → (not (a || b) && (e && (c && d))) ≡ (f && (c && d))
gate_tests a b true true e f h k s = ap (λ x. not (x || b) && (e && true)) (h refl) ∙ ap (λ x. not x && (e && true)) (k refl) ∙ ap (λ x. x && true) s
gate_tests a b true false e f h k s = grind (arith, nat_tests)
gate_tests a b false d e f h k s = grind (arith, nat_tests)

gate_same : (g : Gate) (st : State) (vs : List ℕ) → Knows st.reader vs → ok_g g st ≡ (fresh st.reader.model.maximum vs g.output && (known vs g.left && known vs g.right))
gate_same g st vs k =
    let r = st.reader in
    ap (λ b. not (over r g.left || over r g.right) && (ok_fresh r g.output && (b && known_to r g.right))) (known_same r vs g.left k)
    ∙ ap (λ b. not (over r g.left || over r g.right) && (ok_fresh r g.output && (known vs g.left && b))) (known_same r vs g.right k)
    ∙ gate_tests (over r g.left) (over r g.right) (known vs g.left) (known vs g.right) (ok_fresh r g.output) (fresh r.model.maximum vs g.output)
    (known_under r vs g.left k) (known_under r vs g.right k) (fresh_same r vs g.output k)

and_right_assoc : (a b c d : Bool) → ((a && (b && c)) && d) ≡ (a && (b && (c && d)))
and_right_assoc true true c d = refl
and_right_assoc true false c d = refl
and_right_assoc false b c d = refl

pub gates_fresh : (gs : List Gate) (st : State) (vs : List ℕ) → Knows st.reader vs → all_ok put_g ok_g gs st ≡ gates_ordered st.reader.model.maximum vs gs
gates_fresh [] st vs k = refl
gates_fresh (g ∷ gs) st vs k =
    let m = st.reader.model.maximum in
    let others = all_ok put_g ok_g gs (put_g g st) in
    ap (λ b. b && others) (gate_same g st vs k)
    ∙ and_right_assoc (fresh m vs g.output) (known vs g.left) (known vs g.right) others
    ∙ ⊎_elim
    (λ t. ap (λ b. fresh m vs g.output && (known vs g.left && (known vs g.right && b)))
    (gates_fresh gs (put_g g st) (variable_of g.output ∷ vs) (knowing_more m st.reader.defined vs g.output k t)))
    (λ f. and_left (fresh m vs g.output) _ f ∙ sym (and_left (fresh m vs g.output) _ f))
    (cases_Bool (fresh m vs g.output))

pub gates_known : (gs : List Gate) (st : State) (vs : List ℕ) → Knows st.reader vs → gates_ordered st.reader.model.maximum vs gs ≡ true → Knows (puts put_g gs st).reader (defined vs (outputs gs))
gates_known [] st vs k f = k
gates_known (g ∷ gs) st vs k f =
    let m = st.reader.model.maximum in
    let p = and_parts (fresh m vs g.output) _ f in
    let q = and_parts (known vs g.left) _ p.1 in
    let t = and_parts (known vs g.right) _ q.1 in
    gates_known gs (put_g g st) (variable_of g.output ∷ vs) (knowing_more m st.reader.defined vs g.output k p.0) t.1

-- next literals and the output, after the last gate
abbrev pub nexts_known : List ℕ → List Latch → Bool
nexts_known vs ls = every (λ l. known vs l.next) ls

pub close_forward : (r : Reader) (vs : List ℕ) (at : ℕ) (ls : List Latch) → Knows r vs → nexts_known vs ls ≡ true → known vs r.model.output ≡ true → close_from r at ls ≡ Ok tt
close_forward r vs at [] k n o = cond-true (known_to r r.model.output) _ _ (known_same r vs r.model.output k ∙ o)
close_forward r vs at (l ∷ ls) k n o =
    let p = and_parts (known vs l.next) (nexts_known vs ls) n in
    cond-true (known_to r l.next) _ _ (known_same r vs l.next k ∙ p.0) ∙ close_forward r vs (at + 1) ls k p.1 o

pub close_backward : (r : Reader) (vs : List ℕ) (at : ℕ) (ls : List Latch) → Knows r vs → close_from r at ls ≡ Ok tt → (nexts_known vs ls ≡ true) × (known vs r.model.output ≡ true)
close_backward r vs at [] k e = (
  refl,
  ⊎_elim (λ t. sym (known_same r vs r.model.output k) ∙ t)
      (λ f. absurd (no_err (fault.Undefined at) tt (sym (cond-false (known_to r r.model.output) _ _ f) ∙ e)))
      (cases_Bool (known_to r r.model.output)),
)
close_backward r vs at (l ∷ ls) k e =
    ⊎_elim
    (λ t.
    let b = close_backward r vs (at + 1) ls k (sym (cond-true (known_to r l.next) _ _ t) ∙ e) in
    (and_from (known vs l.next) (nexts_known vs ls) (sym (known_same r vs l.next k) ∙ t) b.0, b.1))
    (λ f. absurd (no_err (fault.Undefined at) tt (sym (cond-false (known_to r l.next) _ _ f) ∙ e)))
    (cases_Bool (known_to r l.next))

pub nexts_low_lem : (m : ℕ) (ds : List Bool) (vs : List ℕ) (ls : List Latch) → Knowing m ds vs → nexts_known vs ls ≡ true → nexts_low m ls ≡ true
nexts_low_lem m ds vs [] k n = refl
nexts_low_lem m ds vs (l ∷ ls) k n =
    let p = and_parts (known vs l.next) (nexts_known vs ls) n in
    and_from (leb l.next.code (2 * m + 1)) _ (let low = known_low m ds vs l.next k p.0 in grind (arith, nat_tests)) (nexts_low_lem m ds vs ls k p.1)
