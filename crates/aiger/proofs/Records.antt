-- The record and the gate table that a body and its symbols give.
use Rattle.std.proofs.Common.{◌≡◌, ℕ, zero, suc, ◌+◌, ◌-◌, ◌<◌, ◌≤◌, Bool, true, false, not, eqb, List, [], ◌∷◌, ◌++◌, map, length, get_or, take, drop, replicate, sym, refl, ap, ◌∙◌, arith}
use Rattle.std.proofs.lemmas.List.{length-map, length-append, length-replicate, length-take-le, length-drop, take-append-drop, take_at, drop_at, get_or-map, get_or-take, get_or_append_left, get_or-append_right, get_or-replicate, get_or-drop, ext_get_or}
use Rattle.std.proofs.lemmas.Bool.{and_parts, and_from, eqb-true, not-true}
use Rattle.literal.specs.declared.Literal.{Literal}
use Rattle.circuit.specs.declared.record.Gate.{Gate}
use Rattle.circuit.specs.declared.record.Input.{Input}
use Rattle.circuit.specs.declared.record.Latch.{Latch}
use Rattle.circuit.specs.declared.record.Record.{Record}
use Rattle.circuit.specs.declared.record.Side.{Side}
use Rattle.circuit.specs.declared.record.Side.TheVariants.{Event, Answer}
use Rattle.circuit.specs.Parts.{blank_gate, blank_input, blank_latch, blank_literal, answers?}
use Rattle.circuit.specs.Sound.{every, is_blank_input, is_blank_latch, is_blank_gate, blank_past}
use Rattle.aiger.specs.Advance.{event_input, lit}
use Rattle.aiger.specs.Format.{Symbol, names_answer, well_named}
use Rattle.aiger.proofs.Naming.{sided_all}
use Rattle.aiger.proofs.Named.{side_of, sided_at, sided_all_length, names_none}
use Rattle.aiger.proofs.Tables.{set_all, set_blank}

-- blank places
pub every_blank : {X : Type 0} (p : X → Bool) (b : X) → ((x : X) → p x ≡ true → x ≡ b) → (xs : List X) → every p xs ≡ true → xs ≡ replicate (length xs) b
every_blank p b f [] h = refl
every_blank p b f (x ∷ xs) h =
    let q = and_parts (p x) (every p xs) h in
    ap (λ y. y ∷ xs) (f x q.0) ∙ ap (λ ys. b ∷ ys) (every_blank p b f xs q.1)

pub blank_every : {X : Type 0} (p : X → Bool) (b : X) (n : ℕ) → p b ≡ true → every p (replicate n b) ≡ true
blank_every p b zero h = refl
blank_every p b (suc n) h = and_from (p b) (every p (replicate n b)) h (blank_every p b n h)

side_same : (s t : Side) → answers? s ≡ answers? t → s ≡ t
side_same Event Event e = refl
side_same Event Answer e = absurd (let z : ◌≡◌ {A = ℕ} 0 1 = cc in omega arith)
side_same Answer Event e = absurd (let z : ◌≡◌ {A = ℕ} 0 1 = cc in omega arith)
side_same Answer Answer e = refl

input_same : (x y : Input) → x.literal ≡ y.literal → answers? x.side ≡ answers? y.side → x ≡ y
input_same x y l s =
    ap (λ (a : Literal). record { literal = a; side = x.side }) l
    ∙ ap (λ (b : Side). record { literal = y.literal; side = b }) (side_same x.side y.side s)

blank_input_lem : (i : Input) → is_blank_input i ≡ true → i ≡ blank_input
blank_input_lem i h =
    let p = and_parts (eqb i.literal.code 0) (not (answers? i.side)) h in
    input_same i blank_input (ap lit (eqb-true i.literal.code 0 p.0)) (not-true (answers? i.side) p.1)

blank_latch_lem : (l : Latch) → is_blank_latch l ≡ true → l ≡ blank_latch
blank_latch_lem l h =
    let p = and_parts (eqb l.literal.code 0) (eqb l.next.code 0) h in
    ap (λ (a : Literal). record { literal = a; next = l.next }) (ap lit (eqb-true l.literal.code 0 p.0))
    ∙ ap (λ (b : Literal). record { literal = blank_literal; next = b }) (ap lit (eqb-true l.next.code 0 p.1))

blank_gate_lem : (g : Gate) → is_blank_gate g ≡ true → g ≡ blank_gate
blank_gate_lem g h =
    let p = and_parts (eqb g.output.code 0) _ h in
    let q = and_parts (eqb g.left.code 0) (eqb g.right.code 0) p.1 in
    ap (λ (a : Literal). record { output = a; left = g.left; right = g.right }) (ap lit (eqb-true g.output.code 0 p.0))
    ∙ ap (λ (b : Literal). record { output = blank_literal; left = b; right = g.right }) (ap lit (eqb-true g.left.code 0 q.0))
    ∙ ap (λ (c : Literal). record { output = blank_literal; left = blank_literal; right = c }) (ap lit (eqb-true g.right.code 0 q.1))

pub record Blanks (r : Record) (gs : List Gate) : Type 0 where
  pub inputs : drop r.input_count r.inputs ≡ replicate (length r.inputs - r.input_count) blank_input
  pub latches : drop r.latch_count r.latches ≡ replicate (length r.latches - r.latch_count) blank_latch
  pub gates : drop r.gate_count gs ≡ replicate (length gs - r.gate_count) blank_gate

drop_blank : {X : Type 0} (p : X → Bool) (b : X) → ((x : X) → p x ≡ true → x ≡ b) → (n : ℕ) (xs : List X) → every p (drop n xs) ≡ true → drop n xs ≡ replicate (length xs - n) b
drop_blank p b f n xs h = every_blank p b f (drop n xs) h ∙ ap (λ k. replicate k b) (length-drop n xs)

pub blanks_of : (r : Record) (gs : List Gate) → blank_past r gs ≡ true → Blanks r gs
blanks_of r gs h =
    let p = and_parts (every is_blank_input (drop r.input_count r.inputs)) _ h in
    let q = and_parts (every is_blank_latch (drop r.latch_count r.latches)) (every is_blank_gate (drop r.gate_count gs)) p.1 in
    record {
      inputs = drop_blank is_blank_input blank_input blank_input_lem r.input_count r.inputs p.0;
      latches = drop_blank is_blank_latch blank_latch blank_latch_lem r.latch_count r.latches q.0;
      gates = drop_blank is_blank_gate blank_gate blank_gate_lem r.gate_count gs q.1;
    }

pub blanks_past : (r : Record) (gs : List Gate) → Blanks r gs → blank_past r gs ≡ true
blanks_past r gs b =
    and_from (every is_blank_input (drop r.input_count r.inputs)) _
    (ap (every is_blank_input) b.inputs ∙ blank_every is_blank_input blank_input (length r.inputs - r.input_count) refl)
    (and_from (every is_blank_latch (drop r.latch_count r.latches)) _
    (ap (every is_blank_latch) b.latches ∙ blank_every is_blank_latch blank_latch (length r.latches - r.latch_count) refl)
    (ap (every is_blank_gate) b.gates ∙ blank_every is_blank_gate blank_gate (length gs - r.gate_count) refl))

-- a table with its first places set
pub filled_take : {X : Type 0} (xs : List X) (n : ℕ) (b : X) → length xs ≤ n → take (length xs) (set_all (replicate n b) 0 xs) ≡ xs
filled_take xs n b h = ap (take (length xs)) (set_blank xs n b h) ∙ take_at xs (replicate (n - length xs) b) (length xs) refl

pub filled_drop : {X : Type 0} (xs : List X) (n : ℕ) (b : X) → length xs ≤ n → drop (length xs) (set_all (replicate n b) 0 xs) ≡ replicate (n - length xs) b
filled_drop xs n b h = ap (drop (length xs)) (set_blank xs n b h) ∙ drop_at xs (replicate (n - length xs) b) (length xs) refl

pub filled_length : {X : Type 0} (xs : List X) (n : ℕ) (b : X) → length xs ≤ n → length (set_all (replicate n b) 0 xs) ≡ n
filled_length xs n b h =
    ap length (set_blank xs n b h) ∙ length-append xs (replicate (n - length xs) b)
    ∙ ap (λ k. length xs + k) (length-replicate (n - length xs) b) ∙ (let e : length xs + (n - length xs) ≡ n = omega arith in e)

-- the inputs' table before and after the symbols
abbrev pub plain_inputs : List Literal → List Input
plain_inputs ls = set_all (replicate 24 blank_input) 0 (map event_input ls)

abbrev pub sided_table : List Literal → List Symbol → List Input
sided_table ls ss = sided_all ss (plain_inputs ls)

module _ (ls : List Literal) (few : length ls ≤ 24) where
  mapped_few : length (map event_input ls) ≤ 24
  mapped_few = rw length-map few

  plain_length : length (plain_inputs ls) ≡ 24
  plain_length = filled_length (map event_input ls) 24 blank_input mapped_few

  plain_is : plain_inputs ls ≡ map event_input ls ++ replicate (24 - length (map event_input ls)) blank_input
  plain_is = set_blank (map event_input ls) 24 blank_input mapped_few

  plain_at : (j : ℕ) → j < length ls → get_or (plain_inputs ls) j blank_input ≡ event_input (get_or ls j blank_literal)
  plain_at j h =
      ap (λ t. get_or t j blank_input) plain_is
      ∙ get_or_append_left (map event_input ls) _ blank_input j (rw length-map h)
      ∙ get_or-map event_input ls j blank_literal blank_input h

  plain_past : (j : ℕ) → length ls ≤ j → j < 24 → get_or (plain_inputs ls) j blank_input ≡ blank_input
  plain_past j h k =
      ap (λ t. get_or t j blank_input) plain_is
      ∙ get_or-append_right (map event_input ls) _ (length ls) j blank_input (length-map ls event_input) h
      ∙ get_or-replicate (24 - length (map event_input ls)) (j - length ls) blank_input blank_input (rw length-map (omega arith))

  pub table_length : (ss : List Symbol) → length (sided_table ls ss) ≡ 24
  table_length ss = sided_all_length ss (plain_inputs ls) ∙ plain_length

  table_at : (ss : List Symbol) (j : ℕ) → j < 24 → get_or (sided_table ls ss) j blank_input ≡ side_of (names_answer ss j) (get_or (plain_inputs ls) j blank_input)
  table_at ss j h = sided_at ss (plain_inputs ls) j blank_input (rw plain_length h)

  side_literal : (b : Bool) (i : Input) → (side_of b i).literal ≡ i.literal
  side_literal true i = refl
  side_literal false i = refl

  side_answers : (b : Bool) (l : Literal) → answers? (side_of b (event_input l)).side ≡ b
  side_answers true l = refl
  side_answers false l = refl

  pub table_literal : (ss : List Symbol) (j : ℕ) → j < length ls → (get_or (sided_table ls ss) j blank_input).literal ≡ get_or ls j blank_literal
  table_literal ss j h =
      ap (λ i. i.literal) (table_at ss j (omega arith)) ∙ side_literal (names_answer ss j) (get_or (plain_inputs ls) j blank_input)
      ∙ ap (λ i. i.literal) (plain_at j h)

  pub table_side : (ss : List Symbol) (j : ℕ) → j < length ls → answers? (get_or (sided_table ls ss) j blank_input).side ≡ names_answer ss j
  table_side ss j h =
      ap (λ i. answers? i.side) (table_at ss j (omega arith) ∙ ap (side_of (names_answer ss j)) (plain_at j h))
      ∙ side_answers (names_answer ss j) (get_or ls j blank_literal)

  pub table_past : (ss es : List Symbol) (m : Record) (j : ℕ) → m.input_count ≡ length ls → well_named m es ss ≡ true → length ls ≤ j → j < 24 → get_or (sided_table ls ss) j blank_input ≡ blank_input
  table_past ss es m j c w h k =
      table_at ss j k ∙ ap (λ b. side_of b (get_or (plain_inputs ls) j blank_input)) (names_none ss es m j (omega arith) w) ∙ plain_past j h k

  pub table_drop : (ss es : List Symbol) (m : Record) → m.input_count ≡ length ls → well_named m es ss ≡ true → drop (length ls) (sided_table ls ss) ≡ replicate (24 - length ls) blank_input
  table_drop ss es m c w =
      let n : length (drop (length ls) (sided_table ls ss)) ≡ 24 - length ls = length-drop (length ls) (sided_table ls ss) ∙ ap (λ k. k - length ls) (table_length ss) in
      ext_get_or blank_input (drop (length ls) (sided_table ls ss)) (replicate (24 - length ls) blank_input) (n ∙ sym (length-replicate (24 - length ls) blank_input))
      λ i h. get_or-drop (length ls) (sided_table ls ss) i blank_input
      ∙ table_past ss es m (length ls + i) c w (omega arith) (omega arith)
      ∙ sym (get_or-replicate (24 - length ls) i blank_input blank_input (omega arith))

  pub table_literals : (ss : List Symbol) → map (λ i. i.literal) (take (length ls) (sided_table ls ss)) ≡ ls
  table_literals ss =
      let n : length (take (length ls) (sided_table ls ss)) ≡ length ls = length-take-le (length ls) (sided_table ls ss) (rw table_length few) in
      ext_get_or blank_literal (map (λ i. i.literal) (take (length ls) (sided_table ls ss))) ls (length-map (take (length ls) (sided_table ls ss)) (λ i. i.literal) ∙ n)
      λ i h.
      let k : i < length ls = omega (arith, n, length-map (take (length ls) (sided_table ls ss)) (λ (x : Input). x.literal)) in
      let k' : i < length (take (length ls) (sided_table ls ss)) = rw n k in
      get_or-map (λ (x : Input). x.literal) (take (length ls) (sided_table ls ss)) i blank_input blank_literal k'
      ∙ ap (λ x. x.literal) (get_or-take (length ls) (sided_table ls ss) i blank_input k) ∙ table_literal ss i k

-- inputs are the same where their literals and sides are, and the places past them are blank
pub inputs_same : (n : ℕ) (xs ys : List Input) → n ≤ length xs → length xs ≡ length ys
    → map (λ i. i.literal) (take n xs) ≡ map (λ i. i.literal) (take n ys)
    → ((j : ℕ) → j < n → answers? (get_or xs j blank_input).side ≡ answers? (get_or ys j blank_input).side)
    → drop n xs ≡ drop n ys → xs ≡ ys
inputs_same n xs ys h len lits sides rest =
    let nx : length (take n xs) ≡ n = length-take-le n xs h in
    let ny : length (take n ys) ≡ n = length-take-le n ys (omega arith) in
    let front : take n xs ≡ take n ys =
    ext_get_or blank_input (take n xs) (take n ys) (nx ∙ sym ny)
    λ i k.
    let i< : i < n = omega arith in
    let ix : i < length (take n xs) = k in
    let iy : i < length (take n ys) = rw ny i< in
    let gx = get_or-take n xs i blank_input i< in
    let gy = get_or-take n ys i blank_input i< in
    input_same (get_or (take n xs) i blank_input) (get_or (take n ys) i blank_input)
    (sym (get_or-map (λ (x : Input). x.literal) (take n xs) i blank_input blank_literal ix) ∙ ap (λ l. get_or l i blank_literal) lits
    ∙ get_or-map (λ (x : Input). x.literal) (take n ys) i blank_input blank_literal iy)
    (ap (λ x. answers? x.side) gx ∙ sides i i< ∙ sym (ap (λ x. answers? x.side) gy)) in
    sym (take-append-drop n xs) ∙ ap (λ f. f ++ drop n xs) front ∙ ap (λ d. take n ys ++ d) rest ∙ take-append-drop n ys

pub lists_same : {X : Type 0} (n : ℕ) (xs ys : List X) → take n xs ≡ take n ys → drop n xs ≡ drop n ys → xs ≡ ys
lists_same n xs ys front rest =
    sym (take-append-drop n xs) ∙ ap (λ f. f ++ drop n xs) front ∙ ap (λ d. take n ys ++ d) rest ∙ take-append-drop n ys
