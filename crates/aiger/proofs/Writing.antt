-- A writer's bytes, one text after another.
use Rattle.std.proofs.Common.{◌≡◌, ℕ, zero, suc, ◌+◌, ◌-◌, ◌*◌, ◌/◌, ◌%◌, ◌^◌, ◌<◌, ◌≤◌, min, true, cond, ltb, List, [], ◌∷◌, ◌++◌, map, length, get_or, drop, set, codes, sym, refl, ap, ◌∙◌, append_assoc, zero-add, mul-suc, arith}
use mathlib.Core.List.{map-map}
use Rattle.std.proofs.lemmas.List.{at_drop_more, at_drop_all, length-take-le, length-take, length-append}
use Rattle.std.proofs.lemmas.List.Edits.{sets, sets-eq}
use Rattle.std.proofs.lemmas.Bool.{cond_both}
use Rattle.std.proofs.lemmas.Fmt.{decimal_digit, decimal_step}
use Rattle.text.specs.Number.{decimal_in, decimal}
use Rattle.text.proofs.Inverse.{std_decimal}
use Rattle.circuit.specs.declared.record.Gate.{Gate}
use Rattle.circuit.specs.declared.record.Input.{Input}
use Rattle.circuit.specs.declared.record.Latch.{Latch}
use Rattle.circuit.specs.declared.record.Record.{Record}
use Rattle.circuit.specs.declared.record.Side.{Side}
use Rattle.circuit.specs.declared.record.Side.TheVariants.{Event, Answer}
use Rattle.circuit.specs.Parts.{inputs_of, latches_of, gates_of, answers?}
use Rattle.circuit.specs.Sound.{sound}
use Rattle.circuit.proofs.Soundness.{soundness}
use Rattle.aiger.specs.Format.{Symbol, header_for, input_line, latch_line, gate_line, symbol_texts, answer_symbols, written}
use Rattle.aiger.specs.declared.line.Header.{Header}
use Rattle.aiger.specs.declared.line.SymbolKind.TheVariants as kind
use Rattle.aiger.specs.declared.writer.Writer.{Writer}
use Rattle.aiger.specs.Line.{Content, text_of, texts, header_text}
use Rattle.aiger.specs.Writing.{put_byte, put, answer_line}

put_append : (xs ys : List ℕ) (w : Writer) → put (xs ++ ys) w ≡ put ys (put xs w)
unfolding put
put_append [] ys w = refl
put_append (x ∷ xs) ys w = put_append xs ys (put_byte x w)

-- one text after another
pub chained : (xs ys : List ℕ) (w : Writer) {w' w'' : Writer} → w' ≡ put xs w → w'' ≡ put ys w' → w'' ≡ put (xs ++ ys) w
chained xs ys w e f = f ∙ ap (put ys) e ∙ sym (put_append xs ys w)

pub put_none : (w : Writer) → put [] w ≡ w
unfolding put
put_none w = refl

-- one turn of a loop that puts a line for each element, and its end
module _ {X : Type 0} (line : X → Content) (xs : List X) (i : ℕ) (w : Writer) where
  pub lines_more : (d : X) (w' : Writer) → i < length xs → w' ≡ put (texts (line (get_or xs i d) ∷ [])) w
      → put (texts (map line (drop (i + 1) xs))) w' ≡ put (texts (map line (drop i xs))) w
  lines_more d w' h e =
      chained _ _ _ e refl
      ∙ ap (λ t. put t w) (append_assoc (text_of (line (get_or xs i d))) (10 ∷ []) (texts (map line (drop (i + 1) xs))))
      ∙ sym (at_drop_more (λ t. put (texts (map line t)) w) xs i d h)

  pub lines_all : length xs ≤ i → put (texts (map line (drop i xs))) w ≡ w
  lines_all h = at_drop_all (λ t. put (texts (map line t)) w) xs i h ∙ put_none w

-- a number in decimal: its digits but the last, and then the last
decimal_one : (n : ℕ) → n < 10 → decimal n ≡ (48 + n) ∷ []
decimal_one n h = std_decimal n (omega arith) ∙ decimal_digit n h

decimal_more : (n : ℕ) → n ≤ 65535 → 10 ≤ n → decimal n ≡ decimal (n / 10) ++ ((48 + n % 10) ∷ [])
decimal_more n h k =
    std_decimal n h ∙ decimal_step n k (omega arith) ∙ ap (λ t. t ++ ((48 + n % 10) ∷ [])) (sym (std_decimal (n / 10) (omega arith)))

-- a writer that puts the digits of a number so
pub number_more : (n : ℕ) (w : Writer) {w' w'' : Writer} → n ≤ 65535 → 10 ≤ n → w' ≡ put (decimal (n / 10)) w → w'' ≡ put ((48 + n % 10) ∷ []) w' → w'' ≡ put (decimal n) w
number_more n w h k e f = chained _ _ w e f ∙ ap (λ t. put t w) (sym (decimal_more n h k))

pub number_one : (n : ℕ) (w : Writer) {w' w'' : Writer} → n < 10 → w' ≡ w → w'' ≡ put ((48 + n % 10) ∷ []) w' → w'' ≡ put (decimal n) w
number_one n w h e f =
    let small : n % 10 ≡ n = omega arith in
    f ∙ ap (put ((48 + n % 10) ∷ [])) e ∙ ap (λ k. put ((48 + k) ∷ []) w) small ∙ ap (λ t. put t w) (sym (decimal_one n h))

abbrev answer_symbol : ℕ → Symbol
answer_symbol p = record { kind = kind.Input; position = p; name = codes "controllable_" ++ decimal p }

-- one input more, on either side, and the end
module _ (is : List Input) (i : ℕ) (w : Writer) where
  by_side : Side → Writer
  by_side s =
      put (symbol_texts (cond (answers? s) (answer_symbol i ∷ answer_symbols (i + 1) (drop (i + 1) is)) (answer_symbols (i + 1) (drop (i + 1) is)))) w

  turn : (d : Input) (s : Side) → i < length is → (get_or is i d).side ≡ s → put (symbol_texts (answer_symbols i (drop i is))) w ≡ by_side s
  unfolding by_side
  turn d s h e = at_drop_more (λ t. put (symbol_texts (answer_symbols i t)) w) is i d h ∙ ap by_side e

  pub symbols_more : (d : Input) (w' : Writer) → i < length is → (get_or is i d).side ≡ Answer → w' ≡ put (texts (answer_line i ∷ [])) w
      → put (symbol_texts (answer_symbols (i + 1) (drop (i + 1) is))) w' ≡ put (symbol_texts (answer_symbols i (drop i is))) w
  unfolding by_side
  symbols_more d w' h e f =
      chained _ _ w f refl
      ∙ ap (λ t. put t w) (append_assoc (text_of (answer_line i)) (10 ∷ []) (symbol_texts (answer_symbols (i + 1) (drop (i + 1) is))))
      ∙ sym (turn d Answer h e)

  pub symbols_skip : (d : Input) (w' : Writer) → i < length is → (get_or is i d).side ≡ Event → w' ≡ w
      → put (symbol_texts (answer_symbols (i + 1) (drop (i + 1) is))) w' ≡ put (symbol_texts (answer_symbols i (drop i is))) w
  unfolding by_side
  symbols_skip d w' h e f = ap (put (symbol_texts (answer_symbols (i + 1) (drop (i + 1) is)))) f ∙ sym (turn d Event h e)

  pub symbols_all : length is ≤ i → put (symbol_texts (answer_symbols i (drop i is))) w ≡ w
  symbols_all h = at_drop_all (λ t. put (symbol_texts (answer_symbols i t)) w) is i h ∙ put_none w

texts_append : (cs ds : List Content) → texts (cs ++ ds) ≡ texts cs ++ texts ds
texts_append [] ds = refl
texts_append (c ∷ cs) ds =
    ap (λ t. text_of c ++ 10 ∷ t) (texts_append cs ds) ∙ sym (append_assoc (text_of c) (10 ∷ texts cs) (texts ds))

-- the parts of a written form, one after the other
abbrev joined_parts : List ℕ → List ℕ → List ℕ → List ℕ → List ℕ → List ℕ → List ℕ
joined_parts h i l o g s = h ++ 10 ∷ (i ++ (l ++ (o ++ 10 ∷ (g ++ s))))

parts_assoc : (h i l o g s : List ℕ) → ((((h ++ 10 ∷ []) ++ i) ++ l) ++ (o ++ 10 ∷ [])) ++ g ++ s ≡ joined_parts h i l o g s
parts_assoc h i l o g s = simp append_assoc

parts_length : (h i l o g s : List ℕ) → length (joined_parts h i l o g s) ≡ length h + length i + length l + length o + length g + length s + 2
parts_length h i l o g s = simp length-append (omega arith)

-- the written form, part after part
abbrev parts_of : Header → List Input → List Latch → ℕ → List Gate → List Input → List ℕ
parts_of h is ls o gs js =
    joined_parts (header_text h) (texts (map (λ i. input_line i.literal) is)) (texts (map latch_line ls)) (decimal o) (texts (map gate_line gs))
    (symbol_texts (answer_symbols 0 js))

written_parts : (r : Record) (gs : List Gate) → written r gs ≡ parts_of (header_for r) (inputs_of r) (latches_of r) r.output.code (gates_of r gs) (inputs_of r)
unfolding written
written_parts r gs = simp (texts_append, map-map, append_assoc)

-- the calls that put a model, where each is given its part
module _ (r : Record) (gs : List Gate) (w : Writer) where
  pub put_model : (h : Header) (is : List Input) (ls : List Latch) (o : ℕ) (ps : List Gate) (js : List Input) {w₁ w₂ w₃ w₄ w₅ w₆ : Writer}
      → h ≡ header_for r → is ≡ inputs_of r → ls ≡ latches_of r → o ≡ r.output.code → ps ≡ gates_of r gs → js ≡ inputs_of r
      → w₁ ≡ put (header_text h ++ 10 ∷ []) w
      → w₂ ≡ put (texts (map (λ i. input_line i.literal) is)) w₁
      → w₃ ≡ put (texts (map latch_line ls)) w₂
      → w₄ ≡ put (decimal o ++ 10 ∷ []) w₃
      → w₅ ≡ put (texts (map gate_line ps)) w₄
      → w₆ ≡ put (symbol_texts (answer_symbols 0 js)) w₅
      → w₆ ≡ put (written r gs) w
  put_model h is ls o ps js eh ei el eo eg ej e₁ e₂ e₃ e₄ e₅ e₆ =
      chained _ _ w (chained _ _ w (chained _ _ w (chained _ _ w (chained _ _ w e₁ e₂) e₃) e₄) e₅) e₆
      ∙ ap (λ t. put t w)
      (parts_assoc (header_text h) (texts (map (λ i. input_line i.literal) is)) (texts (map latch_line ls)) (decimal o) (texts (map gate_line ps)) (symbol_texts (answer_symbols 0 js))
      ∙ ap (λ x. parts_of x is ls o ps js) eh
      ∙ ap (λ x. parts_of (header_for r) x ls o ps js) ei
      ∙ ap (λ x. parts_of (header_for r) (inputs_of r) x o ps js) el
      ∙ ap (λ x. parts_of (header_for r) (inputs_of r) (latches_of r) x ps js) eo
      ∙ ap (λ x. parts_of (header_for r) (inputs_of r) (latches_of r) r.output.code x js) eg
      ∙ ap (λ x. parts_of (header_for r) (inputs_of r) (latches_of r) r.output.code (gates_of r gs) x) ej
      ∙ sym (written_parts r gs))

pub inputs_length : (r : Record) (gs : List Gate) → sound r gs ≡ true → length (inputs_of r) ≡ r.input_count
inputs_length r gs h =
    let sizes = (soundness r gs h).sizes in length-take-le r.input_count r.inputs (omega arith)

-- where a writer stands after a text, and what it leaves, while the count has room
put_at : (xs : List ℕ) (w : Writer) → w.at + length xs < 2 ^ 64 → (put xs w).at ≡ w.at + length xs
unfolding put put_byte
put_at [] w h = omega arith
put_at (x ∷ xs) w h = let r = put_at xs (put_byte x w) (omega arith) in omega arith

put_bytes : (xs : List ℕ) (w : Writer) → w.at + length xs < 2 ^ 64 → (put xs w).buffer.now ≡ sets w.buffer.now w.at xs
unfolding put put_byte
put_bytes [] w h = refl
put_bytes (x ∷ xs) w h =
    let next : min (w.at + 1) (2 ^ 64 - 1) ≡ suc w.at = omega arith in
    put_bytes xs (put_byte x w) (omega arith) ∙ ap (λ i. sets (set w.buffer.now w.at x) i xs) next

put_name : (xs : List ℕ) (w : Writer) → (put xs w).buffer.ghost_name ≡ w.buffer.ghost_name
unfolding put put_byte
put_name [] w = refl
put_name (x ∷ xs) w = put_name xs (put_byte x w)

pub record FromStart (xs : List ℕ) (w w' : Writer) : Type 0 where
  pub at : w'.at ≡ length xs
  pub same : w'.buffer.ghost_name ≡ w.buffer.ghost_name
  pub bytes : length xs ≤ length w.buffer.now → w'.buffer.now ≡ xs ++ drop (length xs) w.buffer.now

pub from_start : (xs : List ℕ) (w w' : Writer) → length xs < 2 ^ 64 → w.at ≡ 0 → w' ≡ put xs w → FromStart xs w w'
from_start xs w w' short z e =
    let room : w.at + length xs < 2 ^ 64 = omega arith in
    record {
      at = ap (λ v. v.at) e ∙ put_at xs w room ∙ omega arith;
      same = ap (λ v. v.buffer.ghost_name) e ∙ put_name xs w;
      bytes = λ h. ap (λ v. v.buffer.now) e ∙ put_bytes xs w room ∙ ap (λ i. sets w.buffer.now i xs) z
          ∙ sets-eq xs w.buffer.now 0 (omega arith) ∙ ap (λ n. xs ++ drop n w.buffer.now) (zero-add (length xs));
    }

-- how long a text is at most
digits_short : (k n : ℕ) → length (decimal_in k n) ≤ k
digits_short zero n = omega arith
digits_short (suc k) n =
    cond_both (ltb n 10) _ _ (λ ds. length ds ≤ suc k)
    (λ e. omega arith)
    (λ e. simp length-append (omega (arith, digits_short k (n / 10))))

decimal_short : (n : ℕ) → length (decimal n) ≤ 5
unfolding decimal
decimal_short n = digits_short 5 n

texts_short : {X : Type 0} (line : X → Content) (k : ℕ) → ((x : X) → length (text_of (line x)) < k) → (xs : List X) → length (texts (map line xs)) ≤ k * length xs
texts_short line k h [] = omega arith
texts_short line k h (x ∷ xs) =
    simp length-append (omega (arith, h x, texts_short line k h xs, mul-suc k (length xs)))

input_short : (i : Input) → length (text_of (input_line i.literal)) < 6
input_short i = omega (arith, decimal_short i.literal.code)

latch_short : (l : Latch) → length (text_of (latch_line l)) < 12
latch_short l = simp length-append (omega (arith, decimal_short l.literal.code, decimal_short l.next.code))

gate_short : (g : Gate) → length (text_of (gate_line g)) < 18
gate_short g =
    simp length-append (omega (arith, decimal_short g.output.code, decimal_short g.left.code, decimal_short g.right.code))

symbols_short : (at : ℕ) (is : List Input) → length (symbol_texts (answer_symbols at is)) ≤ 26 * length is
symbols_short at [] = omega arith
symbols_short at (i ∷ is) =
    let rest = symbols_short (at + 1) is in
    elim i.side as (λ s. length (symbol_texts (cond (answers? s) (answer_symbol at ∷ answer_symbols (at + 1) is) (answer_symbols (at + 1) is))) ≤ 26 * length (i ∷ is)) [
      | Event ↦ omega arith
      | Answer ↦ simp length-append (omega (arith, decimal_short at))
    ]

header_short : (h : Header) → length (header_text h) < 34
header_short h =
    simp length-append (omega (arith, decimal_short h.maximum, decimal_short h.inputs, decimal_short h.latches, decimal_short h.outputs, decimal_short h.gates))

-- the text of a sound model is no longer than a file may be
pub written_short : (r : Record) (gs : List Gate) → sound r gs ≡ true → length (written r gs) ≤ 65536
written_short r gs h =
    let sizes = (soundness r gs h).sizes in
    let inputs = texts_short (λ i. input_line i.literal) 6 input_short (inputs_of r) in
    let latches = texts_short latch_line 12 latch_short (latches_of r) in
    let gates = texts_short gate_line 18 gate_short (gates_of r gs) in
    let symbols = symbols_short 0 (inputs_of r) in
    let head = header_short (header_for r) in
    let all = parts_length (header_text (header_for r)) (texts (map (λ i. input_line i.literal) (inputs_of r))) (texts (map latch_line (latches_of r))) (decimal r.output.code) (texts (map gate_line (gates_of r gs))) (symbol_texts (answer_symbols 0 (inputs_of r))) in
    omega (arith, ap length (written_parts r gs), inputs_length r gs h, length-take r.latch_count r.latches, length-take r.gate_count gs, decimal_short r.output.code)
