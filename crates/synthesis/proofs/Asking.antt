-- What is asked: the lists of assumptions, that they are in range and few, and what sections of marks are.
use Rattle.std.proofs.Common.{◌≡◌, ℕ, ◌+◌, ◌-◌, ◌*◌, ◌/◌, ◌<◌, ◌≤◌, min, Bool, true, false, List, [], ◌∷◌, ◌++◌, length, take, drop, None, Ok, sym, refl, ap, ◌∙◌, subst, arith}
use lib.Bits.{bit_and}
use Rattle.std.specs.List.{AllByRecursion}
use Rattle.std.proofs.lemmas.List.{length-append, take_all, length-take}
use Rattle.literal.specs.declared.Literal.{Literal}
use Rattle.literal.specs.Truth.{variable_of}
use Rattle.circuit.specs.declared.record.Gate.{Gate}
use Rattle.circuit.specs.declared.record.Record.{Record}
use Rattle.circuit.specs.declared.record.Side.TheVariants.{Event, Answer}
use Rattle.circuit.specs.Parts.{inputs_of}
use Rattle.circuit.specs.Sound.{sound, event_count, answer_count}
use Rattle.circuit.specs.Step.{low_bit}
use Rattle.circuit.proofs.Soundness.{soundness}
use Rattle.sat.specs.declared.answer.Answer.{Answer as Reply}
use Rattle.sat.specs.declared.answer.Answer.TheVariants.{Yes, No}
use Rattle.sat.specs.Answers.{Solved, Narrowed, DecidedNarrowly}
use Rattle.sat.specs.Clauses.{Clause, all_true, byte_values}
use Rattle.sat.specs.Faults.{in_range, decide_fault, narrow_fault}
use Rattle.sat.proofs.Checks.{decide_passes, narrow_passes}
use Rattle.sat.proofs.Decisions.{yes_is_not_no}
use Rattle.game.specs.declared.exception.Exception.{Exception}
use Rattle.game.specs.declared.row.Row.{Row}
use Rattle.synthesis.specs.Asked.{FoundAnswer, NoAnswer, NoCandidate}
use Rattle.sat.proofs.Laws.{range_from, range_parts}
use Rattle.encoding.specs.Literals.{due_literal, signed, with_signs, latch_literals, side_literals, state_literals, event_literals, answer_literals, care_of, answer_in}
use Rattle.encoding.proofs.Parts.{Own, latches_own, sides_own}
use Rattle.encoding.proofs.Sizes.{negation_variable}
use Rattle.synthesis.specs.Narrow.{section, row_asked, row_from, exception_asked, first_asked, exception_from}
use Rattle.synthesis.proofs.Good.{counts_of}
use Rattle.synthesis.proofs.Meaning.{signs_length}

pub range_append : (V : ℕ) (xs ys : List Literal) → in_range V xs ≡ true → in_range V ys ≡ true → in_range V (xs ++ ys) ≡ true
range_append V [] ys h g = g
range_append V (x ∷ xs) ys h g = let p = range_parts V x xs h in range_from V x (xs ++ ys) p.0 p.1 (range_append V xs ys p.2 g)

signed_variable : (b : Bool) (l : Literal) → variable_of (signed b l) ≡ variable_of l
signed_variable true l = refl
signed_variable false l = negation_variable l

-- a number's literals have the variables of the model's
signs_range : (V M : ℕ) → M ≤ V → (ls : List Literal) (n : ℕ) → AllByRecursion (Own M) ls → in_range V (with_signs ls n) ≡ true
signs_range V M h [] n own = refl
signs_range V M h (l ∷ ls) n own =
    let e = signed_variable (low_bit n) l in
    range_from V (signed (low_bit n) l) (with_signs ls (n / 2)) (omega (arith, own.0.some)) (omega (arith, own.0.inside)) (signs_range V M h ls (n / 2) own.1)

-- a table takes all of few literals
pub put_few : (t here base more : List Literal) → t ≡ take 64 (here ++ more) → here ≡ base → length base + length more ≤ 64 → t ≡ base ++ more
put_few t here base more e b h = e ∙ ap (λ x. take 64 (x ++ more)) b ∙ take_all 64 (base ++ more) (omega (arith, length-append base more))

module _ (r : Record) (gs : List Gate) (fit : sound r gs ≡ true) where
  pub state_length : (s : ℕ) → length (state_literals r s) ≡ r.latch_count
  state_length s = signs_length (latch_literals r) s ∙ (counts_of r gs fit).latches

  pub event_length : (e : ℕ) → length (event_literals r e) ≡ event_count (inputs_of r)
  event_length e = signs_length (side_literals Event r) e ∙ (counts_of r gs fit).events

  pub answer_length : (a : ℕ) → length (answer_literals r a) ≡ answer_count (inputs_of r)
  answer_length a = signs_length (side_literals Answer r) a ∙ (counts_of r gs fit).answers

  pub row_length : (s e : ℕ) → length (row_asked r s e) ≤ 44
  row_length s e =
      let p = soundness r gs fit in
      omega (arith, length-append (event_literals r e) (state_literals r s), state_length s, event_length e, p.sizes.latches, p.events)

  pub row_range : (V s e : ℕ) → r.maximum ≤ V → in_range V (row_asked r s e) ≡ true
  row_range V s e h =
      range_append V (event_literals r e) (state_literals r s) (signs_range V r.maximum h (side_literals Event r) e (sides_own r gs fit Event)) (signs_range V r.maximum h (latch_literals r) s (latches_own r gs fit))

  pub due_range : (V n : ℕ) → r.maximum + 2 * n + 2 ≤ V → in_range V (due_literal r n ∷ []) ≡ true
  due_range V n h = range_from V (due_literal r n) [] (omega arith) (omega arith) refl

  pub exception_length : (s e a n : ℕ) → length (exception_asked r s e a n) ≤ 57
  exception_length s e a n =
      let p = soundness r gs fit in
      omega (
        arith,
        length-append ((answer_literals r a ++ (due_literal r n ∷ [])) ++ state_literals r s) (event_literals r e),
        length-append (answer_literals r a ++ (due_literal r n ∷ [])) (state_literals r s),
        length-append (answer_literals r a) (due_literal r n ∷ []),
        state_length s,
        event_length e,
        answer_length a,
        p.sizes.latches,
        p.events,
        p.answers,
      )

  pub exception_range : (V s e a n : ℕ) → r.maximum + 2 * n + 2 ≤ V → in_range V (exception_asked r s e a n) ≡ true
  exception_range V s e a n h =
      let M : r.maximum ≤ V = omega arith in
      range_append V ((answer_literals r a ++ (due_literal r n ∷ [])) ++ state_literals r s) (event_literals r e)
      (range_append V (answer_literals r a ++ (due_literal r n ∷ [])) (state_literals r s)
      (range_append V (answer_literals r a) (due_literal r n ∷ []) (signs_range V r.maximum M (side_literals Answer r) a (sides_own r gs fit Answer)) (due_range V n h))
      (signs_range V r.maximum M (latch_literals r) s (latches_own r gs fit)))
      (signs_range V r.maximum M (side_literals Event r) e (sides_own r gs fit Event))

  -- the tables that are filled for the two questions
  pub row_put : (s e : ℕ) (t₀ t₁ t₂ ls : List Literal) → t₀ ≡ [] → t₁ ≡ take 64 (t₀ ++ event_literals r e) → t₂ ≡ take 64 (t₁ ++ state_literals r s) → ls ≡ t₂ → ls ≡ row_asked r s e
  row_put s e t₀ t₁ t₂ ls z p q h =
      let k = soundness r gs fit in
      let a = event_length e in
      let b = state_length s in
      let few = k.events in
      let less = k.sizes.latches in
      h ∙ put_few t₂ t₁ (event_literals r e) (state_literals r s) q (put_few t₁ t₀ [] (event_literals r e) p z (omega arith)) (omega arith)

  pub exception_put : (s e a n : ℕ) (d : Literal) (t₀ t₁ t₂ t₃ t₄ ls : List Literal) → n ≤ 1024 → d ≡ due_literal r (min n 1024) → t₀ ≡ []
      → t₁ ≡ take 64 (t₀ ++ answer_literals r a) → t₂ ≡ take 64 (t₁ ++ (d ∷ [])) → t₃ ≡ take 64 (t₂ ++ state_literals r s) → t₄ ≡ take 64 (t₃ ++ event_literals r e)
      → ls ≡ t₄ → ls ≡ exception_asked r s e a n
  exception_put s e a n d t₀ t₁ t₂ t₃ t₄ ls small dd z p q v w h =
      let k = soundness r gs fit in
      let x = answer_length a in
      let y = state_length s in
      let u = event_length e in
      let few = k.events in
      let less = k.sizes.latches in
      let fewer = k.answers in
      let same : d ≡ due_literal r n = dd ∙ ap (due_literal r) (omega arith) in
      let q' : t₂ ≡ take 64 (t₁ ++ (due_literal r n ∷ [])) = q ∙ ap (λ l. take 64 (t₁ ++ (l ∷ []))) same in
      let one = length-append (answer_literals r a) (due_literal r n ∷ []) in
      let two = length-append (answer_literals r a ++ (due_literal r n ∷ [])) (state_literals r s) in
      h ∙ put_few t₄ t₃ ((answer_literals r a ++ (due_literal r n ∷ [])) ++ state_literals r s) (event_literals r e) w
      (put_few t₃ t₂ (answer_literals r a ++ (due_literal r n ∷ [])) (state_literals r s) v
      (put_few t₂ t₁ (answer_literals r a) (due_literal r n ∷ []) q' (put_few t₁ t₀ [] (answer_literals r a) p z (omega arith)) (omega arith)) (omega arith)) (omega arith)

  -- the solvers refuse neither
  pub row_passes : (W s e first values : ℕ) (ls : List Literal) → ls ≡ row_asked r s e → first ≡ event_count (inputs_of r) → r.maximum + 2 ≤ W → W < values
      → narrow_fault W ls first values 64 ≡ None
  row_passes W s e first values ls a f h v =
      let k = ap length a in
      let len = row_length s e in
      let parts = length-append (event_literals r e) (state_literals r s) in
      let el = event_length e in
      narrow_passes W ls first values 64 (record { ranged = ap (in_range W) a ∙ row_range W s e (omega arith); short = omega arith; values_fit = v; marks_fit = omega arith }) (omega arith)

  pub exception_passes : (V s e a n first values : ℕ) (ls : List Literal) → ls ≡ exception_asked r s e a n → first ≡ answer_count (inputs_of r) + 1 → r.maximum + 2 * n + 2 ≤ V
      → V < values → narrow_fault V ls first values 64 ≡ None
  exception_passes V s e a n first values ls eq f h v =
      let k = ap length eq in
      let len = exception_length s e a n in
      let al = answer_length a in
      let l₁ = length-append ((answer_literals r a ++ (due_literal r n ∷ [])) ++ state_literals r s) (event_literals r e) in
      let l₂ = length-append (answer_literals r a ++ (due_literal r n ∷ [])) (state_literals r s) in
      let l₃ = length-append (answer_literals r a) (due_literal r n ∷ []) in
      narrow_passes V ls first values 64 (record { ranged = ap (in_range V) eq ∙ exception_range V s e a n h; short = omega arith; values_fit = v; marks_fit = omega arith }) (omega arith)

  pub due_passes : (V n values : ℕ) (d : Literal) → n ≤ 1024 → d ≡ due_literal r (min n 1024) → r.maximum + 2 * n + 2 ≤ V → V < values → decide_fault V (d ∷ []) values 64 ≡ None
  due_passes V n values d small dd h v =
      let same : d ≡ due_literal r n = dd ∙ ap (due_literal r) (omega arith) in
      decide_passes V (d ∷ []) values 64 (record { ranged = ap (λ l. in_range V (l ∷ [])) same ∙ due_range V n h; short = omega arith; values_fit = v; marks_fit = omega arith })

-- the mask of a part of the marks, as it is read
pub mask_of_part : (ms part : List ℕ) (care a b n : ℕ) → part ≡ take (b - a) (drop a ms) → care ≡ care_of (take 32 part) → b ≡ a + n → n ≤ 32 → care ≡ care_of (section a n ms)
mask_of_part ms part care a b n p c e h =
    let d : b - a ≡ n = omega arith in
    c ∙ ap (λ x. care_of (take 32 x)) (p ∙ ap (λ k. take k (drop a ms)) d)
    ∙ ap care_of (take_all 32 (take n (drop a ms)) (omega (arith, length-take n (drop a ms))))

module _ (V : ℕ) (cs : List Clause) (assumed : List Literal) (first : ℕ) (vs ms vs' ms' : List ℕ) where
  pub narrow_yes : (a : Reply) → DecidedNarrowly V cs assumed first vs ms vs' ms' (Ok a) → a ≡ Yes → Solved V cs assumed vs vs'
  narrow_yes Yes d e = d.0
  narrow_yes No d e = yes_is_not_no No e refl

  pub narrow_no : (a : Reply) → DecidedNarrowly V cs assumed first vs ms vs' ms' (Ok a) → a ≡ No → Narrowed cs assumed first ms ms'
  narrow_no Yes d e = yes_is_not_no Yes refl e
  narrow_no No d e = d.0

pub found_answer : (r : Record) (V : ℕ) (cs : List Clause) (s e x : ℕ) (ls : List Literal) (vs vs' : List ℕ) → Solved V cs ls vs vs' → ls ≡ row_asked r s e
    → x ≡ answer_in r (byte_values vs') → FoundAnswer r cs s e x
found_answer r V cs s e x ls vs vs' y a h = record {
  values = byte_values vs';
  clauses = y.clauses;
  assumptions = sym (ap (all_true (byte_values vs')) a) ∙ y.assumptions;
  answer = h;
}

pub no_answer : (r : Record) (cs : List Clause) (s e first : ℕ) (ls : List Literal) (ms ms' : List ℕ) (row : Row) → Narrowed cs ls first ms ms' → ls ≡ row_asked r s e
    → first ≡ event_count (inputs_of r) → row ≡ row_from r s e ms' → NoAnswer r cs s e row
no_answer r cs s e first ls ms ms' row n a f h =
    let P : List Literal → Type 0 = λ l. Narrowed cs l first ms ms' in
    let Q : ℕ → Type 0 = λ k. Narrowed cs (row_asked r s e) k ms ms' in
    record { before = ms; marks = ms'; narrowed = subst Q f (subst P a n); made = h }

pub no_candidate : (r : Record) (cs : List Clause) (s e a n first : ℕ) (ls : List Literal) (ms ms' : List ℕ) (x : Exception) → Narrowed cs ls first ms ms' → ls ≡ exception_asked r s e a n
    → first ≡ answer_count (inputs_of r) + 1 → x ≡ exception_from r s e ms' → NoCandidate r cs s e a n x
no_candidate r cs s e a n first ls ms ms' x w q f h =
    let P : List Literal → Type 0 = λ l. Narrowed cs l first ms ms' in
    let Q : ℕ → Type 0 = λ k. Narrowed cs (exception_asked r s e a n) k ms ms' in
    record { before = ms; marks = ms'; narrowed = subst Q f (subst P q w); made = h }

pub row_of : (r : Record) (s e : ℕ) (ms : List ℕ) (m L care : ℕ) → m ≡ event_count (inputs_of r) → L ≡ r.latch_count → r.latch_count ≤ 32
    → care ≡ care_of (take 32 (take ((m + L) - m) (drop m ms))) → ◌≡◌ {A = Row} (record { care = care; value = bit_and s care; event = e }) (row_from r s e ms)
row_of r s e ms m L care p q few h =
    let k = mask_of_part ms _ care m (m + L) L refl h refl (omega arith) in
    let same : care ≡ care_of (section (event_count (inputs_of r)) r.latch_count ms) = k ∙ ap (λ o. care_of (section o L ms)) p ∙ ap (λ n. care_of (section (event_count (inputs_of r)) n ms)) q in
    ap (λ x. record { care = x; value = bit_and s x; event = e }) same

pub exception_of : (r : Record) (s e : ℕ) (ms : List ℕ) (k L m sc ec : ℕ) → k ≡ answer_count (inputs_of r) → L ≡ r.latch_count → m ≡ event_count (inputs_of r)
    → r.latch_count ≤ 32 → event_count (inputs_of r) ≤ 12 → sc ≡ care_of (take 32 (take (((k + 1) + L) - (k + 1)) (drop (k + 1) ms)))
    → ec ≡ care_of (take 32 (take ((((k + 1) + L) + m) - ((k + 1) + L)) (drop ((k + 1) + L) ms)))
    → ◌≡◌ {A = Exception} (record { state_care = sc; state_value = bit_and s sc; event_care = ec; event_value = bit_and e ec }) (exception_from r s e ms)
exception_of r s e ms k L m sc ec p q w few fewer h i =
    let x = mask_of_part ms _ sc (k + 1) ((k + 1) + L) L refl h refl (omega arith) in
    let y = mask_of_part ms _ ec ((k + 1) + L) (((k + 1) + L) + m) m refl i refl (omega arith) in
    let a : sc ≡ care_of (section (first_asked r) r.latch_count ms) = x ∙ ap (λ o. care_of (section (o + 1) L ms)) p ∙ ap (λ n. care_of (section (first_asked r) n ms)) q in
    let b : ec ≡ care_of (section (first_asked r + r.latch_count) (event_count (inputs_of r)) ms) =
    y ∙ ap (λ o. care_of (section ((o + 1) + L) m ms)) p ∙ ap (λ n. care_of (section (first_asked r + n) m ms)) q ∙ ap (λ n. care_of (section (first_asked r + r.latch_count) n ms)) w in
    ap (λ t. record { state_care = t; state_value = bit_and s t; event_care = ec; event_value = bit_and e ec }) a
    ∙ ap (λ t. record { state_care = care_of (section (first_asked r) r.latch_count ms); state_value = bit_and s (care_of (section (first_asked r) r.latch_count ms)); event_care = t; event_value = bit_and e t }) b
