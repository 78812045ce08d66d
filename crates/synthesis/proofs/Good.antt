-- Rows and exceptions that a solver's narrow no gives are good, and where the candidate solver says no nothing is due.
use Rattle.std.proofs.Common.{◌≡◌, ℕ, ◌+◌, ◌<◌, ◌≤◌, true, false, cond, ◌≢◌, List, [], ◌∷◌, ◌++◌, length, get_or, set, sym, refl, ap, ◌∙◌, subst, inl, inr, arith}
use lib.Bits.{bit_and}
use Rattle.std.specs.List.{AllByRecursion}
use Rattle.std.proofs.lemmas.List.{length-append, length-map, length-take-le, length_push, get_or-set_other}
use Rattle.std.proofs.lemmas.Bool.{both_ways, cases_Bool, and_from, and_parts, eq-eqb}
use Rattle.literal.specs.Truth.{Values, truth}
use Rattle.circuit.specs.declared.record.Gate.{Gate}
use Rattle.circuit.specs.declared.record.Record.{Record}
use Rattle.circuit.specs.declared.record.Side.TheVariants.{Event, Answer}
use Rattle.circuit.specs.declared.record.Input.{Input}
use Rattle.circuit.specs.declared.record.Side.{Side}
use Rattle.circuit.specs.Parts.{inputs_of, latches_of, answers?}
use Rattle.circuit.specs.Settled.{of_side, same_side}
use Rattle.circuit.proofs.Soundness.{soundness}
use Rattle.circuit.specs.Sound.{sound, event_count, answer_count}
use Rattle.circuit.specs.Step.{all_false, bit, state_count, event_numbers, answer_numbers}
use Rattle.sat.specs.Clauses.{all_true, satisfies, Unsatisfiable, marked}
use Rattle.sat.specs.Answers.{Narrowed}
use Rattle.sat.proofs.Laws.{all_append, all_parts, marked_whole, marked_every}
use Rattle.game.specs.Game.{Arena}
use Rattle.game.specs.Models.{arena_of}
use Rattle.game.specs.Rows.{row_covers, covered, excepted, good, agrees, less_bit, wider, wider_state, wider_event, Justified, Tight, GoodRow, GoodException, GoodExceptions, Serves, AllGood}
use Rattle.game.specs.declared.exception.Exception.{Exception}
use Rattle.game.specs.declared.row.Row.{Row}
use Rattle.game.proofs.Dues.{served}
use Rattle.encoding.specs.Literals.{due_literal, latch_literals, side_literals, state_literals, event_literals, answer_literals, state_in, event_in, answer_in}
use Rattle.encoding.specs.Clauses.{answer_clauses, candidate_clauses}
use Rattle.encoding.specs.Laws.{RowFits, ExceptionFits, SaidInRange, SaidByLiterals, MarksSay, AnswerSound, AnswerComplete, Candidate, CandidateSound, CandidateComplete}
use Rattle.synthesis.specs.Narrow.{section, row_asked, row_from, exception_asked, first_asked, exception_from}
use Rattle.synthesis.proofs.Meaning.{signs_length, section_less, section_past, section_before, mask_mark, mask_below, asked_both, asked_parts, part_agrees, part_agrees_less}

-- what the clauses mean
pub record Meaning : Type 0 where
  pub in_range : SaidInRange
  pub literals : SaidByLiterals
  pub marks : MarksSay
  pub answer_sound : AnswerSound
  pub answer_complete : AnswerComplete
  pub candidate_sound : CandidateSound
  pub candidate_complete : CandidateComplete

-- as many literals as bits
pub record Counts (r : Record) : Type 0 where
  pub latches : length (latch_literals r) ≡ r.latch_count
  pub events : length (side_literals Event r) ≡ event_count (inputs_of r)
  pub answers : length (side_literals Answer r) ≡ answer_count (inputs_of r)

pub counts_of : (r : Record) (gs : List Gate) → sound r gs ≡ true → Counts r
counts_of r gs fit =
    let s = soundness r gs fit in
    record {
      latches = length-map (latches_of r) _ ∙ length-take-le r.latch_count r.latches (omega (arith, s.sizes.latches, s.sizes.latch_places));
      events = length-map (of_side Event (inputs_of r)) _ ∙ events_counted (inputs_of r);
      answers = length-map (of_side Answer (inputs_of r)) _ ∙ answers_counted (inputs_of r);
    }
  where
    events_counted : (is : List Input) → length (of_side Event is) ≡ event_count is
    events_counted [] = refl
    events_counted (i ∷ is) = one i.side (events_counted is)
      where
        one : (t : Side) → length (of_side Event is) ≡ event_count is → length (cond (same_side Event t) (i ∷ of_side Event is) (of_side Event is)) ≡ cond (answers? t) 0 1 + event_count is
        one Event h = omega arith
        one Answer h = omega arith

    answers_counted : (is : List Input) → length (of_side Answer is) ≡ answer_count is
    answers_counted [] = refl
    answers_counted (i ∷ is) = one i.side (answers_counted is)
      where
        one : (t : Side) → length (of_side Answer is) ≡ answer_count is → length (cond (same_side Answer t) (i ∷ of_side Answer is) (of_side Answer is)) ≡ cond (answers? t) 1 0 + answer_count is
        one Event h = omega arith
        one Answer h = omega arith

module _ (m : Meaning) (r : Record) (gs : List Gate) (fit : sound r gs ≡ true) (rows : List Row) (rowsFit : AllByRecursion (RowFits r) rows) where
  abbrev g : Arena
  g = arena_of r gs

  n : Counts r
  n = counts_of r gs fit

  module _ (s e : ℕ) (ls : s < state_count r) (le : e < event_numbers r) (before marks : List ℕ)
      (no : Narrowed (answer_clauses r gs rows) (row_asked r s e) (event_count (inputs_of r)) before marks) where
    event_length : length (event_literals r e) ≡ event_count (inputs_of r)
    event_length = signs_length (side_literals Event r) e ∙ n.events

    state_length : length (state_literals r s) ≡ r.latch_count
    state_length = signs_length (latch_literals r) s ∙ n.latches

    -- at every state of the row, the event has no good answer
    row_justified : Justified g rows (row_from r s e marks)
    row_justified s' a ls' la c = elim (cases_Bool (good g rows s' e a)) [
      | inl t ↦ (let w = m.answer_complete r gs fit rows rowsFit s' e a ls' le la t in
          let v = w.0 in
          let is : state_in r v ≡ s' = ((m.literals r gs fit v).state s' ls').0 w.2.0 in
          let p : all_true v (marked (state_literals r s) (section (event_count (inputs_of r)) r.latch_count marks)) ≡ true =
          part_agrees m.marks (latch_literals r) s v (event_count (inputs_of r)) r.latch_count marks n.latches
          ∙ ap (λ x. row_covers (row_from r s e marks) x) is ∙ c in
          absurd (no.refuted.none v w.1
          (asked_both m.marks v (event_literals r e) (state_literals r s) (event_count (inputs_of r)) r.latch_count marks event_length state_length
          (marked_whole v (event_literals r e) marks w.2.1) p)))
      | inr f ↦ f
    ]

    -- where one mark is left out, an event of a wider row has a good answer
    row_tight : Tight g rows (row_from r s e marks)
    row_tight j b j' =
        let m₀ = event_count (inputs_of r) in
        let L = r.latch_count in
        let mark = mask_mark m.marks m₀ L marks j b in
        let w = no.narrow (m₀ + j) (omega arith) (omega (arith, mark.0, length-append (event_literals r e) (state_literals r s), event_length, state_length)) mark.1 in
        let v = w.0 in
        let p = asked_parts m.marks v (event_literals r e) (state_literals r s) m₀ L (set marks (m₀ + j) 0) event_length state_length w.2 in
        let ev : event_in r v ≡ e =
        ((m.literals r gs fit v).event e le).0 (marked_every v (event_literals r e) (set marks (m₀ + j) 0)
        (λ k l. let d : k ≢ m₀ + j = omega (arith, event_length) in get_or-set_other marks (m₀ + j) k 0 0 d ∙ no.firsts k (omega (arith, event_length))) p.0) in
        let c : row_covers (wider (row_from r s e marks) j) (state_in r v) ≡ true =
        sym (part_agrees_less m.marks (latch_literals r) s v m₀ L marks n.latches j)
        ∙ ap (λ t. all_true v (marked (state_literals r s) t)) (sym (section_less m₀ L marks j)) ∙ p.1 in
        let range = m.in_range r gs fit v in
        let ok : good g rows (state_in r v) e (answer_in r v) ≡ true =
        ap (λ x. good g rows (state_in r v) x (answer_in r v)) (sym ev) ∙ m.answer_sound r gs fit rows rowsFit v w.1 in
        both_ways _ (j' (state_in r v) (answer_in r v) range.state range.answer c) ok

    pub row_good : covered rows s ≡ false → GoodRow g rows (row_from r s e marks)
    row_good out = record {
      care_in_range = mask_below m.marks (latch_literals r) s all_false (event_count (inputs_of r)) r.latch_count marks n.latches;
      value_in_care = m.marks.inside s _;
      event_in_range = le;
      justified = row_justified;
      tight = row_tight;
      new = (s, ls, eq-eqb _ _ refl, out);
    }

  module _ (xs : List Exception) (xsFit : AllByRecursion (ExceptionFits r) xs) where
    -- the candidate solver says no where something is due: nothing is
    pub nothing_due : Unsatisfiable (candidate_clauses r gs rows xs) (due_literal r (length rows) ∷ []) → AllGood g rows xs
    nothing_due none s e a ls le la c x = elim (cases_Bool (good g rows s e a)) [
      | inl t ↦ t
      | inr f ↦ (let w = m.candidate_complete r gs fit rows rowsFit xs xsFit s e a ls le la (record { uncovered = c; unexcepted = x; not_good = f }) in
          absurd (none w.0 w.1 (and_from _ true w.2 refl)))
    ]

    -- values for it speak of a state, an event and an answer that is not good
    pub candidate_said : (v : Values) → satisfies v (candidate_clauses r gs rows xs) ≡ true → all_true v (due_literal r (length rows) ∷ []) ≡ true
        → Candidate r gs rows xs (state_in r v) (event_in r v) (answer_in r v)
    candidate_said v h d = m.candidate_sound r gs fit rows rowsFit xs xsFit v h (and_parts (truth v (due_literal r (length rows))) true d).0

    module _ (s e a : ℕ) (ls : s < state_count r) (le : e < event_numbers r) (la : a < answer_numbers r) where
      firsts_length : length (answer_literals r a ++ (due_literal r (length rows) ∷ [])) ≡ first_asked r
      firsts_length = length_push (answer_literals r a) (due_literal r (length rows)) ∙ ap (λ x. x + 1) (signs_length (side_literals Answer r) a ∙ n.answers)

      states_length : length (state_literals r s) ≡ r.latch_count
      states_length = signs_length (latch_literals r) s ∙ n.latches

      events_length : length (event_literals r e) ≡ event_count (inputs_of r)
      events_length = signs_length (side_literals Event r) e ∙ n.events

      two_length : length ((answer_literals r a ++ (due_literal r (length rows) ∷ [])) ++ state_literals r s) ≡ first_asked r + r.latch_count
      two_length = length-append (answer_literals r a ++ (due_literal r (length rows) ∷ [])) (state_literals r s) ∙ (let p = firsts_length in let q = states_length in omega arith)

      -- an answer that is good is no candidate
      pub good_refuted : good g rows s e a ≡ true → Unsatisfiable (candidate_clauses r gs rows xs) (exception_asked r s e a (length rows))
      good_refuted ok v h all =
          let p = all_parts v ((answer_literals r a ++ (due_literal r (length rows) ∷ [])) ++ state_literals r s) (event_literals r e) all in
          let q = all_parts v (answer_literals r a ++ (due_literal r (length rows) ∷ [])) (state_literals r s) p.0 in
          let t = all_parts v (answer_literals r a) (due_literal r (length rows) ∷ []) q.0 in
          let lits = m.literals r gs fit v in
          let bad = (candidate_said v h t.1).not_good in
          both_ways (good g rows s e a)
          (ap (λ x. good g rows x e a) (sym ((lits.state s ls).0 q.1)) ∙ ap (λ x. good g rows (state_in r v) x a) (sym ((lits.event e le).0 p.1))
          ∙ ap (λ x. good g rows (state_in r v) (event_in r v) x) (sym ((lits.answer a la).0 t.0)) ∙ bad) ok

      module _ (fine : GoodExceptions g rows xs) (ok : good g rows s e a ≡ true) (before marks : List ℕ)
          (no : Narrowed (candidate_clauses r gs rows xs) (exception_asked r s e a (length rows)) (first_asked r) before marks) where
        abbrev F : ℕ
        F = first_asked r

        abbrev L : ℕ
        L = r.latch_count

        abbrev E : ℕ
        E = event_count (inputs_of r)

        abbrev x : Exception
        x = exception_from r s e marks

        -- at all the exception's pairs the answer is good
        x_serves : Serves g rows xs (exception_from r s e marks) a
        x_serves s' e' ls' le' k c u = elim (cases_Bool (good g rows s' e' a)) [
          | inl t ↦ t
          | inr f ↦ (let w = m.candidate_complete r gs fit rows rowsFit xs xsFit s' e' a ls' le' la (record { uncovered = c; unexcepted = u; not_good = f }) in
              let v = w.0 in
              let lits = m.literals r gs fit v in
              let parts = and_parts (agrees x.state_care x.state_value s') (agrees x.event_care x.event_value e') k in
              let p : all_true v (marked (state_literals r s) (section F L marks)) ≡ true =
              part_agrees m.marks (latch_literals r) s v F L marks n.latches ∙ ap (λ t. agrees x.state_care x.state_value t) ((lits.state s' ls').0 w.3.0) ∙ parts.0 in
              let q : all_true v (marked (event_literals r e) (section (F + L) E marks)) ≡ true =
              part_agrees m.marks (side_literals Event r) e v (F + L) E marks n.events ∙ ap (λ t. agrees x.event_care x.event_value t) ((lits.event e' le').0 w.3.1) ∙ parts.1 in
              let f₀ = all_append v (answer_literals r a) (due_literal r (length rows) ∷ []) w.3.2 (and_from _ true w.2 refl) in
              absurd (no.refuted.none v w.1
              (asked_both m.marks v ((answer_literals r a ++ (due_literal r (length rows) ∷ [])) ++ state_literals r s) (event_literals r e) (F + L) E marks two_length events_length
              (asked_both m.marks v (answer_literals r a ++ (due_literal r (length rows) ∷ [])) (state_literals r s) F L marks firsts_length states_length
              (marked_whole v (answer_literals r a ++ (due_literal r (length rows) ∷ [])) marks f₀) p) q)))
        ]

        -- values without one of the later marks: the answer is a candidate's, and what the other marks say
        pub record Without (K : ℕ) : Type 0 where
          pub values : Values
          pub state : all_true values (marked (state_literals r s) (section F L (set marks K 0))) ≡ true
          pub event : all_true values (marked (event_literals r e) (section (F + L) E (set marks K 0))) ≡ true
          pub candidate : Candidate r gs rows xs (state_in r values) (event_in r values) a

        without : (K : ℕ) → F ≤ K → K < F + L + E → get_or marks K 0 ≡ 1 → Without K
        without K lo hi mark =
            let all-length : length (exception_asked r s e a (length rows)) ≡ F + L + E =
            length-append ((answer_literals r a ++ (due_literal r (length rows) ∷ [])) ++ state_literals r s) (event_literals r e) ∙ (let p = two_length in let q = events_length in omega arith) in
            let w = no.narrow K lo (omega arith) mark in
            let v = w.0 in
            let p = asked_parts m.marks v ((answer_literals r a ++ (due_literal r (length rows) ∷ [])) ++ state_literals r s) (event_literals r e) (F + L) E (set marks K 0) two_length events_length w.2 in
            let q = asked_parts m.marks v (answer_literals r a ++ (due_literal r (length rows) ∷ [])) (state_literals r s) F L (set marks K 0) firsts_length states_length p.0 in
            let f = marked_every v (answer_literals r a ++ (due_literal r (length rows) ∷ [])) (set marks K 0)
            (λ k l. let d : k ≢ K = omega (arith, firsts_length) in get_or-set_other marks K k 0 0 d ∙ no.firsts k (omega (arith, firsts_length))) q.0 in
            let t = all_parts v (answer_literals r a) (due_literal r (length rows) ∷ []) f in
            let an : answer_in r v ≡ a = ((m.literals r gs fit v).answer a la).0 t.0 in
            let C : ℕ → Type 0 = λ y. Candidate r gs rows xs (state_in r v) (event_in r v) y in
            record { values = v; state = q.1; event = p.1; candidate = subst C an (candidate_said v w.1 t.1) }

        x_tight_state : (j : ℕ) → bit x.state_care j ≡ true → Serves g rows xs (wider_state x j) a → ⊥
        x_tight_state j b serves =
            let mark = mask_mark m.marks F L marks j b in
            let w = without (F + j) (omega arith) (omega (arith, mark.0)) mark.1 in
            let v = w.values in
            let range = m.in_range r gs fit v in
            let p : agrees (less_bit x.state_care j) (less_bit x.state_value j) (state_in r v) ≡ true =
            sym (part_agrees_less m.marks (latch_literals r) s v F L marks n.latches j) ∙ ap (λ t. all_true v (marked (state_literals r s) t)) (sym (section_less F L marks j)) ∙ w.state in
            let q : agrees x.event_care x.event_value (event_in r v) ≡ true =
            sym (part_agrees m.marks (side_literals Event r) e v (F + L) E marks n.events)
            ∙ ap (λ t. all_true v (marked (event_literals r e) t)) (sym (section_past (F + L) E marks (F + j) (omega (arith, mark.0)))) ∙ w.event in
            both_ways _ w.candidate.not_good (serves (state_in r v) (event_in r v) range.state range.event (and_from _ _ p q) w.candidate.uncovered w.candidate.unexcepted)

        x_tight_event : (j : ℕ) → bit x.event_care j ≡ true → Serves g rows xs (wider_event x j) a → ⊥
        x_tight_event j b serves =
            let mark = mask_mark m.marks (F + L) E marks j b in
            let w = without (F + L + j) (omega arith) (omega (arith, mark.0)) mark.1 in
            let v = w.values in
            let range = m.in_range r gs fit v in
            let p : agrees x.state_care x.state_value (state_in r v) ≡ true =
            sym (part_agrees m.marks (latch_literals r) s v F L marks n.latches)
            ∙ ap (λ t. all_true v (marked (state_literals r s) t)) (sym (section_before F L marks (L + j) (omega arith)) ∙ ap (λ k. section F L (set marks k 0)) (omega arith)) ∙ w.state in
            let q : agrees (less_bit x.event_care j) (less_bit x.event_value j) (event_in r v) ≡ true =
            sym (part_agrees_less m.marks (side_literals Event r) e v (F + L) E marks n.events j) ∙ ap (λ t. all_true v (marked (event_literals r e) t)) (sym (section_less (F + L) E marks j)) ∙ w.event in
            both_ways _ w.candidate.not_good (serves (state_in r v) (event_in r v) range.state range.event (and_from _ _ p q) w.candidate.uncovered w.candidate.unexcepted)

        pub exception_good : covered rows s ≡ false → excepted xs s e ≡ false → GoodException g rows xs (exception_from r s e marks)
        exception_good out open' = record {
          state_care_in_range = mask_below m.marks (latch_literals r) s all_false F L marks n.latches;
          state_value_in_care = m.marks.inside s _;
          event_care_in_range = mask_below m.marks (side_literals Event r) e all_false (F + L) E marks n.events;
          event_value_in_care = m.marks.inside e _;
          harmless = served g rows xs (exception_from r s e marks) a fine la x_serves;
          answer = a;
          answer_in_range = la;
          serves = x_serves;
          tight_state = x_tight_state;
          tight_event = x_tight_event;
          new = (s, e, ls, le, and_from _ _ (eq-eqb (bit_and s x.state_care) _ refl) (eq-eqb (bit_and e x.event_care) _ refl), out, open');
        }
