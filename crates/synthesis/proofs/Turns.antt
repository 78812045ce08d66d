-- What a turn learns from the two solvers' answers.
use Rattle.std.proofs.Common.{◌≡◌, ℕ, ◌<◌, true, List, [], ◌∷◌, length, Some, None, Ok, Err, Option, Result, sym, refl, ap, ◌∙◌, subst}
use lib.Bits.{bit_and}
use Rattle.std.proofs.lemmas.Bool.{eq-eqb}
use Rattle.circuit.specs.declared.record.Gate.{Gate}
use Rattle.circuit.specs.declared.record.Record.{Record}
use Rattle.circuit.specs.Parts.{inputs_of}
use Rattle.circuit.specs.Sound.{sound, event_count}
use Rattle.circuit.specs.Step.{state_count, event_numbers, answer_numbers}
use Rattle.sat.specs.Answers.{Narrowed}
use Rattle.sat.specs.Clauses.{Clause, satisfies, all_true, Unsatisfiable}
use Rattle.sat.proofs.Laws.{all_parts}
use Rattle.roll.specs.declared.roll.Roll.{Roll}
use Rattle.roll.specs.Rolls.{items_of}
use Rattle.game.specs.Models.{arena_of}
use Rattle.game.specs.Rows.{good, GoodRow, GoodException, RowDue, ExceptionDue}
use Rattle.game.specs.Runs as runs
use Rattle.game.specs.declared.exception.Exception.{Exception}
use Rattle.game.specs.declared.exception.Pair.{Pair}
use Rattle.game.specs.declared.row.Row.{Row}
use Rattle.game.proofs.Models.{playable}
use Rattle.game.proofs.Runs.{kept_run}
use Rattle.encoding.specs.Clauses.{candidate_clauses}
use Rattle.encoding.specs.Laws.{Candidate}
use Rattle.encoding.specs.Literals.{due_literal, state_literals, event_literals, state_in, event_in, answer_in}
use Rattle.synthesis.specs.Asked.{FoundPair, Found, FoundAnswer, NoAnswer, Replied, NoCandidate}
use Rattle.synthesis.specs.Narrow.{row_asked, row_from, exception_asked, first_asked}
use Rattle.synthesis.specs.Runs.{Lent, record_of, gates_of, arena, places_of, exception_places_of, Turning}
use Rattle.synthesis.proofs.Adding.{used_few}
use Rattle.synthesis.proofs.Good.{row_good, nothing_due, candidate_said, good_refuted, exception_good}
use Rattle.synthesis.proofs.Growing.{rows_fit, exceptions_fit}
use Rattle.synthesis.proofs.Meant.{meaning}

-- an answer by its case
pub found_none : (r : Record) (n : ℕ) (cs : List Clause) (o : Option Pair) → o ≡ None → Found r n cs (Ok o) → Unsatisfiable cs (due_literal r n ∷ [])
found_none r n cs o e f = let P : Option Pair → Type 0 = λ x. Found r n cs (Ok x) in subst P e f

pub found_some : (r : Record) (n : ℕ) (cs : List Clause) (o : Option Pair) (p : Pair) → o ≡ Some p → Found r n cs (Ok o) → FoundPair r n cs p
found_some r n cs o p e f = let P : Option Pair → Type 0 = λ x. Found r n cs (Ok x) in subst P e f

pub replied_row : (r : Record) (cs : List Clause) (s e : ℕ) (o : Result ℕ Row) (row : Row) → o ≡ Err row → Replied r cs s e (Ok o) → NoAnswer r cs s e row
replied_row r cs s e o row q f = let P : Result ℕ Row → Type 0 = λ x. Replied r cs s e (Ok x) in subst P q f

pub replied_answer : (r : Record) (cs : List Clause) (s e : ℕ) (o : Result ℕ Row) (a : ℕ) → o ≡ Ok a → Replied r cs s e (Ok o) → FoundAnswer r cs s e a
replied_answer r cs s e o a q f = let P : Result ℕ Row → Type 0 = λ x. Replied r cs s e (Ok x) in subst P q f

-- what clauses, values and marks say between two turns, wherever they come from
module _ (l : Lent) (t : Turning l) where
  abbrev r : Record
  r = record_of l

  abbrev gs : List Gate
  gs = gates_of l

  abbrev fit : sound (record_of l) (gates_of l) ≡ true
  fit = l.model.fit

  abbrev rows : Roll Row
  rows = l.rows

  abbrev xs : Roll Exception
  xs = l.exceptions

  abbrev held : List Clause
  held = l.candidate.clauses

  abbrev heldA : List Clause
  heldA = l.answer.clauses

  -- a no to the first question: the host is kept
  pub turn_kept : (n : ℕ) → n ≡ length (items_of rows) → Unsatisfiable held (due_literal r n ∷ []) → runs.Kept (arena_of r gs) (places_of l) (exception_places_of l) (items_of rows)
  turn_kept n e none =
      let P : List Clause → Type 0 = λ cs. Unsatisfiable cs (due_literal r n ∷ []) in
      let Q : ℕ → Type 0 = λ k. Unsatisfiable (candidate_clauses r gs (items_of rows) (items_of xs)) (due_literal r k ∷ []) in
      let all = nothing_due meaning r gs fit (items_of rows) (rows_fit r gs (items_of rows) t.good_rows) (items_of xs) (exceptions_fit r gs (items_of rows) (items_of xs) t.good_exceptions) (subst Q e (subst P t.candidate none)) in
      let play = playable r gs in
      kept_run (arena_of r gs) play.in_range play.some_state play.some_answer (items_of rows) (items_of xs) (places_of l) (exception_places_of l) t.good_rows
      (used_few rows) t.good_exceptions (used_few xs) all t.reset_open

  -- a yes: a state and an event, and an answer that is not good
  pub record Due (p : Pair) : Type 0 where
    pub state : p.state < state_count r
    pub event : p.event < event_numbers r
    pub answer : ℕ
    pub answer_in_range : answer < answer_numbers r
    pub candidate : Candidate r gs (items_of rows) (items_of xs) p.state p.event answer

  pub turn_due : (n : ℕ) (p : Pair) → n ≡ length (items_of rows) → FoundPair r n held p → Due p
  turn_due n p e f =
      let v = f.values in
      let range = meaning.in_range r gs fit v in
      let c = candidate_said meaning r gs fit (items_of rows) (rows_fit r gs (items_of rows) t.good_rows) (items_of xs) (exceptions_fit r gs (items_of rows) (items_of xs) t.good_exceptions) v
      (ap (satisfies v) (sym t.candidate) ∙ f.clauses) (ap (λ k. all_true v (due_literal r k ∷ [])) (sym e) ∙ f.due) in
      let S : ℕ → Type 0 = λ k. k < state_count r in
      let X : ℕ → Type 0 = λ k. k < event_numbers r in
      let P : ℕ → Type 0 = λ k. Candidate r gs (items_of rows) (items_of xs) k (event_in r v) (answer_in r v) in
      let Q : ℕ → Type 0 = λ k. Candidate r gs (items_of rows) (items_of xs) p.state k (answer_in r v) in
      record {
        state = subst S (sym f.state) range.state;
        event = subst X (sym f.event) range.event;
        answer = answer_in r v;
        answer_in_range = range.answer;
        candidate = subst Q (sym f.event) (subst P (sym f.state) c);
      }

  module _ (p : Pair) (d : Due p) where
    -- no answer: a row
    pub turn_row : (row : Row) → NoAnswer r heldA p.state p.event row → GoodRow (arena_of r gs) (items_of rows) row × RowDue (arena_of r gs) (items_of rows)
    turn_row row n =
        let P : List Clause → Type 0 = λ cs. Narrowed cs (row_asked r p.state p.event) (event_count (inputs_of r)) n.before n.marks in
        let made = row_good meaning r gs fit (items_of rows) (rows_fit r gs (items_of rows) t.good_rows) p.state p.event d.state d.event n.before n.marks
        (subst P t.answer n.narrowed) d.candidate.uncovered in
        let G : Row → Type 0 = λ x. GoodRow (arena_of r gs) (items_of rows) x in (
          subst G (sym n.made) made,
          (
            p.state,
            p.event,
            d.state,
            d.event,
            d.candidate.uncovered,
            λ a la. made.justified p.state a d.state la (eq-eqb (bit_and p.state (row_from r p.state p.event n.marks).care) _ refl),
          ),
        )

    -- an answer: it is good
    pub turn_good : (a : ℕ) → FoundAnswer r heldA p.state p.event a → (a < answer_numbers r) × (good (arena_of r gs) (items_of rows) p.state p.event a ≡ true)
    turn_good a f =
        let v = f.values in
        let parts = all_parts v (event_literals r p.event) (state_literals r p.state) f.assumptions in
        let lits = meaning.literals r gs fit v in
        let s : state_in r v ≡ p.state = (lits.state p.state d.state).0 parts.1 in
        let e : event_in r v ≡ p.event = (lits.event p.event d.event).0 parts.0 in
        let ok = meaning.answer_sound r gs fit (items_of rows) (rows_fit r gs (items_of rows) t.good_rows) v (ap (satisfies v) (sym t.answer) ∙ f.clauses) in
        let A : ℕ → Type 0 = λ k. k < answer_numbers r in (
          subst A (sym f.answer) (meaning.in_range r gs fit v).answer,
          ap (λ k. good (arena_of r gs) (items_of rows) p.state p.event k) f.answer
              ∙ ap (λ k. good (arena_of r gs) (items_of rows) k p.event (answer_in r v)) (sym s)
              ∙ ap (λ k. good (arena_of r gs) (items_of rows) (state_in r v) k (answer_in r v)) (sym e) ∙ ok,
        )

    module _ (a : ℕ) (la : a < answer_numbers r) (ok : good (arena_of r gs) (items_of rows) p.state p.event a ≡ true) (n : ℕ) (e : n ≡ length (items_of rows)) where
      pub turn_refuted : Unsatisfiable held (exception_asked r p.state p.event a n)
      turn_refuted =
          let P : List Clause → Type 0 = λ cs. Unsatisfiable cs (exception_asked r p.state p.event a n) in
          let Q : ℕ → Type 0 = λ k. Unsatisfiable (candidate_clauses r gs (items_of rows) (items_of xs)) (exception_asked r p.state p.event a k) in
          subst P (sym t.candidate) (subst Q (sym e) (good_refuted meaning r gs fit (items_of rows) (rows_fit r gs (items_of rows) t.good_rows) (items_of xs) (exceptions_fit r gs (items_of rows) (items_of xs) t.good_exceptions)
          p.state p.event a d.state d.event la ok))

      pub turn_exception : (x : Exception) → NoCandidate r held p.state p.event a n x
          → GoodException (arena_of r gs) (items_of rows) (items_of xs) x × ExceptionDue (arena_of r gs) (items_of rows) (items_of xs)
      turn_exception x m =
          let P : List Clause → Type 0 = λ cs. Narrowed cs (exception_asked r p.state p.event a n) (first_asked r) m.before m.marks in
          let Q : ℕ → Type 0 = λ k. Narrowed (candidate_clauses r gs (items_of rows) (items_of xs)) (exception_asked r p.state p.event a k) (first_asked r) m.before m.marks in
          let made = exception_good meaning r gs fit (items_of rows) (rows_fit r gs (items_of rows) t.good_rows) (items_of xs) (exceptions_fit r gs (items_of rows) (items_of xs) t.good_exceptions)
          p.state p.event a d.state d.event la t.good_exceptions ok m.before m.marks (subst Q e (subst P t.candidate m.narrowed))
          d.candidate.uncovered d.candidate.unexcepted in
          let G : Exception → Type 0 = λ y. GoodException (arena_of r gs) (items_of rows) (items_of xs) y in (
            subst G (sym m.made) made,
            (p.state, p.event, d.answer, a, d.state, d.event, d.answer_in_range, la, d.candidate.uncovered, d.candidate.unexcepted, d.candidate.not_good, ok),
          )

-- the same by what a turn is given: first by what is found by the candidate solver, after a number of rows
module _ (l : Lent) (t : Turning l) (n : ℕ) (e : n ≡ length (items_of l.rows)) (o : Option Pair)
    (found : Found (record_of l) n l.candidate.clauses (Ok o)) where
  pub kept_found : o ≡ None → runs.Kept (arena l) (places_of l) (exception_places_of l) (items_of l.rows)
  kept_found is = turn_kept l t n e (found_none (record_of l) n l.candidate.clauses o is found)

  pub due_found : (p : Pair) → o ≡ Some p → Due l t p
  due_found p is = turn_due l t n p e (found_some (record_of l) n l.candidate.clauses o p is found)

  -- and what was replied by the answer solver
  module _ (p : Pair) (is : o ≡ Some p) (q : Result ℕ Row) (replied : Replied (record_of l) l.answer.clauses p.state p.event (Ok q)) where
    pub row_replied : (row : Row) → q ≡ Err row → GoodRow (arena l) (items_of l.rows) row × RowDue (arena l) (items_of l.rows)
    row_replied row none = turn_row l t p (due_found p is) row (replied_row (record_of l) l.answer.clauses p.state p.event q row none replied)

    module _ (a : ℕ) (given : q ≡ Ok a) where
      pub good_replied : (a < answer_numbers (record_of l)) × (good (arena l) (items_of l.rows) p.state p.event a ≡ true)
      good_replied = turn_good l t p (due_found p is) a (replied_answer (record_of l) l.answer.clauses p.state p.event q a given replied)

      pub refuted_replied : Unsatisfiable l.candidate.clauses (exception_asked (record_of l) p.state p.event a n)
      refuted_replied = turn_refuted l t p (due_found p is) a good_replied.0 good_replied.1 n e

      pub exception_replied : (x : Exception) → NoCandidate (record_of l) l.candidate.clauses p.state p.event a n x
          → GoodException (arena l) (items_of l.rows) (items_of l.exceptions) x × ExceptionDue (arena l) (items_of l.rows) (items_of l.exceptions)
      exception_replied = turn_exception l t p (due_found p is) a good_replied.0 good_replied.1 n e
