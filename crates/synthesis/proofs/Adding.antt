-- What is left when a row or an exception is added, and that both solvers have room for it.
use Rattle.std.proofs.Common.{◌≡◌, ℕ, ◌+◌, ◌-◌, ◌*◌, ◌<◌, ◌≤◌, Bool, true, false, ◌||◌, List, [], ◌∷◌, ◌++◌, length, is_ok, Some, None, Ok, Err, Result, take, replicate, sym, refl, ap, ◌∙◌, subst, inl, inr, arith}
use Rattle.std.specs.Bool.{then_some}
use Rattle.std.proofs.lemmas.Bool.{both_ways}
use Rattle.std.proofs.lemmas.List.{length-take, length-set, length-replicate, length_push, append-nil}
use Rattle.circuit.specs.declared.record.Gate.{Gate}
use Rattle.circuit.specs.declared.record.Record.{Record}
use Rattle.sat.specs.Clauses.{Meaning, cells_of, with_clauses}
use Rattle.encoding.specs.Holding.{Whole}
use Rattle.roll.specs.declared.roll.Roll.{Roll}
use Rattle.roll.specs.declared.fault.RollFault.{RollFault}
use Rattle.roll.specs.Rolls.{items_of, table_of, Grown, NoPlace, Appended}
use Rattle.game.specs.Rows.{blank_row, blank_exception, row_covers, covered, GoodRow, GoodRows, GoodException, GoodExceptions, RowDue, ExceptionDue}
use Rattle.game.specs.Runs as runs
use Rattle.game.specs.declared.exception.Exception.{Exception}
use Rattle.game.specs.declared.row.Row.{Row}
use Rattle.game.proofs.Covered.{covered-++}
use Rattle.game.proofs.Models.{playable}
use Rattle.game.proofs.Runs.{rows_push, exceptions_none, exceptions_push, lost_run}
use Rattle.encoding.specs.Clauses.{answer_row, answer_clauses, candidate_row, exception_clause, candidate_clauses}
use Rattle.encoding.specs.Laws.{candidate_variables, candidate_row_cells, candidate_base_cells, answer_row_cells, exception_cells}
use Rattle.encoding.proofs.Sizes.{answer_fits, candidate_fits}
use Rattle.synthesis.specs.Held.{fixed_clauses}
use Rattle.synthesis.specs.declared.fault.RunFault.TheVariants.{RowsFull, ExceptionsFull}
use Rattle.synthesis.specs.declared.verdict.Verdict.TheVariants.{Lost}
use Rattle.synthesis.specs.Runs.{Lent, lent, record_of, gates_of, arena, places_of, exception_places_of, Laid, Roomy, Turning, Halted, Turned}
use Rattle.synthesis.proofs.Ends.{laid_more}
use Rattle.synthesis.proofs.Growing.{candidate_fixed, candidate_keep, candidate_row_lem, candidate_exception, answer_row_lem, one_more, as_many}

-- no more are used than there are places
pub used_few : {X : Type 0} (roll : Roll X) → length (items_of roll) ≤ length (table_of roll)
used_few roll = omega (arith, length-take roll.used (table_of roll))

-- an element that was put found a free place, and one that was not found none
pub grown : {X : Type 0} (before after : Roll X) (x : X) (r : Result (Unit {0}) RollFault) → Appended before x r after → true ≡ is_ok r → Grown before x after
grown before after x (Ok u) a e = a
grown before after x (Err f) a e = absurd (both_ways true e refl)

pub no_place : {X : Type 0} (before after : Roll X) (x : X) (r : Result (Unit {0}) RollFault) → Appended before x r after → false ≡ is_ok r
    → (f : RollFault) × NoPlace before after f
no_place before after x (Ok u) a e = absurd (both_ways true (sym e) refl)
no_place before after x (Err f) a e = (f, a)

pub laid_same : (l : Lent) (rows' : Roll Row) (xs' : Roll Exception) (c a : Meaning) (w : List ℕ) → Laid l → items_of rows' ≡ items_of l.rows
    → table_of rows' ≡ table_of l.rows → Laid (lent l.model rows' xs' c a w)
laid_same l rows' xs' c a w d u p =
    p ∙ d ∙ ap (λ is. is ++ replicate (places_of l - length is) blank_row) (sym u)
    ∙ ap (λ t. items_of rows' ++ replicate (length t - length (items_of rows')) blank_row) (sym p)

module _ (l : Lent) (room : Roomy l) (items : List Row) (xs : List Exception) where
  abbrev r : Record
  r = record_of l

  abbrev gs : List Gate
  gs = gates_of l

  pub fixed_cells : length items ≤ places_of l → cells_of (fixed_clauses r gs items) ≤ candidate_base_cells r + candidate_row_cells r * length items
  fixed_cells h =
      let f = ((candidate_fits r gs l.model.fit l.candidate.variables (omega (arith, room.candidate_variables)) (places_of l) room.candidate_variables).all items [] h).few in
      let e : cells_of (candidate_clauses r gs items []) ≡ cells_of (fixed_clauses r gs items) = ap cells_of (candidate_fixed r gs items [] ∙ append-nil (fixed_clauses r gs items)) in
      omega arith

  -- there is room for one row more
  pub row_cells : length items < places_of l → cells_of (fixed_clauses r gs items) + candidate_row_cells r ≤ l.candidate.cells
  row_cells h =
      let f = fixed_cells (omega arith) in
      let p = one_more (candidate_row_cells r) (length items) (places_of l) h in
      omega (arith, room.candidate_cells)

  pub answer_cells_lem : length items < places_of l → cells_of (answer_clauses r gs items) + answer_row_cells r ≤ l.answer.cells
  answer_cells_lem h =
      let f = ((answer_fits r gs l.model.fit l.answer.variables room.answer_variables).all items).few in
      let p = one_more (answer_row_cells r) (length items) (places_of l) h in
      omega (arith, room.answer_cells)

  -- and for one exception more
  pub exception_cells_lem : length items ≤ places_of l → length xs < exception_places_of l → cells_of (candidate_clauses r gs items xs) + exception_cells r ≤ l.candidate.cells
  exception_cells_lem h k =
      let f = ((candidate_fits r gs l.model.fit l.candidate.variables (omega (arith, room.candidate_variables)) (places_of l) room.candidate_variables).all items xs h).few in
      let p = as_many (candidate_row_cells r) (length items) (places_of l) h in
      let q = one_more (exception_cells r) (length xs) (exception_places_of l) k in
      omega (arith, room.candidate_cells)

-- so an exception's clause is held whole
pub exception_whole : (l : Lent) → Roomy l → Turning l → (x : Exception) (xs' : Roll Exception) → Grown l.exceptions x xs' → (m : Meaning) (ok : Bool)
    → Whole (candidate_variables (record_of l) 0) (exception_cells (record_of l)) l.candidate (exception_clause (record_of l) x ∷ []) m ok
    → (ok ≡ true) × (m ≡ with_clauses l.candidate (l.candidate.clauses ++ (exception_clause (record_of l) x ∷ [])))
exception_whole l room t x xs' more m ok whole =
    let e = ap cells_of t.candidate in
    let cells = exception_cells_lem l room (items_of l.rows) (items_of l.exceptions) (used_few l.rows) more.free in
    whole (omega (arith, room.candidate_variables)) (omega arith)

module _ (l : Lent) (t : Turning l) where
  -- every place is used and a row is due
  pub rows_full : (rows' : Roll Row) (f : RollFault) (place : ℕ) → NoPlace l.rows rows' f → place ≡ length (items_of l.rows) → RowDue (arena l) (items_of l.rows)
      → Halted (lent l.model rows' l.exceptions l.candidate l.answer l.work) (Err (RowsFull place))
  rows_full rows' f place n p due =
      let P : List Row → Type 0 = λ is. runs.RowsFull (arena l) (places_of l) is × (place ≡ length is) in
      let Q : List Row → Type 0 = λ ts. runs.RowsFull (arena l) (length ts) (items_of rows') × (place ≡ length (items_of rows')) in (
        laid_same l rows' l.exceptions l.candidate l.answer l.work t.laid n.used n.places,
        subst Q (sym n.places) (subst P (sym n.used)
            (record { rows = t.good_rows; full = (let few = used_few l.rows in let full = n.full in omega arith); due = due; reset_open = t.reset_open }, p)),
      )

  module _ (row : Row) (fine : GoodRow (arena l) (items_of l.rows) row) (rows' : Roll Row) (more : Grown l.rows row rows') (xs' : Roll Exception)
      (e : items_of xs' ≡ []) (c a : Meaning) (w : List ℕ) where
    abbrev next : Lent
    next = lent l.model rows' xs' c a w

    same_places : length (table_of rows') ≡ places_of l
    same_places = ap length more.places ∙ length-set (table_of l.rows) (length (items_of l.rows)) row

    row_blank : Laid next
    row_blank =
        more.places ∙ laid_more blank_row (table_of l.rows) (items_of l.rows) (places_of l) row more.free t.laid
        ∙ ap (λ is. is ++ replicate (places_of l - length is) blank_row) (sym more.used)
        ∙ ap (λ k. items_of rows' ++ replicate (k - length (items_of rows')) blank_row) (sym same_places)

    -- as many places as before, and those past the rows are blank
    pub row_laid : table_of xs' ≡ replicate (exception_places_of l) blank_exception
        → (places_of next ≡ places_of l) × (exception_places_of next ≡ exception_places_of l) × Laid next
    row_laid q = (same_places, ap length q ∙ length-replicate (exception_places_of l) blank_exception, row_blank)

    row_rows : GoodRows (arena l) (items_of rows')
    row_rows = let P : List Row → Type 0 = λ is. GoodRows (arena l) is in subst P (sym more.used) (rows_push (arena l) (items_of l.rows) row t.good_rows fine)

    -- the next turn begins with a row more and no exceptions
    pub row_turning : (k : ℕ) → k ≡ length (fixed_clauses (record_of l) (gates_of l) (items_of l.rows)) → row_covers row 0 ≡ false
        → c.clauses ≡ take k l.candidate.clauses ++ candidate_row (record_of l) row (length (items_of l.rows))
        → a.clauses ≡ l.answer.clauses ++ (answer_row (record_of l) row ∷ [])
        → Turned l next (Ok None)
    row_turning k kept out h g =
        let r = record_of l in
        let gs = gates_of l in
        let X : List Exception → Type 0 = λ ys. GoodExceptions (arena l) (items_of rows') ys in (
          record {
            laid = row_blank;
            good_rows = row_rows;
            good_exceptions = subst X (sym e) (exceptions_none (arena l) (items_of rows'));
            reset_open = ap (λ is. covered is 0) more.used ∙ covered-++ (items_of l.rows) (row ∷ []) 0 ∙ ap (λ b. b || (row_covers row 0 || false)) t.reset_open ∙ ap (λ b. b || false) out;
            candidate = h ∙ ap (λ cs. take k cs ++ candidate_row r row (length (items_of l.rows))) t.candidate
                ∙ ap (λ cs. cs ++ candidate_row r row (length (items_of l.rows))) (candidate_keep r gs (items_of l.rows) (items_of l.exceptions) k kept)
                ∙ candidate_row_lem r gs (items_of l.rows) row
                ∙ ap (λ is. candidate_clauses r gs is []) (sym more.used) ∙ ap (candidate_clauses r gs (items_of rows')) (sym e);
            answer = g ∙ ap (λ cs. cs ++ (answer_row r row ∷ [])) t.answer ∙ answer_row_lem r gs (items_of l.rows) row ∙ ap (answer_clauses r gs) (sym more.used);
          },
          inl (ap length more.used ∙ length_push (items_of l.rows) row),
        )

    -- the host is lost where the row covers reset
    pub row_lost : row_covers row 0 ≡ true → Turned l next (Ok (Some Lost))
    row_lost in_reset =
        let P : List Row → Type 0 = λ is. runs.GivenUp (arena l) (length (table_of rows')) is in
        let play = playable (record_of l) (gates_of l) in
        let free = more.free in
        let same = same_places in (
          row_blank,
          subst P (sym more.used) (lost_run (arena l) play.in_range play.some_state (items_of l.rows) row (length (table_of rows')) (rows_push (arena l) (items_of l.rows) row t.good_rows fine)
              (omega (arith, length_push (items_of l.rows) row)) in_reset t.reset_open),
        )

    -- a row's turn, by whether the row covers reset
    pub row_turned : (k : ℕ) → k ≡ length (fixed_clauses (record_of l) (gates_of l) (items_of l.rows)) → (place : ℕ) → place ≡ length (items_of l.rows)
        → c.clauses ≡ take k l.candidate.clauses ++ candidate_row (record_of l) row place
        → a.clauses ≡ l.answer.clauses ++ (answer_row (record_of l) row ∷ [])
        → (b : Bool) → b ≡ row_covers row 0 → Turned l next (Ok (then_some b Lost))
    row_turned k kept place p h g true q = row_lost (sym q)
    row_turned k kept place p h g false q =
        row_turning k kept (sym q) (h ∙ ap (λ n. take k l.candidate.clauses ++ candidate_row (record_of l) row n) p) g

  -- every place is used and an exception is due
  pub exceptions_full : (xs' : Roll Exception) (f : RollFault) (n : ℕ) → NoPlace l.exceptions xs' f → n ≡ length (items_of l.rows)
      → ExceptionDue (arena l) (items_of l.rows) (items_of l.exceptions)
      → Halted (lent l.model l.rows xs' l.candidate l.answer l.work) (Err (ExceptionsFull n))
  exceptions_full xs' f n stop p due =
      let Q : List Exception → Type 0 = λ ts. runs.ExceptionsFull (arena l) (places_of l) (length ts) (items_of l.rows) in
      let full = stop.full in (
        t.laid,
        (
          subst Q (sym stop.places) (record {
            rows = t.good_rows;
            within = used_few l.rows;
            exceptions = items_of l.exceptions;
            good = t.good_exceptions;
            full = (let few = used_few l.exceptions in omega arith);
            due = due;
            reset_open = t.reset_open;
          }),
          p,
        ),
      )

  -- the next turn begins with an exception more
  pub exception_turning : (x : Exception) → GoodException (arena l) (items_of l.rows) (items_of l.exceptions) x → (xs' : Roll Exception)
      → Grown l.exceptions x xs' → (c a : Meaning) (w : List ℕ) → c.clauses ≡ l.candidate.clauses ++ (exception_clause (record_of l) x ∷ [])
      → a ≡ l.answer → Turned l (lent l.model l.rows xs' c a w) (Ok None)
  exception_turning x fine xs' more c a w h same =
      let r = record_of l in
      let gs = gates_of l in
      let X : List Exception → Type 0 = λ ys. GoodExceptions (arena l) (items_of l.rows) ys in (
        record {
          laid = t.laid;
          good_rows = t.good_rows;
          good_exceptions = subst X (sym more.used) (exceptions_push (arena l) (items_of l.rows) (items_of l.exceptions) x t.good_exceptions fine);
          reset_open = t.reset_open;
          candidate = h ∙ ap (λ cs. cs ++ (exception_clause r x ∷ [])) t.candidate ∙ candidate_exception r gs (items_of l.rows) (items_of l.exceptions) x
              ∙ ap (candidate_clauses r gs (items_of l.rows)) (sym more.used);
          answer = ap (λ m. m.clauses) same ∙ t.answer;
        },
        inr (refl, ap length more.used ∙ length_push (items_of l.exceptions) x),
      )
