-- What is due, and what follows when nothing is.
use Rattle.std.proofs.Common.{◌≡◌, ℕ, ◌<◌, true, false, List, [], ◌∷◌, length, inl, inr, arith}
use Rattle.std.proofs.lemmas.Bool.{both_ways, cases_Bool}
use Rattle.roll.proofs.First.{first_of}
use Rattle.game.specs.Game.{Arena, some}
use Rattle.game.specs.Rows.{covered, good, Answered, AllGood, exception_covers, excepted, Serves, GoodExceptions, RowDue, ExceptionDue}
use Rattle.game.specs.Laws.{DueLaw}
use Rattle.game.specs.declared.exception.Exception.{Exception}
use Rattle.game.specs.declared.row.Row.{Row}
use Rattle.game.proofs.Lasting.{some_at, none_at}

some_of : (xs : List Exception) (n : ℕ) → n < length xs → Exception
some_of [] n l = absurd (omega arith)
some_of (x ∷ xs) n l = x

module _ (g : Arena) (rs : List Row) where
  -- where no row is due, a pair of an uncovered state has a good answer
  pub no_row_answered : (RowDue g rs → ⊥) → Answered g rs
  no_row_answered nothing s e ls le c =
      elim (cases_Bool (some g.answers (λ a. good g rs s e a))) [
        | inl t ↦ some_at g.answers _ t
        | inr f ↦ absurd (nothing (s, e, ls, le, c, none_at g.answers _ f))
      ]

  module _ (xs : List Exception) (fine : GoodExceptions g rs xs) where
    -- a pair in some exception has a good answer
    pub excepted_answered : (s e : ℕ) → s < g.states → e < g.events → covered rs s ≡ false → excepted xs s e ≡ true
        → (a : ℕ) × (a < g.answers) × (good g rs s e a ≡ true)
    excepted_answered s e ls le c x =
        let w = first_of (λ y. exception_covers y s e) xs x in
        let d = some_of xs w.0 w.1.within in
        (fine w.0 d w.1.within).harmless s e ls le (w.1.passes d) c

    -- an exception that one answer serves is harmless
    pub served_harmless : (x : Exception) (answer : ℕ) → answer < g.answers → Serves g rs xs x answer
        → (s e : ℕ) → s < g.states → e < g.events → exception_covers x s e ≡ true → covered rs s ≡ false
        → (a : ℕ) × (a < g.answers) × (good g rs s e a ≡ true)
    served_harmless x answer la serves s e ls le k c =
        elim (cases_Bool (excepted xs s e)) [
          | inl t ↦ excepted_answered s e ls le c t
          | inr f ↦ (answer, la, serves s e ls le k c f)
        ]

  module _ (xs : List Exception) (fine : GoodExceptions g rs xs) (one : 0 < g.answers) where
    -- where every answer outside the exceptions is good, each pair of an uncovered state has one
    pub all_good_answered : AllGood g rs xs → Answered g rs
    all_good_answered all s e ls le c =
        elim (cases_Bool (excepted xs s e)) [
          | inl t ↦ excepted_answered xs fine s e ls le c t
          | inr f ↦ (0, one, all s e 0 ls le one c f)
        ]

    all_good_no_row : AllGood g rs xs → RowDue g rs → ⊥
    all_good_no_row all due =
        let w = all_good_answered all due.0 due.1 due.2 due.3 due.4 in
        both_ways _ (due.5 w.0 w.1) w.2

    all_good_no_exception : AllGood g rs xs → ExceptionDue g rs xs → ⊥
    all_good_no_exception all due =
        both_ways _ due.10 (all due.0 due.1 due.2 due.4 due.5 due.6 due.8 due.9)

    none_due_all_good : (RowDue g rs → ⊥) → (ExceptionDue g rs xs → ⊥) → AllGood g rs xs
    none_due_all_good no_row no_exception s e a ls le la c x =
        elim (cases_Bool (good g rs s e a)) [
          | inl t ↦ t
          | inr f ↦ (let w = no_row_answered no_row s e ls le c in absurd (no_exception (s, e, a, w.0, ls, le, la, w.1, c, x, f, w.2)))
        ]

    pub dues : DueLaw g rs xs
    dues =
        record {
          no_row = all_good_no_row;
          no_exception = all_good_no_exception;
          all_good = none_due_all_good;
          answered = no_row_answered;
        }

pub due_law : (g : Arena) (rs : List Row) (xs : List Exception) → 0 < g.answers → GoodExceptions g rs xs → DueLaw g rs xs
due_law g rs xs one fine = dues g rs xs fine one

pub served : (g : Arena) (rs : List Row) (earlier : List Exception) (x : Exception) (answer : ℕ) → GoodExceptions g rs earlier
    → answer < g.answers → Serves g rs earlier x answer
    → (s e : ℕ) → s < g.states → e < g.events → exception_covers x s e ≡ true → covered rs s ≡ false
    → (a : ℕ) × (a < g.answers) × (good g rs s e a ≡ true)
served g rs earlier x answer fine = served_harmless g rs earlier fine x answer
