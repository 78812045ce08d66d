-- What a run may answer, from its rows and exceptions.
use Rattle.std.proofs.Common.{◌≡◌, ℕ, ◌-◌, ◌<◌, ◌≤◌, true, false, List, [], ◌∷◌, ◌++◌, length, get_or, take, ap, ◌∙◌, inl, inr, arith}
use Rattle.std.proofs.lemmas.List.{length_push, get_or_push, get_or_append_left, take-append-le, take_at}
use Rattle.std.proofs.lemmas.Bool.{or_left, or_right, cases_lt}
use Rattle.game.specs.Game.{Arena, InRange}
use Rattle.game.specs.Rows.{row_covers, covered, JustifiedRows, AllGood, GoodRow, GoodRows, GoodException, GoodExceptions}
use Rattle.game.specs.Runs.{Kept, GivenUp}
use Rattle.game.specs.declared.exception.Exception.{Exception}
use Rattle.game.specs.declared.row.Row.{Row}
use Rattle.game.proofs.Covered.{covered-++}
use Rattle.game.proofs.Dues.{due_law, all_good_answered}
use Rattle.game.proofs.Exactness.{exact, covered_lost, uncovered_safe}
use Rattle.game.proofs.Play.{forced}

-- what holds of every place of a list, by the elements before it, holds after one element more that it holds of
pub places_push : {X : Type 0} (P : List X → X → Type 0) (xs : List X) (x : X)
    → ((i : ℕ) (d : X) → i < length xs → P (take i xs) (get_or xs i d)) → P xs x
    → (i : ℕ) (d : X) → i < length (xs ++ (x ∷ [])) → P (take i (xs ++ (x ∷ []))) (get_or (xs ++ (x ∷ [])) i d)
places_push P xs x each one i d l =
    elim (cases_lt i (length xs)) [
      | inl in' ↦ inside in'
      | inr past ↦ (let q : length xs ≡ i = omega (arith, length_push xs x) in
          rw (take_at xs (x ∷ []) i q) (rw (get_or_push xs x d i q) one))
    ]
  where
    inside : i < length xs → P (take i (xs ++ (x ∷ []))) (get_or (xs ++ (x ∷ [])) i d)
    inside in' = rw (take-append-le i xs (x ∷ []) (omega arith)) (rw (get_or_append_left xs (x ∷ []) d i in') (each i d in'))

pub rows_none : (g : Arena) → GoodRows g []
rows_none g i d l = absurd (omega arith)

pub rows_push : (g : Arena) (rs : List Row) (r : Row) → GoodRows g rs → GoodRow g rs r → GoodRows g (rs ++ (r ∷ []))
rows_push g rs r each one = places_push (GoodRow g) rs r each one

pub exceptions_none : (g : Arena) (rs : List Row) → GoodExceptions g rs []
exceptions_none g rs i d l = absurd (omega arith)

pub exceptions_push : (g : Arena) (rs : List Row) (xs : List Exception) (x : Exception) → GoodExceptions g rs xs → GoodException g rs xs x
    → GoodExceptions g rs (xs ++ (x ∷ []))
exceptions_push g rs xs x each one = places_push (GoodException g rs) xs x each one

pub rows_justified : (g : Arena) (rs : List Row) → GoodRows g rs → JustifiedRows g rs
rows_justified g rs each i d l = ((each i d l).event_in_range, (each i d l).justified)

pub kept_run : (g : Arena) → InRange g → 0 < g.states → 0 < g.answers
    → (rs : List Row) (xs : List Exception) (row_places exception_places : ℕ) → GoodRows g rs → length rs ≤ row_places
    → GoodExceptions g rs xs → length xs ≤ exception_places → AllGood g rs xs → covered rs 0 ≡ false
    → Kept g row_places exception_places rs
kept_run g in_range ls la rs xs row_places exception_places rows within fine few all reset =
    let answered = all_good_answered g rs xs fine la all in
    let due = due_law g rs xs la fine in
    record {
      rows = rows;
      within = within;
      exact = exact g in_range rs (rows_justified g rs rows) answered reset;
      verdict = uncovered_safe g in_range rs answered 0 ls reset;
      exceptions = xs;
      good = fine;
      few = few;
      no_row_due = due.no_row all;
      no_exception_due = due.no_exception all;
    }

pub lost_run : (g : Arena) → InRange g → 0 < g.states → (earlier : List Row) (r : Row) (row_places : ℕ)
    → GoodRows g (earlier ++ (r ∷ [])) → length (earlier ++ (r ∷ [])) ≤ row_places → row_covers r 0 ≡ true → covered earlier 0 ≡ false
    → GivenUp g row_places (earlier ++ (r ∷ []))
lost_run g in_range ls earlier r row_places rows within c open' =
    let c-all : covered (earlier ++ (r ∷ [])) 0 ≡ true =
    covered-++ earlier (r ∷ []) 0 ∙ or_right (covered earlier 0) _ (or_left (row_covers r 0) false c) in
    let q : length earlier ≡ length (earlier ++ (r ∷ [])) - 1 = omega (arith, length_push earlier r) in
    let justified = rows_justified g (earlier ++ (r ∷ [])) rows in
    record {
      rows = rows;
      within = within;
      verdict = covered_lost g in_range (earlier ++ (r ∷ [])) justified 0 ls c-all;
      last = λ d. ap (λ x. row_covers x 0) (get_or_push earlier r d (length (earlier ++ (r ∷ [])) - 1) q) ∙ c;
      before = ap (λ xs. covered xs 0) (take_at earlier (r ∷ []) (length (earlier ++ (r ∷ [])) - 1) q) ∙ open';
      forced = forced g in_range (earlier ++ (r ∷ [])) justified 0 ls c-all;
    }
