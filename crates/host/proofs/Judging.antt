-- What a run's answer gives to whoever serves.
use Rattle.std.proofs.Common.{◌≡◌, ℕ, List, Some, None, Ok, Option, subst}
use Rattle.game.specs.Models.{model_arena}
use Rattle.game.specs.Runs as runs
use Rattle.game.specs.declared.row.Row.{Row}
use Rattle.circuit.specs.declared.model.Model.{Model}
use Rattle.region.specs.declared.region.Region.{Region}
use Rattle.region.specs.Parts.{arena_in, rows_in}
use Rattle.session.specs.Laws.{Law}
use Rattle.session.specs.Sessions.{Stage, waiting}
use Rattle.roll.specs.Rolls.{items_of}
use Rattle.synthesis.specs.declared.fault.RunFault.{RunFault}
use Rattle.synthesis.specs.declared.verdict.Verdict.{Verdict}
use Rattle.synthesis.specs.Runs.{Lent, arena, places_of, exception_places_of, sizes_in, record_of, GivenBy, Judged, RunGives}
use Rattle.synthesis.specs.Sizes.{size_fault}
use Rattle.host.specs.Served.{Served}
use Rattle.host.specs.Whole.{Attended}
use Rattle.host.specs.declared.exchange.Exchange.{Exchange}

-- an answer that is no refusal is judged, whatever the sizes said
pub judged_by : (o : Option RunFault) (before after : Lent) (v : Verdict) (n : ℕ) → GivenBy o before after (Ok (v, n))
    → Judged (arena before) (places_of before) (exception_places_of before) (items_of after.rows) v
judged_by None before after v n r = r.ended.0
judged_by (Some f) before after v n r = let e = r.0 in cc

-- an answer that is no refusal is judged
pub judged : (before after : Lent) (v : Verdict) (n : ℕ) → RunGives before after (Ok (v, n))
    → Judged (arena before) (places_of before) (exception_places_of before) (items_of after.rows) v
judged before after = judged_by (size_fault (record_of before) (sizes_in before)) before after

-- what is served on a region is served on its model and rows
pub attended : (R E : ℕ) (region : Region) (m : Model) (rows : List Row) (xs : List Exchange) → region.model ≡ m → rows_in region ≡ rows
    → runs.Kept (model_arena m) R E rows → (end : Stage) × Served (arena_in region) (waiting 0) xs end
    → Law (arena_in region) (rows_in region) → Attended (model_arena m) rows xs
attended R E region m rows xs p q kept s law =
    let S : Model → Type 0 = λ k. Served (model_arena k) (waiting 0) xs s.0 in
    let L : Model → Type 0 = λ k. Law (model_arena k) (rows_in region) in
    let K : List Row → Type 0 = λ k. Law (model_arena m) k in
    record {
      safe = kept.verdict;
      exact = kept.exact;
      end = s.0;
      served = subst S p s.1;
      law = subst K q (subst L p law);
    }
