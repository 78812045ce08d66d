use Rattle.std.proofs.Common.{◌≡◌, take}
use Rattle.region.specs.Parts.{arena_in, rows_in}
use Rattle.session.specs.Laws.{Law}
use Rattle.session.specs.Sessions.{waiting}
use Rattle.host.specs.Answers.{stage_of}
use Rattle.host.specs.Served.{Served, calls_of}
use Rattle.host.proofs.Tellings.{Reached}
use Rattle.host.proofs.serving.follow.Given as goal

-- the exchanges so far were served, and led the session to where it is
abbrev pub invariant-loop-exchange : goal.invariant-loop-exchange
invariant-loop-exchange l =
    (law : Law (arena_in l.region) (rows_in l.region))
    × Reached (arena_in l.region) (rows_in l.region) law.promise (stage_of l.session)
    × Served (arena_in l.region) (waiting 0) (take l.exchange-index l.exchanges) (stage_of l.session)
    × (calls_of l.exchanges ≡ calls_of l.initial.exchanges)
