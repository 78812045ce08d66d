-- A region's invariant says that its rows are exact, and its arena can be played.
use Rattle.std.proofs.Common.{◌≡◌, false, List}
use Rattle.std.proofs.lemmas.Bool.{and_from, and_parts, lt-ltb, ltb-true, not_from_false, not-true}
use Rattle.game.specs.Game.{Arena}
use Rattle.game.specs.Models.{Playable}
use Rattle.game.specs.Rows.{covered}
use Rattle.game.specs.Runs.{Exact}
use Rattle.game.specs.declared.row.Row.{Row}
use Rattle.game.proofs.Models.{playable}
use Rattle.region.specs.Exact.{SafeOutside, LostInside}
use Rattle.region.specs.Parts.{arena_in, rows_in}
use Rattle.region.specs.declared.region.Region.{Region}

-- exact rows by the two directions that a region keeps
module _ (g : Arena) (rs : List Row) where
  pub safe_outside : Exact g rs → SafeOutside g rs
  safe_outside ex s h o =
      let w = and_parts _ _ o in ex.safe s (ltb-true s g.states w.0) (not-true (covered rs s) w.1) h

  pub lost_inside : Exact g rs → LostInside g rs
  lost_inside ex s i = let w = and_parts _ _ i in ex.lost s (ltb-true s g.states w.0) w.1

  pub exact_from : SafeOutside g rs → LostInside g rs → covered rs 0 ≡ false → Exact g rs
  exact_from safe lost reset =
      record {
        safe = λ s l c h. safe s h (and_from _ _ (lt-ltb s g.states l) (not_from_false _ c));
        lost = λ s l c. lost s (and_from _ _ (lt-ltb s g.states l) c);
        reset = reset;
      }

pub region_exact : (r : Region) → Exact (arena_in r) (rows_in r)
region_exact r = exact_from (arena_in r) (rows_in r) r.safe r.lost r.reset

pub region_playable : (r : Region) → Playable (arena_in r)
region_playable r = playable r.model.«record».now r.model.gates.now
