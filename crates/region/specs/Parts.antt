-- What a region is made of: the arena of its model, and its rows.
use Rattle.std.specs.Prelude.{List}
use Rattle.game.specs.Game.{Arena}
use Rattle.game.specs.Models.{model_arena}
use Rattle.game.specs.declared.row.Row.{Row}
use Rattle.region.specs.declared.region.Region.{Region}

abbrev pub arena_in : Region → Arena
arena_in r = model_arena r.model

abbrev pub rows_in : Region → List Row
rows_in r = r.rows.now
