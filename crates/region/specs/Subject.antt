-- The words that a session's promises are made of, passed on to crates that see regions alone.
pub use Rattle.game.specs.Game.{Arena, Safe, Lost}
pub use Rattle.game.specs.Models.{Playable}
pub use Rattle.game.specs.Rows.{covered, good}
pub use Rattle.game.specs.Runs.{Exact}
pub use Rattle.game.specs.declared.row.Row.{Row}
