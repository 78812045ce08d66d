-- Lemmas on rows and steps, passed on to crates that see regions alone.
pub use Rattle.game.proofs.Answers.{exact_answered}
pub use Rattle.game.proofs.Covered.{good_parts, not_good}
pub use Rattle.game.proofs.Exactness.{same_good}
