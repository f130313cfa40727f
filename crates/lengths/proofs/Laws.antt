-- The laws for whoever cites them: what holds where lengths are answered.
-- Assumes nothing.
pub use Rattle.lengths.proofs.Told.{none_refused}
