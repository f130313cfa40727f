-- The laws of columns for whoever cites them.
-- Assumes nothing.
pub use Rattle.columns.proofs.Batches.{strided-at, batch_fits}
pub use Rattle.columns.proofs.FlatColumns.{length-values, flat-length, flat_more, flat_are}
