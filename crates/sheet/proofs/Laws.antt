-- The law for whoever prints a sheet: the bytes that are printed are its text.
-- Assumes nothing.
pub use Rattle.sheet.proofs.Written.{printed}
