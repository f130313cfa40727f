-- The laws for whoever cites them: what holds where a prefix is not refused, and how long it is, in both forms of message.
-- Assumes nothing.
pub use Rattle.party.proofs.Handing.{Handed, prefix-handed, prefix-within, prefix_whole, padded_quotient, padded_whole}
