-- What holds of whole shares that agree or not, for whoever cites it.
-- Assumes nothing.
pub use Rattle.agreement.proofs.Agreement.{agreement, enough-agree, same_share, all-sent, found-bytes, found_keys-bytes, found_gives, rebuilt_long}
pub use Rattle.agreement.proofs.Named.{names_one, names_none}
pub use Rattle.agreement.proofs.Skipped.{lent-left, to_all, first-given, agrees-all, agrees-not}
