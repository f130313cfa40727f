-- The laws for whoever cites them: where the splitter refuses nothing, what it then writes, how long its output is, in both forms of message, that
-- the blocks are few, and that the numbers of key bytes fit and are those of the scheme.
-- Assumes nothing.
pub use Rattle.dealer.proofs.Dealing.{none_applies, padded_none_applies, written, padded-written, output_long, padded_output_long, blocks-few, keys-part, keys_whole, keys_are}
