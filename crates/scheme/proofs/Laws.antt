-- The laws of the scheme's check for whoever cites them.
-- Assumes nothing.
pub use Rattle.scheme.proofs.BlockLength.{block_least, least_unique}
pub use Rattle.scheme.proofs.Refusals.{sizes}
pub use Rattle.scheme.proofs.SchemeFacts.{accepted, accepted-scheme, scheme_fields, scheme_own, block_count_least}
pub use Rattle.scheme.proofs.Numbers.{number_same, number_between}
pub use Rattle.scheme.proofs.Examples.{default_accepted}
pub use Rattle.scheme.proofs.Answers.{Way, scheme-told, done, stop, pass, stop_true, pass_false, stop_over, pass_within, stop_other, pass_same, stop_scheme, answers, numbered, answer_none, answer-number, answered_none, answered_some, kept, refuses, told-refused, told-accepted, first_none, first-passed, first_if}
pub use Rattle.scheme.proofs.Parties.{readers_rise, readers_pass, parties_distinct, parties_few}
pub use Rattle.scheme.proofs.Grounds.{Reflects, Tested, end, line, line_then, refuted, above, other, either, both, no_count_lem, not-rising, after-scheme, after-accepted, none_first, first-once, first_other, first-before, first-after, accepted_none, refused-first, none_applies, first_applies, answered_by, check_answers, default_check_answers, refused-four}
pub use Rattle.scheme.proofs.Tried.{tried_answers, default_tried_answers}
pub use Rattle.scheme.proofs.Blocks.{padded_count_positive, padded_count_is, padded_count_full, padded_count_least, padded-count_of, padded_count_most, padded_count_few, most_full, held-told, held_quotient, held_of, none_gives}
pub use Rattle.scheme.proofs.BlocksTold.{blocks_told, blocks_refused}
