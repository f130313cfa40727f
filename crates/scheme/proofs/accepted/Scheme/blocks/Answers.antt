use Rattle.std.proofs.Common.{refl}
use borrow.Author.Tests.{lt-ltb, le-ltb}
use Rattle.scheme.specs.Forms.{blocks_answer}
use Rattle.scheme.specs.Padding.{padded_count}
use Rattle.scheme.proofs.SchemeFacts.{accepted}
use Rattle.scheme.proofs.accepted.Scheme.blocks.Goals as goal

pub returns-then-message_length-gt-MAX_MESSAGE : goal.returns-then-message_length-gt-MAX_MESSAGE
unfolding blocks_answer
returns-then-message_length-gt-MAX_MESSAGE c = rw (lt-ltb _ _ c.if-message_length-gt-MAX_MESSAGE.true) refl

-- the block length is the least of some positive numbers
pub nonzero_div-result : goal.nonzero_div-result
nonzero_div-result c = rw c.args.self.accepted.block_is (accepted _ _ _ _ c.args.self.accepted.passed).least.positive

pub returns-in-Earlier : goal.returns-in-Earlier
unfolding blocks_answer
returns-in-Earlier c = rw (le-ltb _ _ c.if-message_length-gt-MAX_MESSAGE.false, c.in-Earlier.is, c.block_count.ensures) refl

pub returns-in-Padded : goal.returns-in-Padded
unfolding blocks_answer padded_count
returns-in-Padded c = rw (le-ltb _ _ c.if-message_length-gt-MAX_MESSAGE.false, c.in-Padded.is) refl
