-- The rows that are taken are those that the range needs.
use Rattle.std.proofs.Common.{◌∙◌}
use Rattle.reader.proofs.RangeAnswers.{needed-answer}
use Rattle.reader.proofs.range.reconstruct_range.Goals as goal

pub returns : goal.returns
returns c = (c.open_range.ensures.0 ∙ needed-answer _ _ _ _ _ _ _, c.open_range.ensures.1)
