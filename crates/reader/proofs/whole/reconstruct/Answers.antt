-- The whole message is a range to which refusal 15 does not apply.
use Rattle.std.proofs.Common.{◌∙◌}
use Rattle.reader.proofs.RangeAnswers.{whole_answer, whole_output}
use Rattle.reader.proofs.whole.reconstruct.Goals as goal

pub returns : goal.returns
returns c = (c.open_range.ensures.0 ∙ whole_answer _ _ _ _ _, c.open_range.ensures.1 ∙ whole_output _ _ _ _ _)
