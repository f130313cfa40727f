use Rattle.scheme.proofs.Tried.{check-told}
use Rattle.scheme.proofs.check.Goals as goal

pub returns-clause-answer : goal.returns-clause-answer
returns-clause-answer c = check-told _ _ _ _ c.check_tried.result c.check_tried.ensures.answer
