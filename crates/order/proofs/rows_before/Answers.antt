use Rattle.std.proofs.Common.{ap, ◌∙◌, arith}
use Rattle.scheme.specs.Check.{rows_of_count}
use Rattle.order.proofs.ReadingOrder.{before_none, before_some}
use Rattle.order.proofs.rows_before.Goals as goal

pub returns-then-g-eq0 : goal.returns-then-g-eq0
returns-then-g-eq0 c = before_none _ _ _ _ c.if-g-eq0.true

pub returns : goal.returns
returns c =
    let a = c.args in
    c.rows_of_count.ensures
    ∙ ap (rows_of_count a.block a.z) c.count_at.ensures
    ∙ before_some a.block a.z a.counts.now a.g (omega arith)
