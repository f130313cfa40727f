use Rattle.std.proofs.Common.{sym, ◌∙◌}
use Rattle.interpolation.proofs.Rows.{zeros, zero-rows, not-distinct, rows_none, rows_more, rows_all}
use Rattle.interpolation.proofs.points.Points.basis.Goals as goal

pub returns-then-not-distinct : goal.returns-then-not-distinct
unfolding zeros zero-rows
returns-then-not-distinct c = not-distinct _ (sym c.distinct.ensures ∙ c.if-not-distinct.true)

pub loop-i-init : goal.loop-i-init
unfolding zeros zero-rows
loop-i-init c = rows_none _

pub loop-i-preserved : goal.loop-i-preserved
loop-i-preserved c = rows_more _ _ _ _ c.loop-i-test.true c.args.self.now.few c.row.ensures c.loop-i.invariant

pub returns : goal.returns
returns c = rows_all _ _ _ c.loop-i-test.false c.loop-i.invariant
