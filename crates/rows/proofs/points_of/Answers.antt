use Rattle.std.proofs.Common.{arith}
use Rattle.rows.specs.Points.{points_of}
use Rattle.rows.proofs.Points.{points_none, points_more, points-all}
use Rattle.rows.proofs.points_of.Goals as goal

pub loop-i-init : goal.loop-i-init
loop-i-init c = λ p. points_none _ _ _

pub loop-i-preserved : goal.loop-i-preserved
loop-i-preserved c = λ p. points_more _ _ _ (c.loop-i.invariant p) (omega arith) (c.point_of.ensures p)

pub returns : goal.returns
unfolding points_of
returns c = λ p. points-all _ _ _ (c.loop-i.invariant p) (omega arith)
