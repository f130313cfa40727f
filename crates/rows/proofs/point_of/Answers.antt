use Rattle.std.proofs.Common.{refl}
use Rattle.staircase.specs.Parameters.{point}
use Rattle.rows.proofs.point_of.Goals as goal

pub returns : goal.returns
unfolding point
returns c = λ p. refl
