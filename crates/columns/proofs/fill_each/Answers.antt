use Rattle.std.proofs.Common.{arith}
use Rattle.columns.proofs.Gathered.{taken-all}
use Rattle.columns.proofs.fill_each.Goals as goal

pub returns : goal.returns
returns c = taken-all c.loop-k.invariant (omega (arith, c.loop-k.invariant.long))
