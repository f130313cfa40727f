use Rattle.std.proofs.Common.{refl}
use Rattle.lists.proofs.Fill.{fill_none, fill_more, fill-all}
use Rattle.gf256.specs.Byte.{◌⊕◌}
use Rattle.gf256.specs.Lanes.{sums}
use Rattle.gf256.proofs.lanes.sum_each.Goals as goal

pub loop-i-init : goal.loop-i-init
loop-i-init c = fill_none _ _ _ refl

pub loop-i-preserved : goal.loop-i-preserved
unfolding ◌⊕◌
loop-i-preserved c = fill_more c.loop-i.invariant c.loop-i-test.true refl

pub returns : goal.returns
unfolding sums
returns c = fill-all c.loop-i.invariant c.loop-i-test.false
