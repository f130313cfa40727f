use Rattle.std.proofs.Common.{refl, ◌∙◌}
use Rattle.lists.proofs.Fill.{fill_none, fill_more, fill-all}
use Rattle.gf256.specs.Lanes.{scaled}
use Rattle.gf256.proofs.Laws.{⊗_comm}
use Rattle.gf256.proofs.lanes.double_each.Goals as goal

pub loop-i-init : goal.loop-i-init
loop-i-init c = fill_none _ _ _ refl

pub loop-i-preserved : goal.loop-i-preserved
loop-i-preserved c = fill_more c.loop-i.invariant c.loop-i-test.true (c.double.ensures ∙ ⊗_comm _ 2)

pub returns : goal.returns
unfolding scaled
returns c = fill-all c.loop-i.invariant c.loop-i-test.false
