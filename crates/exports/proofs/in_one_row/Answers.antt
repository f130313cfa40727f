-- `in_one_row`, by the invariant that is beside this file.
-- Assumes nothing.
use mathlib.Core.Path.{refl}
use Prim.Native.Nat.{◌*◌}
use Rattle.lists.proofs.Fill.{fill_none, fill_more, fill-all}
use Rattle.interpolation.specs.Interpolation.{side}
use Rattle.exports.specs.Fields.{flattened}
use Rattle.exports.proofs.in_one_row.Goals as goal

pub loop-k-init : goal.loop-k-init
loop-k-init c = fill_none _ (side * side) _ refl

pub loop-k-preserved : goal.loop-k-preserved
loop-k-preserved c = fill_more c.loop-k.invariant c.loop-k-test.true refl

pub returns : goal.returns
unfolding flattened
returns c = fill-all c.loop-k.invariant c.loop-k-test.false
