use Rattle.std.proofs.Common.{◌≡◌, ◌-◌, arith, ◌∙◌}
use Rattle.lists.proofs.Arrays.{array_length}
use Rattle.gf256.specs.Byte.{◌⊕◌}
use Rattle.interpolation.specs.Interpolation.{side}
use Rattle.interpolation.proofs.OpeningRows.{value_none, value_more, value_cut}
use Rattle.interpolation.proofs.opening.value_below.Goals as goal

pub loop-e-init : goal.loop-e-init
loop-e-init c = value_none _ _ _ c.args.coefficients c.min-e.ensures

pub loop-e-preserved : goal.loop-e-preserved
unfolding ◌⊕◌
loop-e-preserved c =
    value_more c.args.x _ (c.loop-e.e - 1) c.loop-e.e c.args.coefficients _ _ (omega arith) (omega (arith, c.min-e.ensures, c.loop-e.auto.e)) c.loop-e.invariant c.mul_by_shifting.ensures

pub returns : goal.returns
returns c =
    let a = c.args in
    let none : c.loop-e.e ≡ 0 = omega arith in
    rw none at c.loop-e.invariant ∙ value_cut a.x a.d a.coefficients (array_length side a.coefficients _ c.well_formed.0)
