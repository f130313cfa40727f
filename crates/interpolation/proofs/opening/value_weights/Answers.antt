use Rattle.std.proofs.Common.{refl, ap, ◌∙◌}
use native.Mathlib.Numerals.{add-one}
use Rattle.lists.proofs.Fill.{fill_none, fill_more}
use Rattle.gf256.specs.Byte as byte
use Rattle.gf256.specs.Byte.{◌⊕◌}
use Rattle.gf256.proofs.Laws.{⊗_comm}
use Rattle.interpolation.proofs.OpeningRows.{value_party, value_known}
use Rattle.interpolation.proofs.opening.value_weights.Goals as goal
use Rattle.interpolation.proofs.opening.value_weights.Goals.{then-d-i, else-d-i}

pub loop-i-init : goal.loop-i-init
unfolding byte.power
loop-i-init c = (fill_none _ _ _ refl, refl)

pub loop-i-preserved : goal.loop-i-preserved
unfolding ◌⊕◌ byte.power
loop-i-preserved c =
    let a = c.args in (
      fill_more c.loop-i.invariant.0 c.loop-i-test.true
          (elim c.if-d-i.branch [ then-d-i w ↦ w.value-is ∙ value_known a.weights.now a.d a.x c.loop-i.i _ c.value_below-value.ensures _ w.if-d-i.true c.loop-i.invariant.1 | else-d-i w ↦ w.value-is ∙ value_party a.weights.now a.d a.x c.loop-i.i _ c.value_below-value.ensures w.if-d-i.false ]),
      c.mul_by_shifting-power.ensures ∙ ⊗_comm _ _ ∙ ap (byte.◌⊗◌ a.x) c.loop-i.invariant.1 ∙ rw add-one,
    )
