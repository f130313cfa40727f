use Rattle.std.proofs.Common.{◌+◌, arith, refl, ap₂, sym, ◌∙◌}
use native.Mathlib.Numerals.{add-one}
use Rattle.lists.proofs.Each.{replicate-at}
use Rattle.lists.proofs.Known.{known_more, known-all}
use Rattle.gf256.specs.Byte.{◌⊕◌}
use Rattle.gf256.proofs.Laws.{⊗_comm}
use Rattle.interpolation.specs.Interpolation.{side}
use Rattle.interpolation.proofs.Table.{linear-at, linear_beyond}
use Rattle.interpolation.proofs.points.times_linear.Goals as goal

pub loop-e-init : goal.loop-e-init
loop-e-init c = (record { long = refl; is = λ k l b. replicate-at (side + 1) k 0 ∙ sym (linear_beyond _ _ _ c.requires.1 k (b (omega arith))) }, refl)

pub loop-e-preserved : goal.loop-e-preserved
unfolding ◌⊕◌
loop-e-preserved c = (
  known_more c.loop-e.invariant.0 (omega arith)
      (ap₂ ◌⊕◌ c.loop-e.invariant.1 (c.mul_by_shifting.ensures ∙ ⊗_comm _ _) ∙ sym (linear-at c.args.point c.args.poly c.loop-e.e))
      (λ k b n j. b (omega arith)),
  rw add-one,
)

pub returns : goal.returns
returns c = known-all c.loop-e.invariant.0 (λ k l j. omega arith)
