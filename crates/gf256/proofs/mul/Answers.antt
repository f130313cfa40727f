use Rattle.std.proofs.Common.{arith, ap₂, ◌∙◌}
use Rattle.gf256.specs.Byte.{◌⊗◌}
use Rattle.gf256.proofs.Ring.{⊗-zero, zero-⊗}
use Rattle.gf256.proofs.Powers.{power-add}
use Rattle.gf256.proofs.mul.Goals as goal

pub returns-then-a-eq0 : goal.returns-then-a-eq0
returns-then-a-eq0 c = grind (arith, c.then-a-eq0.either, zero-⊗ c.args.b, ⊗-zero c.args.a)

pub returns : goal.returns
returns c =
    c.power_of_three.ensures ∙ power-add 3 c.logarithm.result c.logarithm-2.result
    ∙ ap₂ ◌⊗◌ (c.logarithm.ensures.1 (omega arith)) (c.logarithm-2.ensures.1 (omega arith))
