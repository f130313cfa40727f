use Rattle.std.proofs.Common.{rules, refl}
use Rattle.gf256.specs.Byte.{◌⊕◌}
use Rattle.gf256.proofs.Laws.{⊗-byte}
use Rattle.gf256.proofs.Shifting.{odd, even, turn, done}
use Rattle.gf256.proofs.mul_by_shifting.Goals as goal
use Rattle.gf256.proofs.mul_by_shifting.Goals.{then-left-eq1, else-left-eq1}

pub loop-left-init : goal.loop-left-init
unfolding ◌⊕◌
loop-left-init c = (refl, search rules)

pub loop-left-preserved : goal.loop-left-preserved
unfolding ◌⊕◌
loop-left-preserved c =
    let l = c.loop-left in (
      turn l.sum l.x l.left l.invariant.1 c.double-x.ensures
          (elim c.if-left-eq1.branch [ then-left-eq1 w ↦ odd l.sum l.x l.left w.if-left-eq1.true w.sum-is | else-left-eq1 w ↦ even l.sum l.x l.left w.if-left-eq1.false w.sum-is ])
          l.invariant.0,
      rw c.double-x.ensures (⊗-byte l.x 2),
    )

pub returns : goal.returns
returns c = done _ _ _ c.loop-left-test.false c.loop-left.invariant.0
