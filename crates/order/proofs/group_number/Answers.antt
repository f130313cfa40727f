use Rattle.std.proofs.Common.{sym, ◌∙◌, arith}
use Rattle.order.proofs.ReadingOrder.{number_end, number_here, number-next}
use Rattle.order.proofs.group_number.Goals as goal

pub returns-then-d-from : goal.returns-then-d-from
returns-then-d-from c =
    let a = c.args in
    omega (arith, c.loop-i.invariant, number_here a.d a.counts.now c.loop-i.i c.loop-i-test.true (c.if-d-from.true ∙ c.from.ensures))

pub loop-i-preserved : goal.loop-i-preserved
loop-i-preserved c =
    let a = c.args in
    let next = number-next a.d a.counts.now c.loop-i.i c.loop-i-test.true (λ same. c.if-d-from.false (same ∙ sym c.from.ensures)) in
    omega (arith, next, c.loop-i.invariant)

pub returns : goal.returns
returns c =
    let a = c.args in
    omega (arith, c.loop-i.invariant, number_end a.d a.counts.now c.loop-i.i c.loop-i-test.false)
