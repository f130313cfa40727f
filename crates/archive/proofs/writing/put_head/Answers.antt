-- `archive::writing::put_head` meets its contract: there is room for each pair, and its numbers fit.
use Rattle.std.proofs.Common.{arith}
use Rattle.archive.proofs.Head.{fits_here, head_begun, head_next, head_done}
use Rattle.archive.proofs.writing.put_head.Goals as goal

pub loop-i-init : goal.loop-i-init
loop-i-init c = rw c.head_bytes-offset.ensures (head_begun _ _ c.put_number.ensures c.requires.1)

pub put_number-requires-in-loop-i : goal.put_number-requires-in-loop-i
put_number-requires-in-loop-i c =
    let fit = fits_here _ _ _ c.loop-i-test.true c.loop-i.invariant.fit in
    (omega (arith, c.loop-i.auto.out, c.put_number.auto.out, c.requires.2, c.head_bytes-at.ensures), fit.1)

pub put_number-requires-in-loop-i-2 : goal.put_number-requires-in-loop-i-2
put_number-requires-in-loop-i-2 c =
    let fit = fits_here _ _ _ c.loop-i-test.true c.loop-i.invariant.fit in
    (omega (arith, c.put_number-in-loop-i.auto.out, c.loop-i.auto.out, c.put_number.auto.out, c.requires.2, c.head_bytes-at.ensures), omega (arith, fit.0, fit.1))

pub overflow_add-offset : goal.overflow_add-offset
overflow_add-offset c =
    let fit = fits_here _ _ _ c.loop-i-test.true c.loop-i.invariant.fit in
    omega (arith, fit.0, fit.1)

pub loop-i-preserved : goal.loop-i-preserved
loop-i-preserved c =
    head_next _ _ _ _ _ _ _ c.loop-i.invariant c.loop-i-test.true c.head_bytes-at.ensures c.put_number-in-loop-i.ensures c.put_number-in-loop-i-2.ensures

pub returns : goal.returns
returns c = head_done _ _ _ _ c.loop-i.invariant c.loop-i-test.false
