use Rattle.std.proofs.Common.{◌≡◌, length, arith}
use Rattle.reader.proofs.EndSearch.{seen_none, seen_more, seen_all}
use Rattle.reader.proofs.ending.last_nonzero.Goals as goal

pub loop-i-init : goal.loop-i-init
loop-i-init c = seen_none _

pub loop-i-preserved : goal.loop-i-preserved
loop-i-preserved c =
    let l = c.loop-i in
    seen_more _ l.i l.byte l.after c.from.result c.nonzero-some.result _ _ l.invariant c.loop-i-test.true c.from.ensures c.nonzero-some.ensures
    c.chosen-byte.ensures c.chosen-after.ensures

pub returns : goal.returns
returns c =
    let l = c.loop-i in
    let all : l.i ≡ length c.args.bytes.now = omega (arith, l.invariant.within) in
    seen_all _ l.byte l.after (rw all at l.invariant)
