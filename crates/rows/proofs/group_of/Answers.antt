use Rattle.std.proofs.Common.{sym, ◌∙◌, arith}
use Rattle.rows.proofs.Groups.{group_end, group_here, group_next}
use Rattle.rows.proofs.group_of.Goals as goal

pub returns-then-sends : goal.returns-then-sends
returns-then-sends c =
    let a = c.args in
    omega (arith, c.loop-i.invariant, group_here a.block a.z a.counts.now a.row c.loop-i.i c.loop-i-test.true (sym c.sends.ensures ∙ c.if-sends.true))

pub loop-i-preserved : goal.loop-i-preserved
loop-i-preserved c =
    let a = c.args in
    sym (group_next a.block a.z a.counts.now a.row c.loop-i.i c.loop-i-test.true (sym c.sends.ensures ∙ c.if-sends.false)) ∙ c.loop-i.invariant

pub returns : goal.returns
returns c =
    let a = c.args in
    omega (arith, c.loop-i.invariant, group_end a.block a.z a.counts.now a.row c.loop-i.i c.loop-i-test.false)
