-- `archive::writing::would_break` meets its contract. Each sum is of two numbers that were compared with the limit, so none wraps.
use Rattle.std.proofs.Common.{rules}
use Rattle.archive.proofs.Lengths.{all_left, left_broken, left_next, none_left}
use Rattle.archive.proofs.writing.would_break.Goals as goal

pub returns-then-size-eq0 : goal.returns-then-size-eq0
returns-then-size-eq0 c = left_broken _ c.loop-size.invariant c.loop-size-test.true _ c.then-size-eq0.either

pub loop-size-init : goal.loop-size-init
loop-size-init c = rw c.head_bytes-head.ensures (all_left _)

pub loop-size-preserved : goal.loop-size-preserved
loop-size-preserved c = left_next _ c.loop-size.invariant c.loop-size-test.true (search rules) (search rules) (search rules)

pub returns : goal.returns
returns c = rw c.head_bytes-head.ensures (none_left _ c.loop-size.invariant _ c.loop-size-test.false)
