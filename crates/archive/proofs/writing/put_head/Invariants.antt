-- The pairs that are written and those that are left make the whole head.
use Rattle.archive.proofs.Head.{HeadTo}
use Rattle.archive.proofs.writing.put_head.Given as goal

abbrev pub invariant-loop-i : goal.invariant-loop-i
invariant-loop-i l = HeadTo l.lengths l.offset l.i l.out
