-- The first k bytes are there.
use Rattle.std.proofs.Common.{length}
use Rattle.columns.proofs.Gathered.{Taken}
use Rattle.columns.proofs.fill_each.Given as goal

abbrev pub invariant-loop-k : goal.invariant-loop-k
invariant-loop-k l = Taken l.s l.at l.step (length l.fn.out) l.k l.out
