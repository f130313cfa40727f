-- The bytes of the turns before are there.
use Rattle.std.proofs.Common.{◌*◌, length}
use Rattle.columns.proofs.Gathered.{Taken}
use Rattle.columns.proofs.strided_into.Given as goal

abbrev pub invariant-loop-turn : goal.invariant-loop-turn
invariant-loop-turn l = Taken l.s l.at l.step (length l.fn.out) (l.turn * 4) l.out
