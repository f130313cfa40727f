-- The bytes before this turn's are 0.
use Rattle.std.proofs.Common.{◌≡◌, ◌++◌, replicate, drop}
use Rattle.columns.proofs.clear.Given as goal

abbrev pub invariant-loop-byte : goal.invariant-loop-byte
invariant-loop-byte l = l.out ≡ replicate l.byte-index 0 ++ drop l.byte-index l.fn.out
