use Rattle.reader.proofs.EndSearch.{LastSeen}
use Rattle.reader.proofs.ending.last_nonzero.Given as goal

-- the last of the first i bytes that is not 0 is known
abbrev pub invariant-loop-i : goal.invariant-loop-i
invariant-loop-i l = LastSeen l.bytes l.i l.byte l.after
